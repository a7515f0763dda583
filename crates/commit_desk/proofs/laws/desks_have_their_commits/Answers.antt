use Rattle.std.proofs.Common.{sym, ◌∙◌}
use Rattle.commit_desk.proofs.laws.desks_have_their_commits.Goals as goal

pub returns : goal.returns
returns c config limits most history other books one two = (
  sym one.journal_is.place_is ∙ two.journal_is.place_is,
  sym one.journal_is.last ∙ two.journal_is.last,
  sym one.events_are ∙ two.events_are,
)
