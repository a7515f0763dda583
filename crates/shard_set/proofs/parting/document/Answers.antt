use Rattle.std.proofs.Common.{sym, subst, ◌∙◌}
use Rattle.funnel_model.specs.Words.{AreWordsOf}
use Rattle.shard_set.proofs.parting.document.Goals as goal

pub new-requires : goal.new-requires
new-requires c = subst (AreWordsOf c.in-Ok.words) (sym (c.new-text.ensures ∙ c.in_ok-from_str.ensures.ok)) c.in-Ok.ensures
