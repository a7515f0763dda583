-- the first text that is no word stands among the entries that are left
use Rattle.std.proofs.Common.{◌≡◌}
use Rattle.serde_json.specs.View.{members_view}
use Rattle.funnel_stats.specs.Faults.{not_word}
use Rattle.funnel_stats.specs.Values.{entries}
use Rattle.funnel_stats.proofs.listing.check_words.Given as goal

abbrev pub invariant-loop-text : goal.invariant-loop-text
invariant-loop-text l = not_word (entries (members_view l.listed.entries)) ≡ not_word (entries (members_view l.text-iterator))
