-- the first unknown name stands among the entries that are left
use Rattle.std.proofs.Common.{◌≡◌}
use Rattle.serde_json.specs.View.{members_view}
use Rattle.funnel_stats.specs.Faults.{unknown_key}
use Rattle.funnel_stats.specs.Values.{entries}
use Rattle.funnel_stats.proofs.object.check_keys.Given as goal

abbrev pub invariant-loop-name : goal.invariant-loop-name
invariant-loop-name l = unknown_key l.known (entries (members_view l.object.entries)) ≡ unknown_key l.known (entries (members_view l.name-iterator))
