use Rattle.std.proofs.Common.{◌≡◌, ◌≤◌, drop, slice_range}
use Rattle.std.specs.List.{list_any}
use Rattle.http_front.specs.Heads.{has_close, is_close, options_from}
use Rattle.http_front.proofs.closing.has_close.Given as goal

abbrev pub invariant-loop-at : goal.invariant-loop-at
invariant-loop-at l = (l.start ≤ l.at) × (has_close l.value ≡ list_any is_close (options_from (slice_range l.value l.start l.at) (drop l.at l.value)))
