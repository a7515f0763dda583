use Rattle.std.proofs.Common.{◌≡◌, ◌≤◌, ◌-◌, List, ◌++◌, length, drop}
use Rattle.httparse.specs.Grammar.{LineEnd, print_blank}
use Rattle.http_front.proofs.head_end.after_blank.Given as goal

abbrev pub invariant-loop-at : goal.invariant-loop-at
invariant-loop-at l = (l.at ≤ length l.bytes) × (ends : List LineEnd) × (l.bytes ≡ print_blank ends ++ drop l.at l.bytes)

abbrev pub decreases-loop-at : goal.decreases-loop-at
decreases-loop-at l = length l.bytes - l.at
