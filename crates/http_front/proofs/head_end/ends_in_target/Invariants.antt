use Rattle.std.proofs.Common.{◌≢◌, ◌≤◌, ◌-◌, All, length, take}
use Rattle.http_front.proofs.head_end.ends_in_target.Given as goal

abbrev pub invariant-loop-at : goal.invariant-loop-at
invariant-loop-at l = (l.at ≤ length l.line) × All (λ byte. byte ≢ 32) (take l.at l.line)

abbrev pub decreases-loop-at : goal.decreases-loop-at
decreases-loop-at l = length l.line - l.at
