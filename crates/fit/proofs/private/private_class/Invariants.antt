use Rattle.std.proofs.Common.{◌≤◌, ℕ, map}
use Rattle.fit.specs.Privates.{count_up_to}
use Rattle.fit.specs.Steps.{ranked}
use Rattle.fit.proofs.private.private_class.Given as goal

-- with no greater class there are few words
abbrev pub invariant-loop-last : goal.invariant-loop-last
invariant-loop-last l = record {
  low : 2 ≤ l.last;
  high : l.last ≤ 6;
  none_above : (other : ℕ) → other ≤ 6 → count_up_to l.documents other (map ranked l.first) ≤ 512 → other ≤ l.last;
}

abbrev pub decreases-loop-last : goal.decreases-loop-last
decreases-loop-last l = l.last
