use Rattle.std.proofs.Common.{◌-◌, ◌≡◌, ◌≤◌, ◌^◌, ◌*◌}
use Rattle.treatment.proofs.classes.class.Given as goal

abbrev pub invariant-loop-class : goal.invariant-loop-class
invariant-loop-class l = record {
  in_range : l.class ≤ 15;
  doubled : l.doubled ≡ l.f * 2 ^ l.class;
  fits : l.doubled ≤ l.n;
}

abbrev pub decreases-loop-class : goal.decreases-loop-class
decreases-loop-class l = 15 - l.class
