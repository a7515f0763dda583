use Rattle.std.proofs.Common.{◌+◌, ◌-◌, ◌≡◌, ◌<◌, ◌≤◌, ◌^◌}
use Rattle.treatment.proofs.classes.row_count.Given as goal

abbrev pub invariant-loop-power : goal.invariant-loop-power
invariant-loop-power l = record {
  positive : 1 ≤ l.count;
  small : l.count ≤ 26;
  power : l.power ≡ l.one_in ^ l.count;
  too_few : 1 < l.count → l.one_in ^ (l.count - 1) < l.wanted;
}

abbrev pub decreases-loop-power : goal.decreases-loop-power
decreases-loop-power l = l.wanted + 1 - l.power
