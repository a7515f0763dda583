-- One more class is counted.
use Rattle.std.proofs.Common.{◌<◌, ◌≢◌, ◌∙◌, length, arith, get_or-set_other, get_or-set_same, below_more}
use Rattle.std.proofs.lemmas.List.{length-set}
use Rattle.row_layout.proofs.class_table.counts_of.Goals as goal

pub loop-class-preserved : goal.loop-class-preserved
loop-class-preserved c = record {
  sixteen = length-set c.loop-class.counts c.loop-class.class _ ∙ c.loop-class.invariant.sixteen;
  counts =
      below_more _ _
      (λ k h. let ne : k ≢ c.loop-class.class = omega arith in get_or-set_other c.loop-class.counts c.loop-class.class k _ 0 ne ∙ c.loop-class.invariant.counts k h)
      (let lt : c.loop-class.class < length c.loop-class.counts = omega (arith, c.loop-class.invariant.sixteen) in
      get_or-set_same c.loop-class.counts c.loop-class.class _ 0 lt ∙ c.row_count.ensures.value);
}
