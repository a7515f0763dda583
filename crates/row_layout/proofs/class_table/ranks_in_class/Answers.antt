-- One more row has its rank.
use Rattle.std.proofs.Common.{◌<◌, ◌≤◌, ◌≢◌, ◌∙◌, ℕ, length, sym, subst, arith, get_or-set_other, get_or-set_same, below_more}
use Rattle.std.proofs.lemmas.List.{length-set}
use Rattle.row_layout.proofs.class_table.ranks_in_class.Goals as goal

pub loop-j-preserved : goal.loop-j-preserved
loop-j-preserved c =
    let lt : c.loop-j.j < length c.loop-j.ranks = omega (arith, c.loop-j.invariant.all, c.row_count-count.ensures.small) in
    let max_rank = c.args.config.now.max_rank in
    record {
      all = length-set c.loop-j.ranks c.loop-j.j _ ∙ c.loop-j.invariant.all;
      ranks =
          below_more _ _
          (λ k h. let ne : k ≢ c.loop-j.j = omega arith in get_or-set_other c.loop-j.ranks c.loop-j.j k _ 0 ne ∙ c.loop-j.invariant.ranks k h)
          (get_or-set_same c.loop-j.ranks c.loop-j.j _ 0 lt ∙ c.rank_of.ensures.value);
      low =
          below_more _ _
          (λ k h. let ne : k ≢ c.loop-j.j = omega arith in subst (λ (n : ℕ). n ≤ max_rank) (sym (get_or-set_other c.loop-j.ranks c.loop-j.j k _ 0 ne)) (c.loop-j.invariant.low k h))
          (subst (λ (n : ℕ). n ≤ max_rank) (sym (get_or-set_same c.loop-j.ranks c.loop-j.j _ 0 lt)) c.rank_of.ensures.bound);
    }
