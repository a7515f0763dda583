use Rattle.std.proofs.Common.{rules, ◌≡◌, ◌<◌, ℕ, List, length, get_or-set_other, get_or-set_same, below_more, leb, sym, subst, ap, ◌∙◌, ◌≢◌, arith}
use Rattle.std.proofs.lemmas.Fn.{always_returns_same}
use Rattle.std.proofs.Math.ListN.{length-set}
use Rattle.row_layout.specs.Orders.{IsInPlanOrder, rows_from_rank}
use Rattle.row_layout.specs.declared.row.Row.{Row}
use Rattle.row_layout.proofs.Ranked.{plan-partitioned, passing-before_point}
use Rattle.row_layout.proofs.plan.Plan.new.Goals as goal

-- the rows from this rank on
counted_here : (c : goal.After-partition_point) → c.partition_point.result ≡ length (rows_from_rank c.loop-rank.rank-counter c.args.rows.items)
counted_here c =
    let rank : ℕ = c.loop-rank.rank-counter in
    let rows : List Row = c.args.rows.items in
    let same : c.deref.result.now ≡ rows = c.deref.ensures.value in
    let parted = plan-partitioned rank c.deref.result.now (subst (λ (xs : List Row). IsInPlanOrder xs) (sym same) c.requires) in
    let point = c.partition_point.ensures.partitioned (λ (row : Row). leb rank row.rank) (always_returns_same _ _ _ (λ a r f k. search rules)) parted in
    sym (passing-before_point (λ (row : Row). leb rank row.rank) c.deref.result.now c.partition_point.result c.partition_point.ensures.bound point)
    ∙ ap (λ (xs : List Row). length (rows_from_rank rank xs)) same

pub loop-rank-preserved : goal.loop-rank-preserved
loop-rank-preserved c =
    let before = c.loop-rank.invariant in
    let inside : c.loop-rank.rank-counter < length c.loop-rank.from_rank = omega arith in
    record {
      many = rw length-set before.many;
      counted = below_more _ _
          (λ rank low. let other : rank ≢ c.loop-rank.rank-counter = omega arith in rw get_or-set_other (before.counted rank low))
          (get_or-set_same c.loop-rank.from_rank c.loop-rank.rank-counter c.partition_point.result 0 inside ∙ counted_here c);
    }

pub invariant_of-result : goal.invariant_of-result
invariant_of-result c = record { in_order = c.requires; counts = λ rank low. c.loop-rank.invariant.counted rank (omega arith) }
