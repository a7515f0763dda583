use Rattle.std.proofs.Common.{rules, ◌≤◌, ◌+◌, ◌-◌, ℕ, List, length, take, drop, slice_index, slice_index_or, ap, ◌∙◌, arith}
use Rattle.row_layout.specs.Orders.{IsPlanned, rows_from_rank, rows_of_rank}
use Rattle.row_layout.specs.declared.row.Row.{Row}
use Rattle.row_layout.proofs.Ranked.{counts-rise, counts-within, of_rank-is_part}
use Rattle.row_layout.proofs.plan.Plan.of_rank.Goals as goal

-- where the rows of the rank begin and end
record IsPart (begin end count : ℕ) : Type 0 where
  rises : begin ≤ end
  within : end ≤ count

part_is : (rank : ℕ) (rows : List Row) (from_rank : List ℕ) → rank ≤ 6 → IsPlanned rows from_rank → IsPart (slice_index from_rank (rank + 1)) (slice_index from_rank rank) (length rows)
part_is rank rows from_rank low planned =
    let here = planned.counts (rank + 1) (omega arith) in
    let above = planned.counts rank (omega arith) in
    record { rises = omega (arith, here, above, counts-rise rank rows planned.in_order); within = omega (arith, above, counts-within rank rows planned.in_order) }

pub offset_bounds-deref-self-inside : goal.offset_bounds-deref-self-inside
offset_bounds-deref-self-inside c = let part = part_is c.args.rank c.self.inside.rows.items c.self.inside.from_rank c.requires c.self.invariant in let rises = part.rises in let within = part.within in search rules

pub slice_bounds-result-count : goal.slice_bounds-result-count
slice_bounds-result-count c = (part_is c.args.rank c.self.inside.rows.items c.self.inside.from_rank c.requires c.self.invariant).rises

pub slice_bounds-result-start : goal.slice_bounds-result-start
slice_bounds-result-start c = let part = part_is c.args.rank c.self.inside.rows.items c.self.inside.from_rank c.requires c.self.invariant in omega (arith, part.rises, part.within, c.deref.ensures.len)

pub slice_bounds-result-end : goal.slice_bounds-result-end
slice_bounds-result-end c = let part = part_is c.args.rank c.self.inside.rows.items c.self.inside.from_rank c.requires c.self.invariant in omega (arith, part.rises, part.within, c.deref.ensures.len)

pub returns-clause-rows : goal.returns-clause-rows
returns-clause-rows c =
    let rank : ℕ = c.args.rank in
    let rows : List Row = c.self.inside.rows.items in
    let high = c.self.invariant.counts (rank + 1) (omega arith) in
    let low = c.self.invariant.counts rank (omega arith) in
    ap (λ (xs : List Row). take (slice_index_or c.self.inside.from_rank rank 0 - slice_index_or c.self.inside.from_rank (rank + 1) 0) (drop (slice_index_or c.self.inside.from_rank (rank + 1) 0) xs)) c.deref.ensures.value
    ∙ ap (λ n. take (slice_index_or c.self.inside.from_rank rank 0 - n) (drop n rows)) high
    ∙ ap (λ n. take (n - length (rows_from_rank (rank + 1) rows)) (drop (length (rows_from_rank (rank + 1) rows)) rows)) low
    ∙ of_rank-is_part rank rows c.self.invariant.in_order
    ∙ ap (rows_of_rank rank) (c.self.view_is)
