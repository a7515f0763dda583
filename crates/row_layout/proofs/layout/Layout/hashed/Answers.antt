-- A shared row lies within the slice.
use Rattle.std.proofs.Common.{rules, ◌+◌, ◌*◌, ◌^◌, ◌<◌, ◌≤◌, [], get_or, ap, sym, subst, ◌∙◌, arith}
use Rattle.std.proofs.lemmas.List.{get_or_default}
use Rattle.funnel_model.specs.Sizes.{shared_rows, width_of_rank}
use Rattle.funnel_model.proofs.TreatmentLemmas.{row_count-is_small}
use Rattle.row_layout.specs.Layouts.{LayoutId}
use Rattle.row_layout.proofs.HashedRows.{rank-low, rank-inside}
use Rattle.row_layout.proofs.Spans.{shared-fits, slice-small}
use Rattle.row_layout.proofs.layout.Layout.hashed.Goals as goal

pub bounds-self-inside-j : goal.bounds-self-inside-j
bounds-self-inside-j c = omega (arith, row_count-is_small c.args.self.now.config.one_in c.args.self.now.config.snr c.args.class, c.requires.j)

pub overflow_mul-result : goal.overflow_mul-result
overflow_mul-result c =
    let config = c.self.inside.config in
    let rank = get_or (get_or c.self.inside.classes.ranks c.args.class []) c.args.j 0 in
    let rank_low : rank ≤ config.max_rank = rank-low config c.args.self.now.config c.self.inside.classes c.args.class c.args.j (ap (λ (l : LayoutId). l.config) c.self.view_is) c.self.invariant.classes_are c.requires.class c.requires.j in
    let few : c.row-number.result < shared_rows config rank = subst (λ n. c.row-number.result < n) (get_or_default c.self.inside.rows rank c.index-self-rank.result 0 (rank-inside c.self.inside.rows rank config.max_rank rank_low c.self.invariant.in_range.max_rank (search rules)) ∙ c.self.invariant.rows_are rank rank_low) c.row-number.ensures.within in
    let place = shared-fits config (slice-small config c.self.inside.room c.self.invariant.in_range c.self.invariant.fits c.self.invariant.small_pool) rank c.row-number.result rank_low few in
    let fits : c.row-number.result * c.width_of-width.result < 2 ^ 32 = subst (λ w. c.row-number.result * w < 2 ^ 32) (sym c.width_of-width.ensures.value) (omega arith) in
    search rules

pub overflow_add-result : goal.overflow_add-result
overflow_add-result c =
    let config = c.self.inside.config in
    let rank = get_or (get_or c.self.inside.classes.ranks c.args.class []) c.args.j 0 in
    let rank_low : rank ≤ config.max_rank = rank-low config c.args.self.now.config c.self.inside.classes c.args.class c.args.j (ap (λ (l : LayoutId). l.config) c.self.view_is) c.self.invariant.classes_are c.requires.class c.requires.j in
    let few : c.row-number.result < shared_rows config rank = subst (λ n. c.row-number.result < n) (get_or_default c.self.inside.rows rank c.index-self-rank.result 0 (rank-inside c.self.inside.rows rank config.max_rank rank_low c.self.invariant.in_range.max_rank (search rules)) ∙ c.self.invariant.rows_are rank rank_low) c.row-number.ensures.within in
    let place = shared-fits config (slice-small config c.self.inside.room c.self.invariant.in_range c.self.invariant.fits c.self.invariant.small_pool) rank c.row-number.result rank_low few in
    let fits : get_or c.self.inside.bases rank 0 + c.row-number.result * c.width_of-width.result < 2 ^ 32 =
    subst (λ w. get_or c.self.inside.bases rank 0 + c.row-number.result * w < 2 ^ 32) (sym c.width_of-width.ensures.value)
    (subst (λ b. b + c.row-number.result * width_of_rank config rank < 2 ^ 32) (sym (c.self.invariant.bases_are rank rank_low)) place) in
    search rules
