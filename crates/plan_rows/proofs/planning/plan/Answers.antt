use Rattle.std.proofs.Common.{rules, ◌≡◌, ◌↔◌, ℕ, Bor, List, Contains, map, not, sym, subst, ◌∙◌}
use Rattle.std.proofs.lemmas.List.Kept.{IsStrictlySortedBy-filter}
use Rattle.std.specs.Cmp.Lexicographic.{slice_cmp}
use Rattle.funnel_model.specs.Words.{IsRising}
use Rattle.std.proofs.lemmas.Fn.{always_returns_same}
use Rattle.std.proofs.lemmas.List.Filters.{dedup_is}
use Rattle.std.proofs.lemmas.List.Sorted.{All-permutation, ranks_by}
use Rattle.std.specs.List.{All, dedup}
use Rattle.std.specs.Ordering.{is_lt, nat_cmp}
use Rattle.row_layout.specs.Orders.{IsInPlanOrder, plan_cmp}
use Rattle.row_layout.specs.Owners.{is_exact}
use Rattle.row_layout.specs.Rows.{IsRowOf, rows_of_words}
use Rattle.row_layout.specs.declared.row.Row.{Row}
use Rattle.row_layout.proofs.Sorting.{row_eq, kept_all, kept_exactly, plan_total, planned_from_sorted}
use Rattle.plan_rows.proofs.planning.plan.Goals as goal

pub new-requires : goal.new-requires
new-requires c =
    let config = c.args.layout.now.config in
    let sorted : List Row = c.sort_unstable_by.new.self.items in
    let kept : c.dedup.new.self.items ≡ dedup row_eq sorted = dedup_is _ _ _ c.dedup.ensures.filtered in
    let in_order =
    c.sort_unstable_by.ensures.sorted (λ a b. is_lt (plan_cmp a b)) (ranks_by plan_total (λ (row : Row). row))
    (always_returns_same _ _ _ (λ a r g k. search rules)) in
    subst IsInPlanOrder (sym kept)
    (planned_from_sorted config c.rows_and_rest.ensures.in_range sorted
    (All-permutation (IsRowOf config) c.in_ok-both.both.0.items sorted c.sort_unstable_by.ensures.permutation c.in_ok-both.ensures.laid) in_order)

pub returns-clause-rows : goal.returns-clause-rows
returns-clause-rows c row =
    let config = c.args.layout.now.config in
    let words = c.args.words.now in
    let sorted : List Row = c.sort_unstable_by.new.self.items in
    let kept : c.new.result ≡ dedup row_eq sorted = c.new.ensures ∙ dedup_is _ _ _ c.dedup.ensures.filtered in
    let exactly : Contains (dedup row_eq sorted) row ↔ Contains c.in_ok-both.both.0.items row = kept_exactly c.in_ok-both.both.0.items sorted c.sort_unstable_by.ensures.permutation row in
    subst (λ (rows : List Row). Contains rows row ↔ Contains (rows_of_words config words) row) (sym kept)
    (subst (λ (rows : List Row). Contains (dedup row_eq sorted) row ↔ Contains rows row) c.in_ok-both.ensures.rows exactly)

pub returns-clause-laid : goal.returns-clause-laid
returns-clause-laid c =
    let config = c.args.layout.now.config in
    let sorted : List Row = c.sort_unstable_by.new.self.items in
    let kept : c.new.result ≡ dedup row_eq sorted = c.new.ensures ∙ dedup_is _ _ _ c.dedup.ensures.filtered in
    subst (All (IsRowOf config)) (sym kept)
    (kept_all (IsRowOf config) c.in_ok-both.both.0.items sorted c.sort_unstable_by.ensures.permutation c.in_ok-both.ensures.laid)

pub of-requires : goal.of-requires
of-requires c =
    let config = c.args.layout.now.config in
    record {
      rising =
          subst (λ (words : List (Bor (List ℕ))). IsRising (map (λ word. word.now) words)) (sym c.deref.ensures.value)
          (subst IsRising (sym c.in_ok-both.ensures.rest) (IsStrictlySortedBy-filter (slice_cmp nat_cmp) (λ word. not (is_exact config word)) c.args.words.now c.rows_and_rest.ensures.rising));
    }
