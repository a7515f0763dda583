use Rattle.std.proofs.Common.{rules, ◌≡◌, ◌∙◌, ◌<◌, ◌+◌, ◌++◌, ◌∷◌, [], ℕ, List, sym, ap, arith, subst, take, add-one}
use Rattle.std.proofs.Math.Seq.{take-suc}
use Rattle.std.specs.List.{All}
use Rattle.funnel_model.proofs.WordExprLemmas.{search-and, search-not, search-or}
use Rattle.funnel_model.specs.Searches.{Search, Searches, all_of, not_of, some_of}
use Rattle.funnel_model.specs.WordExprs.{each_searched, searched}
use Rattle.funnel_model.specs.declared.word_expr.WordExpr.{WordExpr}
use Rattle.row_layout.specs.Rows.{IsRowOf}
use Rattle.row_layout.specs.SearchPlans.{each_search_nodes, each_search_rows, search_nodes, search_rows}
use Rattle.row_layout.specs.declared.search_plan.NodeKind.TheVariants as kind
use Rattle.plan_rows.specs.Searches.{AddsEach, AddsSearch}
use Rattle.plan_rows.proofs.Added.{adds-all, adds-none, adds-not, adds-some, adds-then, entries-then, head-set, size, size-at, sizes}
use Rattle.plan_rows.proofs.searching.+push_search.Goals as goal

pub push_each-loop-expr-init : goal.push_each-loop-expr-init
push_each-loop-expr-init t c = record { added = adds-none c.args.layout.now.config c.args.made.now; laid = c.requires }

pub push_each-loop-expr-preserved : goal.push_each-loop-expr-preserved
push_each-loop-expr-preserved t c =
    let config = c.args.layout.now.config in
    let exprs : List WordExpr = c.args.exprs.now in
    let i : ℕ = c.loop-expr.expr-index in
    let expr : WordExpr = c.expr-item.result in
    let next : take (i + 1) exprs ≡ take i exprs ++ expr ∷ [] =
    rw add-one (take-suc exprs i expr c.loop-expr-test.true) ∙ ap (λ (e : WordExpr). take i exprs ++ e ∷ []) (sym c.expr-item.is) in
    record {
      added =
          subst (λ (es : Searches (List (List ℕ))). AddsEach config es c.args.made.now c.push_search.new.made)
          (sym (ap each_searched next ∙ entries-then (take i exprs) expr))
          (adds-then config (each_searched (take i exprs)) (searched expr) c.args.made.now c.loop-expr.made c.push_search.new.made
          c.loop-expr.invariant.added c.in_ok-push_search.ensures.added);
      laid = c.push_search.ensures.laid;
    }

pub push_each-push_search-requires : goal.push_each-push_search-requires
push_each-push_search-requires t c =
    let less : size (searched c.expr-item.result) < sizes (each_searched c.args.exprs.now) =
    subst (λ (e : WordExpr). size (searched e) < sizes (each_searched c.args.exprs.now)) (sym c.expr-item.is)
    (size-at c.args.exprs.now c.loop-expr.expr-index c.expr-item.result c.loop-expr-test.true) in
    (search (rules, less), c.loop-expr.invariant.laid)

pub push_search-push_each-requires : goal.push_search-push_each-requires
push_search-push_each-requires t c =
    let is : searched c.args.expr.now ≡ all_of (each_searched c.in-And.parts.items) = ap searched c.in-And.is ∙ search-and c.in-And.parts in
    let less : sizes (each_searched c.as_slice.result.now) < size (searched c.args.expr.now) =
    omega (arith, ap (λ (es : List WordExpr). sizes (each_searched es)) c.as_slice.ensures.value, ap size is) in
    let laid : All (IsRowOf c.args.layout.now.config) c.push_head.new.made.rows.items =
    subst (All (IsRowOf c.args.layout.now.config)) (sym c.push_head.ensures.rows) c.requires in
    (search (rules, less), laid)

pub push_search-push_each-requires-in-Or : goal.push_search-push_each-requires-in-Or
push_search-push_each-requires-in-Or t c =
    let is : searched c.args.expr.now ≡ some_of (each_searched c.in-Or.parts.items) = ap searched c.in-Or.is ∙ search-or c.in-Or.parts in
    let less : sizes (each_searched c.as_slice-in-Or.result.now) < size (searched c.args.expr.now) =
    omega (arith, ap (λ (es : List WordExpr). sizes (each_searched es)) c.as_slice-in-Or.ensures.value, ap size is) in
    let laid : All (IsRowOf c.args.layout.now.config) c.push_head-in-Or.new.made.rows.items =
    subst (All (IsRowOf c.args.layout.now.config)) (sym c.push_head-in-Or.ensures.rows) c.requires in
    (search (rules, less), laid)

pub push_search-push_search-requires : goal.push_search-push_search-requires
push_search-push_search-requires t c =
    let is : searched c.args.expr.now ≡ not_of (searched c.in-Not.part.value) = ap searched c.in-Not.is ∙ search-not c.in-Not.part in
    let less : size (searched c.deref.result.now) < size (searched c.args.expr.now) =
    omega (arith, ap (λ (e : WordExpr). size (searched e)) c.deref.ensures, ap size is) in
    let laid : All (IsRowOf c.args.layout.now.config) c.push_head-in-Not.new.made.rows.items =
    subst (All (IsRowOf c.args.layout.now.config)) (sym c.push_head-in-Not.ensures.rows) c.requires in
    (search (rules, less), laid)

pub push_search-returns-in_err-head-in-Or-clause-laid : goal.push_search-returns-in_err-head-in-Or-clause-laid
push_search-returns-in_err-head-in-Or-clause-laid t c = subst (All (IsRowOf c.args.layout.now.config)) (sym c.push_head-in-Or.ensures.rows) c.requires

pub push_search-returns-in_err-head-in-Not-clause-laid : goal.push_search-returns-in_err-head-in-Not-clause-laid
push_search-returns-in_err-head-in-Not-clause-laid t c = subst (All (IsRowOf c.args.layout.now.config)) (sym c.push_head-in-Not.ensures.rows) c.requires

pub push_search-returns-in_ok-push_each-in-And-clause-added : goal.push_search-returns-in_ok-push_each-in-And-clause-added
push_search-returns-in_ok-push_each-in-And-clause-added t c =
    let config = c.args.layout.now.config in
    let is : searched c.args.expr.now ≡ all_of (each_searched c.in-And.parts.items) = ap searched c.in-And.is ∙ search-and c.in-And.parts in
    let each : AddsEach config (each_searched c.in-And.parts.items) c.push_head.new.made c.push_each.new.made =
    subst (λ (es : List WordExpr). AddsEach config (each_searched es) c.push_head.new.made c.push_each.new.made) c.as_slice.ensures.value
    c.in_ok-push_each-in-And.ensures.added in
    subst (λ (s : Search (List (List ℕ))). AddsSearch config s c.args.made.now c.set_head.new.made) (sym is)
    (adds-all config c.args.made.now c.set_head.new.made (each_searched c.in-And.parts.items) each.plans each.alike
    (head-set kind.And c.in_ok-head-in-And.head _ c.args.made.now c.push_head.new.made c.push_each.new.made c.set_head.new.made
    (each_search_nodes each.plans) (each_search_rows each.plans) c.in_ok-head-in-And.ensures.nodes c.push_head.ensures.rows c.in_ok-head-in-And.ensures.at
    each.nodes each.rows c.set_head.ensures.nodes c.set_head.ensures.rows))

pub push_search-returns-in_ok-push_each-in-And-clause-laid : goal.push_search-returns-in_ok-push_each-in-And-clause-laid
push_search-returns-in_ok-push_each-in-And-clause-laid t c = subst (All (IsRowOf c.args.layout.now.config)) (sym c.set_head.ensures.rows) c.push_each.ensures.laid

pub push_search-returns-in_ok-push_each-in-Or-clause-added : goal.push_search-returns-in_ok-push_each-in-Or-clause-added
push_search-returns-in_ok-push_each-in-Or-clause-added t c =
    let config = c.args.layout.now.config in
    let is : searched c.args.expr.now ≡ some_of (each_searched c.in-Or.parts.items) = ap searched c.in-Or.is ∙ search-or c.in-Or.parts in
    let each : AddsEach config (each_searched c.in-Or.parts.items) c.push_head-in-Or.new.made c.push_each-in-Or.new.made =
    subst (λ (es : List WordExpr). AddsEach config (each_searched es) c.push_head-in-Or.new.made c.push_each-in-Or.new.made) c.as_slice-in-Or.ensures.value
    c.in_ok-push_each-in-Or.ensures.added in
    subst (λ (s : Search (List (List ℕ))). AddsSearch config s c.args.made.now c.set_head-in-Or.new.made) (sym is)
    (adds-some config c.args.made.now c.set_head-in-Or.new.made (each_searched c.in-Or.parts.items) each.plans each.alike
    (head-set kind.Or c.in_ok-head-in-Or.head _ c.args.made.now c.push_head-in-Or.new.made c.push_each-in-Or.new.made c.set_head-in-Or.new.made
    (each_search_nodes each.plans) (each_search_rows each.plans) c.in_ok-head-in-Or.ensures.nodes c.push_head-in-Or.ensures.rows c.in_ok-head-in-Or.ensures.at
    each.nodes each.rows c.set_head-in-Or.ensures.nodes c.set_head-in-Or.ensures.rows))

pub push_search-returns-in_ok-push_each-in-Or-clause-laid : goal.push_search-returns-in_ok-push_each-in-Or-clause-laid
push_search-returns-in_ok-push_each-in-Or-clause-laid t c = subst (All (IsRowOf c.args.layout.now.config)) (sym c.set_head-in-Or.ensures.rows) c.push_each-in-Or.ensures.laid

pub push_search-returns-in_ok-push_search-in-Not-clause-added : goal.push_search-returns-in_ok-push_search-in-Not-clause-added
push_search-returns-in_ok-push_search-in-Not-clause-added t c =
    let config = c.args.layout.now.config in
    let part : Search (List (List ℕ)) = searched c.in-Not.part.value in
    let is : searched c.args.expr.now ≡ not_of part = ap searched c.in-Not.is ∙ search-not c.in-Not.part in
    let one : AddsSearch config part c.push_head-in-Not.new.made c.push_search.new.made =
    subst (λ (e : WordExpr). AddsSearch config (searched e) c.push_head-in-Not.new.made c.push_search.new.made) c.deref.ensures
    c.in_ok-push_search-in-Not.ensures.added in
    subst (λ (s : Search (List (List ℕ))). AddsSearch config s c.args.made.now c.set_head-in-Not.new.made) (sym is)
    (adds-not config c.args.made.now c.set_head-in-Not.new.made part one.plan one.alike
    (head-set kind.Not c.in_ok-head-in-Not.head _ c.args.made.now c.push_head-in-Not.new.made c.push_search.new.made c.set_head-in-Not.new.made
    (search_nodes one.plan) (search_rows one.plan) c.in_ok-head-in-Not.ensures.nodes c.push_head-in-Not.ensures.rows c.in_ok-head-in-Not.ensures.at
    one.nodes one.rows c.set_head-in-Not.ensures.nodes c.set_head-in-Not.ensures.rows))

pub push_search-returns-in_ok-push_search-in-Not-clause-laid : goal.push_search-returns-in_ok-push_search-in-Not-clause-laid
push_search-returns-in_ok-push_search-in-Not-clause-laid t c = subst (All (IsRowOf c.args.layout.now.config)) (sym c.set_head-in-Not.ensures.rows) c.push_search.ensures.laid
