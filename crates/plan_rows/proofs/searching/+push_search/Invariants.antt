use Rattle.std.proofs.Common.{take}
use Rattle.std.specs.List.{All}
use Rattle.funnel_model.specs.WordExprs.{each_searched, searched}
use Rattle.plan_rows.proofs.Added.{size, sizes}
use Rattle.plan_rows.specs.Searches.{AddsEach}
use Rattle.row_layout.specs.Rows.{IsRowOf}
use Rattle.plan_rows.proofs.searching.+push_search.Given as goal

-- the plans of the expressions so far are added
abbrev pub invariant-push_each-loop-expr : goal.invariant-push_each-loop-expr
invariant-push_each-loop-expr l = record {
  added : AddsEach l.layout.config (each_searched (take l.expr-index l.exprs)) l.fn.made l.made;
  laid : All (IsRowOf l.layout.config) l.made.rows.items;
}

abbrev pub decreases-push_search : goal.decreases-push_search
decreases-push_search l = size (searched l.expr.now)

abbrev pub decreases-push_each : goal.decreases-push_each
decreases-push_each l = sizes (each_searched l.exprs.now)
