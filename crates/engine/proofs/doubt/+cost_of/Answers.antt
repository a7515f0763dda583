use Rattle.std.proofs.Common.{◌+◌, ℕ, List, ap, arith, take}
use Rattle.std.proofs.lemmas.List.Sums.{sum-map, sum_by_more}
use Rattle.funnel_model.specs.declared.word_expr.WordExpr.{WordExpr}
use Rattle.engine.specs.WordExprs.{cost_of}
use Rattle.engine.proofs.doubt.+cost_of.Goals as goal

pub cost_of_each-loop-expr-preserved : goal.cost_of_each-loop-expr-preserved
cost_of_each-loop-expr-preserved t c =
    let exprs : List WordExpr = c.args.exprs.now in
    let i : ℕ = c.loop-expr.expr-index in
    let expr : WordExpr = c.expr-item.result in
    let before = sum-map cost_of (take i exprs) in
    let after = sum-map cost_of (take (i + 1) exprs) in
    let next = sum_by_more cost_of exprs i expr c.loop-expr-test.true in
    omega (arith, before, after, next, ap cost_of c.expr-item.is, c.cost_of.ensures, c.saturating_add-cost.ensures, c.loop-expr.invariant)
