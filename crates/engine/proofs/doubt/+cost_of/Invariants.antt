use Rattle.std.proofs.Common.{◌≡◌, ◌-◌, ◌^◌, map, min, take}
use Rattle.std.specs.Prelude.{sum}
use Rattle.engine.specs.WordExprs.{cost_of}
use Rattle.engine.proofs.doubt.+cost_of.Given as goal

-- what the expressions so far cost
abbrev pub invariant-cost_of_each-loop-expr : goal.invariant-cost_of_each-loop-expr
invariant-cost_of_each-loop-expr l = l.cost ≡ min (sum (map cost_of (take l.expr-index l.exprs))) (2 ^ 64 - 1)
