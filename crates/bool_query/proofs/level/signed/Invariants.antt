-- the minus signs that are left before the expression are those of the factor
use Rattle.std.proofs.Common.{◌≡◌, ◌-◌, ◌≤◌}
use Rattle.funnel_model.specs.Expressions.{tree_of}
use Rattle.funnel_model.specs.Readings as readings
use Rattle.bool_query.proofs.level.signed.Given as goal

abbrev pub invariant-loop : goal.invariant-loop
invariant-loop l = (l.counter ≤ l.minuses) × (readings.signed (l.minuses - l.counter) (tree_of l.expr) ≡ readings.signed l.minuses (tree_of l.fn.factor))
