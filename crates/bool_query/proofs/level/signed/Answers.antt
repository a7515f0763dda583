use Rattle.std.proofs.Common.{◌≡◌, ◌+◌, ◌-◌, ◌<◌, ℕ, zero, suc, ap, ◌∙◌, arith}
use Rattle.funnel_model.specs.declared.expr.Expr.{Expr}
use Rattle.funnel_model.specs.declared.expr.Expr.TheVariants as variants
use Rattle.funnel_model.specs.Expressions.{Tree, contrary, tree_of}
use Rattle.funnel_model.specs.Readings as readings
use Rattle.bool_query.proofs.Trees.{tree-not}
use Rattle.bool_query.proofs.level.signed.Goals as goal

-- one minus sign fewer, and a factor with one more
signed-next : (n : ℕ) (f : Tree) → 0 < n → readings.signed (n - 1) (contrary f) ≡ readings.signed n f
signed-next zero f some = absurd (omega arith)
signed-next (suc n) f some =
    let less : suc n - 1 ≡ n = omega arith in
    ap (λ (k : ℕ). readings.signed k (contrary f)) less

pub loop-preserved : goal.loop-preserved
loop-preserved c =
    let m = c.args.minuses in
    let k = c.loop.counter in
    let is : tree_of (variants.Not c.in_ok-new.field-0) ≡ contrary (tree_of c.loop.expr) = tree-not c.in_ok-new.field-0 ∙ ap (λ (e : Expr). contrary (tree_of e)) c.in_ok-new.ensures.ok in
    let less : m - (k + 1) ≡ m - k - 1 = omega arith in (
      omega arith,
      ap (readings.signed (m - (k + 1))) is
          ∙ ap (λ (n : ℕ). readings.signed n (contrary (tree_of c.loop.expr))) less
          ∙ signed-next (m - k) (tree_of c.loop.expr) (omega arith)
          ∙ c.loop.invariant.1,
    )
