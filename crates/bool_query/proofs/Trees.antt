-- The trees of expressions, and their sizes.
use Rattle.std.proofs.Common.{◌≡◌, ℕ, zero, suc, ◌+◌, ◌<◌, List, [], ◌∷◌, map, length, get_or, sym, ap, ◌∙◌, arith}
use Rattle.std.specs.Prelude.{Box}
use Rattle.std.specs.declared.alloc.Global.{Global}
use Rattle.funnel_model.specs.declared.text.Text.{Text}
use Rattle.funnel_model.specs.declared.expr.Expr.{Expr}
use Rattle.funnel_model.specs.declared.expr.Exprs.{Exprs}
use Rattle.funnel_model.specs.declared.expr.Expr.TheVariants as variants
use Rattle.funnel_model.specs.declared.expr.Expr.TheVariants.{rolls-Atom, rolls-And, rolls-Or, rolls-Not}
use Rattle.funnel_model.specs.declared.expr.Expr.TheOpen as layer
use Rattle.funnel_model.specs.declared.expr.Expr.TheFolds.{fold-roll-Expr, fold_out-Exprs}
use Rattle.funnel_model.specs.Expressions.{Tree, Trees, atom, every, some, contrary, no_trees, tree, tree_of, trees, trees_of, tree_step, trees_step}

pub tree-not : (b : Box Expr Global) → tree_of (variants.Not b) ≡ contrary (tree_of b.value)
tree-not b = ap tree_of (sym (rolls-Not b)) ∙ fold-roll-Expr Tree Trees tree_step trees_step (layer.Not b)

pub tree-and : (factors : Exprs) → tree_of (variants.And factors) ≡ every (trees factors)
tree-and factors = ap tree_of (sym (rolls-And factors)) ∙ fold-roll-Expr Tree Trees tree_step trees_step (layer.And factors) ∙ ap every (fold_out-Exprs Tree Trees tree_step trees_step factors)

pub tree-or : (terms : Exprs) → tree_of (variants.Or terms) ≡ some (trees terms)
tree-or terms = ap tree_of (sym (rolls-Or terms)) ∙ fold-roll-Expr Tree Trees tree_step trees_step (layer.Or terms) ∙ ap some (fold_out-Exprs Tree Trees tree_step trees_step terms)

pub tree-atom : (text : Text) → tree_of (variants.Atom text) ≡ atom text
tree-atom text = ap tree_of (sym (rolls-Atom text)) ∙ fold-roll-Expr Tree Trees tree_step trees_step (layer.Atom text)

abbrev mutual
  -- how many trees there are in a tree
  pub size : Tree → ℕ
  size (atom query) = 1
  size (every factors) = sizes factors + 1
  size (some terms) = sizes terms + 1
  size (contrary factor) = size factor + 1

  pub sizes : Trees → ℕ
  sizes no_trees = 0
  sizes (tree t ts) = size t + sizes ts + 1

-- one of several trees is smaller than all of them
pub size-at : (xs : List Expr) (i : ℕ) (d : Expr) → i < length xs → size (tree_of (get_or xs i d)) < sizes (trees_of (map tree_of xs))
size-at [] i d less = absurd (omega arith)
size-at (x ∷ xs) zero d less = omega arith
size-at (x ∷ xs) (suc i) d less = omega (arith, size-at xs i d (omega arith))
