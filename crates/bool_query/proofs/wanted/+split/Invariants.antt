use Rattle.std.proofs.Common.{◌≡◌, ◌||◌, ℕ, List, map, take}
use Rattle.bool_query.proofs.Trees.{size, sizes}
use Rattle.bool_query.specs.WordLists.{in_some}
use Rattle.funnel_model.specs.Expressions.{Trees, tree_of, trees_of}
use Rattle.funnel_model.specs.Required.{joined, residues, some_requires}
use Rattle.funnel_model.specs.WordExprs.{AreCut}
use Rattle.bool_query.proofs.wanted.+split.Given as goal

-- the words and the residue of the factors so far are added
abbrev pub invariant-split_each-loop-expr : goal.invariant-split_each-loop-expr
invariant-split_each-loop-expr l = record {
  words : (word : List ℕ) → in_some l.sets.items word ≡ (in_some l.fn.sets.items word || some_requires (trees_of (map tree_of (take l.expr-index l.exprs))) word);
  left : (ts : Trees) → AreCut ts l.fn.left.items → AreCut (joined ts (residues (trees_of (map tree_of (take l.expr-index l.exprs))))) l.left.items;
}

abbrev pub decreases-split : goal.decreases-split
decreases-split l = size (tree_of l.expr.now)

abbrev pub decreases-split_each : goal.decreases-split_each
decreases-split_each l = sizes (trees_of (map tree_of l.exprs.now))
