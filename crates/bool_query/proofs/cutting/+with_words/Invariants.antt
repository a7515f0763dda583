use Rattle.std.proofs.Common.{map, take}
use Rattle.bool_query.proofs.Trees.{size, sizes}
use Rattle.funnel_model.specs.Expressions.{tree_of, trees_of}
use Rattle.funnel_model.specs.WordExprs.{AreCut}
use Rattle.bool_query.proofs.cutting.+with_words.Given as goal

-- the expressions so far
abbrev pub invariant-each_with_words-loop-expr : goal.invariant-each_with_words-loop-expr
invariant-each_with_words-loop-expr l = AreCut (trees_of (map tree_of (take l.expr-index l.exprs))) l.cut.items

abbrev pub decreases-with_words : goal.decreases-with_words
decreases-with_words l = size (tree_of l.expr.now)

abbrev pub decreases-each_with_words : goal.decreases-each_with_words
decreases-each_with_words l = sizes (trees_of (map tree_of l.exprs.now))
