-- What it costs to decide a document by an expression whose atoms are cut into words.
use Rattle.std.specs.Prelude.{ℕ, length, max, sum}
use Rattle.funnel_model.specs.declared.word_expr.WordExpr.{WordExpr}
use Rattle.funnel_model.specs.declared.word_expr.WordExpr.TheOpen.{WordExpr-F, Words, And, Or, Not}
use Rattle.funnel_model.specs.declared.word_expr.WordExpr.TheFolds.{fold-WordExpr}

-- what one level of an expression costs, with the cost of each part in its place: the words of an atom, or one where it has none, since it
-- is looked at all the same; or what all parts cost
abbrev pub cost_step : WordExpr-F ℕ → ℕ
cost_step (Words words) = max (length words) 1
cost_step (And costs) = sum costs.items
cost_step (Or costs) = sum costs.items
cost_step (Not cost) = cost.value

-- how many words the whole expression looks for in a document at most
abbrev pub cost_of : WordExpr → ℕ
cost_of = fold-WordExpr ℕ cost_step
