-- Expressions whose atoms are cut into words, as searches.
use Rattle.std.specs.Prelude.{ℕ, Bool, List, [], ◌∷◌, map}
use Rattle.std.specs.List.{list_all}
use Rattle.funnel_model.specs.declared.word_expr.WordExpr.{WordExpr}
use Rattle.funnel_model.specs.declared.word_expr.WordExpr.TheOpen.{WordExpr-F, Words, And, Or, Not}
use Rattle.funnel_model.specs.declared.word_expr.WordExpr.TheFolds.{fold-WordExpr}
use Rattle.funnel_model.specs.Expressions.{Tree, Trees}
use Rattle.funnel_model.specs.Required.{search_of, searches_of}
use Rattle.funnel_model.specs.Searches.{Search, Searches, AreAlike, AreEachAlike, all_of, atom_of, entry, is_kept, no_entries, not_of, some_of}
use Rattle.funnel_model.specs.Words.{AreWordsOf}

-- searches in order, as entries
abbrev pub entries_of : {A : Type 0} → List (Search A) → Searches A
entries_of [] = no_entries
entries_of (s ∷ searches) = entry s (entries_of searches)

-- one level of an expression, with the search of each part in its place
abbrev pub search_step : WordExpr-F (Search (List (List ℕ))) → Search (List (List ℕ))
search_step (Words words) = atom_of words
search_step (And parts) = all_of (entries_of parts.items)
search_step (Or parts) = some_of (entries_of parts.items)
search_step (Not part) = not_of part.value

-- the search that an expression is
abbrev pub searched : WordExpr → Search (List (List ℕ))
searched = fold-WordExpr (Search (List (List ℕ))) search_step

abbrev pub each_searched : List WordExpr → Searches (List (List ℕ))
each_searched exprs = entries_of (map searched exprs)

-- the expression has the form of the tree, and each of its atoms the words of the text there
abbrev pub IsCut : Tree → WordExpr → Type 0
IsCut t expr = AreAlike (λ query set. AreWordsOf set query) (search_of t) (searched expr)

-- an expression for each of the trees, in order
abbrev pub AreCut : Trees → List WordExpr → Type 0
AreCut ts exprs = AreEachAlike (λ query set. AreWordsOf set query) (searches_of ts) (each_searched exprs)

-- whether each of the expressions keeps a text
abbrev pub each_keeps : List WordExpr → List ℕ → Bool
each_keeps exprs text = list_all (λ expr. is_kept (searched expr) text) exprs
