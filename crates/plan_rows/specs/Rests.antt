-- What a query's documents are looked at for.
use Rattle.std.specs.Prelude.{ℕ, List}
use Rattle.plan_rows.specs.declared.rest.Rest.{Rest}
use Rattle.plan_rows.specs.declared.rest.Rest.TheVariants as rest

-- the words of the rest, where these are all words of the query
abbrev pub words_of_rest : List (List ℕ) → Rest → List (List ℕ)
words_of_rest all rest.Whole = all
words_of_rest all (rest.Part words) = words
