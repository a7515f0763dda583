-- The summary of a load.
use Rattle.std.specs.Prelude.{ℕ, ◌-◌, ◌/◌, ◌%◌, ◌^◌, List, ◌++◌, length, map, filter, flat_map, sum, codes, decimal, ◌&&◌, not}
use Rattle.std.specs.List.{enumerate_from, zip}
use Rattle.funnel_model.specs.Words.{meets}
use Rattle.load_gen.specs.declared.limits.TheConstants.{DELETED_ONE_IN}
use Rattle.load_gen.specs.Documents.{documents}
use Rattle.load_gen.specs.Jobs.{is_deleted}
use Rattle.load_gen.specs.Queries.{queries}

-- the numbers of the documents that are left after the deletes and have every word of the query
abbrev pub found : List (List ℕ) → List ℕ → List ℕ
found texts query = map (λ item. item.0) (filter (λ item. not (is_deleted item.0) && meets item.1 query) (enumerate_from 1 texts))

-- what is told of the numbers that a query found: how many there are, and their sum in 64 bits
abbrev pub result_of : List ℕ → ℕ × ℕ
result_of ids = (length ids, sum ids % 2 ^ 64)

-- the results of the queries, in order
abbrev pub results_of : List (List ℕ) → List (ℕ × ℕ)
results_of texts = map (λ query. result_of (found texts query)) queries

-- words and a number
abbrev pub line : List ℕ → ℕ → List ℕ
line words number = words ++ decimal number ++ codes "\n"

-- the line of a query and its result
abbrev pub query_line : List ℕ × (ℕ × ℕ) → List ℕ
query_line (query, (count, total)) = codes "query " ++ query ++ codes ": " ++ decimal count ++ codes " " ++ decimal total ++ codes "\n"

-- the lines that count so many documents, of which one in ten was deleted
abbrev pub counts_text : ℕ → List ℕ
counts_text docs =
    line (codes "documents ") docs ++ line (codes "deleted ") (docs / DELETED_ONE_IN) ++ line (codes "live ") (docs - docs / DELETED_ONE_IN)
    ++ line (codes "misses ") 0

-- the summary's text for so many documents and these results of the queries
abbrev pub summary_text : ℕ → List (ℕ × ℕ) → List ℕ
summary_text docs results = counts_text docs ++ flat_map query_line (zip queries results)

-- the summary's text for the documents themselves
abbrev pub summary : ℕ → ℕ → ℕ → List ℕ
summary docs words seed = summary_text docs (results_of (documents docs words seed))
