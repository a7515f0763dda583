-- What each worker of a load asks, in three parts.
use Rattle.std.specs.Prelude.{ℕ, ◌≡◌, ◌+◌, ◌%◌, ◌==◌, Bool, List, [], ◌∷◌, ◌++◌, length, map, filter, flat_map, sum_by, slice_get, Some, if◌then◌else◌}
use Rattle.std.specs.List.{enumerate_from, range_with_len}
use Rattle.funnel_model.specs.declared.call.Call.{Call}
use Rattle.funnel_model.specs.declared.call.Call.TheVariants as call
use Rattle.load_gen.specs.declared.limits.TheConstants.{CHECKED_ONE_IN, DELETED_ONE_IN}
use Rattle.load_gen.specs.Documents.{name_of_document, documents}
use Rattle.load_gen.specs.Queries.{queries}

-- a worker's share of a list: what stands at the places, from 0 on, that leave the worker's number when they are divided by
-- the number of workers. Each item with its place, in rising order
abbrev pub share : {A : Type 0} → List A → ℕ → ℕ → List (ℕ × A)
share items workers worker = filter (λ item. item.0 % workers == worker) (enumerate_from 0 items)

-- the item at this place falls to the worker
abbrev pub FallsTo : {A : Type 0} → List A → ℕ → ℕ → ℕ → A → Type 0
FallsTo items workers worker i item = (i % workers ≡ worker) × (slice_get items i ≡ Some item)

-- how many entries the lists of all workers have together
abbrev pub count_all : {A : Type 0} → ℕ → (ℕ → List A) → ℕ
count_all workers lists = sum_by (λ worker. length (lists worker)) (range_with_len 0 workers)

-- the documents whose number is a multiple of 10 are deleted
abbrev pub is_deleted : ℕ → Bool
is_deleted id = id % DELETED_ONE_IN == 0

-- the calls for a document of this number and text, which is the n-th of its worker: its add, and after each 100th one a find
-- of its name
abbrev pub add_and_check : ℕ → ℕ × List ℕ → List Call
add_and_check n (id, text) = call.Add id text ∷ (if n % CHECKED_ONE_IN == 0 then call.Find (name_of_document id) ∷ [] else [])

-- a worker's n-th add, which is of the document at this place
abbrev pub nth_add : ℕ × (ℕ × List ℕ) → List Call
nth_add (n, (i, text)) = add_and_check n (i + 1, text)

-- the first part: the worker adds its documents
abbrev pub adds_of : List (List ℕ) → ℕ → ℕ → List Call
adds_of texts workers worker = flat_map nth_add (enumerate_from 1 (share texts workers worker))

-- the second part: it deletes those that are to be deleted
abbrev pub deletes_of : List (List ℕ) → ℕ → ℕ → List Call
deletes_of texts workers worker = map call.Delete (filter is_deleted (map (λ item. item.0 + 1) (share texts workers worker)))

-- the third part: it runs its queries
abbrev pub queries_of : ℕ → ℕ → List Call
queries_of workers worker = map (λ item. call.Find item.1) (share queries workers worker)

-- all that a worker asks of these texts, in order
abbrev pub calls_of_share : List (List ℕ) → ℕ → ℕ → List Call
calls_of_share texts workers worker = adds_of texts workers worker ++ deletes_of texts workers worker ++ queries_of workers worker

-- all that a worker of a load asks, of the documents that are made from the seed
abbrev pub jobs : ℕ → ℕ → ℕ → ℕ → ℕ → List Call
jobs docs words seed workers worker = calls_of_share (documents docs words seed) workers worker
