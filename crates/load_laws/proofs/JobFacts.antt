-- What the calls of a load's workers are: each add has a document with its number, and each delete the number of one that is to be deleted.
use Rattle.std.proofs.Common.{◌≡◌, ℕ, zero, suc, ◌+◌, ◌%◌, ◌<◌, ◌≤◌, ◌==◌, Bool, true, false, cond, List, [], ◌∷◌, ◌++◌, map, filter, flat_map, ⊎_elim, refl, ◌∙◌, arith}
use Rattle.std.proofs.lemmas.Bool.{cases_eq}
use Rattle.std.proofs.lemmas.Bool.Decides.{nat_tests}
use Rattle.std.proofs.lemmas.List.Elements.{All-append, All-cons, All-filter, All-head, All-nil, All-tail}
use Rattle.std.proofs.lemmas.List.Sums.{sum_by-cons}
use Rattle.std.specs.List.{All, enumerate_from, range_with_len, sum_by}
use Rattle.funnel_model.specs.declared.call.Call.{Call}
use Rattle.funnel_model.specs.declared.call.Call.TheVariants as call
use Rattle.load_gen.specs.declared.limits.TheConstants.{CHECKED_ONE_IN}
use Rattle.load_gen.specs.Documents.{document, documents, name_of_document}
use Rattle.load_gen.specs.Jobs.{add_and_check, adds_of, deletes_of, is_deleted, jobs, nth_add, queries_of, share}
use Rattle.load_gen.specs.Queries.{queries}
use Rattle.load_laws.proofs.Balance.{is_number, no_more}
use Rattle.load_laws.proofs.JobCounts.{over, where_deleted}

-- the document of this number and text is one of the load's
abbrev pub IsDocument : ℕ → ℕ → ℕ → ℕ → List ℕ → Type 0
IsDocument docs words seed id text = (i : ℕ) × (i < docs) × (id ≡ i + 1) × (text ≡ document words seed i)

-- the call is one of a load
abbrev pub IsOfLoad : ℕ → ℕ → ℕ → Call → Type 0
IsOfLoad docs words seed (call.Add id text) = IsDocument docs words seed id text
IsOfLoad docs words seed (call.Delete id) = (1 ≤ id) × (id ≤ docs) × (is_deleted id ≡ true)
IsOfLoad docs words seed (call.Find query) = Unit {0}
IsOfLoad docs words seed _ = ⊥

-- an item of a share has the text of its place
abbrev pub IsItem : ℕ → ℕ → ℕ → ℕ × List ℕ → Type 0
IsItem docs words seed item = (item.0 < docs) × (item.1 ≡ document words seed item.0)

items_from : (docs words seed n k : ℕ) → n + k ≤ docs → All (IsItem docs words seed) (enumerate_from n (map (document words seed) (range_with_len n k)))
items_from docs words seed n zero within = All-nil (IsItem docs words seed)
items_from docs words seed n (suc k) within =
    All-cons (IsItem docs words seed) (n, document words seed n) (enumerate_from (n + 1) (map (document words seed) (range_with_len (n + 1) k)))
    (omega (arith, within), refl) (items_from docs words seed (n + 1) k (omega (arith, within)))

pub share_items : (docs words seed workers worker : ℕ) → All (IsItem docs words seed) (share (documents docs words seed) workers worker)
share_items docs words seed workers worker =
    All-filter (λ (item : ℕ × List ℕ). item.0 % workers == worker) (IsItem docs words seed) (enumerate_from 0 (documents docs words seed))
    (items_from docs words seed 0 docs (omega arith))

-- the adds
adds_from : (docs words seed n : ℕ) (items : List (ℕ × List ℕ)) → All (IsItem docs words seed) items →
    All (IsOfLoad docs words seed) (flat_map nth_add (enumerate_from n items))
adds_from docs words seed n [] are = All-nil (IsOfLoad docs words seed)
adds_from docs words seed n ((i, text) ∷ items) are =
    All-append (IsOfLoad docs words seed) (add_and_check n (i + 1, text)) (flat_map nth_add (enumerate_from (n + 1) items))
    (All-cons (IsOfLoad docs words seed) (call.Add (i + 1) text) (check (n % CHECKED_ONE_IN == 0)) first (checked (n % CHECKED_ONE_IN == 0)))
    (adds_from docs words seed (n + 1) items (All-tail (IsItem docs words seed) (i, text) items are))
  where
    first : IsDocument docs words seed (i + 1) text
    first = let is = All-head (IsItem docs words seed) (i, text) items are in (i, is.0, refl, is.1)

    check : Bool → List Call
    check b = cond b (call.Find (name_of_document (i + 1)) ∷ []) []

    checked : (b : Bool) → All (IsOfLoad docs words seed) (check b)
    checked true = All-cons (IsOfLoad docs words seed) (call.Find (name_of_document (i + 1))) [] tt (All-nil (IsOfLoad docs words seed))
    checked false = All-nil (IsOfLoad docs words seed)

-- the deletes
deletes_from : (docs words seed : ℕ) (items : List (ℕ × List ℕ)) → All (IsItem docs words seed) items →
    All (IsOfLoad docs words seed) (map call.Delete (filter is_deleted (map (λ item. item.0 + 1) items)))
deletes_from docs words seed [] are = All-nil (IsOfLoad docs words seed)
deletes_from docs words seed (item ∷ items) are =
    by_test (is_deleted (item.0 + 1)) refl (deletes_from docs words seed items (All-tail (IsItem docs words seed) item items are)) where
      rest : List ℕ
      rest = filter is_deleted (map (λ x. x.0 + 1) items)

      by_test : (b : Bool) → is_deleted (item.0 + 1) ≡ b → All (IsOfLoad docs words seed) (map call.Delete rest) →
          All (IsOfLoad docs words seed) (map call.Delete (cond b ((item.0 + 1) ∷ rest) rest))
      by_test true is later =
          let below = (All-head (IsItem docs words seed) item items are).0 in
          All-cons (IsOfLoad docs words seed) (call.Delete (item.0 + 1)) (map call.Delete rest) (omega arith, omega (arith, below), is) later
      by_test false is later = later

-- the queries
queries_from : (docs words seed : ℕ) (items : List (ℕ × List ℕ)) → All (IsOfLoad docs words seed) (map (λ item. call.Find item.1) items)
queries_from docs words seed [] = All-nil (IsOfLoad docs words seed)
queries_from docs words seed (item ∷ items) =
    All-cons (IsOfLoad docs words seed) (call.Find item.1) (map (λ x. call.Find x.1) items) tt (queries_from docs words seed items)

-- all calls of a worker
pub jobs_are_of_load : (docs words seed workers worker : ℕ) → All (IsOfLoad docs words seed) (jobs docs words seed workers worker)
jobs_are_of_load docs words seed workers worker =
    let texts = documents docs words seed in
    let items = share_items docs words seed workers worker in
    All-append (IsOfLoad docs words seed) (adds_of texts workers worker ++ deletes_of texts workers worker) (queries_of workers worker)
    (All-append (IsOfLoad docs words seed) (adds_of texts workers worker) (deletes_of texts workers worker)
    (adds_from docs words seed 1 (share texts workers worker) items) (deletes_from docs words seed (share texts workers worker) items))
    (queries_from docs words seed (share queries workers worker))

-- a number counts once among the numbers of the documents, where it is one of them
number_below : (id n k : ℕ) → id < n → sum_by (is_number id) (range_with_len n k) ≡ 0
number_below id n zero below = refl
number_below id n (suc k) below =
    let here : is_number id n ≡ 0 = grind (arith, nat_tests) in
    let later = number_below id (n + 1) k (omega arith) in
    sum_by-cons (is_number id) n (range_with_len (n + 1) k) ∙ omega (arith, here, later)

number_once : (id n k : ℕ) → sum_by (is_number id) (range_with_len n k) ≤ 1
number_once id n zero = omega arith
number_once id n (suc k) =
    let all = sum_by-cons (is_number id) n (range_with_len (n + 1) k) in
    ⊎_elim
    (λ same.
    let here : is_number id n ≡ 1 = grind (arith, nat_tests) in
    let later = number_below id (n + 1) k (omega arith) in
    omega (arith, all, here, later))
    (λ other.
    let here : is_number id n ≡ 0 = grind (arith, nat_tests) in
    let later = number_once id (n + 1) k in
    omega (arith, all, here, later))
    (cases_eq n id)

number_in : (id n k : ℕ) → n ≤ id → id < n + k → 1 ≤ sum_by (is_number id) (range_with_len n k)
number_in id n zero from to = absurd (omega arith)
number_in id n (suc k) from to =
    let all = sum_by-cons (is_number id) n (range_with_len (n + 1) k) in
    ⊎_elim
    (λ same.
    let here : is_number id n ≡ 1 = grind (arith, nat_tests) in
    omega (arith, all, here))
    (λ other.
    let later = number_in id (n + 1) k (omega arith) (omega arith) in
    omega (arith, all, later))
    (cases_eq n id)

pub at_most_once : (docs id : ℕ) → over docs (is_number id) ≤ 1
at_most_once docs id = number_once id 1 docs

pub at_least_once : (docs id : ℕ) → 1 ≤ id → id ≤ docs → 1 ≤ over docs (is_number id)
at_least_once docs id from to = number_in id 1 docs from (omega arith)

pub deleted_at_most_once : (docs id : ℕ) → over docs (where_deleted (is_number id)) ≤ 1
deleted_at_most_once docs id =
    let all = at_most_once docs id in
    let fewer = no_more (where_deleted (is_number id)) (is_number id) (range_with_len 1 docs) (λ n. by_test n (is_deleted n)) in
    omega arith
  where
    by_test : (n : ℕ) (b : Bool) → cond b (is_number id n) 0 ≤ is_number id n
    by_test n true = omega arith
    by_test n false = omega arith
