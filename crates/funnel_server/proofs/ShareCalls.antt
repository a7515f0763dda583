-- The calls of each part of a worker's share: what is left of them from a place on.
use Rattle.std.proofs.Common.{◌≡◌, ℕ, ◌+◌, ◌<◌, ◌≤◌, ◌%◌, cond, List, [], ◌∷◌, ◌++◌, length, map, filter, flat_map, get_or, Some, refl, sym, ap, ◌∙◌, eq-eqb}
use Rattle.std.specs.List.{enumerate_from, slice_get}
use Rattle.std.specs.Prelude.{if◌then◌else◌}
use Rattle.std.proofs.lemmas.Bool.{ne_eqb}
use Rattle.std.proofs.lemmas.List.{get_or_default, map-append}
use Rattle.std.proofs.lemmas.List.Elements.{filter-append}
use Rattle.std.proofs.lemmas.Option.{slice_get_read}
use Rattle.funnel_model.specs.declared.call.Call.{Call}
use Rattle.funnel_model.specs.declared.call.Call.TheVariants as call
use Rattle.load_gen.specs.declared.limits.TheConstants.{CHECKED_ONE_IN, DELETED_ONE_IN}
use Rattle.load_gen.specs.Documents.{name_of_document}
use Rattle.load_gen.specs.Jobs.{add_and_check, adds_of, deletes_of, is_deleted, nth_add, queries_of}
use Rattle.load_gen.specs.Queries.{queries}
use Rattle.funnel_server.proofs.ShareWalks.{share_from, share_from-begin, share_from-end, share_from-next}

-- the calls for a document whose name is looked for
pub checked : (n id : ℕ) (text : List ℕ) → n % CHECKED_ONE_IN ≡ 0 → add_and_check n (id, text) ≡ (call.Add id text ∷ []) ++ call.Find (name_of_document id) ∷ []
checked n id text falls = ap (λ b. call.Add id text ∷ (if b then call.Find (name_of_document id) ∷ [] else [])) (eq-eqb (n % CHECKED_ONE_IN) 0 falls)

-- and for one whose name isn't
pub unchecked : (n id : ℕ) (text : List ℕ) → (n % CHECKED_ONE_IN ≡ 0 → ⊥) → add_and_check n (id, text) ≡ call.Add id text ∷ []
unchecked n id text falls = ap (λ b. call.Add id text ∷ (if b then call.Find (name_of_document id) ∷ [] else [])) (ne_eqb (n % CHECKED_ONE_IN) 0 falls)

-- the adds and finds that are left from a place on, where so many documents are added
abbrev pub adds_left : List (List ℕ) → ℕ → ℕ → ℕ → ℕ → List Call
adds_left texts workers worker i n = flat_map nth_add (enumerate_from (n + 1) (share_from texts workers worker i))

-- from the worker's first place on all are left
pub adds_left-begin : (texts : List (List ℕ)) (workers worker : ℕ) → worker < workers → adds_of texts workers worker ≡ adds_left texts workers worker worker 0
adds_left-begin texts workers worker within = ap (λ items. flat_map nth_add (enumerate_from 1 items)) (share_from-begin texts workers worker within)

-- those for the document at a place, and then those from the next place on
pub adds_left-next : (texts : List (List ℕ)) (workers worker i n id : ℕ) (text : List ℕ) → worker < workers → i % workers ≡ worker → slice_get texts i ≡ Some text → id ≡ i + 1 →
    adds_left texts workers worker i n ≡ add_and_check (n + 1) (id, text) ++ adds_left texts workers worker (i + workers) (n + 1)
adds_left-next texts workers worker i n id text within falls found is =
    ap (λ items. flat_map nth_add (enumerate_from (n + 1) items)) (share_from-next texts workers worker i text within falls found)
    ∙ ap (λ number. add_and_check (n + 1) (number, text) ++ adds_left texts workers worker (i + workers) (n + 1)) (sym is)

-- behind the list none is left
pub adds_left-end : (texts : List (List ℕ)) (workers worker i n : ℕ) → length texts ≤ i → adds_left texts workers worker i n ≡ []
adds_left-end texts workers worker i n behind = ap (λ items. flat_map nth_add (enumerate_from (n + 1) items)) (share_from-end texts workers worker i behind)

-- the call for a document that is to be deleted
pub due : (id : ℕ) → id % DELETED_ONE_IN ≡ 0 → map call.Delete (filter is_deleted (id ∷ [])) ≡ call.Delete id ∷ []
due id is = ap (λ b. map call.Delete (cond b (id ∷ []) [])) (eq-eqb (id % DELETED_ONE_IN) 0 is)

-- the deletes that are left from a place on
abbrev pub deletes_left : List (List ℕ) → ℕ → ℕ → ℕ → List Call
deletes_left texts workers worker i = map call.Delete (filter is_deleted (map (λ item. item.0 + 1) (share_from texts workers worker i)))

-- from the worker's first place on all are left
pub deletes_left-begin : (texts : List (List ℕ)) (workers worker : ℕ) → worker < workers → deletes_of texts workers worker ≡ deletes_left texts workers worker worker
deletes_left-begin texts workers worker within =
    ap (λ items. map call.Delete (filter is_deleted (map (λ item. item.0 + 1) items))) (share_from-begin texts workers worker within)

-- that of the document at a place where it is to be deleted, and then those from the next place on
pub deletes_left-next : (texts : List (List ℕ)) (workers worker i : ℕ) → worker < workers → i % workers ≡ worker → i < length texts →
    deletes_left texts workers worker i ≡ map call.Delete (filter is_deleted ((i + 1) ∷ [])) ++ deletes_left texts workers worker (i + workers)
deletes_left-next texts workers worker i within falls inside =
    let later = map (λ item. item.0 + 1) (share_from texts workers worker (i + workers)) in
    let found = slice_get_read texts (length texts) i (get_or texts i []) refl inside (get_or_default texts i [] (get_or texts i []) inside) in
    ap (λ items. map call.Delete (filter is_deleted (map (λ item. item.0 + 1) items))) (share_from-next texts workers worker i (get_or texts i []) within falls found)
    ∙ ap (λ ids. map call.Delete ids) (filter-append is_deleted ((i + 1) ∷ []) later)
    ∙ map-append call.Delete (filter is_deleted ((i + 1) ∷ [])) (filter is_deleted later)

-- behind the list none is left
pub deletes_left-end : (texts : List (List ℕ)) (workers worker i : ℕ) → length texts ≤ i → deletes_left texts workers worker i ≡ []
deletes_left-end texts workers worker i behind =
    ap (λ items. map call.Delete (filter is_deleted (map (λ item. item.0 + 1) items))) (share_from-end texts workers worker i behind)

-- the queries that are left from a place on
abbrev pub queries_left : ℕ → ℕ → ℕ → List Call
queries_left workers worker j = map (λ item. call.Find item.1) (share_from queries workers worker j)

-- from the worker's first place on all are left
pub queries_left-begin : (workers worker : ℕ) → worker < workers → queries_of workers worker ≡ queries_left workers worker worker
queries_left-begin workers worker within = ap (λ items. map (λ item. call.Find item.1) items) (share_from-begin queries workers worker within)

-- the query at a place, and then those from the next place on
pub queries_left-next : (workers worker j : ℕ) (query : List ℕ) → worker < workers → j % workers ≡ worker → slice_get queries j ≡ Some query →
    queries_left workers worker j ≡ (call.Find query ∷ []) ++ queries_left workers worker (j + workers)
queries_left-next workers worker j query within falls found = ap (λ items. map (λ item. call.Find item.1) items) (share_from-next queries workers worker j query within falls found)

-- behind the list none is left
pub queries_left-end : (workers worker j : ℕ) → 8 ≤ j → queries_left workers worker j ≡ []
queries_left-end workers worker j behind = ap (λ items. map (λ item. call.Find item.1) items) (share_from-end queries workers worker j behind)
