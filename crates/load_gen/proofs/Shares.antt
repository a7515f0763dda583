-- What falls to each worker, and that all falls to some worker.
use Rattle.std.proofs.Common.{◌≡◌, ℕ, ◌+◌, ◌<◌, ◌/◌, ◌%◌, ◌==◌, Bool, true, false, cond, List, [], ◌∷◌, Some, length, get_or, map, filter, refl, sym, ap, ap₂, ◌∙◌, arith, Contains, eq-eqb}
use Rattle.std.specs.List.{enumerate_from, range_with_len, slice_get, sum_by}
use Rattle.std.proofs.lemmas.Bool.Decides.{nat_tests}
use Rattle.std.proofs.lemmas.List.{length-map}
use Rattle.std.proofs.lemmas.List.FromFn.{get_or-enumerate_from, length-enumerate_from}
use Rattle.std.proofs.lemmas.Nat.{mod_below}
use Rattle.std.proofs.lemmas.Option.{get_or_from_slice_get, slice_get_read, slice_get_within}
use Rattle.funnel_model.proofs.AnswerLemmas.{Contains-filter, Contains-filtered}
use Rattle.funnel_model.specs.declared.call.Call.TheVariants as call
use Rattle.load_gen.specs.declared.limits.TheConstants.{DELETED_ONE_IN}
use Rattle.load_gen.specs.Jobs.{deletes_of, is_deleted, share}
use Rattle.load_gen.proofs.Deletes.{each_tenth, length-cond}
use Rattle.load_gen.proofs.Totals.{sum_by-total, total, total-none, total-once, total-plus, total-same}

-- the item stands at its place
place_is : (texts : List (List ℕ)) (i : ℕ) (text : List ℕ) → Contains (enumerate_from 0 texts) (i, text) → slice_get texts i ≡ Some text
place_is texts i text (k, inside, is) =
    let within : k < length texts = omega (arith, inside, length-enumerate_from 0 texts) in
    let found : ◌≡◌ {A = ℕ × List ℕ} (0 + k, get_or texts k text) (i, text) = sym (get_or-enumerate_from 0 texts k (i, text) within) ∙ is in
    let place : 0 + k ≡ i = ap (λ (p : ℕ × List ℕ). p.0) found in
    let at : k ≡ i = omega (arith, place) in
    ap (slice_get texts) (sym at) ∙ slice_get_read texts (length texts) k text refl within (sym (ap (λ (p : ℕ × List ℕ). p.1) found))

is_placed : (texts : List (List ℕ)) (i : ℕ) (text : List ℕ) → slice_get texts i ≡ Some text → Contains (enumerate_from 0 texts) (i, text)
is_placed texts i text found =
    let within = slice_get_within texts i text found in
    let place : 0 + i ≡ i = omega arith in (
      i,
      omega (arith, within, length-enumerate_from 0 texts),
      get_or-enumerate_from 0 texts i (i, text) within ∙ ap₂ (λ (n : ℕ) (t : List ℕ). (n, t)) place (get_or_from_slice_get texts i text text found),
    )

falls : (n workers worker : ℕ) → (n % workers == worker) ≡ true → n % workers ≡ worker
falls n workers worker is = grind (arith, nat_tests)

-- what is in a worker's share falls to it, and is in the list
pub share-contained : (texts : List (List ℕ)) (workers worker i : ℕ) (text : List ℕ) → Contains (share texts workers worker) (i, text) →
    (i % workers ≡ worker) × (slice_get texts i ≡ Some text)
share-contained texts workers worker i text contained =
    let kept = Contains-filtered (λ (item : ℕ × List ℕ). item.0 % workers == worker) (enumerate_from 0 texts) (i, text) contained in
    (falls i workers worker kept.1, place_is texts i text kept.0)

-- and the other way round
pub share-contains : (texts : List (List ℕ)) (workers worker i : ℕ) (text : List ℕ) → (i % workers ≡ worker) × (slice_get texts i ≡ Some text) →
    Contains (share texts workers worker) (i, text)
share-contains texts workers worker i text (falls, found) =
    Contains-filter (λ (item : ℕ × List ℕ). item.0 % workers == worker) (enumerate_from 0 texts) (i, text) (is_placed texts i text found) (eq-eqb _ _ falls)

-- the sum of what each item counts
abbrev pub weigh : (ℕ × List ℕ → ℕ) → List (ℕ × List ℕ) → ℕ
weigh count [] = 0
weigh count (item ∷ items) = count item + weigh count items

weigh-cond : (count : ℕ × List ℕ → ℕ) (falls : Bool) (item : ℕ × List ℕ) (items : List (ℕ × List ℕ)) →
    weigh count (cond falls (item ∷ items) items) ≡ cond falls (count item) 0 + weigh count items
weigh-cond count true item items = refl
weigh-cond count false item items = omega arith

-- each item counts for one worker
pub weigh-shares : (count : ℕ × List ℕ → ℕ) (items : List (ℕ × List ℕ)) (workers : ℕ) → 0 < workers →
    total (λ worker. weigh count (filter (λ item. item.0 % workers == worker) items)) workers ≡ weigh count items
weigh-shares count [] workers some = total-none workers
weigh-shares count (item ∷ items) workers some =
    total-same (λ worker. weigh count (filter (λ item. item.0 % workers == worker) (item ∷ items)))
    (λ worker. cond (item.0 % workers == worker) (count item) 0 + weigh count (filter (λ item. item.0 % workers == worker) items)) workers
    (λ worker. weigh-cond count (item.0 % workers == worker) item (filter (λ item. item.0 % workers == worker) items))
    ∙ total-plus (λ worker. cond (item.0 % workers == worker) (count item) 0) (λ worker. weigh count (filter (λ item. item.0 % workers == worker) items)) workers
    ∙ ap₂ (λ a b. a + b) (total-once (item.0 % workers) (count item) workers (mod_below item.0 workers some)) (weigh-shares count items workers some)

-- the length of a list counts each item once
length-weigh : (items : List (ℕ × List ℕ)) → length items ≡ weigh (λ _. 1) items
length-weigh [] = refl
length-weigh (item ∷ items) = let rest = length-weigh items in omega (arith, rest)

-- all workers' shares together have as many items as the list
pub share-total : (texts : List (List ℕ)) (workers : ℕ) → 0 < workers → sum_by (λ worker. length (share texts workers worker)) (range_with_len 0 workers) ≡ length texts
share-total texts workers some =
    sum_by-total (λ worker. length (share texts workers worker)) workers
    ∙ total-same (λ worker. length (share texts workers worker)) (λ worker. weigh (λ _. 1) (share texts workers worker)) workers (λ worker. length-weigh (share texts workers worker))
    ∙ weigh-shares (λ _. 1) (enumerate_from 0 texts) workers some
    ∙ sym (length-weigh (enumerate_from 0 texts))
    ∙ length-enumerate_from 0 texts

-- a document that is deleted counts as one
abbrev pub deletes_one : ℕ × List ℕ → ℕ
deletes_one item = cond (is_deleted (item.0 + 1)) 1 0

length-deleted : (items : List (ℕ × List ℕ)) → length (filter is_deleted (map (λ item. item.0 + 1) items)) ≡ weigh deletes_one items
length-deleted [] = refl
length-deleted (item ∷ items) =
    length-cond (is_deleted (item.0 + 1)) (item.0 + 1) (filter is_deleted (map (λ item. item.0 + 1) items))
    ∙ ap (λ n. deletes_one item + n) (length-deleted items)

-- the numbers of the documents
ids-enumerate_from : (n : ℕ) (texts : List (List ℕ)) → map (λ item. item.0 + 1) (enumerate_from n texts) ≡ range_with_len (n + 1) (length texts)
ids-enumerate_from n [] = refl
ids-enumerate_from n (text ∷ texts) = ap (λ (ids : List ℕ). (n + 1) ∷ ids) (ids-enumerate_from (n + 1) texts)

-- all workers together delete one document in ten
pub deletes-total : (texts : List (List ℕ)) (workers : ℕ) → 0 < workers →
    sum_by (λ worker. length (deletes_of texts workers worker)) (range_with_len 0 workers) ≡ length texts / DELETED_ONE_IN
deletes-total texts workers some =
    sum_by-total (λ worker. length (deletes_of texts workers worker)) workers
    ∙ total-same (λ worker. length (deletes_of texts workers worker)) (λ worker. weigh deletes_one (share texts workers worker)) workers
    (λ worker. length-map (filter is_deleted (map (λ item. item.0 + 1) (share texts workers worker))) call.Delete ∙ length-deleted (share texts workers worker))
    ∙ weigh-shares deletes_one (enumerate_from 0 texts) workers some
    ∙ sym (length-deleted (enumerate_from 0 texts))
    ∙ ap (λ (ids : List ℕ). length (filter is_deleted ids)) (ids-enumerate_from 0 texts)
    ∙ each_tenth (length texts)
