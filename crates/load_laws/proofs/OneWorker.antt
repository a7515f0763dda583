-- What one worker asks: it walks the documents in order, then deletes one in ten of them, and runs all queries.
use Rattle.std.proofs.Common.{◌≡◌, ℕ, zero, suc, ◌+◌, ◌*◌, ◌/◌, ◌%◌, ◌==◌, Bool, true, false, cond, List, [], ◌∷◌, ◌++◌, Some, length, map, filter, flat_map, take, add-one, refl, sym, ap, ap₂, ◌∙◌, arith, append-nil}
use Rattle.std.specs.List.{enumerate_from, range_with_len, slice_get}
use Rattle.std.proofs.lemmas.Bool.Decides.{nat_tests}
use Rattle.std.proofs.lemmas.Grind.{flat_map-append}
use Rattle.std.proofs.lemmas.List.{length-take-le, map-append, take_more}
use Rattle.std.proofs.lemmas.Option.{get_or_from_slice_get, slice_get_within}
use Rattle.std.proofs.lemmas.List.Elements.{filter-append}
use Rattle.std.proofs.lemmas.List.FromFn.{length-map-range_with_len, map-range_with_len_more}
use Rattle.funnel_model.proofs.ClaimLemmas.{range_with_len-push}
use Rattle.funnel_model.specs.declared.call.Call.{Call}
use Rattle.funnel_model.specs.declared.call.Call.TheVariants as call
use Rattle.load_gen.specs.Documents.{document, documents}
use Rattle.load_gen.specs.Jobs.{adds_of, deletes_of, is_deleted, nth_add, queries_of, share}
use Rattle.load_gen.specs.Queries.{queries}
use Rattle.load_laws.specs.Replies.{lone_add}

-- there are as many texts as documents
pub length-documents : (docs words seed : ℕ) → length (documents docs words seed) ≡ docs
length-documents docs words seed = length-map-range_with_len (document words seed) 0 docs

-- of one worker the share is all
all_mine : (n : ℕ) → (n % 1 == 0) ≡ true
all_mine n = grind (arith, nat_tests)

share_from : {A : Type 0} → (n : ℕ) (items : List A) → filter (λ item. item.0 % 1 == 0) (enumerate_from n items) ≡ enumerate_from n items
share_from n [] = refl
share_from n (item ∷ items) =
    let rest = filter (λ item. item.0 % 1 == 0) (enumerate_from (n + 1) items) in
    ap (λ b. cond b ((n, item) ∷ rest) rest) (all_mine n) ∙ ap (λ others. (n, item) ∷ others) (share_from (n + 1) items)

pub share-one : {A : Type 0} → (items : List A) → share items 1 0 ≡ enumerate_from 0 items
share-one items = share_from 0 items

-- its n-th add is that of the n-th document
adds_from : (n : ℕ) (texts : List (List ℕ)) → flat_map nth_add (enumerate_from (n + 1) (enumerate_from n texts)) ≡ flat_map lone_add (enumerate_from (n + 1) texts)
adds_from n [] = refl
adds_from n (text ∷ texts) = ap (λ calls. lone_add (n + 1, text) ++ calls) (adds_from (n + 1) texts)

pub adds-one : (texts : List (List ℕ)) → adds_of texts 1 0 ≡ flat_map lone_add (enumerate_from 1 texts)
adds-one texts = ap (λ (items : List (ℕ × List ℕ)). flat_map nth_add (enumerate_from 1 items)) (share-one texts) ∙ adds_from 0 texts

-- it deletes those of all numbers that are to be deleted
ids_from : (n : ℕ) (texts : List (List ℕ)) → map (λ item. item.0 + 1) (enumerate_from n texts) ≡ range_with_len (n + 1) (length texts)
ids_from n [] = refl
ids_from n (text ∷ texts) = ap (λ (ids : List ℕ). (n + 1) ∷ ids) (ids_from (n + 1) texts)

pub deletes-one : (texts : List (List ℕ)) → deletes_of texts 1 0 ≡ map call.Delete (filter is_deleted (range_with_len 1 (length texts)))
deletes-one texts =
    ap (λ (items : List (ℕ × List ℕ)). map call.Delete (filter is_deleted (map (λ item. item.0 + 1) items))) (share-one texts)
    ∙ ap (λ (ids : List ℕ). map call.Delete (filter is_deleted ids)) (ids_from 0 texts)

-- it runs all queries
items_from : (n : ℕ) (asked : List (List ℕ)) → map (λ item. call.Find item.1) (enumerate_from n asked) ≡ map call.Find asked
items_from n [] = refl
items_from n (query ∷ asked) = ap (λ calls. call.Find query ∷ calls) (items_from (n + 1) asked)

pub queries-one : queries_of 1 0 ≡ map call.Find queries
queries-one = ap (λ (items : List (ℕ × List ℕ)). map (λ item. call.Find item.1) items) (share-one queries) ∙ items_from 0 queries

-- one more item of a list with numbers
enumerate_from-push : {A : Type 0} → (n : ℕ) (items : List A) (item : A) → enumerate_from n (items ++ item ∷ []) ≡ enumerate_from n items ++ (n + length items, item) ∷ []
enumerate_from-push n [] item = let at : n ≡ n + 0 = omega arith in ap (λ k. (k, item) ∷ []) at
enumerate_from-push n (first ∷ items) item =
    let at : n + 1 + length items ≡ n + suc (length items) = omega arith in
    ap (λ rest. (n, first) ∷ rest) (enumerate_from-push (n + 1) items item ∙ ap (λ k. enumerate_from (n + 1) items ++ (k, item) ∷ []) at)

-- one more document is added
pub adds-push : (texts : List (List ℕ)) (text : List ℕ) → adds_of (texts ++ text ∷ []) 1 0 ≡ adds_of texts 1 0 ++ lone_add (length texts + 1, text)
adds-push texts text =
    let at : 1 + length texts ≡ length texts + 1 = omega arith in
    adds-one (texts ++ text ∷ [])
    ∙ ap (λ (items : List (ℕ × List ℕ)). flat_map lone_add items) (enumerate_from-push 1 texts text)
    ∙ flat_map-append lone_add (enumerate_from 1 texts) ((1 + length texts, text) ∷ [])
    ∙ ap₂ (λ (calls more : List Call). calls ++ more) (sym (adds-one texts)) (append-nil (lone_add (1 + length texts, text)) ∙ ap (λ id. lone_add (id, text)) at)

-- a list up to a place and the item there
up_to_next : (texts : List (List ℕ)) (i : ℕ) (text : List ℕ) → slice_get texts i ≡ Some text → take (i + 1) texts ≡ take i texts ++ text ∷ []
up_to_next texts i text at =
    take_more texts i text (slice_get_within texts i text at) ∙ ap (λ t. take i texts ++ t ∷ []) (get_or_from_slice_get texts i text text at)

-- once the document at a place is added too
pub adds-next : (texts : List (List ℕ)) (i : ℕ) (text : List ℕ) → slice_get texts i ≡ Some text →
    adds_of (take (i + 1) texts) 1 0 ≡ adds_of (take i texts) 1 0 ++ lone_add (i + 1, text)
adds-next texts i text at =
    let within = slice_get_within texts i text at in
    ap (λ (ts : List (List ℕ)). adds_of ts 1 0) (up_to_next texts i text at) ∙ adds-push (take i texts) text
    ∙ ap (λ n. adds_of (take i texts) 1 0 ++ lone_add (n + 1, text)) (length-take-le i texts (omega (arith, within)))

-- once one more document is deleted
pub deletes-next : (k : ℕ) → map (λ j. call.Delete (10 * j)) (range_with_len 1 (k + 1)) ≡ map (λ j. call.Delete (10 * j)) (range_with_len 1 k) ++ call.Delete (10 * (k + 1)) ∷ []
deletes-next k = map-range_with_len_more (λ j. call.Delete (10 * j)) 1 k (k + 1) (omega arith)

-- once one more query is run
pub queries-next : (j : ℕ) (query : List ℕ) → slice_get queries j ≡ Some query →
    map call.Find (take (j + 1) queries) ≡ map call.Find (take j queries) ++ call.Find query ∷ []
queries-next j query at = ap (λ (qs : List (List ℕ)). map call.Find qs) (up_to_next queries j query at) ∙ map-append call.Find (take j queries) (query ∷ [])

-- those of the numbers that are to be deleted are 10, 20 and so on
tens_more : (n : ℕ) → filter is_deleted (range_with_len 1 n) ≡ map (λ k. 10 * k) (range_with_len 1 (n / 10)) →
    filter is_deleted (range_with_len 1 (n + 1)) ≡ map (λ k. 10 * k) (range_with_len 1 ((n + 1) / 10))
tens_more n before =
    ap (filter is_deleted) (range_with_len-push 1 n) ∙ filter-append is_deleted (range_with_len 1 n) ((1 + n) ∷ [])
    ∙ ap (λ ids. ids ++ filter is_deleted ((1 + n) ∷ [])) before ∙ by_test (is_deleted (1 + n)) refl
  where
    tenth : is_deleted (1 + n) ≡ true → (n + 1) / 10 ≡ n / 10 + 1
    tenth is = grind (arith, nat_tests)

    itself : is_deleted (1 + n) ≡ true → 1 + n ≡ 10 * (1 + n / 10)
    itself is = grind (arith, nat_tests)

    none : is_deleted (1 + n) ≡ false → n / 10 ≡ (n + 1) / 10
    none isn't = grind (arith, nat_tests)

    by_test : (b : Bool) → is_deleted (1 + n) ≡ b →
        map (λ k. 10 * k) (range_with_len 1 (n / 10)) ++ cond (is_deleted (1 + n)) ((1 + n) ∷ []) [] ≡ map (λ k. 10 * k) (range_with_len 1 ((n + 1) / 10))
    by_test true is =
        ap (λ b. map (λ k. 10 * k) (range_with_len 1 (n / 10)) ++ cond b ((1 + n) ∷ []) []) is
        ∙ ap (λ id. map (λ k. 10 * k) (range_with_len 1 (n / 10)) ++ id ∷ []) (itself is)
        ∙ sym (map-append (λ k. 10 * k) (range_with_len 1 (n / 10)) ((1 + n / 10) ∷ []))
        ∙ ap (λ ks. map (λ k. 10 * k) ks) (sym (range_with_len-push 1 (n / 10)))
        ∙ ap (λ m. map (λ k. 10 * k) (range_with_len 1 m)) (sym (tenth is))
    by_test false isn't =
        ap (λ b. map (λ k. 10 * k) (range_with_len 1 (n / 10)) ++ cond b ((1 + n) ∷ []) []) isn't
        ∙ append-nil (map (λ k. 10 * k) (range_with_len 1 (n / 10)))
        ∙ ap (λ m. map (λ k. 10 * k) (range_with_len 1 m)) (none isn't)

tens : (n : ℕ) → filter is_deleted (range_with_len 1 n) ≡ map (λ k. 10 * k) (range_with_len 1 (n / 10))
tens zero = refl
tens (suc n) = rw add-one at (tens_more n (tens n))

pub deletes-tens : (texts : List (List ℕ)) → deletes_of texts 1 0 ≡ map (λ k. call.Delete (10 * k)) (range_with_len 1 (length texts / 10))
deletes-tens texts =
    deletes-one texts ∙ ap (λ ids. map call.Delete ids) (tens (length texts)) ∙ mapped (range_with_len 1 (length texts / 10)) where
      mapped : (ks : List ℕ) → map call.Delete (map (λ k. 10 * k) ks) ≡ map (λ k. call.Delete (10 * k)) ks
      mapped [] = refl
      mapped (k ∷ ks) = ap (λ calls. call.Delete (10 * k) ∷ calls) (mapped ks)
