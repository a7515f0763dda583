-- What the shards' answers give together, in the order of the places.
use Rattle.std.proofs.Common.{◌≡◌, ◌≢◌, ℕ, zero, suc, ◌<◌, Bool, false, not, cond, List, [], ◌∷◌, ◌++◌, length, map, filter, get_or, sym, refl, ap, ◌∙◌, subst, arith, IsSorted, IsPermutation}
use Rattle.std.proofs.lemmas.Bool.{eqb-true, false_from_ne_true}
use Rattle.std.proofs.lemmas.Bool.Decides.{nat_tests}
use Rattle.std.proofs.lemmas.Cmp.{nat_eq_equiv, ranked}
use Rattle.std.proofs.lemmas.List.{get_or-map, length-map, map-append}
use Rattle.std.proofs.lemmas.List.Elements.{filter_agree}
use Rattle.std.proofs.lemmas.List.Kept.{AllPairs-filter, IsStrictlySortedBy-filter}
use Rattle.std.proofs.lemmas.List.Sorted.{Contains-permutation, IsPermutation-append_left, IsPermutation-filter_both, IsPermutation-map, IsPermutation-refl, IsPermutation-sym, IsPermutation-trans}
use Rattle.std.proofs.lemmas.Map.Keys.{IsDistinct-IsPermutation, IsDistinct-from_apart}
use Rattle.std.specs.List.{AllPairs, IsDistinct}
use Rattle.std.specs.List.Sorted.{IsStrictlySortedBy}
use Rattle.std.specs.Ordering.{nat_cmp}
use Rattle.std.specs.Prelude.{◌==◌, ◌&&◌, nat_lt}
use Rattle.std.specs.Cmp.{nat_cmp_is}
use Rattle.std.specs.declared.cmp.Ordering.TheVariants.{Less}
use Rattle.bare_history.specs.Bare.{bare, documents}
use Rattle.bare_history.proofs.BareLemmas.{bare_live}
use Rattle.commit_desk.specs.Judging.{answer_where}
use Rattle.commit_desk.proofs.Given.{found_where, numbers_are_answer}
use Rattle.commit_desk.proofs.Sorting.{pair_below, pairs_in_order, pairs_rise, rising-map, rising_from_pairs}
use Rattle.document_store.specs.Finding.{pair_cmp}
use Rattle.funnel_model.specs.declared.event.Event.{Event}
use Rattle.funnel_model.specs.History.{Document, live}
use Rattle.funnel_model.proofs.LiveLemmas.{live_in_order, live_once}
use Rattle.row_layout.proofs.OneList.{same_members}
use Rattle.shard_set.specs.Parts.{AreCommits, distinct_words, part, shard_of}
use Rattle.shard_set.proofs.Lists.{filter_both, filter_of_map, map_of_map}
use Rattle.shard_set.proofs.Parts.{is_in, part_has}
use Rattle.shard_set.proofs.Shards.{shard_below}

-- a document goes to the shard, and its text passes
abbrev pub kept_at : ℕ → ℕ → (List ℕ → Bool) → Document → Bool
kept_at shards shard test d = (shard_of shards d.text == shard) && test d.text

-- the numbers that a history's documents give by a test, by their texts alone
where_told : (history : List Event) (test : List ℕ → Bool) → answer_where history test ≡ map (λ (d : ℕ × List ℕ). d.0) (filter (λ (d : ℕ × List ℕ). test d.1) (documents history))
where_told history test =
    sym (ap (map (λ (d : ℕ × List ℕ). d.0)) (filter_of_map (λ (d : ℕ × List ℕ). test d.1) (λ (d : Document). (d.id, d.text)) (live history))
    ∙ map_of_map (λ (d : ℕ × List ℕ). d.0) (λ (d : Document). (d.id, d.text)) (filter (λ (d : Document). test d.text) (live history)))

-- a shard whose adds and deletes are its part of the list answers by the documents that go to it
pub shard_answers : (shards shard : ℕ) (list history : List Event) (test : List ℕ → Bool) → AreCommits list → bare history ≡ part shards list shard →
    answer_where history test ≡ map (λ (d : Document). d.id) (filter (kept_at shards shard test) (live list))
shard_answers shards shard list history test commits is =
    ap (λ (ds : List Document). map (λ (d : Document). d.id) (filter (λ (d : Document). test d.text) ds)) (bare_live history ∙ ap live is)
    ∙ where_told (part shards list shard) test
    ∙ ap (λ (ds : List (ℕ × List ℕ)). map (λ (d : ℕ × List ℕ). d.0) (filter (λ (d : ℕ × List ℕ). test d.1) ds)) (part_has shards shard list commits)
    ∙ ap (map (λ (d : ℕ × List ℕ). d.0)) (filter_both (λ (d : ℕ × List ℕ). test d.1) (is_in shards shard) (documents list)
    ∙ filter_of_map (λ (d : ℕ × List ℕ). is_in shards shard d && test d.1) (λ (d : Document). (d.id, d.text)) (live list))
    ∙ map_of_map (λ (d : ℕ × List ℕ). d.0) (λ (d : Document). (d.id, d.text)) (filter (kept_at shards shard test) (live list))

-- a document with its place
abbrev pub pair_of : Document → ℕ × ℕ
pair_of d = (d.place, d.id)

module _ (shards : ℕ) (list : List Event) (test : List ℕ → Bool) where
  -- what the documents of a shard give
  abbrev pub pairs_at : ℕ → List (ℕ × ℕ)
  pairs_at shard = map pair_of (filter (kept_at shards shard test) (live list))

  -- what those of the first so many shards give
  abbrev pub pairs_below : ℕ → List (ℕ × ℕ)
  pairs_below zero = []
  pairs_below (suc shard) = pairs_below shard ++ pairs_at shard

  -- a document goes to one of the first so many, and its text passes
  kept_below : ℕ → Document → Bool
  kept_below shard d = nat_lt (shard_of shards d.text) shard && test d.text

  none_kept : {A : Type 0} (p : A → Bool) (xs : List A) → ((x : A) → p x ≡ false) → filter p xs ≡ []
  none_kept p [] none = refl
  none_kept p (x ∷ xs) none = ap (λ b. cond b (x ∷ filter p xs) (filter p xs)) (none x) ∙ none_kept p xs none

  -- the documents of one shard more are those of the shards below it, and its own
  first_part : (s n : ℕ) (t : Bool) → ((nat_lt s (suc n) && t) && nat_lt s n) ≡ (nat_lt s n && t)
  first_part s n t = grind (arith, nat_tests)

  last_part : (s n : ℕ) (t : Bool) → ((nat_lt s (suc n) && t) && not (nat_lt s n)) ≡ ((s == n) && t)
  last_part s n t = grind (arith, nat_tests)

  none_below : (s : ℕ) (t : Bool) → (nat_lt s 0 && t) ≡ false
  none_below s t = grind (arith, nat_tests)

  pairs_are : (n : ℕ) → IsPermutation (pairs_below n) (map pair_of (filter (kept_below n) (live list)))
  unfolding kept_below
  pairs_are zero = subst (IsPermutation []) (sym (ap (map pair_of) (none_kept (kept_below 0) (live list) (λ d. none_below (shard_of shards d.text) (test d.text))))) (IsPermutation-refl [])
  pairs_are (suc n) =
      let below = λ (d : Document). nat_lt (shard_of shards d.text) n in
      let above = λ (d : Document). not (nat_lt (shard_of shards d.text) n) in
      let all = filter (kept_below (suc n)) (live list) in
      let first : filter below all ≡ filter (kept_below n) (live list) =
      filter_both below (kept_below (suc n)) (live list)
      ∙ filter_agree (λ d. kept_below (suc n) d && below d) (kept_below n) (λ d. first_part (shard_of shards d.text) n (test d.text)) (live list) in
      let last : filter above all ≡ filter (kept_at shards n test) (live list) =
      filter_both above (kept_below (suc n)) (live list)
      ∙ filter_agree (λ d. kept_below (suc n) d && above d) (kept_at shards n test) (λ d. last_part (shard_of shards d.text) n (test d.text)) (live list) in
      let parted : map pair_of (filter below all ++ filter above all) ≡ map pair_of (filter (kept_below n) (live list)) ++ pairs_at n =
      map-append pair_of (filter below all) (filter above all)
      ∙ ap (λ ds. map pair_of ds ++ map pair_of (filter above all)) first
      ∙ ap (λ ds. map pair_of (filter (kept_below n) (live list)) ++ map pair_of ds) last in
      let whole : IsPermutation (map pair_of all) (map pair_of (filter (kept_below n) (live list)) ++ pairs_at n) =
      subst (IsPermutation (map pair_of all)) parted
      (IsPermutation-map pair_of all (filter below all ++ filter above all) (IsPermutation-filter_both below above (λ d. refl) all)) in
      IsPermutation-trans (pairs_below n ++ pairs_at n) (map pair_of (filter (kept_below n) (live list)) ++ pairs_at n) (map pair_of all)
      (IsPermutation-append_left (pairs_at n) (pairs_below n) (map pair_of (filter (kept_below n) (live list))) (pairs_are n))
      (IsPermutation-sym (map pair_of all) (map pair_of (filter (kept_below n) (live list)) ++ pairs_at n) whole)

  kept_of_all : (s n : ℕ) (t : Bool) → s < n → (nat_lt s n && t) ≡ t
  kept_of_all s n t low = grind (arith, nat_tests)

  -- those of all shards together are those of the list, in some order
  pairs_of_all : 0 < shards → IsPermutation (pairs_below shards) (found_where list test)
  unfolding kept_below
  pairs_of_all some =
      subst (λ ds. IsPermutation (pairs_below shards) (map pair_of ds))
      (filter_agree (kept_below shards) (λ d. test d.text) (λ d. kept_of_all (shard_of shards d.text) shards (test d.text) (shard_below shards (distinct_words d.text) some)) (live list))
      (pairs_are shards)

  -- no two of them have one number
  found_apart : (ds : List Document) → AllPairs (λ (d e : Document). d.id ≢ e.id) ds → IsDistinct (λ (x y : ℕ × ℕ). x.1 == y.1) (map pair_of ds)
  found_apart ds once =
      let none : Document = record { id = 0; text = []; place = 0 } in
      IsDistinct-from_apart (λ (x y : ℕ × ℕ). x.1 == y.1) (map pair_of ds)
      (λ i j d lt in'.
      let below : j < length ds = omega (arith, in', length-map ds pair_of) in
      let first : get_or (map pair_of ds) i d ≡ pair_of (get_or ds i none) = get_or-map pair_of ds i none d (omega arith) in
      let second : get_or (map pair_of ds) j d ≡ pair_of (get_or ds j none) = get_or-map pair_of ds j none d below in
      ap (λ (x : ℕ × ℕ). x.1 == (get_or (map pair_of ds) j d).1) first ∙ ap (λ (x : ℕ × ℕ). (get_or ds i none).id == x.1) second
      ∙ false_from_ne_true ((get_or ds i none).id == (get_or ds j none).id) (λ same. once i j none lt below (eqb-true (get_or ds i none).id (get_or ds j none).id same)))

  -- and they rise by their places
  found_rises : IsStrictlySortedBy pair_cmp (found_where list test)
  found_rises =
      rising-map (λ (d e : Document). nat_cmp d.place e.place) pair_cmp (λ d. (d.place, d.id))
      (λ d e less. pair_below (d.place, d.id) (e.place, e.id) (ranked d.place e.place Less (sym less)))
      (filter (λ d. test d.text) (live list))
      (IsStrictlySortedBy-filter (λ (d e : Document). nat_cmp d.place e.place) (λ d. test d.text) (live list)
      (rising_from_pairs (λ (d e : Document). nat_cmp d.place e.place) (live list)
      (λ i j d lt in'. sym (nat_cmp_is (get_or (live list) i d).place (get_or (live list) j d).place Less (live_in_order list i j d lt in')))))

  -- so in order they are those of the list
  pub sorted_are : (sorted : List (ℕ × ℕ)) → 0 < shards → IsPermutation (pairs_below shards) sorted → IsSorted pair_cmp sorted → sorted ≡ found_where list test
  sorted_are sorted some permuted rises =
      let same : IsPermutation (found_where list test) sorted =
      IsPermutation-trans (found_where list test) (pairs_below shards) sorted (IsPermutation-sym (pairs_below shards) (found_where list test) (pairs_of_all some)) permuted in
      let apart = found_apart (filter (λ d. test d.text) (live list)) (AllPairs-filter (λ (d e : Document). d.id ≢ e.id) (λ d. test d.text) (live list) (live_once list)) in
      let distinct = IsDistinct-IsPermutation (λ (x y : ℕ × ℕ). x.1 == y.1) (λ x y. nat_eq_equiv.symm x.1 y.1) (found_where list test) sorted same apart in
      same_members pair_cmp pairs_in_order sorted (found_where list test) (pairs_rise sorted rises distinct) found_rises
      (λ pair has. Contains-permutation sorted (found_where list test) pair (IsPermutation-sym (found_where list test) sorted same) has)
      (λ pair has. Contains-permutation (found_where list test) sorted pair same has)

  -- and their numbers are the answer
  pub sorted_answer : (sorted : List (ℕ × ℕ)) → 0 < shards → IsPermutation (pairs_below shards) sorted → IsSorted pair_cmp sorted →
      map (λ (f : ℕ × ℕ). f.1) sorted ≡ answer_where list test
  sorted_answer sorted some permuted rises = ap (map (λ (f : ℕ × ℕ). f.1)) (sorted_are sorted some permuted rises) ∙ numbers_are_answer list test
