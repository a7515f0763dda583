-- What a find finds of its candidates, as the history before it tells.
use Rattle.std.proofs.Common.{◌≡◌, ⊎_elim, ℕ, zero, suc, ◌+◌, ◌-◌, ◌<◌, ◌≤◌, Bool, false, List, [], ◌∷◌, ◌++◌, length, get_or, take, drop, map, filter, Option, Some, None, refl, sym, ap, ◌∙◌, subst, arith, Contains, IsSorted, IsPermutation}
use Rattle.std.proofs.lemmas.Bool.{both_ways, eqb-true, false_from_ne_true}
use Rattle.std.proofs.lemmas.Cmp.{nat_eq_equiv, ranked}
use Rattle.std.proofs.lemmas.List.{get_or-drop, get_or-take, length-drop, length-take}
use Rattle.std.proofs.lemmas.List.Elements.{All-contains, Contains-get_or, recursion_from_All}
use Rattle.std.proofs.lemmas.List.Kept.{IsStrictlySortedBy-filter}
use Rattle.std.proofs.lemmas.List.Sorted.{Contains-permutation, IsPermutation-sym}
use Rattle.std.proofs.lemmas.Map.Keys.{IsDistinct-IsPermutation}
use Rattle.std.proofs.Math.Seq.{take-add}
use Rattle.std.specs.Cmp.{nat_cmp_is}
use Rattle.std.specs.List.{All, AllPairs, IsDistinct, cons_option, slice_range}
use Rattle.std.specs.List.Sorted.{IsStrictlySortedBy}
use Rattle.std.specs.Ordering.{nat_cmp}
use Rattle.std.specs.Prelude.{◌==◌}
use Rattle.std.specs.declared.cmp.Ordering.TheVariants.{Less}
use Rattle.document_store.specs.Finding.{pair_cmp}
use Rattle.funnel_model.specs.declared.event.Event.{Event}
use Rattle.funnel_model.specs.History.{Document, live}
use Rattle.funnel_model.specs.Legal.{IsLegal, Limits}
use Rattle.funnel_model.specs.Slices.{Live, IsLiveOn}
use Rattle.funnel_model.proofs.AnswerLemmas.{Contains-cons, Contains-filter, Contains-map}
use Rattle.funnel_model.proofs.Columns.{one_state}
use Rattle.funnel_model.proofs.LiveColumns.{live_column_is_live, live_on_one_column}
use Rattle.funnel_model.proofs.LiveLemmas.{live_in_order}
use Rattle.row_layout.proofs.OneList.{first_or_rest, same_members}
use Rattle.commit_desk.specs.Judging.{AreGivenWhere, GivesWhere, answer_where}
use Rattle.commit_desk.proofs.Sorting.{pair_below, pairs_in_order, pairs_rise, rising-map, rising_from_pairs}

-- the live documents whose text passes a test, each with the place of its add, in the order of their adds
abbrev pub found_where : List Event → (List ℕ → Bool) → List (ℕ × ℕ)
found_where history test = map (λ d. (d.place, d.id)) (filter (λ d. test d.text) (live history))

-- each of them is given by one of the candidates
abbrev pub GiveAllWhere : List Event → (List ℕ → Bool) → List (ℕ × ℕ) → Type 0
GiveAllWhere earlier test candidates =
    (found : ℕ × ℕ) → Contains (found_where earlier test) found → (candidate : ℕ × ℕ) × Contains candidates candidate × GivesWhere earlier test candidate (Some found)

-- the numbers of what a find finds are its answer
pub numbers_are_answer : (history : List Event) (test : List ℕ → Bool) → map (λ (f : ℕ × ℕ). f.1) (found_where history test) ≡ answer_where history test
numbers_are_answer history test = numbers (filter (λ d. test d.text) (live history)) where
  numbers : (ds : List Document) → map (λ (f : ℕ × ℕ). f.1) (map (λ (d : Document). (d.place, d.id)) ds) ≡ map (λ (d : Document). d.id) ds
  numbers [] = refl
  numbers (d ∷ ds) = ap (λ ids. d.id ∷ ids) (numbers ds)

-- the live documents rise by their places
live_rises : (history : List Event) → IsStrictlySortedBy (λ (d e : Document). nat_cmp d.place e.place) (live history)
live_rises history =
    rising_from_pairs (λ (d e : Document). nat_cmp d.place e.place) (live history)
    (λ i j d lt in'.
    let below = live_in_order history i j d lt in' in
    sym (nat_cmp_is (get_or (live history) i d).place (get_or (live history) j d).place Less below))

-- what is in a part of a list is in the list
pub Contains-range : {X : Type 0} (xs : List X) (from to : ℕ) (x : X) → Contains (slice_range xs from to) x → Contains xs x
Contains-range xs from to x (k, in', is) =
    let some : k < to - from = omega (arith, in', length-take (to - from) (drop from xs)) in
    (from + k, omega (arith, in', length-take (to - from) (drop from xs), length-drop from xs), sym (get_or-drop from xs k x) ∙ sym (get_or-take (to - from) (drop from xs) k x some) ∙ is)

-- the first items, and then a part
pub take_part : {X : Type 0} (xs : List X) (from to : ℕ) → from ≤ to → take to xs ≡ take from xs ++ slice_range xs from to
take_part xs from to low = ap (λ n. take n xs) (let e : to ≡ from + (to - from) = omega arith in e) ∙ take-add from (to - from) xs

-- an option, and then two lists
beside_both : {Y : Type 0} (o : Option Y) (xs ys : List Y) → cons_option o xs ++ ys ≡ cons_option o (xs ++ ys)
beside_both None xs ys = refl
beside_both (Some y) xs ys = refl

one_at_most : {Y : Type 0} (o : Option Y) (ys : List Y) → length (cons_option o ys) ≤ length ys + 1
one_at_most None ys = omega arith
one_at_most (Some y) ys = omega arith

kept_beside : {Y : Type 0} (o : Option Y) (ys : List Y) (y : Y) → Contains ys y → Contains (cons_option o ys) y
kept_beside None ys y has = has
kept_beside (Some z) ys y has = Contains-cons z ys y has

module _ (earlier : List Event) (test : List ℕ → Bool) where
  -- what some candidates give, and then others
  pub given_both : (candidates others found more : List (ℕ × ℕ)) → AreGivenWhere earlier test candidates found → AreGivenWhere earlier test others more →
      AreGivenWhere earlier test (candidates ++ others) (found ++ more)
  given_both [] others found more none given = subst (λ xs. AreGivenWhere earlier test others (xs ++ more)) (sym none) given
  given_both (candidate ∷ later) others found more first given = (
    first.0,
    first.1 ++ more,
    first.2,
    given_both later others first.1 more first.3 given,
    ap (λ xs. xs ++ more) first.4 ∙ beside_both first.0 first.1 more,
  )

  -- each candidate gives one at most
  pub given_few : (candidates found : List (ℕ × ℕ)) → AreGivenWhere earlier test candidates found → length found ≤ length candidates
  given_few [] found none = omega (arith, ap (λ (xs : List (ℕ × ℕ)). length xs) none)
  given_few (candidate ∷ later) found given =
      let few = given_few later given.1 given.3 in
      omega (arith, ap (λ (xs : List (ℕ × ℕ)). length xs) given.4, one_at_most given.0 given.1)

  -- what is given, a candidate gives
  pub given_by_one : (candidates found : List (ℕ × ℕ)) (pair : ℕ × ℕ) → AreGivenWhere earlier test candidates found → Contains found pair →
      (candidate : ℕ × ℕ) × Contains candidates candidate × GivesWhere earlier test candidate (Some pair)
  given_by_one [] found pair none has = let at : Contains [] pair = subst (λ (xs : List (ℕ × ℕ)). Contains xs pair) none has in absurd (omega (arith, at.1))
  given_by_one (candidate ∷ later) found pair given has =
      by_first (λ rest. let one = given_by_one later given.1 pair given.3 rest in (one.0, Contains-cons candidate later one.0 one.1, one.2)) given.0 given.2
      (subst (λ (xs : List (ℕ × ℕ)). Contains xs pair) given.4 has)
    where
      by_first : (Contains given.1 pair → (one : ℕ × ℕ) × Contains (candidate ∷ later) one × GivesWhere earlier test one (Some pair)) → (o : Option (ℕ × ℕ)) → GivesWhere earlier test candidate o → Contains (cons_option o given.1) pair → (one : ℕ × ℕ) × Contains (candidate ∷ later) one × GivesWhere earlier test one (Some pair)
      by_first of_rest None gives there = of_rest there
      by_first of_rest (Some first) gives there =
          ⊎_elim (λ (this : first ≡ pair). (candidate, (zero, omega arith, refl), subst (λ f. GivesWhere earlier test candidate (Some f)) this gives)) of_rest (first_or_rest first given.1 pair there)

  -- what a candidate gives is of the answer
  pub given_met : (candidate pair : ℕ × ℕ) → GivesWhere earlier test candidate (Some pair) → Contains (found_where earlier test) pair
  given_met candidate pair (d, since, lives, met, is) =
      let in_live = live_column_is_live earlier candidate.0 candidate.1 d since lives in
      subst (Contains (found_where earlier test)) (sym is)
      (Contains-map (λ (x : Document). (x.place, x.id)) (filter (λ x. test x.text) (live earlier)) d (Contains-filter (λ (x : Document). test x.text) (live earlier) d in_live met))

  -- the answer rises
  met_rises : IsStrictlySortedBy pair_cmp (found_where earlier test)
  met_rises =
      rising-map (λ (d e : Document). nat_cmp d.place e.place) pair_cmp (λ d. (d.place, d.id))
      (λ d e less. pair_below (d.place, d.id) (e.place, e.id) (ranked d.place e.place Less (sym less)))
      (filter (λ d. test d.text) (live earlier))
      (IsStrictlySortedBy-filter (λ (d e : Document). nat_cmp d.place e.place) (λ d. test d.text) (live earlier) (live_rises earlier))

  module _ (limits : Limits) (legal : IsLegal limits earlier) where
    -- a column has one live document
    one_document : (slice column since other : ℕ) (d e : Document) → IsLiveOn earlier slice column d since → IsLiveOn earlier slice column e other → d ≡ e
    one_document slice column since other d e is also = let same = one_state limits earlier slice column (Live d since) (Live e other) legal is also in cc

    -- a candidate gives one pair
    pub gives_once : (candidate pair : ℕ × ℕ) (given : Option (ℕ × ℕ)) → GivesWhere earlier test candidate given → GivesWhere earlier test candidate (Some pair) → given ≡ Some pair
    gives_once candidate pair None gives (d, since, lives, met, is) = absurd (both_ways (test d.text) (gives d since lives) met)
    gives_once candidate pair (Some other) (e, after, also, also_met, also_is) (d, since, lives, met, is) =
        let same = one_document candidate.0 candidate.1 after since e d also lives in
        ap Some (also_is ∙ ap (λ (x : Document). (x.place, x.id)) same ∙ sym is)

    -- and it is among what all of them give
    pub given_among : (candidates found : List (ℕ × ℕ)) (candidate pair : ℕ × ℕ) → AreGivenWhere earlier test candidates found → Contains candidates candidate →
        GivesWhere earlier test candidate (Some pair) → Contains found pair
    given_among [] found candidate pair given has gives = absurd (omega (arith, has.1))
    given_among (first ∷ later) found candidate pair given has gives =
        subst (λ (xs : List (ℕ × ℕ)). Contains xs pair) (sym given.4)
        (⊎_elim
        (λ (this : first ≡ candidate).
        let is = gives_once first pair given.0 given.2 (subst (λ c. GivesWhere earlier test c (Some pair)) (sym this) gives) in
        subst (λ o. Contains (cons_option o given.1) pair) (sym is) (zero, omega arith, refl))
        (λ (rest : Contains later candidate). kept_beside given.0 given.1 pair (given_among later given.1 candidate pair given.3 rest gives))
        (first_or_rest first later candidate has))

    -- two candidates give documents of two numbers
    given_apart : (candidate other pair also : ℕ × ℕ) → (candidate ≡ other → ⊥) → GivesWhere earlier test candidate (Some pair) → GivesWhere earlier test other (Some also) → (pair.1 == also.1) ≡ false
    given_apart candidate other pair also apart (d, since, lives, met, is) (e, after, also_lives, also_met, also_is) =
        false_from_ne_true (pair.1 == also.1)
        (λ same.
        let number : d.id ≡ e.id = sym (ap (λ (p : ℕ × ℕ). p.1) is) ∙ eqb-true pair.1 also.1 same ∙ ap (λ (p : ℕ × ℕ). p.1) also_is in
        let one = live_on_one_column limits earlier candidate.0 candidate.1 other.0 other.1 since after d e legal lives also_lives number in
        apart (λ k. (one.0 k, one.1 k)))

    -- no number is given twice
    given_distinct : (candidates found : List (ℕ × ℕ)) → AllPairs (λ (candidate other : ℕ × ℕ). candidate ≡ other → ⊥) candidates → AreGivenWhere earlier test candidates found →
        IsDistinct (λ (x y : ℕ × ℕ). x.1 == y.1) found
    unfolding IsDistinct
    given_distinct [] found once given = subst (IsDistinct (λ (x y : ℕ × ℕ). x.1 == y.1)) (sym given) tt
    given_distinct (candidate ∷ later) found once given =
        subst (IsDistinct (λ (x y : ℕ × ℕ). x.1 == y.1)) (sym given.4)
        (by_first given.0 given.2 (given_distinct later given.1 (λ i j d lt in'. once (suc i) (suc j) d (omega arith) (omega arith)) given.3))
      where
        others : All (λ other. candidate ≡ other → ⊥) later
        others k d in' = once 0 (suc k) d (omega arith) (omega arith)

        by_first : (o : Option (ℕ × ℕ)) → GivesWhere earlier test candidate o → IsDistinct (λ (x y : ℕ × ℕ). x.1 == y.1) given.1 →
            IsDistinct (λ (x y : ℕ × ℕ). x.1 == y.1) (cons_option o given.1)
        by_first None gives rest = rest
        by_first (Some pair) gives rest = (
          recursion_from_All (λ (w : ℕ × ℕ). (pair.1 == w.1) ≡ false) given.1
              (λ k d in'.
              let one = given_by_one later given.1 (get_or given.1 k d) given.3 (Contains-get_or given.1 k d in') in
              given_apart candidate one.0 pair (get_or given.1 k d) (All-contains (λ other. candidate ≡ other → ⊥) later one.0 others one.1) gives one.2),
          rest,
        )

    -- what all candidates give, in the order of the places, is the answer
    pub given_is_answer : (candidates found sorted : List (ℕ × ℕ)) → AllPairs (λ (candidate other : ℕ × ℕ). candidate ≡ other → ⊥) candidates → GiveAllWhere earlier test candidates →
        AreGivenWhere earlier test candidates found → IsPermutation found sorted → IsSorted pair_cmp sorted → sorted ≡ found_where earlier test
    given_is_answer candidates found sorted once all given permuted rises =
        let distinct = IsDistinct-IsPermutation (λ (x y : ℕ × ℕ). x.1 == y.1) (λ x y. nat_eq_equiv.symm x.1 y.1) found sorted permuted (given_distinct candidates found once given) in
        same_members pair_cmp pairs_in_order sorted (found_where earlier test) (pairs_rise sorted rises distinct) met_rises
        (λ pair has.
        let one = given_by_one candidates found pair given (Contains-permutation sorted found pair (IsPermutation-sym found sorted permuted) has) in
        given_met one.0 pair one.2)
        (λ pair has. let one = all pair has in Contains-permutation found sorted pair permuted (given_among candidates found one.0 pair given one.1 one.2))
