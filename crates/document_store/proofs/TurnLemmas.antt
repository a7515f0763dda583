-- A turn of a find, candidate by candidate.
use Rattle.std.proofs.Common.{◌≡◌, ℕ, ◌+◌, ◌-◌, ◌<◌, ◌≤◌, List, [], ◌∷◌, ◌++◌, length, get_or, take, drop, filter_map, Option, Some, None, refl, sym, ap, ◌∙◌, subst, inl, inr, arith, append_assoc, length-append, length-drop, min, sum_by}
use Rattle.std.specs.List.{cons_option, slice_range}
use Rattle.std.proofs.lemmas.Bool.{cases_lt}
use Rattle.std.proofs.lemmas.List.{append-nil, get_or-drop, take_more}
use Rattle.std.proofs.lemmas.List.Elements.{filter_map-append}
use Rattle.std.proofs.lemmas.List.Sums.{sum_by_push}
use Rattle.document_store.specs.Finding.{EndsTurn, FoundState}
use Rattle.document_store.specs.declared.resolving.TheConstants.{MOST_LOOK_UPS, MOST_LOOKED_FOR}

-- a part of a list, and one more
pub slice_range-more : {X : Type 0} (xs : List X) (from at : ℕ) (d : X) → from ≤ at → at < length xs → slice_range xs from (at + 1) ≡ slice_range xs from at ++ get_or xs at d ∷ []
slice_range-more xs from at d low within =
    let one : (at + 1) - from ≡ (at - from) + 1 = omega arith in
    let inside : at - from < length (drop from xs) = omega (arith, length-drop from xs) in
    let there : from + (at - from) ≡ at = omega arith in
    ap (λ n. take n (drop from xs)) one ∙ take_more (drop from xs) (at - from) d inside
    ∙ ap (λ x. slice_range xs from at ++ x ∷ []) (get_or-drop from xs (at - from) d ∙ ap (λ n. get_or xs n d) there)

-- one option has one item at most
few_given : {Y : Type 0} (o : Option Y) → length (cons_option o []) ≤ 1
few_given None = omega arith
few_given (Some y) = omega arith

module _ (find : ℕ × ℕ → Option (ℕ × ℕ)) (looked : ℕ × ℕ → ℕ) (candidates : List (ℕ × ℕ)) (from : ℕ) where
  -- what the candidates before this one give is found, and so many words may be looked for still
  pub record IsTurnTo (before now : FoundState) (left at : ℕ) : Type 0 where
    pub found : now.found ≡ before.found ++ filter_map find (slice_range candidates from at)
    pub left_is : left ≡ MOST_LOOKED_FOR - sum_by looked (slice_range candidates from at)
    pub looked_before : (other : ℕ) → other < at → sum_by looked (slice_range candidates from other) < MOST_LOOKED_FOR
    pub enough : length candidates ≤ now.room + at
    pub room : now.room + length now.found ≡ before.room + length before.found

  -- no candidate is before the first, or before one that comes earlier
  none_before : (at : ℕ) → at ≤ from → slice_range candidates from at ≡ []
  none_before at low = ap (λ n. take n (drop from candidates)) (let e : at - from ≡ 0 = omega arith in e)

  pub turn_begins : (before : FoundState) → length candidates ≤ before.room + from → IsTurnTo before before MOST_LOOKED_FOR from
  turn_begins before enough = record {
    found = sym (ap (λ cs. before.found ++ filter_map find cs) (none_before from (omega arith)) ∙ append-nil before.found);
    left_is = sym (ap (λ cs. MOST_LOOKED_FOR - sum_by looked cs) (none_before from (omega arith)));
    looked_before = λ other less. let none = ap (sum_by looked) (none_before other (omega (arith, less))) in omega (arith, none);
    enough = enough;
    room = refl;
  }

  -- one more candidate
  pub turn_goes_on : (before now next : FoundState) (left after at : ℕ) (d : ℕ × ℕ) → from ≤ at → at < length candidates → IsTurnTo before now left at → 1 ≤ left →
      next.found ≡ now.found ++ cons_option (find (get_or candidates at d)) [] → after ≡ left - looked (get_or candidates at d) → next.room + length next.found ≡ now.room + length now.found →
      IsTurnTo before next after (at + 1)
  turn_goes_on before now next left after at d low within is some found_is after_is room_is =
      let candidate = get_or candidates at d in
      let given = cons_option (find candidate) [] in
      let more = slice_range-more candidates from at d low within in
      let part = slice_range candidates from at in
      let count : sum_by looked (slice_range candidates from (at + 1)) ≡ sum_by looked part + looked candidate = ap (sum_by looked) more ∙ sum_by_push looked part candidate in
      record {
        found = found_is ∙ ap (λ xs. xs ++ given) is.found ∙ append_assoc before.found (filter_map find part) given
            ∙ ap (λ xs. before.found ++ xs) (sym (ap (filter_map find) more ∙ filter_map-append find part (candidate ∷ [])));
        left_is = omega (arith, after_is, count, is.left_is);
        looked_before = λ other less. elim (cases_lt other at) [
          | inl earlier ↦ is.looked_before other earlier
          | inr last ↦
              let same : at ≡ other = omega (arith, less, last) in
              let here : sum_by looked part < MOST_LOOKED_FOR = omega (arith, is.left_is, some) in
              subst (λ n. sum_by looked (slice_range candidates from n) < MOST_LOOKED_FOR) same here
        ];
        enough = omega (arith, is.enough, room_is, ap length found_is, length-append now.found given, few_given (find candidate));
        room = room_is ∙ is.room;
      }

  -- a turn that has looked for as many words as it may is over
  pub turn_is_over : (before now : FoundState) (at : ℕ) → at < length candidates → from ≤ at → at < from + MOST_LOOK_UPS → IsTurnTo before now 0 (at + 1) →
      EndsTurn candidates looked from (at + 1)
  turn_is_over before now at within low few is = record {
    within = omega (arith, within);
    onward = omega (arith, low);
    further = λ some. omega (arith, low);
    looked_up = omega (arith, few);
    looked_before = is.looked_before;
    over = λ rest fewer. omega (arith, is.left_is);
  }

  -- and so is one that has looked up as many candidates, or all
  pub turn_comes_to : (before now : FoundState) (left end : ℕ) → from ≤ length candidates → end ≡ from + min (length candidates - from) MOST_LOOK_UPS → IsTurnTo before now left end →
      EndsTurn candidates looked from end
  turn_comes_to before now left end within end_is is = record {
    within = omega (arith, end_is, within);
    onward = omega (arith, end_is);
    further = λ some. omega (arith, end_is, some);
    looked_up = omega (arith, end_is);
    looked_before = is.looked_before;
    over = λ rest fewer. absurd (omega (arith, end_is, rest, fewer));
  }
