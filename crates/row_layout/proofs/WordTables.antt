-- A table of words with one word more, and what a walk through it shows.
use Rattle.std.proofs.Common.{◌≡◌, ◌≢◌, ℕ, ◌+◌, ◌<◌, ◌≤◌, false, List, length, replicate, set, get_or, None, ap, sym, subst, ◌∙◌, ⊎_elim, arith, get_or-set_same, get_or-set_other, length-set}
use Rattle.std.specs.Prelude.{All}
use Rattle.std.specs.Ordering.{nat_cmp, is_eq}
use Rattle.std.specs.Cmp.Lexicographic.{slice_cmp, bytes_decides}
use Rattle.std.specs.Str.{bytes_eq}
use Rattle.std.proofs.lemmas.Bool.{cases_lt, cases_eq, false_from_ne_true}
use Rattle.std.proofs.lemmas.List.{get_or_default, get_or_past, get_or-replicate, length-replicate}
use Rattle.std.proofs.lemmas.List.Elements.{recursion_from_All}
use Rattle.std.proofs.lemmas.Map.Text.{is_eq-slice_cmp}
use Rattle.std.proofs.lemmas.Nat.{and_le_r}
use Rattle.funnel_model.specs.Listed.{listed_count}
use Rattle.funnel_model.proofs.ListedLemmas.{listed_count-none}
use Rattle.row_layout.specs.WordTables.{AreTaken, HasFreeSlot, HoldsFirst, IsFirstFree, StandsAt, home_of, slot_at, spread_of, tag_of}
use Rattle.row_layout.specs.declared.word_table.Slot.{Slot}

-- a slot that is free where another is taken is not that one
apart : (slots : List Slot) (k at : ℕ) → 1 ≤ (slot_at slots k).tag → (slot_at slots at).tag ≡ 0 → k ≢ at
apart slots k at taken free same =
    let zero : (slot_at slots k).tag ≡ 0 = subst (λ (j : ℕ). (slot_at slots j).tag ≡ 0) (sym same) free in
    omega arith

-- a slot is put where one is free
module _ (slots : List Slot) (slot : Slot) (at : ℕ) (within : at < length slots) (free : (slot_at slots at).tag ≡ 0) (used : 1 ≤ slot.tag) where
  here : slot_at (set slots at slot) at ≡ slot
  here = get_or-set_same slots at slot (record { tag = 0; index = 0 }) within

  elsewhere : (k : ℕ) → k ≢ at → slot_at (set slots at slot) k ≡ slot_at slots k
  elsewhere k other = get_or-set_other slots at k slot (record { tag = 0; index = 0 }) other

  still_taken : (k : ℕ) → 1 ≤ (slot_at slots k).tag → 1 ≤ (slot_at (set slots at slot) k).tag
  still_taken k taken = subst (λ (s : Slot). 1 ≤ s.tag) (sym (elsewhere k (apart slots k at taken free))) taken

  still_all_taken : (from to : ℕ) → AreTaken slots from to → AreTaken (set slots at slot) from to
  still_all_taken from to taken = record { each = λ k low high. still_taken k (taken.each k low high) }

  -- who stood there stands there still
  still_stands : (mask spread index place : ℕ) → StandsAt mask slots spread index place → StandsAt mask (set slots at slot) spread index place
  still_stands mask spread index place stands =
      let tag : (slot_at slots place).tag ≡ tag_of spread = ap (λ (s : Slot). s.tag) stands.slot in
      let other : place ≢ at = apart slots place at (omega arith) free in
      record {
        after = stands.after;
        within = omega (arith, stands.within, length-set slots at slot);
        slot = elsewhere place other ∙ stands.slot;
        taken = still_all_taken (home_of mask spread) place stands.taken;
      }

-- there is a free slot for the next word
pub room : (words : List (List ℕ × ℕ)) (count mask : ℕ) (slots : List Slot) (spread : ℕ) → HoldsFirst words count mask slots → count < length words → HasFreeSlot slots (home_of mask spread)
room words count mask slots spread holds more = record {
  free = mask + count;
  after = omega (arith, and_le_r spread mask);
  within = omega (arith, holds.long);
  is_free = holds.rest_free (mask + count) (omega arith);
}

-- one word more stands in the first slot that was free from its home on
pub holds_more : (words : List (List ℕ × ℕ)) (count mask : ℕ) (slots : List Slot) (entry : List ℕ × ℕ) (at : ℕ) → HoldsFirst words count mask slots → count < length words → get_or words count entry ≡ entry →
    IsFirstFree slots (home_of mask (spread_of entry.0)) at → HoldsFirst words (count + 1) mask (set slots at (record { tag = tag_of (spread_of entry.0); index = count }))
holds_more words count mask slots entry at holds more is first =
    let slot : Slot = record { tag = tag_of (spread_of entry.0); index = count } in
    let used : 1 ≤ slot.tag = omega arith in
    let low : at ≤ mask + count =
    ⊎_elim
    (λ (beyond : mask + count < at). absurd (omega (arith, first.taken.each (mask + count) (omega (arith, and_le_r (spread_of entry.0) mask)) beyond, holds.rest_free (mask + count) (omega arith))))
    (λ (h : at ≤ mask + count). h)
    (cases_lt (mask + count) at) in
    record {
      each = λ i d less.
          ⊎_elim
          (λ (same : i ≡ count).
          let word : (get_or words i d).0 ≡ entry.0 =
          ap (λ (e : List ℕ × ℕ). e.0) (ap (λ (j : ℕ). get_or words j d) same ∙ get_or_default words count d entry more ∙ is) in (
            at,
            subst (λ (w : List ℕ). StandsAt mask (set slots at slot) (spread_of w) i at) (sym word)
                (subst (λ (j : ℕ). StandsAt mask (set slots at slot) (spread_of entry.0) j at) (sym same)
                (record {
                  after = first.after;
                  within = omega (arith, first.within, length-set slots at slot);
                  slot = here slots slot at first.within first.is_free used;
                  taken = still_all_taken slots slot at first.within first.is_free used _ _ first.taken;
                })),
          ))
          (λ (other : i ≡ count → ⊥).
          let stands = holds.each i d (omega arith) in
          (stands.0, still_stands slots slot at first.within first.is_free used mask (spread_of (get_or words i d).0) i stands.0 stands.1))
          (cases_eq i count);
      no_other = λ k taken.
          ⊎_elim
          (λ (same : k ≡ at).
          let index : (slot_at (set slots at slot) k).index ≡ count =
          ap (λ (j : ℕ). (slot_at (set slots at slot) j).index) same ∙ ap (λ (s : Slot). s.index) (here slots slot at first.within first.is_free used) in
          omega arith)
          (λ (other : k ≡ at → ⊥).
          let same : slot_at (set slots at slot) k ≡ slot_at slots k = elsewhere slots slot at first.within first.is_free used k other in
          let before : (slot_at slots k).index < count = holds.no_other k (subst (λ (s : Slot). 1 ≤ s.tag) same taken) in
          let index : (slot_at (set slots at slot) k).index ≡ (slot_at slots k).index = ap (λ (s : Slot). s.index) same in
          omega arith)
          (cases_eq k at);
      rest_free = λ k beyond.
          ap (λ (s : Slot). s.tag) (elsewhere slots slot at first.within first.is_free used k (λ same. absurd (omega arith)))
          ∙ holds.rest_free k (omega arith);
      long = length-set slots at slot ∙ holds.long;
    }

-- none of the slots from the first number on, up to the second, is free or has the word
pub record ArePassed (words : List (List ℕ × ℕ)) (word : List ℕ) (slots : List Slot) (from to : ℕ) : Type 0 where
  pub after : from ≤ to
  pub taken : AreTaken slots from to
  pub differ : (k : ℕ) (d : List ℕ × ℕ) → from ≤ k → k < to → (slot_at slots k).tag ≡ tag_of (spread_of word) → (get_or words (slot_at slots k).index d).0 ≡ word → ⊥

-- a word that was not met before a free slot is not listed
pub not_listed : (words : List (List ℕ × ℕ)) (word : List ℕ) (mask : ℕ) (slots : List Slot) (at : ℕ) → HoldsFirst words (length words) mask slots →
    ArePassed words word slots (home_of mask (spread_of word)) at → (slot_at slots at).tag ≡ 0 → listed_count words word ≡ None
not_listed words word mask slots at holds passed free =
    listed_count-none words word (recursion_from_All (λ (entry : List ℕ × ℕ). is_eq (slice_cmp nat_cmp entry.0 word) ≡ false) words differ)
  where
    not_at : (i : ℕ) (d : List ℕ × ℕ) → i < length words → (get_or words i d).0 ≡ word → ⊥
    not_at i d less same =
        let stands = holds.each i d less in
        let mine : StandsAt mask slots (spread_of word) i stands.0 = subst (λ (w : List ℕ). StandsAt mask slots (spread_of w) i stands.0) same stands.1 in
        let tag : (slot_at slots stands.0).tag ≡ tag_of (spread_of word) = ap (λ (s : Slot). s.tag) mine.slot in
        let index : (slot_at slots stands.0).index ≡ i = ap (λ (s : Slot). s.index) mine.slot in
        ⊎_elim
        (λ (before : stands.0 < at).
        passed.differ stands.0 d mine.after before tag (ap (λ (j : ℕ). (get_or words j d).0) index ∙ same))
        (λ (behind : at ≤ stands.0).
        ⊎_elim
        (λ (later : at < stands.0). absurd (omega (arith, mine.taken.each at passed.after later)))
        (λ (low : stands.0 ≤ at).
        let here : stands.0 ≡ at = omega arith in
        let zero : (slot_at slots stands.0).tag ≡ 0 = subst (λ (j : ℕ). (slot_at slots j).tag ≡ 0) (sym here) free in
        absurd (omega arith))
        (cases_lt at stands.0))
        (cases_lt stands.0 at)

    differ : All (λ (entry : List ℕ × ℕ). is_eq (slice_cmp nat_cmp entry.0 word) ≡ false) words
    differ i d less =
        is_eq-slice_cmp (get_or words i d).0 word
        ∙ false_from_ne_true (bytes_eq (get_or words i d).0 word) (λ same. not_at i d less ((bytes_decides (get_or words i d).0 word).0 same))

-- no slot is passed at the home
pub none_passed : (words : List (List ℕ × ℕ)) (word : List ℕ) (slots : List Slot) (from at : ℕ) → at ≡ from → ArePassed words word slots from at
none_passed words word slots from at start = record {
  after = omega arith;
  taken = record { each = λ k low high. absurd (omega arith) };
  differ = λ k d low high. absurd (omega arith);
}

-- one more slot is taken
pub taken_more : (slots : List Slot) (from at : ℕ) → AreTaken slots from at → 1 ≤ (slot_at slots at).tag → AreTaken slots from (at + 1)
taken_more slots from at taken here = record {
  each = λ k low high.
      ⊎_elim
      (λ (less : k < at). taken.each k low less)
      (λ (more : at ≤ k).
      let same : at ≡ k = omega arith in subst (λ (j : ℕ). 1 ≤ (slot_at slots j).tag) same here)
      (cases_lt k at);
}

-- where a slot is taken, the free one is behind it
pub room_behind : (slots : List Slot) (at : ℕ) → HasFreeSlot slots at → 1 ≤ (slot_at slots at).tag → HasFreeSlot slots (at + 1)
room_behind slots at room here = record {
  free = room.free;
  after =
      let other : at ≢ room.free = apart slots at room.free here room.is_free in
      omega (arith, room.after);
  within = room.within;
  is_free = room.is_free;
}

-- one more slot is passed that is taken and hasn't the word
pub passed_more : (words : List (List ℕ × ℕ)) (word : List ℕ) (slots : List Slot) (from at : ℕ) → ArePassed words word slots from at → 1 ≤ (slot_at slots at).tag →
    ((d : List ℕ × ℕ) → (slot_at slots at).tag ≡ tag_of (spread_of word) → (get_or words (slot_at slots at).index d).0 ≡ word → ⊥) → ArePassed words word slots from (at + 1)
passed_more words word slots from at passed here other = record {
  after = omega (arith, passed.after);
  taken = taken_more slots from at passed.taken here;
  differ = λ k d low high.
      ⊎_elim
      (λ (less : k < at). passed.differ k d low less)
      (λ (more : at ≤ k).
      let same : at ≡ k = omega arith in
      subst (λ (j : ℕ). (slot_at slots j).tag ≡ tag_of (spread_of word) → (get_or words (slot_at slots j).index d).0 ≡ word → ⊥) same (other d))
      (cases_lt k at);
}

-- in a table without a word each slot is free
pub holds_none : (words : List (List ℕ × ℕ)) (mask : ℕ) (slots : List Slot) → slots ≡ replicate (mask + length words) (record { tag = 0; index = 0 }) → HoldsFirst words 0 mask slots
holds_none words mask slots is = record {
  each = λ i d less. absurd (omega arith);
  no_other = λ k taken. absurd (let e = free k in omega arith);
  rest_free = λ k beyond. free k;
  long = ap length is ∙ length-replicate (mask + length words) (record { tag = 0; index = 0 });
}
  where
    all_free : (n k : ℕ) → slot_at (replicate n (record { tag = 0; index = 0 })) k ≡ record { tag = 0; index = 0 }
    all_free n k =
        ⊎_elim
        (λ (less : k < n). get_or-replicate n k (record { tag = 0; index = 0 }) (record { tag = 0; index = 0 }) less)
        (λ (beyond : n ≤ k). get_or_past (replicate n (record { tag = 0; index = 0 })) k (record { tag = 0; index = 0 }) (omega (arith, length-replicate n (let s : Slot = record { tag = 0; index = 0 } in s))))
        (cases_lt k n)

    free : (k : ℕ) → (slot_at slots k).tag ≡ 0
    free k = ap (λ (xs : List Slot). (slot_at xs k).tag) is ∙ ap (λ (s : Slot). s.tag) (all_free (mask + length words) k)
