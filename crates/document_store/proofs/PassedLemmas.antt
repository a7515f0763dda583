-- How far the first slots of a slice are over, once one of them is another.
use Rattle.std.proofs.Common.{◌≡◌, ℕ, ◌<◌, ◌≤◌, true, false, List, length, get_or, set, replicate, sym, ap, ◌∙◌, ⊎_elim, arith}
use Rattle.std.proofs.lemmas.Bool.{both_ways, cases_eq, cases_lt}
use Rattle.std.proofs.lemmas.List.{get_or-replicate, get_or-set_other, get_or-set_same, length-replicate, length-set}
use Rattle.document_store.specs.Slots.{ComesPastOver, free_slot, is_over}
use Rattle.document_store.specs.declared.slots.Slot.{Slot}

-- none of these is over, and so none is come past
pub passed-none : (n : ℕ) → ComesPastOver (replicate n free_slot) 0 0
passed-none n = record {
  onward = omega arith;
  within = omega arith;
  over = λ at from below. absurd (omega (arith, below));
  next = λ more. ap is_over (get_or-replicate n 0 free_slot free_slot (omega (arith, more, length-replicate n free_slot)));
}

module _ (slots : List Slot) (at : ℕ) (slot : Slot) (within : at < length slots) (not_over : is_over (get_or slots at free_slot) ≡ false) where
  -- another slot that is over is over still
  over_still : (place : ℕ) → is_over (get_or slots place free_slot) ≡ true → is_over (get_or (set slots at slot) place free_slot) ≡ true
  over_still place over =
      ap is_over
      (get_or-set_other slots at place slot free_slot
      (λ same. both_ways (is_over (get_or slots at free_slot)) not_over (ap (λ k. is_over (get_or slots k free_slot)) (sym same) ∙ over)))
      ∙ over

  -- one that isn't over is another that isn't
  pub passed-set : (first : ℕ) → is_over slot ≡ false → ComesPastOver slots 0 first → ComesPastOver (set slots at slot) 0 first
  passed-set first still is = record {
    onward = is.onward;
    within = let long = length-set slots at slot in let most = is.within in omega (arith, long, most);
    over = λ place from below. over_still place (is.over place from below);
    next = λ more.
        let was = is.next (omega (arith, more, length-set slots at slot)) in
        ⊎_elim
        (λ (same : first ≡ at). ap (λ k. is_over (get_or (set slots at slot) k free_slot)) same ∙ ap is_over (get_or-set_same slots at slot free_slot within) ∙ still)
        (λ ne. ap is_over (get_or-set_other slots at first slot free_slot ne) ∙ was)
        (cases_eq first at);
  }

  -- and where it is over from then on, one comes past those that follow
  pub passed-end : (first next : ℕ) → ComesPastOver slots 0 first → ComesPastOver (set slots at slot) first next → ComesPastOver (set slots at slot) 0 next
  passed-end first next is goes_on = record {
    onward = omega arith;
    within = goes_on.within;
    over = λ place from below.
        ⊎_elim
        (λ (before : place < first). over_still place (is.over place from before))
        (λ (later : first ≤ place). goes_on.over place later below)
        (cases_lt place first);
    next = goes_on.next;
  }

-- a slot that is another, and over where that was, changes nothing of that
pub passed-same : (slots : List Slot) (at : ℕ) (slot : Slot) → at < length slots → is_over slot ≡ is_over (get_or slots at free_slot) → (first : ℕ) → ComesPastOver slots 0 first →
    ComesPastOver (set slots at slot) 0 first
passed-same slots at slot within same first is = record {
  onward = is.onward;
  within = let long = length-set slots at slot in let most = is.within in omega (arith, long, most);
  over = λ place from below. still place ∙ is.over place from below;
  next = λ more. still first ∙ is.next (omega (arith, more, length-set slots at slot));
} where
  still : (place : ℕ) → is_over (get_or (set slots at slot) place free_slot) ≡ is_over (get_or slots place free_slot)
  still place =
      ⊎_elim
      (λ (here : place ≡ at).
      ap (λ k. is_over (get_or (set slots at slot) k free_slot)) here ∙ ap is_over (get_or-set_same slots at slot free_slot within) ∙ same ∙ ap (λ k. is_over (get_or slots k free_slot)) (sym here))
      (λ ne. ap is_over (get_or-set_other slots at place slot free_slot ne))
      (cases_eq place at)
