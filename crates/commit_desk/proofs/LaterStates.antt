-- What comes after a document was put on a column of a slice that isn't being cleared.
use Rattle.std.proofs.Common.{◌≡◌, ℕ, Bool, true, false, ◌||◌, List, [], ◌∷◌, ◌++◌, refl, sym, ap, ◌∙◌, append_assoc}
use Rattle.std.specs.List.{list_any}
use Rattle.std.proofs.lemmas.Bool.{both_ways, false_from_ne_true, or_left, or_parts, or_right}
use Rattle.std.proofs.lemmas.List.{append-nil}
use Rattle.funnel_model.specs.declared.event.Event.{Event}
use Rattle.funnel_model.specs.Events.{clears, opens}
use Rattle.funnel_model.specs.History.{Document}
use Rattle.funnel_model.specs.Slices.{IsPutOn, is_clearing, span}
use Rattle.funnel_model.proofs.Spans.{in_span-push}

-- what is in the span of a slice stays in it while the slice isn't opened
in_span-append : (test : Event → Bool) (slice : ℕ) (history later : List Event) → list_any (opens slice) later ≡ false → list_any test (span slice history) ≡ true →
    list_any test (span slice (history ++ later)) ≡ true
in_span-append test slice history [] stays has = ap (λ h. list_any test (span slice h)) (append-nil history) ∙ has
in_span-append test slice history (e ∷ later) stays has =
    let parts = or_parts (opens slice e) (list_any (opens slice) later) stays in
    ap (λ h. list_any test (span slice h)) (sym (append_assoc history (e ∷ []) later))
    ∙ in_span-append test slice (history ++ e ∷ []) later parts.1 (in_span-push test slice history e parts.0 ∙ or_left (list_any test (span slice history)) (test e) has)

-- and what comes is in it
comes_in_span : (test : Event → Bool) (slice : ℕ) (history later : List Event) → list_any (opens slice) later ≡ false → list_any test later ≡ true →
    list_any test (span slice (history ++ later)) ≡ true
comes_in_span test slice history [] stays has = cc
comes_in_span test slice history (e ∷ later) stays has = by (test e) refl (comes_in_span test slice (history ++ e ∷ []) later) where
  whole : (history ++ e ∷ []) ++ later ≡ history ++ e ∷ later
  whole = append_assoc history (e ∷ []) later

  by : (b : Bool) → test e ≡ b → (list_any (opens slice) later ≡ false → list_any test later ≡ true → list_any test (span slice ((history ++ e ∷ []) ++ later)) ≡ true) →
      list_any test (span slice (history ++ e ∷ later)) ≡ true
  by true is in_rest =
      let parts = or_parts (opens slice e) (list_any (opens slice) later) stays in
      ap (λ h. list_any test (span slice h)) (sym whole)
      ∙ in_span-append test slice (history ++ e ∷ []) later parts.1 (in_span-push test slice history e parts.0 ∙ or_right (list_any test (span slice history)) (test e) is)
  by false is in_rest =
      let parts = or_parts (opens slice e) (list_any (opens slice) later) stays in
      ap (λ h. list_any test (span slice h)) (sym whole)
      ∙ in_rest parts.1 (sym (ap (λ b. b || list_any test later) is) ∙ has)

-- a slice that isn't being cleared wasn't since a document was put on it
pub not_cleared_since : (history : List Event) (slice column : ℕ) (d : Document) (since : ℕ) (later : List Event) → is_clearing slice history ≡ false →
    IsPutOn history slice column d since later → list_any (clears slice) later ≡ false
not_cleared_since history slice column d since later not_clearing put =
    false_from_ne_true (list_any (clears slice) later) (λ cleared.
    let whole : history ≡ (put.earlier ++ put.event ∷ []) ++ later = put.whole ∙ sym (append_assoc put.earlier (put.event ∷ []) later) in
    both_ways (is_clearing slice history) not_clearing
    (ap (is_clearing slice) whole ∙ comes_in_span (clears slice) slice (put.earlier ++ put.event ∷ []) later put.stays cleared))
