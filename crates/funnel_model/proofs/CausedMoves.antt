-- Histories whose moves have their cause.
use Rattle.std.proofs.Common.{⊎_elim, ◌≡◌, Bool, true, false, ◌||◌, refl, List, [], ◌∷◌, ◌++◌, sym, ap, ◌∙◌, subst, append_assoc}
use Rattle.std.proofs.Math.Bool.{or-false, or_assoc}
use Rattle.std.proofs.lemmas.Bool.{false≢true, or_from, or_left, or_parts}
use Rattle.std.proofs.lemmas.List.{append-nil}
use Rattle.std.specs.List.{list_any}
use Rattle.std.specs.Prelude.{◌↔◌}
use Rattle.funnel_model.specs.declared.event.Event.{Event}
use Rattle.funnel_model.specs.Events.{moves}
use Rattle.funnel_model.specs.History.{MovesAreCaused, MovesNothing, has_cause, has_cause_from, is_cause}
use Rattle.funnel_model.proofs.Spans.{not_empty, split_at_end}

-- a cause in two parts of the later events
has_cause_from-append : (before xs ys : List Event) → has_cause_from before (xs ++ ys) ≡ (has_cause_from before xs || has_cause_from (before ++ xs) ys)
has_cause_from-append before [] ys = ap (λ h. has_cause_from h ys) (sym (append-nil before))
has_cause_from-append before (x ∷ xs) ys =
    let first = is_cause before x in
    let rest = has_cause_from (before ++ x ∷ []) xs in
    ap (λ b. first || b) (has_cause_from-append (before ++ x ∷ []) xs ys)
    ∙ sym (or_assoc first rest (has_cause_from ((before ++ x ∷ []) ++ xs) ys))
    ∙ ap (λ h. (first || rest) || has_cause_from h ys) (append_assoc before (x ∷ []) xs)

-- and in a history
pub has_cause-append : (xs ys : List Event) → has_cause (xs ++ ys) ≡ (has_cause xs || has_cause_from xs ys)
has_cause-append xs ys = has_cause_from-append [] xs ys

-- a cause of a front is one of the history
pub has_cause-grows : (xs ys : List Event) → has_cause xs ≡ true → has_cause (xs ++ ys) ≡ true
has_cause-grows xs ys has = has_cause-append xs ys ∙ or_left (has_cause xs) (has_cause_from xs ys) has

-- one more event
pub has_cause-push : (history : List Event) (e : Event) → has_cause (history ++ e ∷ []) ≡ (has_cause history || is_cause history e)
has_cause-push history e = has_cause-append history (e ∷ []) ∙ ap (λ b. has_cause history || b) (or-false (is_cause history e))

-- where a history has no cause, none of its events is one
pub no_cause_at : (history earlier : List Event) (e : Event) (later : List Event) → history ≡ earlier ++ e ∷ later → has_cause history ≡ false →
    is_cause earlier e ≡ false
no_cause_at history earlier e later whole none =
    let parts = or_parts (has_cause earlier) (has_cause_from earlier (e ∷ later)) (sym (has_cause-append earlier (e ∷ later)) ∙ ap has_cause (sym whole) ∙ none) in
    (or_parts (is_cause earlier e) (has_cause_from (earlier ++ e ∷ []) later) parts.1).0

pub caused-start : MovesAreCaused []
caused-start earlier e later whole moved = absurd (not_empty earlier later e (sym whole))

-- a front of such a history is one
pub caused-front : (front rest : List Event) → MovesAreCaused (front ++ rest) → MovesAreCaused front
caused-front front rest caused earlier e later whole =
    caused earlier e (later ++ rest) (ap (λ h. h ++ rest) whole ∙ append_assoc earlier (e ∷ later) rest)

-- one more event, which moves nothing or has its cause
caused-more : (history : List Event) (e : Event) → MovesAreCaused history → (moves e ≡ true → has_cause history ≡ true) → MovesAreCaused (history ++ e ∷ [])
caused-more history e before cause earlier x later whole moved =
    ⊎_elim
    (λ end. subst (λ h. has_cause h ≡ true) end.1 (cause (ap moves end.2 ∙ moved)))
    (λ more. before earlier x more.0 more.2 moved)
    (split_at_end history earlier later e x whole)

pub caused-push : (history : List Event) (e : Event) → MovesAreCaused (history ++ e ∷ []) ↔ (MovesAreCaused history × (moves e ≡ true → has_cause history ≡ true))
caused-push history e = (λ caused. (caused-front history (e ∷ []) caused, caused history e [] refl), λ both. caused-more history e both.0 both.1)

-- with an event that moves nothing
pub caused-still : (history : List Event) (e : Event) → MovesAreCaused history → moves e ≡ false → MovesAreCaused (history ++ e ∷ [])
caused-still history e before unmoved = caused-more history e before (λ moved. absurd (false≢true (sym unmoved ∙ moved)))

-- where there is no cause nothing is moved
without_cause : (before later : List Event) → ((earlier : List Event) (e : Event) (rest : List Event) → before ++ later ≡ earlier ++ e ∷ rest → moves e ≡ true → has_cause earlier ≡ true) →
    has_cause (before ++ later) ≡ false → list_any moves later ≡ false
without_cause before [] caused none = refl
without_cause before (e ∷ later) caused none =
    let parts = or_parts (has_cause before) (has_cause_from before (e ∷ later)) (sym (has_cause-append before (e ∷ later)) ∙ none) in
    let here = unless (moves e) (λ moved. absurd (false≢true (sym parts.0 ∙ caused before e later refl moved))) in
    let whole = append_assoc before (e ∷ []) later in
    or_from (moves e) (list_any moves later) here
    (without_cause (before ++ e ∷ []) later (λ earlier x rest at. caused earlier x rest (sym whole ∙ at)) (ap has_cause whole ∙ none)) where
      unless : (b : Bool) → (b ≡ true → ⊥) → b ≡ false
      unless true not = absurd (not refl)
      unless false not = refl

pub uncaused : (history : List Event) → MovesAreCaused history → has_cause history ≡ false → MovesNothing history
uncaused history caused none = without_cause [] history caused none
