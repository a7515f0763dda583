-- Legal histories, event by event.
use Rattle.std.proofs.Common.{◌≡◌, List, [], ◌∷◌, ◌++◌, sym, refl, ap, subst, append_assoc}
use Rattle.std.proofs.lemmas.List.{append-nil}
use Rattle.funnel_model.specs.declared.event.Event.{Event}
use Rattle.funnel_model.specs.Legal.{Limits, IsAllowed, GoesOn, IsLegal}

-- what goes on over two parts goes on over each
pub goes_on_split : (limits : Limits) (history xs ys : List Event) → GoesOn limits history (xs ++ ys) → GoesOn limits history xs × GoesOn limits (history ++ xs) ys
goes_on_split limits history [] ys g = (tt, subst (λ (h : List Event). GoesOn limits h ys) (sym (append-nil history)) g)
goes_on_split limits history (x ∷ xs) ys g =
    let r = goes_on_split limits (history ++ x ∷ []) xs ys g.1 in
    ((g.0, r.0), subst (λ (h : List Event). GoesOn limits h ys) (append_assoc history (x ∷ []) xs) r.1)

pub goes_on_join : (limits : Limits) (history xs ys : List Event) → GoesOn limits history xs → GoesOn limits (history ++ xs) ys → GoesOn limits history (xs ++ ys)
goes_on_join limits history [] ys g h = subst (λ (k : List Event). GoesOn limits k ys) (append-nil history) h
goes_on_join limits history (x ∷ xs) ys g h =
    (g.0, goes_on_join limits (history ++ x ∷ []) xs ys g.1 (subst (λ (k : List Event). GoesOn limits k ys) (sym (append_assoc history (x ∷ []) xs)) h))

-- a history stays legal with an event that is allowed after it
pub legal-push : (limits : Limits) (history : List Event) (e : Event) → IsLegal limits history → IsAllowed limits history e → IsLegal limits (history ++ e ∷ [])
legal-push limits history e legal allowed = goes_on_join limits [] history (e ∷ []) legal (allowed, tt)

pub legal_before : (limits : Limits) (before later : List Event) → IsLegal limits (before ++ later) → IsLegal limits before
legal_before limits before later legal = (goes_on_split limits [] before later legal).0

pub allowed_within : (limits : Limits) (history before : List Event) (e : Event) (later : List Event) → IsLegal limits history → history ≡ before ++ e ∷ later → IsAllowed limits before e
allowed_within limits history before e later legal is =
    (goes_on_split limits [] before (e ∷ later) (subst (IsLegal limits) is legal)).1.0

-- each later event is allowed after the history and those between
pub goes_on_from_each : (limits : Limits) (history later : List Event) → ((before : List Event) (e : Event) (rest : List Event) → later ≡ before ++ e ∷ rest → IsAllowed limits (history ++ before) e) → GoesOn limits history later
goes_on_from_each limits history [] each = tt
goes_on_from_each limits history (x ∷ xs) each = (
  subst (λ (h : List Event). IsAllowed limits h x) (append-nil history) (each [] x xs refl),
  goes_on_from_each limits (history ++ x ∷ []) xs (λ before e rest is.
      subst (λ (h : List Event). IsAllowed limits h e) (sym (append_assoc history (x ∷ []) before)) (each (x ∷ before) e rest (ap (λ (ys : List Event). x ∷ ys) is))),
)

-- what holds of the empty history, and stays with each event that is allowed, holds of each legal history
pub holds_over : (limits : Limits) (P : List Event → Type 0) → ((h : List Event) (e : Event) → IsLegal limits h → P h → IsAllowed limits h e → P (h ++ e ∷ [])) → (history later : List Event) → IsLegal limits history → P history → GoesOn limits history later → P (history ++ later)
holds_over limits P step history [] legal p g = subst P (sym (append-nil history)) p
holds_over limits P step history (x ∷ xs) legal p g =
    subst P (append_assoc history (x ∷ []) xs)
    (holds_over limits P step (history ++ x ∷ []) xs (legal-push limits history x legal g.0) (step history x legal p g.0) g.1)

pub holds_of_legal : (limits : Limits) (P : List Event → Type 0) → P [] → ((h : List Event) (e : Event) → IsLegal limits h → P h → IsAllowed limits h e → P (h ++ e ∷ [])) → (history : List Event) → IsLegal limits history → P history
holds_of_legal limits P start step history legal = holds_over limits P step [] history tt start legal
