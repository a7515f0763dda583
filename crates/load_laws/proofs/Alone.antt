-- When a pass is alone in a legal history.
use Rattle.std.proofs.Common.{◌≡◌, ◌≢◌, ℕ, ◌<◌, ◌==◌, true, false, List, [], ◌∷◌, ◌++◌, inl, inr, sym, refl, ap, ◌∙◌, subst, append_assoc, eq-eqb}
use Rattle.std.specs.List.{list_any}
use Rattle.std.proofs.lemmas.Bool.{cases_eq, false≢true, or_left, or_parts, or_right}
use Rattle.std.proofs.lemmas.List.{append-nil}
use Rattle.std.proofs.lemmas.List.Elements.{All-cons, All-head, All-nil}
use Rattle.funnel_model.specs.declared.event.Event.{Event}
use Rattle.funnel_model.specs.Events.{pass_of}
use Rattle.funnel_model.specs.History.{IsFrontOf}
use Rattle.funnel_model.specs.Legal.{Limits, IsLegal}
use Rattle.funnel_model.proofs.Histories.{allowed_within}
use Rattle.load_laws.specs.LonePass.{IsAlone}
use Rattle.load_laws.proofs.Quiet.{alone_rest}

-- a pass of which an event is in the history has one there
has_event : (earlier later : List Event) (e : Event) → list_any (λ x. pass_of x == pass_of e) (earlier ++ e ∷ later) ≡ true
has_event [] later e = or_left (pass_of e == pass_of e) (list_any (λ x. pass_of x == pass_of e) later) (eq-eqb (pass_of e) (pass_of e) refl)
has_event (x ∷ earlier) later e = or_right (pass_of x == pass_of e) (list_any (λ y. pass_of y == pass_of e) (earlier ++ e ∷ later)) (has_event earlier later e)

-- so where no other pass has an event, the rest of a history is of this pass
alone_in : (limits : Limits) (pass : ℕ) (history : List Event) → IsLegal limits history →
    ((other : ℕ) → other < limits.passes → other ≢ pass → IsFrontOf other [] history) →
    (earlier later : List Event) → history ≡ earlier ++ later → IsAlone pass later
alone_in limits pass history legal others earlier [] whole = All-nil (λ e. pass_of e ≡ pass)
alone_in limits pass history legal others earlier (e ∷ later) whole =
    All-cons (λ x. pass_of x ≡ pass) e later is_own
    (alone_in limits pass history legal others (earlier ++ e ∷ []) later (whole ∙ sym (append_assoc earlier (e ∷ []) later)))
  where
    of_another : (pass_of e ≡ pass → ⊥) → ⊥
    of_another differs =
        let front = others (pass_of e) (allowed_within limits history earlier e later legal whole).pass differs in
        false≢true (sym front.silent ∙ ap (list_any (λ x. pass_of x == pass_of e)) (sym front.whole ∙ whole) ∙ has_event earlier later e)

    is_own : pass_of e ≡ pass
    is_own =
        elim (cases_eq (pass_of e) pass) [
          | inl same ↦ same
          | inr differs ↦ absurd (of_another differs)
        ]

pub alone_by_others : (limits : Limits) (pass : ℕ) (history : List Event) → IsLegal limits history →
    ((other : ℕ) → other < limits.passes → other ≢ pass → IsFrontOf other [] history) → IsAlone pass history
alone_by_others limits pass history legal others = alone_in limits pass history legal others [] history refl

-- a pass that is alone has no event later only where nothing comes later
none_later : (pass : ℕ) (later : List Event) → IsAlone pass later → list_any (λ e. pass_of e == pass) later ≡ false → later ≡ []
none_later pass [] alone silent = refl
none_later pass (e ∷ later) alone silent =
    let first = (or_parts (pass_of e == pass) (list_any (λ x. pass_of x == pass) later) silent).0 in
    absurd (false≢true (sym first ∙ eq-eqb (pass_of e) pass (All-head (λ x. pass_of x ≡ pass) e later alone)))

-- so it has seen the whole history
pub front_is_whole : (pass : ℕ) (front history : List Event) → IsAlone pass history → IsFrontOf pass front history → front ≡ history
front_is_whole pass front history alone is =
    let rest = none_later pass is.later (alone_rest pass front is.later (subst (IsAlone pass) is.whole alone)) is.silent in
    sym (append-nil front) ∙ ap (λ later. front ++ later) (sym rest) ∙ sym is.whole
