-- The open tokens that are kept, event by event.
use Rattle.std.proofs.Common.{◌≡◌, ◌≢◌, ◌↔◌, ⊎_elim, ℕ, ◌+◌, ◌<◌, false, List, [], ◌∷◌, ◌++◌, length, get_or, set, Option, Some, None, refl, sym, ap, ◌∙◌, subst, arith}
use Rattle.std.specs.Option.{IfSome, IsSome}
use Rattle.std.proofs.lemmas.Bool.{cases_eq, eq-eqb, false≢true, ne_eqb}
use Rattle.std.proofs.lemmas.List.{get_or-set_other, get_or-set_same, length-set}
use Rattle.funnel_model.specs.declared.event.Event.{Event}
use Rattle.funnel_model.specs.declared.event.Event.TheVariants as event
use Rattle.funnel_model.specs.Events.{finds_or_ends, leaves_open}
use Rattle.funnel_model.specs.History.{last_by}
use Rattle.funnel_model.specs.Legal.{Limits, IsIdle, IsLegal}
use Rattle.funnel_model.specs.Tokens.{HasToken}
use Rattle.funnel_model.proofs.LastEvents.{token_is_last}
use Rattle.funnel_model.proofs.OpenTokens.{token_after, token_before, token_now}
use Rattle.token_manager.specs.Guarding.{HasOpened}
use Rattle.commit_desk.specs.Kept.{AreTokens}
use Rattle.commit_desk.proofs.Options.{none_some, some_same}

-- an event that begins and ends no find leaves the tokens
pub tokens-same : (limits : Limits) (history : List Event) (e : Event) (tokens : List (Option ℕ)) → ((pass : ℕ) → finds_or_ends pass e ≡ false) → AreTokens limits history tokens →
    AreTokens limits (history ++ e ∷ []) tokens
tokens-same limits history e tokens silent are = record {
  count = are.count;
  each = λ pass number. (
    λ opened. token_after history e pass number (silent pass) ((are.each pass number).0 opened),
    λ token. (are.each pass number).1 (token_before history e pass number (silent pass) token),
  );
}

-- a find gives its pass a token
begun_now : (history : List Event) (pass : ℕ) (query : List ℕ) → HasToken (history ++ event.Find pass query ∷ []) pass (length history + 1)
begun_now history pass query = record { earlier = history; query = query; later = []; whole = refl; count = refl; stays = refl }

pub tokens-find : (limits : Limits) (history : List Event) (pass : ℕ) (query : List ℕ) (tokens : List (Option ℕ)) → pass < limits.passes → AreTokens limits history tokens →
    AreTokens limits (history ++ event.Find pass query ∷ []) (set tokens pass (Some (length history + 1)))
tokens-find limits history pass query tokens in' are = record {
  count = length-set tokens pass (Some (length history + 1)) ∙ are.count;
  each = λ other number.
      ⊎_elim
      (λ (same : other ≡ pass).
      subst (λ p. HasOpened (set tokens pass (Some (length history + 1))) p number ↔ HasToken (history ++ event.Find pass query ∷ []) p number) (sym same)
      (of_pass number))
      (λ (apart : other ≢ pass).
      let silent : finds_or_ends other (event.Find pass query) ≡ false = ne_eqb pass other (λ h. apart (sym h)) in
      let stays = get_or-set_other tokens pass other (Some (length history + 1)) None apart in (
        λ opened. token_after history (event.Find pass query) other number silent ((are.each other number).0 (sym stays ∙ opened)),
        λ token. stays ∙ (are.each other number).1 (token_before history (event.Find pass query) other number silent token),
      ))
      (cases_eq other pass);
} where
  here : get_or (set tokens pass (Some (length history + 1))) pass None ≡ Some (length history + 1)
  here = get_or-set_same tokens pass (Some (length history + 1)) None (let c = are.count in omega arith)

  of_pass : (number : ℕ) → HasOpened (set tokens pass (Some (length history + 1))) pass number ↔ HasToken (history ++ event.Find pass query ∷ []) pass number
  of_pass number = (
    λ opened. subst (HasToken (history ++ event.Find pass query ∷ []) pass) (some_same (length history + 1) number (sym here ∙ opened)) (begun_now history pass query),
    λ token. here ∙ ap Some (sym (token_now history (event.Find pass query) pass number (eq-eqb pass pass refl) token).0),
  )

find_not_end : (pass other : ℕ) (query : List ℕ) → event.End pass ≡ event.Find other query → ⊥
find_not_end pass other query is = cc

-- the end of a find takes it away
pub tokens-end : (limits : Limits) (history : List Event) (pass : ℕ) (tokens : List (Option ℕ)) → pass < limits.passes → AreTokens limits history tokens →
    AreTokens limits (history ++ event.End pass ∷ []) (set tokens pass None)
tokens-end limits history pass tokens in' are = record {
  count = length-set tokens pass None ∙ are.count;
  each = λ other number.
      ⊎_elim
      (λ (same : other ≡ pass).
      subst (λ p. HasOpened (set tokens pass None) p number ↔ HasToken (history ++ event.End pass ∷ []) p number) (sym same) (of_pass number))
      (λ (apart : other ≢ pass).
      let silent : finds_or_ends other (event.End pass) ≡ false = ne_eqb pass other (λ h. apart (sym h)) in
      let stays = get_or-set_other tokens pass other None None apart in (
        λ opened. token_after history (event.End pass) other number silent ((are.each other number).0 (sym stays ∙ opened)),
        λ token. stays ∙ (are.each other number).1 (token_before history (event.End pass) other number silent token),
      ))
      (cases_eq other pass);
} where
  here : get_or (set tokens pass None) pass None ≡ None
  here = get_or-set_same tokens pass None None (let c = are.count in omega arith)

  of_pass : (number : ℕ) → HasOpened (set tokens pass None) pass number ↔ HasToken (history ++ event.End pass ∷ []) pass number
  of_pass number = (
    λ opened. absurd (none_some number (sym here ∙ opened)),
    λ token. let now = token_now history (event.End pass) pass number (eq-eqb pass pass refl) token in absurd (find_not_end pass pass now.1.0 now.1.1),
  )

-- an idle pass has no token
idle_not_find : (pass : ℕ) (query : List ℕ) (last : Option Event) → last ≡ Some (event.Find pass query) → IfSome last (λ e. leaves_open e ≡ false) → ⊥
idle_not_find pass query last is idle = false≢true (sym (subst (λ o. IfSome o (λ e. leaves_open e ≡ false)) is idle))

idle_is_none : (history : List Event) (tokens : List (Option ℕ)) (pass : ℕ) (kept : Option ℕ) → get_or tokens pass None ≡ kept → ((number : ℕ) → HasOpened tokens pass number → ⊥) →
    get_or tokens pass None ≡ None
idle_is_none history tokens pass None is none = is
idle_is_none history tokens pass (Some number) is none = absurd (none number is)

pub idle_has_none : (limits : Limits) (history : List Event) (tokens : List (Option ℕ)) (pass : ℕ) → IsLegal limits history → AreTokens limits history tokens → IsIdle pass history →
    get_or tokens pass None ≡ None
idle_has_none limits history tokens pass legal are idle =
    idle_is_none history tokens pass (get_or tokens pass None) refl (λ number opened.
    let token = (are.each pass number).0 opened in
    let last = token_is_last limits history pass number legal token in
    idle_not_find pass last.0 (last_by pass history) last.1 idle)

-- a pass with a token has one that is kept
pub token_is_kept : (limits : Limits) (history : List Event) (tokens : List (Option ℕ)) (pass number : ℕ) → AreTokens limits history tokens → HasToken history pass number →
    IsSome (get_or tokens pass None)
token_is_kept limits history tokens pass number are token = subst IsSome (sym ((are.each pass number).1 token)) refl
