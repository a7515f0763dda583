-- What a pass may do next, by its last event.
use Rattle.std.proofs.Common.{◌≡◌, ℕ, ◌<◌, ⊎_elim, Bool, true, false, List, [], ◌∷◌, ◌++◌, Some, None, sym, refl, ap, ◌∙◌, subst, inl, inr}
use Rattle.std.proofs.lemmas.Bool.{cases_eq, eq-eqb, false≢true}
use Rattle.std.proofs.lemmas.List.Sums.{fold-append}
use Rattle.std.specs.List.{list_any}
use Rattle.std.specs.Option.{IfSome}
use Rattle.std.specs.Prelude.{◌⊎◌}
use Rattle.funnel_model.specs.declared.bit_list.Bit.{Bit}
use Rattle.funnel_model.specs.declared.event.Event.{Event}
use Rattle.funnel_model.specs.declared.event.Event.TheVariants as event
use Rattle.funnel_model.specs.Events.{clears, leaves_open, next_after, opens, pass_of}
use Rattle.funnel_model.specs.History.{last_by}
use Rattle.funnel_model.specs.Legal.{Limits, IsAllowed, IsIdle, IsLegal, awaited}
use Rattle.funnel_model.specs.Slices.{claimed, is_clearing}
use Rattle.funnel_model.proofs.Histories.{holds_of_legal}
use Rattle.funnel_model.proofs.Spans.{claimed-opens, last_by-other, last_by-own, span-opened}

-- a pass in the middle of a call isn't idle
pub busy : (pass : ℕ) (history : List Event) (last : Event) → last_by pass history ≡ Some last → leaves_open last ≡ true → IsIdle pass history → ⊥
busy pass history last is middle idle =
    let shut : leaves_open last ≡ false = subst (λ o. IfSome o (λ e. leaves_open e ≡ false)) is idle in
    false≢true (sym shut ∙ middle)

-- after a take comes, on the same column, an add, a drop, a move or a void
pub next_of_take : (limits : Limits) (history : List Event) (e : Event) (pass slice column : ℕ) → IsAllowed limits history e →
    last_by (pass_of e) history ≡ Some (event.Take pass slice column) →
    ((id : ℕ) × (text : List ℕ) × (bits : List Bit) × (e ≡ event.Add pass id text slice column bits))
    ⊎ ((id : ℕ) × (text : List ℕ) × (e ≡ event.Drop pass id text slice column))
    ⊎ ((id : ℕ) × (bits : List Bit) × (e ≡ event.Move pass id slice column bits))
    ⊎ (e ≡ event.Void pass slice column)
next_of_take limits history (event.Take q t a) pass slice column allowed last =
    ⊎_elim (λ r. absurd (busy q history (event.Take pass slice column) last refl r.idle)) (λ r. let h = r.opened in cc) allowed.rule
next_of_take limits history (event.Add q id text t a bits) pass slice column allowed last = let h = allowed.rule.taken in inl (id, text, bits, cc)
next_of_take limits history (event.Drop q id text t a) pass slice column allowed last = let h = allowed.rule.taken in inr (inl (id, text, cc))
next_of_take limits history (event.Move q id t a bits) pass slice column allowed last = let h = allowed.rule.taken in inr (inr (inl (id, bits, cc)))
next_of_take limits history (event.Void q t a) pass slice column allowed last = let h = allowed.rule.taken in inr (inr (inr cc))
next_of_take limits history (event.Del q id) pass slice column allowed last = absurd (busy q history (event.Take pass slice column) last refl allowed.rule.idle)
next_of_take limits history (event.Find q query) pass slice column allowed last = absurd (busy q history (event.Take pass slice column) last refl allowed.rule)
next_of_take limits history (event.End q) pass slice column allowed last = let h = allowed.rule.begun in cc
next_of_take limits history (event.Clear q s) pass slice column allowed last = absurd (busy q history (event.Take pass slice column) last refl allowed.rule.idle)
next_of_take limits history (event.Opened q s alone) pass slice column allowed last = let h = allowed.rule.cleared in cc
next_of_take limits history (event.Tune q config) pass slice column allowed last = absurd (busy q history (event.Take pass slice column) last refl allowed.rule)
next_of_take limits history (event.No q asked) pass slice column allowed last = absurd (busy q history (event.Take pass slice column) last refl allowed.rule.idle)
next_of_take limits history (event.Read q asked) pass slice column allowed last = absurd (busy q history (event.Take pass slice column) last refl allowed.rule.idle)

-- after a Clear comes the Opened of the same slice
pub next_of_clear : (limits : Limits) (history : List Event) (e : Event) (pass slice : ℕ) → IsAllowed limits history e →
    last_by (pass_of e) history ≡ Some (event.Clear pass slice) → (alone : Bool) × (e ≡ event.Opened pass slice alone)
next_of_clear limits history (event.Take q t a) pass slice allowed last =
    ⊎_elim (λ r. absurd (busy q history (event.Clear pass slice) last refl r.idle)) (λ r. let h = r.opened in cc) allowed.rule
next_of_clear limits history (event.Add q id text t a bits) pass slice allowed last = let h = allowed.rule.taken in cc
next_of_clear limits history (event.Drop q id text t a) pass slice allowed last = let h = allowed.rule.taken in cc
next_of_clear limits history (event.Move q id t a bits) pass slice allowed last = let h = allowed.rule.taken in cc
next_of_clear limits history (event.Void q t a) pass slice allowed last = let h = allowed.rule.taken in cc
next_of_clear limits history (event.Del q id) pass slice allowed last = absurd (busy q history (event.Clear pass slice) last refl allowed.rule.idle)
next_of_clear limits history (event.Find q query) pass slice allowed last = absurd (busy q history (event.Clear pass slice) last refl allowed.rule)
next_of_clear limits history (event.End q) pass slice allowed last = let h = allowed.rule.begun in cc
next_of_clear limits history (event.Clear q s) pass slice allowed last = absurd (busy q history (event.Clear pass slice) last refl allowed.rule.idle)
next_of_clear limits history (event.Opened q s alone) pass slice allowed last = let h = allowed.rule.cleared in (alone, cc)
next_of_clear limits history (event.Tune q config) pass slice allowed last = absurd (busy q history (event.Clear pass slice) last refl allowed.rule)
next_of_clear limits history (event.No q asked) pass slice allowed last = absurd (busy q history (event.Clear pass slice) last refl allowed.rule.idle)
next_of_clear limits history (event.Read q asked) pass slice allowed last = absurd (busy q history (event.Clear pass slice) last refl allowed.rule.idle)

-- after a find comes its end
pub next_of_find : (limits : Limits) (history : List Event) (e : Event) (pass : ℕ) (query : List ℕ) → IsAllowed limits history e →
    last_by (pass_of e) history ≡ Some (event.Find pass query) → e ≡ event.End pass
next_of_find limits history (event.Take q t a) pass query allowed last =
    ⊎_elim (λ r. absurd (busy q history (event.Find pass query) last refl r.idle)) (λ r. let h = r.opened in cc) allowed.rule
next_of_find limits history (event.Add q id text t a bits) pass query allowed last = let h = allowed.rule.taken in cc
next_of_find limits history (event.Drop q id text t a) pass query allowed last = let h = allowed.rule.taken in cc
next_of_find limits history (event.Move q id t a bits) pass query allowed last = let h = allowed.rule.taken in cc
next_of_find limits history (event.Void q t a) pass query allowed last = let h = allowed.rule.taken in cc
next_of_find limits history (event.Del q id) pass query allowed last = absurd (busy q history (event.Find pass query) last refl allowed.rule.idle)
next_of_find limits history (event.Find q other) pass query allowed last = absurd (busy q history (event.Find pass query) last refl allowed.rule)
next_of_find limits history (event.End q) pass query allowed last = let h = allowed.rule.begun in cc
next_of_find limits history (event.Clear q s) pass query allowed last = absurd (busy q history (event.Find pass query) last refl allowed.rule.idle)
next_of_find limits history (event.Opened q s alone) pass query allowed last = let h = allowed.rule.cleared in cc
next_of_find limits history (event.Tune q config) pass query allowed last = absurd (busy q history (event.Find pass query) last refl allowed.rule)
next_of_find limits history (event.No q asked) pass query allowed last = absurd (busy q history (event.Find pass query) last refl allowed.rule.idle)
next_of_find limits history (event.Read q asked) pass query allowed last = absurd (busy q history (event.Find pass query) last refl allowed.rule.idle)

-- what has to come next is what the last event asks for
pub awaited-push : (history : List Event) (e : Event) → awaited (history ++ e ∷ []) ≡ next_after e
awaited-push history e = fold-append (λ _ x. next_after x) None history (e ∷ [])

-- what the last event of a pass is with one more event
pub last_by_before : (pass : ℕ) (history : List Event) (e last : Event) → last_by pass (history ++ e ∷ []) ≡ Some last →
    ((pass_of e ≡ pass) × (e ≡ last)) ⊎ ((pass_of e ≡ pass → ⊥) × (last_by pass history ≡ Some last))
last_by_before pass history e last is =
    ⊎_elim
    (λ own. inl (own, let h = last_by-own pass history e own in cc))
    (λ other. inr (other, sym (last_by-other pass history e other) ∙ is))
    (cases_eq (pass_of e) pass)

-- a slice that is being cleared is one of the engine
abbrev ClearsInRange : Limits → List Event → Type 0
ClearsInRange limits history = (pass slice : ℕ) → last_by pass history ≡ Some (event.Clear pass slice) → slice < limits.slices

-- such slices stay in range with an event that is allowed
clears_in_range-push : (limits : Limits) (history : List Event) (e : Event) → ClearsInRange limits history → IsAllowed limits history e →
    ClearsInRange limits (history ++ e ∷ [])
clears_in_range-push limits history e before allowed pass slice last =
    ⊎_elim
    (λ own. let now : IsAllowed limits history (event.Clear pass slice) = subst (IsAllowed limits history) own.1 allowed in now.rule.in_range)
    (λ other. before pass slice other.1)
    (last_by_before pass history e (event.Clear pass slice) last)

-- in a legal history a slice that is being cleared is one of the engine
pub clears_in_range : (limits : Limits) (history : List Event) → IsLegal limits history → ClearsInRange limits history
clears_in_range limits = holds_of_legal limits (ClearsInRange limits) (λ pass slice last. cc) (λ h e legal before allowed. clears_in_range-push limits h e before allowed)

-- a slice that was opened for an add: its take is awaited, and nothing happened in it yet
pub record IsFresh (limits : Limits) (history : List Event) (pass slice : ℕ) : Type 0 where
  pub awaits : awaited history ≡ Some (event.Take pass slice 0)
  pub none_claimed : claimed slice history ≡ []
  pub not_clearing : is_clearing slice history ≡ false
  pub in_range : slice < limits.slices

-- each slice whose Opened for an add is the last event of a pass is fresh
abbrev OpensFresh : Limits → List Event → Type 0
OpensFresh limits history = (pass slice : ℕ) → last_by pass history ≡ Some (event.Opened pass slice false) → IsFresh limits history pass slice

-- a slice that was just opened is fresh
opened_fresh : (limits : Limits) (history : List Event) (pass slice : ℕ) → IsLegal limits history → IsAllowed limits history (event.Opened pass slice false) →
    IsFresh limits (history ++ event.Opened pass slice false ∷ []) pass slice
opened_fresh limits history pass slice legal allowed =
    let own : opens slice (event.Opened pass slice false) ≡ true = eq-eqb slice slice refl in
    record {
      awaits = awaited-push history (event.Opened pass slice false);
      none_claimed = claimed-opens slice history (event.Opened pass slice false) own;
      not_clearing = ap (list_any (clears slice)) (span-opened slice history (event.Opened pass slice false) own);
      in_range = clears_in_range limits history legal pass slice allowed.rule.cleared;
    }

-- an event that is awaited is the next
pub awaited_is_next : (limits : Limits) (history : List Event) (e next : Event) → IsAllowed limits history e → awaited history ≡ Some next → e ≡ next
awaited_is_next limits history e next allowed is = subst (λ o. IfSome o (λ x. e ≡ x)) is allowed.at_once

-- such slices stay fresh with an event that is allowed
opens_fresh-push : (limits : Limits) (history : List Event) (e : Event) → IsLegal limits history → OpensFresh limits history → IsAllowed limits history e →
    OpensFresh limits (history ++ e ∷ [])
opens_fresh-push limits history e legal before allowed pass slice last =
    ⊎_elim
    (λ own. subst (λ x. IsFresh limits (history ++ x ∷ []) pass slice) (sym own.1)
    (opened_fresh limits history pass slice legal (subst (IsAllowed limits history) own.1 allowed)))
    (λ other. absurd (other.0 (ap pass_of (awaited_is_next limits history e (event.Take pass slice 0) allowed (before pass slice other.1).awaits))))
    (last_by_before pass history e (event.Opened pass slice false) last)

-- in a legal history a slice whose Opened for an add is the last event of a pass is fresh
pub opens_fresh : (limits : Limits) (history : List Event) → IsLegal limits history → OpensFresh limits history
opens_fresh limits = holds_of_legal limits (OpensFresh limits) (λ pass slice last. cc) (λ h e legal before allowed. opens_fresh-push limits h e legal before allowed)
