-- What holds of every legal history.
use Rattle.std.proofs.Common.{◌≡◌, ℕ, zero, suc, ◌+◌, ◌<◌, ⊎_elim, Bool, true, false, cond, List, [], ◌∷◌, ◌++◌, length, Some, sym, refl, ap, ◌∙◌, subst, append_assoc, arith, inl, inr}
use Rattle.std.proofs.lemmas.Bool.{cases_lt}
use Rattle.std.proofs.lemmas.List.Elements.{All-append, All-cons, All-nil}
use Rattle.std.specs.List.{All}
use Rattle.std.specs.Prelude.{◌⊎◌}
use Rattle.funnel_model.specs.declared.event.Event.{Event}
use Rattle.funnel_model.specs.declared.event.Event.TheVariants as event
use Rattle.funnel_model.specs.Events.{drops_on, pass_of, takes_off}
use Rattle.funnel_model.specs.Legal.{Limits, IsAllowed, IsLegal}
use Rattle.funnel_model.specs.Slices.{ColumnState, Unclaimed, Pending, Dropped, Live, Deleted, IsFilled, IsInState, IsOver, IsRetired, IsRetiredAt, is_clearing, is_clearing_by}
use Rattle.funnel_model.proofs.Columns.{clearing_is_over, over_is_claimed, pending_is_last, some_state}
use Rattle.funnel_model.proofs.ColumnStates.{DroppedBy, OpenedBy, PutBy, Silent, TakenBy, Touch, after, after-opened, after-take, state_of, state_of-push, touch, unless_taken_off}
use Rattle.funnel_model.proofs.ColumnsKept.{kept}
use Rattle.funnel_model.proofs.Histories.{allowed_within, holds_of_legal, legal_before}
use Rattle.funnel_model.proofs.LastEvents.{clearer_is_last, one_clearer}

-- each event is of one of the engine's passes
pub passes_in_range : (limits : Limits) (history : List Event) → IsLegal limits history → All (λ e. pass_of e < limits.passes) history
passes_in_range limits =
    let in_range = λ (e : Event). pass_of e < limits.passes in
    holds_of_legal limits (All in_range) (All-nil in_range)
    (λ h e legal all allowed. All-append in_range h (e ∷ []) all (All-cons in_range e [] allowed.pass (All-nil in_range)))

-- a pass has one pending column
pub one_pending : (limits : Limits) (history : List Event) (pass slice column other at : ℕ) → IsLegal limits history →
    IsInState history slice column (Pending pass) → IsInState history other at (Pending pass) → (slice ≡ other) × (column ≡ at)
one_pending limits history pass slice column other at legal is also =
    let same : Some (event.Take pass slice column) ≡ Some (event.Take pass other at) =
    sym (pending_is_last limits history slice column pass legal is) ∙ pending_is_last limits history other at pass legal also in
    (cc, cc)

-- it clears one slice
pub one_cleared : (limits : Limits) (history : List Event) (pass slice other : ℕ) → IsLegal limits history →
    is_clearing_by pass slice history ≡ true → is_clearing_by pass other history ≡ true → slice ≡ other
one_cleared limits history pass slice other legal is also =
    let same : Some (event.Clear pass slice) ≡ Some (event.Clear pass other) =
    sym (clearer_is_last limits history pass slice legal is) ∙ clearer_is_last limits history pass other legal also in
    cc

-- and a slice is cleared by one pass
pub cleared_by_one : (limits : Limits) (history : List Event) (pass other slice : ℕ) → IsLegal limits history →
    is_clearing_by pass slice history ≡ true → is_clearing_by other slice history ≡ true → pass ≡ other
cleared_by_one limits history pass other slice legal is also =
    one_clearer limits history pass other slice legal (clearer_is_last limits history pass slice legal is) (clearer_is_last limits history other slice legal also)

-- a retired slice is filled, and so is one that is being cleared
pub retired_is_filled : (limits : Limits) (history : List Event) (slice : ℕ) → IsLegal limits history → IsRetired limits.columns slice history →
    IsFilled limits.columns slice history
retired_is_filled limits history slice legal retired column in' =
    let over = retired.over column in' in over_is_claimed limits history slice column over.0 legal over.1 over.2

pub clearing_is_filled : (limits : Limits) (history : List Event) (slice : ℕ) → IsLegal limits history → is_clearing slice history ≡ true →
    IsFilled limits.columns slice history
clearing_is_filled limits history slice legal clearing column in' =
    let is = some_state limits history slice column legal in
    over_is_claimed limits history slice column is.0 legal is.1 (clearing_is_over limits history slice column is.0 legal clearing in' is.1)

-- the event deletes or moves a document, or leaves a column of the slice without one
abbrev pub EndsIn : ℕ → Event → Type 0
EndsIn slice e =
    ((id : ℕ) × (takes_off id e ≡ true)) ⊎ ((column : ℕ) × (drops_on slice column e ≡ true))

-- a column that is over after an event that concerns it no more than by taking its document off was over before, or it is taken off
quiet_over : (until : ℕ) (e : Event) (x : ColumnState) → IsOver (unless_taken_off until e x) → ((id : ℕ) × (takes_off id e ≡ true)) ⊎ IsOver x
quiet_over until e (Live d since) over = by_test (takes_off d.id e) refl over where
  by_test : (b : Bool) → takes_off d.id e ≡ b → IsOver (cond b (Deleted d since until) (Live d since)) → ((id : ℕ) × (takes_off id e ≡ true)) ⊎ IsOver (Live d since)
  by_test true gone over' = inl (d.id, gone)
  by_test false kept' over' = inr over'
quiet_over until e Unclaimed over = inr over
quiet_over until e (Pending pass) over = inr over
quiet_over until e Dropped over = inr over
quiet_over until e (Deleted d since at) over = inr over

-- a column that is over after an event was over before, or the event ends a document in its slice
over_before : (limits : Limits) (history : List Event) (e : Event) (slice column : ℕ) → IsAllowed limits history e →
    IsOver (after slice column history (state_of slice column history) e) → Touch slice column e → EndsIn slice e ⊎ IsOver (state_of slice column history)
over_before limits history e slice column allowed over (TakenBy pass same) =
    let x = state_of slice column history in
    absurd (subst IsOver (ap (after slice column history x) same ∙ after-take slice column history pass x) over)
over_before limits history e slice column allowed over (PutBy id puts) =
    absurd (subst IsOver ((puts.becomes limits history allowed).3 (state_of slice column history)) over)
over_before limits history e slice column allowed over (DroppedBy drops) = inl (inr (column, drops.drops))
over_before limits history e slice column allowed over (OpenedBy pass alone same) =
    let x = state_of slice column history in
    absurd (subst IsOver (ap (after slice column history x) same ∙ after-opened slice column history pass alone x) over)
over_before limits history e slice column allowed over (Silent quiet) =
    ⊎_elim (λ gone. inl (inl gone)) (λ was. inr was)
    (quiet_over (length history + 1) e (state_of slice column history) (subst IsOver (quiet.leaves history (state_of slice column history)) over))

-- where each number below n has a property or there is an exception, there is one or all have it
exception_or_all : (E : Type 0) (P : ℕ → Type 0) (n : ℕ) → ((k : ℕ) → k < n → E ⊎ P k) → E ⊎ ((k : ℕ) → k < n → P k)
exception_or_all E P zero each = inr (λ k below. absurd (omega arith))
exception_or_all E P (suc n) each =
    ⊎_elim
    (λ exception. inl exception)
    (λ all. ⊎_elim
    (λ exception. inl exception)
    (λ last. inr (λ k below. ⊎_elim (λ less. all k less) (λ high. let same : n ≡ k = omega arith in subst P same last) (cases_lt k n)))
    (each n (omega arith)))
    (exception_or_all E P n (λ k below. each k (omega arith)))

-- a slice retires by an event that ends a document in it
pub retires_by : (limits : Limits) (history : List Event) (slice number : ℕ) → IsLegal limits history → (at : IsRetiredAt limits.columns slice history number) →
    EndsIn slice at.event
retires_by limits history slice number legal at =
    let e = at.event in
    let now = at.earlier ++ e ∷ [] in
    let whole : history ≡ now ++ at.later = at.whole ∙ sym (append_assoc at.earlier (e ∷ []) at.later) in
    let legal_now = legal_before limits now at.later (subst (IsLegal limits) whole legal) in
    let legal_then = legal_before limits at.earlier (e ∷ []) legal_now in
    let allowed = allowed_within limits history at.earlier e at.later legal at.whole in
    ⊎_elim
    (λ ends. ends)
    (λ were. absurd (at.not_before (λ column in'. (state_of slice column at.earlier, (kept limits at.earlier legal_then).holds slice column, were column in'))))
    (exception_or_all (EndsIn slice e) (λ column. IsOver (state_of slice column at.earlier)) limits.columns (λ column in'.
    let over = at.over column in' in
    let same = (kept limits now legal_now).only slice column over.0 over.1 ∙ state_of-push slice column at.earlier e in
    over_before limits at.earlier e slice column allowed (subst IsOver same over.2) (touch slice column e)))
