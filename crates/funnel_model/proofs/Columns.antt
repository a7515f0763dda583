-- The columns of slices, event by event: in a legal history each is in one state.
use Rattle.std.proofs.Common.{◌≡◌, ℕ, ◌<◌, true, List, [], ◌∷◌, ◌++◌, false, Some, sym, refl, subst, ◌∙◌}
use Rattle.std.proofs.lemmas.Bool.{true_from_ne_false}
use Rattle.funnel_model.specs.declared.event.Event.{Event}
use Rattle.funnel_model.specs.declared.event.Event.TheVariants as event
use Rattle.funnel_model.specs.History.{last_by}
use Rattle.funnel_model.specs.Legal.{Limits, IsAllowed, IsLegal, CanClear}
use Rattle.funnel_model.specs.Slices.{ColumnState, Unclaimed, Pending, IsInState, IsOver, IsRetired, is_claimed, is_clearing}
use Rattle.funnel_model.proofs.ColumnStates.{after, state_of}
use Rattle.funnel_model.proofs.ColumnsKept.{kept, kept_in_state, take_of_pending}

-- before the first event each column is unclaimed
pub in_state-start : (slice column : ℕ) → IsInState [] slice column Unclaimed
in_state-start slice column = refl

-- an event that is allowed takes each column from its state to the state after
pub in_state-push : (limits : Limits) (history : List Event) (e : Event) → IsLegal limits history → IsAllowed limits history e →
    (slice column : ℕ) (x : ColumnState) → IsInState history slice column x →
    IsInState (history ++ e ∷ []) slice column (after slice column history x e)
in_state-push limits history e legal allowed = kept_in_state limits history e legal (kept limits history legal) allowed

-- in a legal history each column is in the state that its events compute
pub in_its_state : (limits : Limits) (history : List Event) (slice column : ℕ) → IsLegal limits history → IsInState history slice column (state_of slice column history)
in_its_state limits history slice column legal = (kept limits history legal).holds slice column

-- so each is in a state
pub some_state : (limits : Limits) (history : List Event) (slice column : ℕ) → IsLegal limits history → (x : ColumnState) × IsInState history slice column x
some_state limits history slice column legal = (state_of slice column history, in_its_state limits history slice column legal)

-- in a legal history a column is in one state
pub one_state : (limits : Limits) (history : List Event) (slice column : ℕ) (x y : ColumnState) → IsLegal limits history →
    IsInState history slice column x → IsInState history slice column y → x ≡ y
one_state limits history slice column x y legal is_x is_y =
    let all = kept limits history legal in all.only slice column x is_x ∙ sym (all.only slice column y is_y)

-- a pass that has a pending column has made no event since its take
pub pending_is_last : (limits : Limits) (history : List Event) (slice column pass : ℕ) → IsLegal limits history →
    IsInState history slice column (Pending pass) → last_by pass history ≡ Some (event.Take pass slice column)
pending_is_last limits history slice column pass legal pending =
    take_of_pending limits history pass slice column legal (sym ((kept limits history legal).only slice column (Pending pass) pending))

-- a column is pending by the pass whose last event is the take of it
pub last_is_pending : (limits : Limits) (history : List Event) (slice column pass : ℕ) → IsLegal limits history →
    last_by pass history ≡ Some (event.Take pass slice column) → IsInState history slice column (Pending pass)
last_is_pending limits history slice column pass legal last =
    let all = kept limits history legal in subst (IsInState history slice column) (all.taken pass slice column last) (all.holds slice column)

-- a slice is retired where each column is in a state that is over, and it isn't being cleared
pub retired_by : (columns slice : ℕ) (history : List Event) →
    ((column : ℕ) → column < columns → (x : ColumnState) × IsInState history slice column x × IsOver x) → is_clearing slice history ≡ false →
    IsRetired columns slice history
retired_by columns slice history over not_clearing = record { over = over; not_clearing = not_clearing }

-- a slice with a column that isn't over isn't retired
pub not_retired_by : (limits : Limits) (history : List Event) (slice column : ℕ) (x : ColumnState) → IsLegal limits history →
    column < limits.columns → IsInState history slice column x → (IsOver x → ⊥) → IsRetired limits.columns slice history → ⊥
not_retired_by limits history slice column x legal in' is not_over retired =
    let over = retired.over column in' in not_over (subst IsOver (one_state limits history slice column over.0 x legal over.1 is) over.2)

-- a column that is over is claimed
pub over_is_claimed : (limits : Limits) (history : List Event) (slice column : ℕ) (x : ColumnState) → IsLegal limits history →
    IsInState history slice column x → IsOver x → is_claimed slice column history ≡ true
over_is_claimed limits history slice column x legal is over =
    true_from_ne_false (is_claimed slice column history) (λ unclaimed. subst IsOver (one_state limits history slice column x Unclaimed legal is unclaimed) over)

-- a slice that is being cleared has no column that isn't over
pub clearing_is_over : (limits : Limits) (history : List Event) (slice column : ℕ) (x : ColumnState) → IsLegal limits history →
    is_clearing slice history ≡ true → column < limits.columns → IsInState history slice column x → IsOver x
clearing_is_over limits history slice column x legal clearing in' is =
    let all = kept limits history legal in subst IsOver (sym (all.only slice column x is)) (all.over slice column clearing in')

-- nor has a slice that can be cleared
pub cleared_is_over : (limits : Limits) (history : List Event) (slice column : ℕ) (x : ColumnState) → IsLegal limits history →
    CanClear limits.columns history slice → column < limits.columns → IsInState history slice column x → IsOver x
cleared_is_over limits history slice column x legal can in' is =
    let over = can.retired.over column in' in subst IsOver (one_state limits history slice column over.0 x legal over.1 is) over.2
