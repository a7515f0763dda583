-- Which histories are legal.
use Rattle.std.specs.Prelude.{ℕ, ◌+◌, ◌*◌, ◌<◌, ◌≤◌, ◌≡◌, ◌⊎◌, true, false, List, [], ◌∷◌, ◌++◌, length, Option, None, Some, IfSome}
use Rattle.std.specs.List.{All, fold}
use Rattle.funnel_model.specs.declared.bit_list.Bit.{Bit}
use Rattle.funnel_model.specs.declared.call.Call.{Call}
use Rattle.funnel_model.specs.declared.call.Call.TheVariants as call
use Rattle.funnel_model.specs.declared.event.Event.{Event}
use Rattle.funnel_model.specs.declared.event.Event.TheVariants as event
use Rattle.funnel_model.specs.Events.{pass_of, leaves_open, next_after}
use Rattle.funnel_model.specs.History.{is_live, last_by}
use Rattle.funnel_model.specs.Slices.{claimed, is_clearing, HasUnclaimed, IsFilled, IsInUse, IsRetired}
use Rattle.funnel_model.specs.Tokens.{IsGuarded}

-- the sizes of an engine: its passes and slices, the columns and row words of each slice, the last commits that its journal
-- keeps, and the events from which on no call is taken any more
pub record Limits : Type 0 where
  pub passes : ℕ
  pub slices : ℕ
  pub columns : ℕ
  pub slice_words : ℕ
  pub commits : ℕ
  pub events : ℕ

-- the pass is not in the middle of a call
abbrev pub IsIdle : ℕ → List Event → Type 0
IsIdle pass history = IfSome (last_by pass history) (λ e. leaves_open e ≡ false)

-- nothing can be taken in the slice, and it can't be cleared either: it is filled and not retired, or it is retired and guarded,
-- or it is being cleared
abbrev pub IsBlocked : ℕ → List Event → ℕ → Type 0
IsBlocked columns history slice =
    (IsFilled columns slice history × (IsRetired columns slice history → ⊥))
    ⊎ (IsRetired columns slice history × IsGuarded columns history slice)
    ⊎ (is_clearing slice history ≡ true)

-- the engine is full: in no slice can a column be taken, and no slice can be cleared
abbrev pub IsFull : Limits → List Event → Type 0
IsFull limits history = (slice : ℕ) → slice < limits.slices → IsBlocked limits.columns history slice

-- the row word is one of the slice
pub record IsInSlice (slice_words slice word : ℕ) : Type 0 where
  pub from : slice * slice_words ≤ word
  pub to : word < (slice + 1) * slice_words

-- a document can be taken in the slice
pub record HasRoom (columns : ℕ) (history : List Event) (slice : ℕ) : Type 0 where
  pub in_use : IsInUse columns slice history
  pub unclaimed : HasUnclaimed columns slice history

-- an idle pass may take the next column of the lowest slice that has room
pub record MayTake (limits : Limits) (history : List Event) (pass slice column : ℕ) : Type 0 where
  pub idle : IsIdle pass history
  pub in_range : slice < limits.slices
  pub room : HasRoom limits.columns history slice
  pub lowest : (lower : ℕ) → lower < slice → HasRoom limits.columns history lower → ⊥
  pub next : column ≡ length (claimed slice history)

-- a pass that opened a slice for an add may take its first column, also where a lower slice has room by now
pub record MayTakeOpened (limits : Limits) (history : List Event) (pass slice column : ℕ) : Type 0 where
  pub opened : last_by pass history ≡ Some (event.Opened pass slice false)
  pub first : column ≡ 0
  pub in_range : column < limits.columns

-- a pass may add a document to the column that it just took, also where its number is live; its bits are bits of the slice's words of
-- 64 bits
pub record MayAdd (limits : Limits) (history : List Event) (pass slice column : ℕ) (bits : List Bit) : Type 0 where
  pub taken : last_by pass history ≡ Some (event.Take pass slice column)
  pub inside : All (λ b. IsInSlice limits.slice_words slice b.word) bits
  pub in_word : All (λ b. b.bit < 64) bits

-- a pass may drop the document for the column that it just took where its number is live by now
pub record MayDrop (history : List Event) (pass id slice column : ℕ) : Type 0 where
  pub taken : last_by pass history ≡ Some (event.Take pass slice column)
  pub present : is_live id history ≡ true

-- a pass may move a live document to the column that it just took; the bits that it sets there are bits of that slice's words of 64 bits
pub record MayMove (limits : Limits) (history : List Event) (pass id slice column : ℕ) (bits : List Bit) : Type 0 where
  pub taken : last_by pass history ≡ Some (event.Take pass slice column)
  pub present : is_live id history ≡ true
  pub inside : All (λ b. IsInSlice limits.slice_words slice b.word) bits
  pub in_word : All (λ b. b.bit < 64) bits

-- a pass may leave the column that it just took without a document
pub record MayVoid (history : List Event) (pass slice column : ℕ) : Type 0 where
  pub taken : last_by pass history ≡ Some (event.Take pass slice column)

-- an idle pass may delete a live document
pub record MayDelete (history : List Event) (pass id : ℕ) : Type 0 where
  pub idle : IsIdle pass history
  pub present : is_live id history ≡ true

-- a pass may end a find that it began
pub record MayEnd (history : List Event) (pass : ℕ) : Type 0 where
  pub query : List ℕ
  pub begun : last_by pass history ≡ Some (event.Find pass query)

-- the slice is retired, and no token guards it
pub record CanClear (columns : ℕ) (history : List Event) (slice : ℕ) : Type 0 where
  pub retired : IsRetired columns slice history
  pub unguarded : IsGuarded columns history slice → ⊥

-- an idle pass may clear the lowest slice that can be cleared
pub record MayClear (limits : Limits) (history : List Event) (pass slice : ℕ) : Type 0 where
  pub idle : IsIdle pass history
  pub in_range : slice < limits.slices
  pub can_clear : CanClear limits.columns history slice
  pub lowest : (lower : ℕ) → lower < slice → CanClear limits.columns history lower → ⊥

-- a pass may open the slice that it cleared
pub record MayOpen (history : List Event) (pass slice : ℕ) : Type 0 where
  pub cleared : last_by pass history ≡ Some (event.Clear pass slice)

-- no slice can be cleared: each that is retired is guarded
abbrev pub NoneCanClear : Limits → List Event → Type 0
NoneCanClear limits history =
    (slice : ℕ) → slice < limits.slices → IsRetired limits.columns slice history → IsGuarded limits.columns history slice

-- an add may be refused where its number is live, and where the engine is full; a put where the engine is full; a delete where its number
-- is not live; a recycle where no slice can be cleared; other calls never
abbrev pub IsRefused : Limits → List Event → Call → Type 0
IsRefused limits history (call.Add id text) = (is_live id history ≡ true) ⊎ IsFull limits history
IsRefused limits history (call.Put id text) = IsFull limits history
IsRefused limits history (call.Delete id) = is_live id history ≡ false
IsRefused limits history call.Recycle = NoneCanClear limits history
IsRefused limits history _ = ⊥

-- an idle pass may be refused such a call
pub record MayRefuse (limits : Limits) (history : List Event) (pass : ℕ) (asked : Call) : Type 0 where
  pub idle : IsIdle pass history
  pub refused : IsRefused limits history asked

-- the call only reads
abbrev pub OnlyReads : Call → Type 0
OnlyReads call.Place = Unit {0}
OnlyReads (call.Journal from) = Unit {0}
OnlyReads (call.Get id) = Unit {0}
OnlyReads call.Stats = Unit {0}
OnlyReads _ = ⊥

-- an idle pass may make a call that only reads
pub record MayReadOff (history : List Event) (pass : ℕ) (asked : Call) : Type 0 where
  pub idle : IsIdle pass history
  pub reads : OnlyReads asked

-- the event may come next, by its kind
abbrev pub MayFollow : Limits → List Event → Event → Type 0
MayFollow limits history (event.Take pass slice column) =
    MayTake limits history pass slice column ⊎ MayTakeOpened limits history pass slice column
MayFollow limits history (event.Add pass id text slice column bits) = MayAdd limits history pass slice column bits
MayFollow limits history (event.Drop pass id text slice column) = MayDrop history pass id slice column
MayFollow limits history (event.Del pass id) = MayDelete history pass id
MayFollow limits history (event.Move pass id slice column bits) = MayMove limits history pass id slice column bits
MayFollow limits history (event.Void pass slice column) = MayVoid history pass slice column
MayFollow limits history (event.Find pass query) = IsIdle pass history
MayFollow limits history (event.End pass) = MayEnd history pass
MayFollow limits history (event.Clear pass slice) = MayClear limits history pass slice
MayFollow limits history (event.Opened pass slice alone) = MayOpen history pass slice
MayFollow limits history (event.Tune pass config) = IsIdle pass history
MayFollow limits history (event.No pass asked) = MayRefuse limits history pass asked
MayFollow limits history (event.Read pass asked) = MayReadOff history pass asked

-- the event that has to come next: what the last event asks for
abbrev pub awaited : List Event → Option Event
awaited history = fold (λ _ e. next_after e) None history

-- the event is allowed after these events
pub record IsAllowed (limits : Limits) (history : List Event) (e : Event) : Type 0 where
  pub pass : pass_of e < limits.passes
  pub at_once : IfSome (awaited history) (λ next. e ≡ next)
  pub rule : MayFollow limits history e

-- each of the later events is allowed after those before it
abbrev pub GoesOn : Limits → List Event → List Event → Type 0
GoesOn limits history [] = Unit {0}
GoesOn limits history (e ∷ later) = IsAllowed limits history e × GoesOn limits (history ++ e ∷ []) later

-- a history is legal where each of its events is allowed after those before it
abbrev pub IsLegal : Limits → List Event → Type 0
IsLegal limits history = GoesOn limits [] history
