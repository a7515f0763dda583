-- What contracts see of seats, and what they ask of them.
use Rattle.std.specs.Prelude.{◌≡◌, ℕ, ◌^◌, ◌<◌, ◌≤◌, ◌↔◌, List, [], ◌∷◌, ◌++◌, length, All, Contains, IsBitSet, Some}
use mathlib.Core.List.{IsPrefix}
use Rattle.atomic_table.specs.Seated.{TableId}
use Rattle.funnel_model.specs.declared.event.Event.{Event}
use Rattle.funnel_model.specs.Events.{bits_on, pass_of}
use Rattle.funnel_model.specs.declared.claim.Claim.{Claim}
use Rattle.funnel_model.specs.declared.claim.ClearJob.{ClearJob}
use Rattle.funnel_model.specs.declared.claim.Token.{Token}
use Rattle.funnel_model.specs.History.{last_by, place}
use Rattle.funnel_model.specs.RowWords.{IsCommitted}
use Rattle.funnel_model.specs.Slices.{IsInUse}
use Rattle.funnel_model.specs.Tokens.{HasToken, MayRead}
use Rattle.funnel_model.specs.declared.event.Event.TheVariants as event
use Rattle.funnel_model.specs.Legal.{Limits, IsIdle, IsInSlice, IsLegal}
use Rattle.funnel_model.specs.declared.bit_list.Bit.{Bit}
use Rattle.row_layout.specs.Owners.{Owns, StandsOn}
use Rattle.slice_rule.specs.declared.view.Role.TheVariants as role
use Rattle.slice_rule.specs.declared.view.Fact.{Fact}
use Rattle.slice_rule.specs.declared.view.Fact.TheVariants as fact
use Rattle.slice_rule.specs.declared.view.View.{View}
use Rattle.slice_rule.specs.Numbers.{last_number}
use Rattle.slice_rule.specs.Pools.{PoolId}
use Rattle.slice_rule.specs.Tells.{Seated}
use Rattle.slice_rule.specs.Worlds.{made_by}

-- a pass: its pool, its number, the part of the history that it has seen, the events that it asked, what it did itself, and what
-- notes told it
pub record PassState : Type 0 where
  pub pool : PoolId
  pub number : ℕ
  pub front : List Event
  pub asked : List Event
  pub own : List Fact
  pub told : List Fact

-- the home: its pool, the whole history, and what notes told it
pub record HomeState : Type 0 where
  pub pool : PoolId
  pub history : List Event
  pub told : List Fact

-- a note: its pool, the front of the seat that it was split from, and all that this seat knew
pub record NoteState : Type 0 where
  pub pool : PoolId
  pub front : List Event
  pub facts : List Fact

-- a pool that is closed: how many events the whole history has, and the history
pub record EndedState : Type 0 where
  pub events : ℕ
  pub history : List Event

abbrev pub pool_of : TableId → View → PoolId
pool_of table v = record { table = table; limits = v.limits; config = v.config }

abbrev pub pass_state : ℕ → TableId → View → PassState
pass_state number table v = record { pool = pool_of table v; number = number; front = v.front; asked = v.asked; own = v.own; told = v.told }

abbrev pub home_state : TableId → View → HomeState
home_state table v = record { pool = pool_of table v; history = v.front; told = v.told }

abbrev pub note_state : TableId → View → NoteState
note_state table v = record { pool = pool_of table v; front = v.front; facts = v.told }

-- the number of the event under which a fact is known
abbrev pub number_under : Fact → ℕ
number_under (fact.BitSet number b) = number
number_under (fact.WordZero number word) = number
number_under (fact.WordRead number word value) = number
number_under (fact.Asked pass events) = 0

-- it is known under one of so many events
abbrev pub IsFrom : ℕ → Fact → Type 0
IsFrom events f = number_under f ≤ events

-- the seat is that of the pass with this number, which asked so many events
pub record IsPassSeat (number asked : ℕ) (me : Seated) : Type 0 where
  pub alone : me.1 ≡ []
  pub role : me.0.role ≡ role.Pass number
  pub in_range : number < me.0.limits.passes
  pub count : asked ≡ length me.0.asked
  pub few : length me.0.front < 2 ^ 63
  pub legal : IsLegal me.0.limits me.0.front
  pub past : All (IsFrom (length me.0.front)) me.0.own

-- the seat is the home, which has numbered each of the pool's passes and given it its seat
pub record IsHomeSeat (me : Seated) : Type 0 where
  pub alone : me.1 ≡ []
  pub role : me.0.role ≡ role.Home me.0.limits.passes me.0.limits.passes

-- the seat is a note
pub record IsNoteSeat (me : Seated) : Type 0 where
  pub alone : me.1 ≡ []
  pub role : me.0.role ≡ role.Note

-- the pass of a new pool with this number
abbrev pub new_pass_state : PoolId → ℕ → PassState
new_pass_state pool number = record { pool = pool; number = number; front = []; asked = []; own = []; told = [] }

-- the home of a new pool
abbrev pub new_home_state : PoolId → HomeState
new_home_state pool = record { pool = pool; history = []; told = [] }

-- the history has all that the pass asked, as far as the pass has seen it
abbrev pub HasNoneOutstanding : PassState → Type 0
HasNoneOutstanding pass = pass.asked ≡ made_by pass.number pass.front

-- the pass after it asked the event
abbrev pub after_ask : PassState → Event → PassState
after_ask pass e = record pass { asked = pass.asked ++ e ∷ [] }

-- all that a pass can tell
abbrev pub facts_of_pass : PassState → List Fact
facts_of_pass pass = fact.Asked pass.number pass.asked ∷ pass.own ++ pass.told

-- the home knows that its pass asked the event, after all of its events in the history
abbrev pub IsOutstanding : HomeState → Event → Type 0
IsOutstanding home e = Contains home.told (fact.Asked (pass_of e) (made_by (pass_of e) home.history ++ e ∷ []))

-- the pass after it did something itself
abbrev pub after_own : PassState → Fact → PassState
after_own pass f = record pass { own = f ∷ pass.own }

-- the pass's last event is its claim of this column
abbrev pub HoldsClaim : PassState → Claim → Type 0
HoldsClaim pass claim = last_by pass.number pass.front ≡ Some (event.Take pass.number claim.slice claim.column)

-- no column of the claim's slice owns the bit, as the pass has seen, but the claimed one
abbrev pub KeepsToColumn : PassState → Claim → Bit → Type 0
KeepsToColumn pass claim bit = (column : ℕ) → Owns pass.pool.limits pass.pool.config pass.front claim.slice column bit → column ≡ claim.column

-- the pass's last event is the Clear of this slice
abbrev pub HoldsJob : PassState → ClearJob → Type 0
HoldsJob pass job = last_by pass.number pass.front ≡ Some (event.Clear pass.number job.slice)

-- the pass's find is open, and the token has its number, its place and the slices that were in use before it
pub record HoldsToken (pass : PassState) (token : Token) : Type 0 where
  pub begun : HasToken pass.front pass.number token.opened_at
  pub at_place : token.place ≡ place begun.earlier
  pub slices : (slice : ℕ) → Contains token.slices slice ↔ ((slice < pass.pool.limits.slices) × IsInUse pass.pool.limits.columns slice begun.earlier)

-- the word's value has each bit that the pass has seen committed in a slice of its token
abbrev pub HasCommitted : PassState → Token → ℕ → ℕ → Type 0
HasCommitted pass token word value =
    (slice bit : ℕ) → Contains token.slices slice → IsCommitted pass.front slice (record { word = word; bit = bit }) → IsBitSet value bit

-- the pass made each word of the slice zero, under its last event
abbrev pub HasZeroed : Limits → ℕ → PassState → Type 0
HasZeroed limits slice pass = (word : ℕ) → IsInSlice limits.slice_words slice word → Contains pass.own (fact.WordZero (last_number pass.number pass.front) word)

-- The pass read this bit as set, under its find with this number. Where a column of a slice that it may read owns the bit, each add or move
-- that stands on that column, as the pass has seen, has it among its bits.
pub record WasReadUnder (pass : PassState) (number : ℕ) (bit : Bit) : Type 0 where
  pub value : ℕ
  pub read : Contains pass.own (fact.WordRead number bit.word value)
  pub set : IsBitSet value bit.bit
  pub owned : (slice column : ℕ) (event : Event) → MayRead pass.pool.limits.columns pass.front pass.number slice
      → Owns pass.pool.limits pass.pool.config pass.front slice column bit → StandsOn pass.front slice column event → Contains (bits_on slice column event) bit

-- a pass may ask the event: an add or a move has the bits that the pass set under its last Take and no others, and all words of a slice
-- that is opened were made zero under its last Clear
abbrev pub IsReady : Limits → PassState → Event → Type 0
IsReady limits pass (event.Add p id text slice column bits) = (b : Bit) → Contains bits b ↔ Contains pass.own (fact.BitSet (last_number p pass.front) b)
IsReady limits pass (event.Move p id slice column bits) = (b : Bit) → Contains bits b ↔ Contains pass.own (fact.BitSet (last_number p pass.front) b)
IsReady limits pass (event.Opened p slice alone) =
    (word : ℕ) → IsInSlice limits.slice_words slice word → Contains pass.own (fact.WordZero (last_number p pass.front) word)
IsReady limits pass _ = Unit {0}

-- the home knows what an event claims of the row words: all bits of an add or a move were set under its pass's last Take, and all words
-- of a slice that is opened were made zero under its pass's last Clear
abbrev pub IsBacked : Limits → List Fact → List Event → Event → Type 0
IsBacked limits told history (event.Add pass id text slice column bits) = All (λ b. Contains told (fact.BitSet (last_number pass history) b)) bits
IsBacked limits told history (event.Move pass id slice column bits) = All (λ b. Contains told (fact.BitSet (last_number pass history) b)) bits
IsBacked limits told history (event.Opened pass slice alone) =
    (word : ℕ) → IsInSlice limits.slice_words slice word → Contains told (fact.WordZero (last_number pass history) word)
IsBacked limits told history _ = Unit {0}

-- the home after the event
abbrev pub after_append : HomeState → Event → HomeState
after_append home e = record home { history = home.history ++ e ∷ [] }

-- the pass is of this pool, and asked nothing that it hasn't seen
pub record IsSeated (pool : PoolId) (pass : PassState) : Type 0 where
  pub same : pass.pool ≡ pool
  pub none_outstanding : HasNoneOutstanding pass

-- the history goes on from what the pass had seen, and the pass's events in it are those that it asked
pub record HasEnded (history : List Event) (pass : PassState) : Type 0 where
  pub seen : IsPrefix pass.front history
  pub made : made_by pass.number history ≡ pass.asked

-- nothing that a seat was told is lost, and it may have been told more
abbrev pub KeepsTold : List Fact → List Fact → Type 0
KeepsTold before after = (more : List Fact) × (after ≡ more ++ before)

-- the pass is the same, and it asked and did nothing in between; what it has seen and was told may be more
pub record IsSamePass (before after : PassState) : Type 0 where
  pub pool : after.pool ≡ before.pool
  pub number : after.number ≡ before.number
  pub asked : after.asked ≡ before.asked
  pub own : after.own ≡ before.own
  pub told : KeepsTold before.told after.told

-- the home is the same, and the history too; what it was told may be more
pub record IsSameHome (before after : HomeState) : Type 0 where
  pub pool : after.pool ≡ before.pool
  pub history : after.history ≡ before.history
  pub told : KeepsTold before.told after.told

-- the pass made the event: it asked it and has seen it, and did nothing else; what it was told may be more
pub record HasMade (e : Event) (before after : PassState) : Type 0 where
  pub pool : after.pool ≡ before.pool
  pub number : after.number ≡ before.number
  pub front : after.front ≡ before.front ++ e ∷ []
  pub asked : after.asked ≡ before.asked ++ e ∷ []
  pub own : after.own ≡ before.own
  pub told : KeepsTold before.told after.told

-- the pass is not in the middle of a call, and it asked nothing that it hasn't seen
pub record IsAtRest (pass : PassState) : Type 0 where
  pub idle : IsIdle pass.number pass.front
  pub none_outstanding : HasNoneOutstanding pass
