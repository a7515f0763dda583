-- The rule of the pool: what holds of its words and of all seats' views between any two steps.
use Rattle.std.specs.Prelude.{◌≡◌, ℕ, ◌+◌, ◌^◌, ◌<◌, ◌≤◌, ◌⊎◌, true, List, [], ◌∷◌, ◌++◌, length, slice_index, All, Contains, Some}
use Rattle.std.specs.List.{list_any}
use mathlib.Core.Option.{some}
use mathlib.Core.List.{IsPrefix}
use lib.ListN.{get_elem?}
use Rattle.atomic_table.specs.Table.{State}
use Rattle.funnel_model.specs.declared.config.Config.{Config}
use Rattle.funnel_model.specs.declared.event.Event.{Event}
use Rattle.funnel_model.specs.declared.event.Event.TheVariants as event
use Rattle.funnel_model.specs.declared.bit_list.Bit.{Bit}
use Rattle.funnel_model.specs.Events.{clears}
use Rattle.funnel_model.specs.History.{last_by}
use Rattle.funnel_model.specs.Legal.{Limits, IsInSlice, IsLegal}
use Rattle.funnel_model.specs.RowWords.{AreFresh, Covers, IsSetIn}
use Rattle.row_layout.specs.Owners.{KeepToOwners, Owns}
use Rattle.slice_rule.specs.declared.view.Role.{Role}
use Rattle.slice_rule.specs.declared.view.Role.TheVariants as role
use Rattle.slice_rule.specs.declared.view.Fact.{Fact}
use Rattle.slice_rule.specs.declared.view.Fact.TheVariants as fact
use Rattle.slice_rule.specs.declared.view.View.{View}
use Rattle.slice_rule.specs.Pools.{ask_word, pool_words, row_words}
use Rattle.slice_rule.specs.Numbers.{HasEvent, last_number, takes_in}
use Rattle.slice_rule.specs.Worlds.{World, LacksAtMostOne, made_by}

-- word 0 is the number of events of the history, which is legal and short enough to be counted
pub record CountsEvents (limits : Limits) (world : World) (words : List ℕ) : Type 0 where
  pub events : slice_index words 0 ≡ length world.history
  pub few : length world.history < 2 ^ 63
  pub legal : IsLegal limits world.history

-- the word of each pass counts the events that it asked, and the history has all of these, or all but the last; a pass without
-- a seat asked nothing
pub record CountsAsked (limits : Limits) (world : World) (words : List ℕ) : Type 0 where
  pub count : (pass : ℕ) → pass < limits.passes → slice_index words (ask_word pass) ≡ length (world.asked pass)
  pub made : (pass : ℕ) → LacksAtMostOne (made_by pass world.history) (world.asked pass)
  pub none : (pass : ℕ) → world.seated ≤ pass → world.asked pass ≡ []

-- the bit lies in the slice of the Take with this number, and it is set, unless that slice was cleared since
pub record IsKnownSet (limits : Limits) (history : List Event) (rows : List ℕ) (number : ℕ) (b : Bit) : Type 0 where
  pub pass : ℕ
  pub slice : ℕ
  pub column : ℕ
  pub take : HasEvent history number (event.Take pass slice column)
  pub inside : IsInSlice limits.slice_words slice b.word
  pub set : IsSetIn rows b ⊎ (list_any (clears slice) take.later ≡ true)

-- the word lies in the slice of the Clear with this number, and it is zero, unless a column of that slice was taken since
pub record IsKnownZero (limits : Limits) (history : List Event) (rows : List ℕ) (number word : ℕ) : Type 0 where
  pub pass : ℕ
  pub slice : ℕ
  pub clear : HasEvent history number (event.Clear pass slice)
  pub inside : IsInSlice limits.slice_words slice word
  pub zero : (slice_index rows word ≡ 0) ⊎ (list_any (takes_in slice) clear.later ≡ true)

-- what a seat knows is so: of the events that a pass asked it knows a beginning
abbrev pub IsTrueFact : Limits → World → List ℕ → Fact → Type 0
IsTrueFact limits world rows (fact.Asked pass events) = IsPrefix events (world.asked pass)
IsTrueFact limits world rows (fact.BitSet number b) = IsKnownSet limits world.history rows number b
IsTrueFact limits world rows (fact.WordZero number word) = IsKnownZero limits world.history rows number word
IsTrueFact limits world rows (fact.WordRead number word value) = Unit {0}

-- so many passes are numbered, no more than the sizes have, and each of them has its seat, but for the last, which may be about to
-- get it
pub record CountsPasses (limits : Limits) (seated numbered : ℕ) : Type 0 where
  pub in_range : numbered ≤ limits.passes
  pub no_more : seated ≤ numbered
  pub all_but_last : numbered ≤ seated + 1

-- the home is one seat, it has seen the whole history, and it knows how many passes word 1 counts and how many of these have a seat
pub record IsHome (world : World) (words : List ℕ) (id numbered seats : ℕ) (front : List Event) : Type 0 where
  pub one : id ≡ world.home
  pub whole : front ≡ world.history
  pub counts : slice_index words 1 ≡ numbered
  pub seated : seats ≡ world.seated

-- the number of a pass belongs to one seat, which knows what the pass asked; its front lacks at most the last of it
pub record IsPassOf (world : World) (id pass : ℕ) (front asked : List Event) : Type 0 where
  pub seated : pass < world.seated
  pub one : id ≡ world.seat pass
  pub all : asked ≡ world.asked pass
  pub seen : LacksAtMostOne (made_by pass front) (world.asked pass)

-- an add or a move has each bit that its pass knows set under the event with this number
abbrev pub HasKnownBits : ℕ → List Fact → Event → Type 0
HasKnownBits number own (event.Add pass id text slice column bits) = (b : Bit) → Contains own (fact.BitSet number b) → Contains bits b
HasKnownBits number own (event.Move pass id slice column bits) = (b : Bit) → Contains own (fact.BitSet number b) → Contains bits b
HasKnownBits number own _ = Unit {0}

-- What a pass knows of owned bits: each set bit that its pending column owns it set itself, under its take; and the event that it asked
-- and the history lacks, if it is an add or a move, has each bit that the pass set under its last event.
pub record KnowsItsBits (limits : Limits) (config : Config) (history : List Event) (rows : List ℕ) (pass : ℕ) (asked : List Event) (own : List Fact) : Type 0 where
  pub pending : (slice column : ℕ) (b : Bit) → last_by pass history ≡ Some (event.Take pass slice column) → IsSetIn rows b
      → Owns limits config history slice column b → Contains own (fact.BitSet (last_number pass history) b)
  pub outstanding : (e : Event) → asked ≡ made_by pass history ++ e ∷ [] → HasKnownBits (last_number pass history) own e

-- what a seat knows of them by its role
abbrev pub KnowsByRole : Limits → Config → List Event → List ℕ → List Event → List Fact → Role → Type 0
KnowsByRole limits config history rows asked own (role.Pass pass) = KnowsItsBits limits config history rows pass asked own
KnowsByRole limits config history rows asked own _ = Unit {0}

-- what a seat knows by its role
abbrev pub FitsRole : World → List ℕ → ℕ → List Event → List Event → Role → Type 0
FitsRole world words id front asked (role.Home numbered seats) = IsHome world words id numbered seats front
FitsRole world words id front asked (role.Pass pass) = IsPassOf world id pass front asked
FitsRole world words id front asked _ = Unit {0}

-- a seat that isn't spent has the sizes of the pool
abbrev pub HasSizes : Limits → Limits → Role → Type 0
HasSizes limits known role.Spent = Unit {0}
HasSizes limits known _ = known ≡ limits

-- a seat knows nothing that isn't so: its front is a beginning of the history, and what it did and was told is true; and that of a pass
-- knows what it has to of owned bits
pub record Fits (limits : Limits) (config : Config) (world : World) (words : List ℕ) (id : ℕ) (v : View) : Type 0 where
  pub sizes : HasSizes limits v.limits v.role
  pub front : IsPrefix v.front world.history
  pub met : IsPrefix v.met world.history
  pub own : All (IsTrueFact limits world (row_words limits words)) v.own
  pub told : All (IsTrueFact limits world (row_words limits words)) v.told
  pub role : FitsRole world words id v.front v.asked v.role
  pub bits : KnowsByRole limits config world.history (row_words limits words) v.asked v.own v.role

-- the seat with this id has a role of this kind
pub record IsSeatOfKind (HasKind : Role → Type 0) (views : List View) (id : ℕ) : Type 0 where
  pub view : View
  pub at : get_elem? views id ≡ some view
  pub kind : HasKind view.role

-- the role is that of the home, whatever it counts
abbrev pub IsHomeRole : Role → Type 0
IsHomeRole (role.Home numbered seats) = Unit {0}
IsHomeRole _ = ⊥

-- the role is that of the pass
abbrev pub IsPassRole : ℕ → Role → Type 0
IsPassRole pass r = r ≡ role.Pass pass

-- the home has its seat, and so has each pass that was given one
pub record HaveSeats (world : World) (views : List View) : Type 0 where
  pub home : IsSeatOfKind IsHomeRole views world.home
  pub passes : (pass : ℕ) → pass < world.seated → IsSeatOfKind (IsPassRole pass) views (world.seat pass)

-- the rule of a pool of these sizes that was made with this configuration: beside the counts and what the seats know, the row words have
-- each bit that the history has committed, their set bits keep to their owners, and the words of a slice without a claimed column are zero
pub record IsKept (limits : Limits) (config : Config) (s : State (Unit {0}) View) : Type 0 where
  pub world : World
  pub laid : length s.words ≡ pool_words limits
  pub events : CountsEvents limits world s.words
  pub passes : CountsPasses limits world.seated (slice_index s.words 1)
  pub asked : CountsAsked limits world s.words
  pub covers : Covers (row_words limits s.words) world.history
  pub owners : KeepToOwners limits config world.history (IsSetIn (row_words limits s.words))
  pub fresh : AreFresh limits (row_words limits s.words) world.history
  pub given : HaveSeats world s.views
  pub seats : (id : ℕ) (v : View) → get_elem? s.views id ≡ some v → Fits limits config world s.words id v
