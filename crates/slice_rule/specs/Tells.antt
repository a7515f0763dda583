-- What each step tells: the seat's view before, the word found and the view after.
use Rattle.std.specs.Prelude.{◌≡◌, ℕ, ◌+◌, ◌^◌, ◌<◌, List, length, Contains, IsBitSet}
use mathlib.Core.List.{IsPrefix}
use Rattle.atomic_table.specs.Table.{Me, Step}
use Rattle.funnel_model.specs.declared.event.Event.{Event}
use Rattle.funnel_model.specs.Events.{bits_on}
use Rattle.funnel_model.specs.Legal.{Limits, IsLegal}
use Rattle.funnel_model.specs.RowWords.{IsCommitted}
use Rattle.funnel_model.specs.Tokens.{MayRead}
use Rattle.row_layout.specs.Owners.{Owns, StandsOn}
use Rattle.slice_rule.specs.declared.view.Role.{Role}
use Rattle.slice_rule.specs.declared.view.Role.TheVariants as role
use Rattle.slice_rule.specs.declared.view.Fact.TheVariants as fact
use Rattle.slice_rule.specs.declared.view.View.{View}
use Rattle.slice_rule.specs.Pools.{first_row}
use Rattle.slice_rule.specs.Views.{last_of, pass_of_role, settled, with_asked, with_event, with_number, with_own}
use Rattle.slice_rule.specs.Worlds.{LacksAtMostOne, made_by}

abbrev pub Seated : Type 0
Seated = Me (Unit {0}) View

-- one more pass is numbered
abbrev pub Numbers : Step (Unit {0}) → Seated → ℕ → Seated → Type 0
Numbers st before found after = after ≡ (with_number before.0, before.1)

-- what a seat of this role learns of its new front: a pass that it has all that it asked, or all but the last; the home that
-- it had seen all before
abbrev pub Learns : Role → List Event → List Event → List Event → Type 0
Learns (role.Home numbered seats) before asked front = front ≡ before
Learns (role.Pass pass) before asked front = LacksAtMostOne (made_by pass front) asked
Learns _ before asked front = Unit {0}

-- the front of a seat that isn't spent is legal
abbrev pub HasLegalFront : Role → Limits → List Event → Type 0
HasLegalFront role.Spent limits front = Unit {0}
HasLegalFront _ limits front = IsLegal limits front

-- the seat's front is the longer of the two, and each of the two begins it
pub record Settles (st : Step (Unit {0})) (before : Seated) (found : ℕ) (after : Seated) : Type 0 where
  pub view : after ≡ (settled before.0, before.1)
  pub own : IsPrefix before.0.front (settled before.0).front
  pub met : IsPrefix before.0.met (settled before.0).front
  pub few : length (settled before.0).front < 2 ^ 63
  pub legal : HasLegalFront before.0.role before.0.limits (settled before.0).front
  pub role : Learns before.0.role before.0.front before.0.asked (settled before.0).front

-- the pass asked the event
abbrev pub AsksFor : Event → Step (Unit {0}) → Seated → ℕ → Seated → Type 0
AsksFor e st before found after = after ≡ (with_asked before.0 e, before.1)

-- the history has the event, and as many events were found as it had before
pub record AppendsEvent (e : Event) (st : Step (Unit {0})) (before : Seated) (found : ℕ) (after : Seated) : Type 0 where
  pub view : after ≡ (with_event before.0 e, before.1)
  pub number : found ≡ length before.0.front

-- the pass set this bit of a row word, and no other, under its last event
abbrev pub SetsBit : Step (Unit {0}) → Seated → ℕ → Seated → Type 0
SetsBit st before found after = (word bit : ℕ) → st.word ≡ first_row before.0.limits + word → st.first ≡ 2 ^ bit
    → after ≡ (with_own before.0 (fact.BitSet (last_of before.0) (record { word = word; bit = bit })), before.1)

-- the pass made this row word zero under its last event
abbrev pub ClearsWord : Step (Unit {0}) → Seated → ℕ → Seated → Type 0
ClearsWord st before found after = (word : ℕ) → st.word ≡ first_row before.0.limits + word
    → after ≡ (with_own before.0 (fact.WordZero (last_of before.0) word), before.1)

-- The pass read this row word under its last event. The value has each bit that its front has committed in a slice that it may read. Where
-- a column of such a slice owns a bit that is set in the value, each add or move that stands on the column, as the pass has seen, has it
-- among its bits.
pub record ReadsWord (st : Step (Unit {0})) (before : Seated) (found : ℕ) (after : Seated) : Type 0 where
  pub view : (word : ℕ) → st.word ≡ first_row before.0.limits + word → after ≡ (with_own before.0 (fact.WordRead (last_of before.0) word found), before.1)
  pub least : (word slice bit : ℕ) → st.word ≡ first_row before.0.limits + word → MayRead before.0.limits.columns before.0.front (pass_of_role before.0.role) slice
      → IsCommitted before.0.front slice (record { word = word; bit = bit }) → IsBitSet found bit
  pub owned : (word slice column bit : ℕ) (event : Event) → st.word ≡ first_row before.0.limits + word
      → MayRead before.0.limits.columns before.0.front (pass_of_role before.0.role) slice → IsBitSet found bit
      → Owns before.0.limits before.0.config before.0.front slice column (record { word = word; bit = bit })
      → StandsOn before.0.front slice column event → Contains (bits_on slice column event) (record { word = word; bit = bit })
