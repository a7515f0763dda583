-- Why no document can be taken in a slice of a full engine.
use Rattle.std.specs.Prelude.{ℕ, ◌<◌, ◌≡◌, true, List, length, slice_index_or}
use Rattle.funnel_model.specs.declared.block.Block.{Block}
use Rattle.funnel_model.specs.declared.block.Block.TheVariants as block
use Rattle.funnel_model.specs.declared.event.Event.{Event}
use Rattle.funnel_model.specs.History.{Document}
use Rattle.funnel_model.specs.Legal.{Limits}
use Rattle.funnel_model.specs.Slices.{ColumnState, Live, Pending, IsInState, is_clearing_by}
use Rattle.funnel_model.specs.Tokens.{Guards}

-- the column is live or pending
abbrev pub IsHeld : ColumnState → Type 0
IsHeld (Live document since) = Unit {0}
IsHeld (Pending pass) = Unit {0}
IsHeld _ = ⊥

-- the column is the lowest of the slice that is live or pending, and it is in this state
pub record IsLowestHeld (columns : ℕ) (history : List Event) (slice column : ℕ) (state : ColumnState) : Type 0 where
  pub in_range : column < columns
  pub is_in : IsInState history slice column state
  pub held : IsHeld state
  pub lowest : (lower : ℕ) → lower < column → (other : ColumnState) → IsInState history slice lower other → IsHeld other → ⊥

-- the pass is the lowest that guards the slice, and this is its token's number
pub record IsLowestGuard (columns : ℕ) (history : List Event) (slice pass number : ℕ) : Type 0 where
  pub guards : Guards columns history slice pass number
  pub lowest : (lower : ℕ) → lower < pass → (other : ℕ) → Guards columns history slice lower other → ⊥

-- this is what keeps documents out of the slice
abbrev pub IsBlock : ℕ → List Event → ℕ → Block → Type 0
IsBlock columns history slice (block.Clearing pass) = is_clearing_by pass slice history ≡ true
IsBlock columns history slice (block.Guarded pass opened_at) = IsLowestGuard columns history slice pass opened_at
IsBlock columns history slice (block.Live column) =
    (document : Document) × (since : ℕ) × IsLowestHeld columns history slice column (Live document since)
IsBlock columns history slice (block.Pending column pass) = IsLowestHeld columns history slice column (Pending pass)

-- one block for each slice, by its number; meant for full histories
pub record AreBlocks (limits : Limits) (history : List Event) (blocks : List Block) : Type 0 where
  pub count : length blocks ≡ limits.slices
  pub each : (slice : ℕ) (d : Block) → slice < limits.slices → IsBlock limits.columns history slice (slice_index_or blocks slice d)
