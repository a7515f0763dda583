-- How many slices n documents need, and of which rank, so that they have room where they are replaced in any order.
use Rattle.std.specs.Prelude.{◌≡◌, ◌⊎◌, ◌≤◌, ◌-◌, ◌*◌, ◌^◌, ℕ}
use Rattle.funnel_model.specs.declared.config.TheConstants.{MOST_RANK}

-- the columns of a slice whose highest rank is this one
abbrev pub columns_at : ℕ → ℕ
columns_at rank = 64 * 2 ^ rank

-- so many slices have room for n documents: of all but one slice, and of all but one column in each, n documents take at most 16 in 17
abbrev pub HasRoom : ℕ → ℕ → ℕ → Type 0
HasRoom n rank slices = 17 * n ≤ (slices - 1) * (columns_at rank - 1) * 16

-- the least number of slices, from 2 on, that has room
pub record IsLeastRoom (n rank slices : ℕ) : Type 0 where
  pub two : 2 ≤ slices
  pub room : HasRoom n rank slices
  pub least : (other : ℕ) → 2 ≤ other → HasRoom n rank other → slices ≤ other

-- a rank serves where it makes at least 16 slices; rank 0 always does
abbrev pub Serves : ℕ → ℕ → Type 0
Serves n rank = (rank ≡ 0) ⊎ ((slices : ℕ) × IsLeastRoom n rank slices × (16 ≤ slices))

-- the greatest rank that serves
pub record IsBestRank (n rank : ℕ) : Type 0 where
  pub in_range : rank ≤ MOST_RANK
  pub serves : Serves n rank
  pub greatest : (other : ℕ) → other ≤ MOST_RANK → Serves n other → other ≤ rank
