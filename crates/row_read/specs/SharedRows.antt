-- What contracts see of the words of a pool that a find reads.
use Rattle.std.specs.Prelude.{◌≡◌, ℕ, List, Contains}
use Rattle.funnel_model.specs.declared.bit_list.Bit.{Bit}
use Rattle.funnel_model.specs.declared.claim.Token.{Token}
use Rattle.funnel_model.specs.declared.event.Event.{Event}
use Rattle.funnel_model.specs.Legal.{IsInSlice}
use Rattle.funnel_model.specs.RowWords.{IsCommitted}
use Rattle.row_read.specs.declared.shared.Shared.{Shared}
use Rattle.slice_rule.specs.Pools.{PoolId}
use Rattle.slice_rule.specs.declared.view.Fact.TheVariants as fact
use Rattle.slice_rule.specs.Seats.{HasNoneOutstanding, HoldsToken, PassState, WasReadUnder, after_own}

-- the pass is one of the pool and holds the token, and nothing that it asked is outstanding
pub record CanRead (pool : PoolId) (seat : PassState) (token : Token) : Type 0 where
  pub same : seat.pool ≡ pool
  pub holds : HoldsToken seat token
  pub none_outstanding : HasNoneOutstanding seat

-- the word is one of a slice of the token
pub record IsInReach (shared : Shared) (word : ℕ) : Type 0 where
  pub can_read : CanRead shared.pool.now shared.seat.now shared.token.now
  pub slice : ℕ
  pub readable : Contains shared.token.now.slices slice
  pub inside : IsInSlice shared.pool.now.limits.slice_words slice word

-- the bit is one of an add or a move that the pass has seen, in a slice of the token, and it has seen no later clear of that slice
abbrev pub IsCommittedUnder : Shared → Bit → Type 0
IsCommittedUnder shared b = (slice : ℕ) × Contains shared.token.now.slices slice × IsCommitted shared.seat.now.front slice b

-- the pass read the bit as set under the token; so where a column of a slice that it may read owns the bit, each document that stands there,
-- as the pass has seen, has it
abbrev pub WasReadSet : Shared → Bit → Type 0
WasReadSet shared b = WasReadUnder shared.seat.now shared.token.now.opened_at b

-- under the token, the pass has read one word more, once and with this value
abbrev pub HasReadOnce : Shared → ℕ → ℕ → Shared → Type 0
HasReadOnce before word value after = after.seat.now ≡ after_own before.seat.now (fact.WordRead before.token.now.opened_at word value)

-- what no read changes: the pool, the token, which seat is borrowed, and the pass's own pool, its number, front and asked events
pub record SharedKept : Type 0 where
  pub pool : PoolId
  pub token : Token
  pub borrow : ℕ
  pub seat_pool : PoolId
  pub number : ℕ
  pub front : List Event
  pub asked : List Event

abbrev pub kept_of : Shared → SharedKept
kept_of shared = record {
  pool = shared.pool.now;
  token = shared.token.now;
  borrow = shared.seat.ghost_name;
  seat_pool = shared.seat.now.pool;
  number = shared.seat.now.number;
  front = shared.seat.now.front;
  asked = shared.seat.now.asked;
}
