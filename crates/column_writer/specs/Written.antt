-- What a pass must have before it writes a column, and what it knows afterwards.
use Rattle.std.specs.Prelude.{◌≡◌, ◌<◌, ◌↔◌, ◌⊎◌, ℕ, List, All, Contains}
use Rattle.funnel_model.specs.declared.bit_list.Bit.{Bit}
use Rattle.funnel_model.specs.declared.claim.Claim.{Claim}
use Rattle.funnel_model.specs.Legal.{IsInSlice}
use Rattle.slice_rule.specs.declared.view.Fact.{Fact}
use Rattle.slice_rule.specs.declared.view.Fact.TheVariants as fact
use Rattle.slice_rule.specs.Numbers.{last_number}
use Rattle.slice_rule.specs.Pools.{PoolId}
use Rattle.slice_rule.specs.Seats.{HasNoneOutstanding, HoldsClaim, KeepsToColumn, PassState}

-- that one of these bits is set, under the Take with this number
abbrev pub IsBitOf : ℕ → List Bit → Fact → Type 0
IsBitOf number bits f = (b : Bit) × Contains bits b × (f ≡ fact.BitSet number b)

-- The pass is one of the pool and holds the claim, and nothing that it asked is outstanding; each of the bits is one of a word of the
-- claim's slice, and no other column owns it.
pub record CanWrite (pool : PoolId) (seat : PassState) (claim : Claim) (bits : List Bit) : Type 0 where
  pub same : seat.pool ≡ pool
  pub holds : HoldsClaim seat claim
  pub none_outstanding : HasNoneOutstanding seat
  pub inside : All (λ b. IsInSlice pool.limits.slice_words claim.slice b.word) bits
  pub of_words : All (λ b. b.bit < 64) bits
  pub owners : All (KeepsToColumn seat claim) bits

-- The pass knows of each of the bits that it is set, under the number of its last event, which is the Take; it knows nothing else that it
-- did not know before, and is otherwise as it was.
pub record SetsBits (before after : PassState) (bits : List Bit) : Type 0 where
  pub same : after ≡ record before { own = after.own }
  pub facts : (f : Fact) → Contains after.own f ↔ (Contains before.own f ⊎ IsBitOf (last_number before.number before.front) bits f)
