-- What a pass must have before it makes a slice zero, and what it knows afterwards.
use Rattle.std.specs.Prelude.{◌≡◌, ◌↔◌, ◌⊎◌, ℕ, ◌*◌, ◌≤◌, Contains}
use Rattle.funnel_model.specs.declared.claim.ClearJob.{ClearJob}
use Rattle.funnel_model.specs.declared.config.TheConstants.{MOST_ROW_WORDS}
use Rattle.funnel_model.specs.Legal.{IsInSlice}
use Rattle.slice_rule.specs.declared.view.Fact.{Fact}
use Rattle.slice_rule.specs.declared.view.Fact.TheVariants as fact
use Rattle.slice_rule.specs.Numbers.{last_number}
use Rattle.slice_rule.specs.Pools.{PoolId}
use Rattle.slice_rule.specs.Seats.{HasNoneOutstanding, HoldsJob, PassState}

-- each slice of the pool has room for so many words, and there are not too many in all
pub record IsRoomOf (room : ℕ) (pool : PoolId) : Type 0 where
  pub words : room ≡ pool.limits.slice_words
  pub small : pool.limits.slices * room ≤ MOST_ROW_WORDS

-- that one of the slice's words is zero, under the Clear with this number
abbrev pub IsZeroOf : ℕ → ℕ → ℕ → Fact → Type 0
IsZeroOf slice_words slice number f = (word : ℕ) × IsInSlice slice_words slice word × (f ≡ fact.WordZero number word)

-- The pass is one of the pool and clears the slice of the job, and nothing that it asked is outstanding; each slice has room for so many
-- words.
pub record CanClearSlice (pool : PoolId) (seat : PassState) (job : ClearJob) (room : ℕ) : Type 0 where
  pub same : seat.pool ≡ pool
  pub holds : HoldsJob seat job
  pub none_outstanding : HasNoneOutstanding seat
  pub has_room : IsRoomOf room pool

-- The pass knows of each word of the slice that it is zero, under the number of its last event, which is the Clear; it knows nothing else
-- that it did not know before, and is otherwise as it was.
pub record ClearsSlice (pool : PoolId) (before after : PassState) (job : ClearJob) : Type 0 where
  pub same : after ≡ record before { own = after.own }
  pub zeros :
      (f : Fact) → Contains after.own f
      ↔ (Contains before.own f ⊎ IsZeroOf pool.limits.slice_words job.slice (last_number before.number before.front) f)
