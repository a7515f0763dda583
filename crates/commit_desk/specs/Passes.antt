-- Where a pass stands between the turns of a call.
use Rattle.std.specs.Prelude.{◌≡◌, ℕ, ◌<◌, ◌↔◌, List, Result, Ok, Err, All, Contains}
use Rattle.funnel_model.specs.declared.bit_list.Bit.{Bit}
use Rattle.funnel_model.specs.declared.claim.Claim.{Claim}
use Rattle.funnel_model.specs.declared.claim.ClearJob.{ClearJob}
use Rattle.funnel_model.specs.declared.claim.Token.{Token}
use Rattle.funnel_model.specs.Legal.{IsIdle, IsInSlice, Limits}
use Rattle.funnel_model.specs.Tunings.{treat}
use Rattle.row_layout.specs.DocumentBits.{AreDocumentBitsIn}
use Rattle.row_layout.specs.Layouts.{LayoutId}
use Rattle.slice_rule.specs.declared.view.Fact.TheVariants as fact
use Rattle.slice_rule.specs.Numbers.{last_number}
use Rattle.slice_rule.specs.Pools.{PoolId}
use Rattle.slice_rule.specs.Seats.{HasZeroed, HoldsClaim, HoldsJob, HoldsToken, IsSeated, PassState}
use Rattle.commit_desk.specs.Desks.{NothingUnderLast}
use Rattle.commit_desk.specs.declared.answers.NotTaken.{NotTaken}
use Rattle.commit_desk.specs.declared.answers.Taken.{Taken}
use Rattle.commit_desk.specs.declared.answers.Taken.TheVariants as taken
use Rattle.commit_desk.specs.declared.answers.TakenMove.{TakenMove}
use Rattle.commit_desk.specs.Layouts.{IsLayoutOf}

-- the pass is not in the middle of a call
pub record IsResting (pool : PoolId) (seat : PassState) : Type 0 where
  pub seated : IsSeated pool seat
  pub idle : IsIdle seat.number seat.front

-- the pass has a find open
pub record IsFinding (pool : PoolId) (token : Token) (seat : PassState) : Type 0 where
  pub seated : IsSeated pool seat
  pub holds : HoldsToken seat token

-- the pass claimed a column of the pool, whose slice has this layout, and wrote nothing into it yet
pub record IsToWrite (pool : PoolId) (claim : Claim) (layout : LayoutId) (seat : PassState) : Type 0 where
  pub seated : IsSeated pool seat
  pub holds : HoldsClaim seat claim
  pub nothing : NothingUnderLast seat
  pub laid : IsLayoutOf pool.config claim.slice seat.front layout
  pub in_range : claim.slice < pool.limits.slices
  pub column : claim.column < pool.limits.columns

-- the pass wrote these bits into its column, which are those of a document with these words under the treatment of the slice
pub record HasWritten (pool : PoolId) (claim : Claim) (words : List (List ℕ)) (bits : List Bit) (seat : PassState) : Type 0 where
  pub seated : IsSeated pool seat
  pub holds : HoldsClaim seat claim
  pub document : AreDocumentBitsIn pool.limits.slice_words (treat pool.config claim.slice seat.front) words claim.slice claim.column bits
  pub inside : All (λ b. IsInSlice pool.limits.slice_words claim.slice b.word) bits
  pub bits_set : (b : Bit) → Contains bits b ↔ Contains seat.own (fact.BitSet (last_number seat.number seat.front) b)

-- the pass is to clear a slice of the pool
pub record IsToClear (pool : PoolId) (job : ClearJob) (seat : PassState) : Type 0 where
  pub seated : IsSeated pool seat
  pub holds : HoldsJob seat job
  pub in_range : job.slice < pool.limits.slices

-- the last event of the pass is the Clear of a slice, and it has made each word of the slice zero since
pub record HoldsCleared (limits : Limits) (job : ClearJob) (seat : PassState) : Type 0 where
  pub holds : HoldsJob seat job
  pub zeros : HasZeroed limits job.slice seat

-- the pass is to clear a slice of the pool, and has made each of its words zero
pub record HasCleared (pool : PoolId) (job : ClearJob) (seat : PassState) : Type 0 where
  pub to_clear : IsToClear pool job seat
  pub zeros : HasZeroed pool.limits job.slice seat

-- what the pass is to do after its take
abbrev pub IsToDo : PoolId → Taken → PassState → Type 0
IsToDo pool (taken.Claim claim layout) seat = IsToWrite pool claim layout seat
IsToDo pool (taken.Clear work layout) seat =
    IsToClear pool work.job seat × (work.slots ≡ pool.limits.columns) × IsLayoutOf pool.config work.job.slice seat.front layout
IsToDo pool (taken.Wait slice) seat = IsResting pool seat
IsToDo pool (taken.Refused fault) seat = IsResting pool seat

-- and after its take for a move
abbrev pub WritesOrRests : PoolId → Result TakenMove NotTaken → PassState → Type 0
WritesOrRests pool (Ok taken) seat = IsToWrite pool taken.claim taken.layout seat
WritesOrRests pool (Err fault) seat = IsResting pool seat
