use Rattle.std.proofs.Common.{ℕ, ◌<◌, ◌≡◌, length, slice_index_or, vec_capacity}
use Rattle.funnel_model.specs.Blocks.{IsBlock}
use Rattle.funnel_model.specs.declared.block.Block.{Block}
use Rattle.commit_desk.proofs.desk.Desk.blocks.Given as goal

-- one block for each lower slice
abbrev pub invariant-loop-slice : goal.invariant-loop-slice
invariant-loop-slice l =
    (length l.blocks.items ≡ l.slice)
    × (vec_capacity l.blocks ≡ vec_capacity l.fn.room)
    × ((slice : ℕ) (d : Block) → slice < l.slice → IsBlock l.self.pool.limits.columns l.self.history slice (slice_index_or l.blocks.items slice d))
