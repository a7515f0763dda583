use Rattle.std.proofs.Common.{◌≡◌, ◌≤◌, ◌-◌}
use Rattle.engine.specs.Scans.{AreScannedBelow, IsPlannedFor, part_of}
use Rattle.engine.specs.declared.search.Search.{Search}
use Rattle.funnel_model.specs.declared.config.TheConstants.{MOST_SLICES}
use Rattle.row_read.specs.SharedRows.{kept_of}
use Rattle.engine.proofs.engine_pool.EnginePool.scan_slices.Given as goal

-- the slices before this one are scanned
abbrev pub invariant-loop-slice : goal.invariant-loop-slice
invariant-loop-slice g l = record {
  within : l.from ≤ MOST_SLICES;
  kept : kept_of l.rows ≡ kept_of l.fn.rows;
  scanned : (search : Search) → IsPlannedFor l.entry.layout.config search l.planned → AreScannedBelow l.entry.layout.config l.rows.seat.now (part_of l.entry l.rows) search l.from l.hits.sure l.hits.unsure;
}

abbrev pub decreases-loop-slice : goal.decreases-loop-slice
decreases-loop-slice g l = MOST_SLICES - l.from
