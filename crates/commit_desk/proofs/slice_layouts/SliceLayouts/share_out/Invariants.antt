use Rattle.std.proofs.Common.{◌≤◌, take, vec_capacity}
use Rattle.commit_desk.specs.Treatments.{AreShared}
use Rattle.commit_desk.proofs.slice_layouts.SliceLayouts.share_out.Given as goal

-- the entries before this place are shared
abbrev pub invariant-loop-index : goal.invariant-loop-index
invariant-loop-index l = record {
  shared : AreShared (take l.index l.self-inside.treatments.items) l.slices l.layouts.entries.items;
  room : vec_capacity l.fn.layouts.entries ≤ vec_capacity l.layouts.entries;
}
