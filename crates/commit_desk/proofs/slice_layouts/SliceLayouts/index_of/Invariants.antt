use Rattle.std.proofs.Common.{ℕ, ◌<◌, get_or, Contains}
use Rattle.commit_desk.specs.declared.find_layouts.FindLayout.{FindLayout}
use Rattle.commit_desk.proofs.slice_layouts.SliceLayouts.index_of.Given as goal

-- no entry before this place has the slice
abbrev pub invariant-loop-index : goal.invariant-loop-index
invariant-loop-index l = (k : ℕ) (d : FindLayout) → k < l.index → Contains (get_or l.self-inside.treatments.items k d).slices l.slice → ⊥
