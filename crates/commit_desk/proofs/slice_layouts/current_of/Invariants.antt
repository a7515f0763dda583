use Rattle.std.proofs.Common.{◌≡◌, ℕ, ◌<◌, get_or}
use Rattle.commit_desk.specs.declared.find_layouts.FindLayout.{FindLayout}
use Rattle.commit_desk.proofs.slice_layouts.current_of.Given as goal

-- no entry before this place has the number
abbrev pub invariant-loop-index : goal.invariant-loop-index
invariant-loop-index l = (k : ℕ) (d : FindLayout) → k < l.index → (get_or l.treatments k d).number ≡ l.number → ⊥
