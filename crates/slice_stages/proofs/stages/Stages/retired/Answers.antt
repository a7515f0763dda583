use Rattle.std.proofs.Common.{◌≤◌, Bool, true, false, arith}
use mir.Val.{bool_byte}
use Rattle.slice_stages.proofs.stages.Stages.retired.Goals as goal

at_most_one : (b : Bool) → bool_byte b ≤ 1
at_most_one true = omega arith
at_most_one false = omega arith

pub overflow_add-retired : goal.overflow_add-retired
overflow_add-retired c =
    let few = c.self.invariant.sets.few in
    let sum = c.loop-stage.invariant.1 in
    let one = at_most_one c.is_retired.result in
    omega (arith, one)
