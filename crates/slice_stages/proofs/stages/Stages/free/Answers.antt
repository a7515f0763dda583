use Rattle.std.proofs.Common.{arith}
use Rattle.slice_stages.proofs.stages.Stages.free.Goals as goal

pub overflow_add-free : goal.overflow_add-free
overflow_add-free c =
    let few = c.self.invariant.sets.few in
    let sum = c.loop-stage.invariant.1 in
    omega arith
