use Rattle.std.proofs.Common.{arith}
use Rattle.slice_stages.proofs.stages.Stages.ready.Goals as goal

pub overflow_add-ready : goal.overflow_add-ready
overflow_add-ready c =
    let few = c.self.invariant.sets.few in
    let sum = c.loop-stage.invariant.1 in
    omega arith
