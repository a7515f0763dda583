use Rattle.std.proofs.Common.{◌≡◌, map, take}
use Rattle.std.specs.Option.{is_some}
use Rattle.funnel_io.specs.Std.{new_gate}
use Rattle.funnel.proofs.listening.gates_on.Given as goal

abbrev pub invariant-loop-port : goal.invariant-loop-port
invariant-loop-port g l = l.gates.items ≡ map (new_gate (is_some l.shared) l.idle) (take l.port-index l.ports)
