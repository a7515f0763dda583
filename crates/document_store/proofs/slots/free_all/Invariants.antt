use Rattle.std.proofs.Common.{◌≡◌, ◌++◌, replicate, drop}
use Rattle.document_store.specs.Slots.{free_slot}
use Rattle.document_store.proofs.slots.free_all.Given as goal

-- those so far are free
abbrev pub invariant-loop-slot : goal.invariant-loop-slot
invariant-loop-slot l = l.slots ≡ replicate l.slot-index free_slot ++ drop l.slot-index l.fn.slots
