use Rattle.std.proofs.Common.{◌≡◌, ◌≤◌, replicate, vec_capacity}
use Rattle.document_store.specs.Slots.{free_slot}
use Rattle.document_store.proofs.slots.Slots.free.Given as goal

-- the free slots so far; there is room for all
abbrev pub invariant-loop : goal.invariant-loop
invariant-loop l = record {
  free : l.slots.items ≡ replicate l.counter free_slot;
  room : l.columns ≤ vec_capacity l.slots;
}
