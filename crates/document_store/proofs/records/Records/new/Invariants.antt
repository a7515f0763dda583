use Rattle.std.proofs.Common.{◌≡◌, ◌≤◌, replicate, Some, vec_capacity}
use Rattle.document_store.specs.Slots.{free_slot}
use Rattle.document_store.proofs.records.Records.new.Given as goal

-- the slices so far, all of whose columns are free; there is room for all
abbrev pub invariant-loop : goal.invariant-loop
invariant-loop l = record {
  free : l.held.items ≡ replicate l.counter (Some (replicate l.columns free_slot));
  room : l.slices ≤ vec_capacity l.held;
}
