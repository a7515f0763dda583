use Rattle.std.proofs.Common.{◌≡◌, ◌≤◌, ℕ, length, map, take, vec_capacity}
use Rattle.document_store.proofs.found.Found.into_ids.Given as goal

-- the numbers so far; there is room for all
abbrev pub invariant-loop-id : goal.invariant-loop-id
invariant-loop-id l = record {
  numbers : l.ids.items ≡ map (λ (f : ℕ × ℕ). f.1) (take l.id-index l.id-items);
  room : length l.id-items ≤ vec_capacity l.ids;
}
