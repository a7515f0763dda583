-- the atom of the bytes from here ends where that of the bytes from the start does
use Rattle.std.proofs.Common.{length, ◌-◌, ◌≡◌, ◌+◌, ◌≤◌, drop}
use Rattle.funnel_model.specs.Queries.{atom_bytes}
use Rattle.bool_query.proofs.parse.atom_end.Given as goal

abbrev pub invariant-loop-end : goal.invariant-loop-end
invariant-loop-end l =
    (l.end ≤ length l.bytes) × (l.end + length (atom_bytes (drop l.end l.bytes)) ≡ l.from + length (atom_bytes (drop l.from l.bytes)))

abbrev pub decreases-loop-end : goal.decreases-loop-end
decreases-loop-end l = length l.bytes - l.end
