use Rattle.std.proofs.Common.{◌≡◌, ◌≤◌}
use Rattle.treatment.proofs.Counting.{rows_so_far}
use Rattle.treatment.proofs.ranks.rows_at.Given as goal

abbrev pub invariant-loop-j : goal.invariant-loop-j
invariant-loop-j l = record {
  rows : l.rows ≡ rows_so_far l.class l.count l.max_rank l.rank l.j;
  bound : l.rows ≤ l.j;
}
