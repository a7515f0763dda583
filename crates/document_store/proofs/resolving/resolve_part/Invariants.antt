use Rattle.std.proofs.Common.{◌≤◌}
use Rattle.document_store.specs.Finding.{kept_at, looked_at}
use Rattle.document_store.proofs.TurnLemmas.{IsTurnTo}
use Rattle.document_store.proofs.resolving.resolve_part.Given as goal

-- what the candidates so far give is found, and some words may be looked for still
abbrev pub invariant-loop-at : goal.invariant-loop-at
invariant-loop-at g l = record {
  so_far : IsTurnTo (kept_at l.records (g.J.Judge.test l.judge) l.opened_at) (looked_at l.records l.cost l.opened_at) l.candidates l.from l.fn.out l.out l.left l.at;
  some : 1 ≤ l.left;
}
