use Rattle.std.proofs.Common.{◌≤◌, ◌∙◌, arith, inl, inr, subst, sym}
use Rattle.std.proofs.lemmas.Bool.{cases_eq, true≢false}
use Rattle.fit.specs.Shapes.{Serves}
use Rattle.fit.proofs.shape.best_rank.Goals as goal

pub loop-rank-preserved : goal.loop-rank-preserved
loop-rank-preserved c = let t = c.loop-rank-test.true in record {
  in_range = omega (arith, c.loop-rank.invariant.in_range);
  none_above = λ other few serves.
      let below : other ≤ c.loop-rank.rank = c.loop-rank.invariant.none_above other few serves in
      elim (cases_eq other c.loop-rank.rank) [
        | inl same ↦ absurd (true≢false (sym (c.serves.ensures.1 (subst (Serves c.args.documents) same serves)) ∙ t))
        | inr differs ↦ omega (arith, below, differs)
      ];
}
