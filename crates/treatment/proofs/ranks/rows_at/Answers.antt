use Rattle.std.proofs.Common.{◌≡◌, ℕ, Bool, eqb, ap, sym, ◌∙◌, arith}
use Rattle.std.proofs.lemmas.Bool.Decides.{nat_tests}
use Rattle.treatment.proofs.Counting.{rows_so_far-yes, rows_so_far-no}
use Rattle.treatment.proofs.ranks.rows_at.Goals as goal
use Rattle.treatment.proofs.ranks.rows_at.Goals.{then-rank_of-rank, else-rank_of-rank}

same_test : (a b r : ℕ) (t : Bool) → a ≡ b → eqb a r ≡ t → eqb b r ≡ t
same_test a b r t e h = ap (λ x. eqb x r) (sym e) ∙ h

pub loop-j-preserved : goal.loop-j-preserved
loop-j-preserved c =
    elim c.if-rank_of-rank.branch [
      | then-rank_of-rank w ↦ record {
        rows =
            let more = rows_so_far-yes _ _ _ _ _ (same_test _ _ c.args.rank _ c.rank_of.ensures.value (grind (arith, nat_tests))) in
            omega (arith, more, c.loop-j.invariant.rows);
        bound = omega arith;
      }
      | else-rank_of-rank w ↦ record {
        rows =
            let more = rows_so_far-no _ _ _ _ _ (same_test _ _ c.args.rank _ c.rank_of.ensures.value (grind (arith, nat_tests))) in
            omega (arith, more, c.loop-j.invariant.rows);
        bound = omega arith;
      }
    ]
