use Rattle.std.proofs.Common.{arith}
use Rattle.funnel_model.proofs.TreatmentLemmas.{class-is_greatest, IsClass-unique}
use Rattle.treatment.proofs.Stops.{doubled_more, IsClass-from_stop}
use Rattle.treatment.proofs.classes.class.Goals as goal

pub loop-class-preserved : goal.loop-class-preserved
loop-class-preserved c = record {
  in_range = omega arith;
  doubled = let e = doubled_more c.args.f c.loop-class.class in omega (arith, c.loop-class.invariant.doubled);
  fits = omega arith;
}

pub returns-else-doubled-n-clause-greatest : goal.returns-else-doubled-n-clause-greatest
returns-else-doubled-n-clause-greatest c =
    IsClass-from_stop _ _ _ c.loop-class.invariant.in_range (omega arith) (λ _. omega arith)

pub returns-else-doubled-n-clause-value : goal.returns-else-doubled-n-clause-value
returns-else-doubled-n-clause-value c =
    IsClass-unique _ _ _ _ (returns-else-doubled-n-clause-greatest c) (class-is_greatest _ _ c.requires.held)

pub returns-after-loop-class-clause-value : goal.returns-after-loop-class-clause-value
returns-after-loop-class-clause-value c =
    IsClass-unique _ _ _ _
    (IsClass-from_stop c.args.f c.args.n c.loop-class.class c.loop-class.invariant.in_range (omega arith) (λ less. absurd (omega arith)))
    (class-is_greatest _ _ c.requires.held)
