use Rattle.std.proofs.Common.{refl, inl, inr}
use Rattle.funnel_model.proofs.ReserveLemmas.{one_ready_in, one_spare_in}
use Rattle.funnel_model.proofs.laws.reserve.slices_have_spare_and_ready_columns.Goals as goal

pub returns-clause-clearing : goal.returns-clause-clearing
returns-clause-clearing c columns slice history clearing = (inr (inr clearing, refl), inr (inr (inr clearing, refl)))

pub returns-clause-guarded : goal.returns-clause-guarded
returns-clause-guarded c columns slice history guarded = (inr (inl guarded.2.retired, refl), inr (inr (inl guarded, refl)))

pub returns-clause-unguarded : goal.returns-clause-unguarded
returns-clause-unguarded c columns slice history can = (inr (inl can.retired, refl), inr (inl (can, refl)))

pub returns-clause-in_use : goal.returns-clause-in_use
returns-clause-in_use c columns slice history used = (inl (used, refl), inl (used, refl))

pub returns-clause-one_spare : goal.returns-clause-one_spare
returns-clause-one_spare c = one_spare_in

pub returns-clause-one_ready : goal.returns-clause-one_ready
returns-clause-one_ready c = one_ready_in
