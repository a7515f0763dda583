use Rattle.funnel_model.proofs.ReserveLemmas.{emptied_holds}
use Rattle.funnel_model.proofs.laws.reserve.slices_to_empty_hold_some_columns.Goals as goal

pub returns-clause-some : goal.returns-clause-some
returns-clause-some c = emptied_holds

pub returns-clause-not_all : goal.returns-clause-not_all
returns-clause-not_all c columns history slice held can = can.fewer
