use Rattle.funnel_model.proofs.Clears.{read_not_clearing}
use Rattle.funnel_model.proofs.Retirement.{reader_guards}
use Rattle.funnel_model.proofs.laws.clears.readable_slices_are_guarded.Goals as goal

pub returns-clause-not_clearing : goal.returns-clause-not_clearing
returns-clause-not_clearing c = read_not_clearing

pub returns-clause-guarded : goal.returns-clause-guarded
returns-clause-guarded c limits history reader slice legal read retired = reader_guards limits history reader slice legal retired read
