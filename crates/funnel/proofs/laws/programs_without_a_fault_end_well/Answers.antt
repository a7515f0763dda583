use Rattle.funnel.proofs.GoodEnds.{fit_completes, load_completes, run_completes, run_ends_well, serve_completes}
use Rattle.funnel.proofs.laws.programs_without_a_fault_end_well.Goals as goal

pub returns-clause-run : goal.returns-clause-run
returns-clause-run c = run_completes

pub returns-clause-any_run : goal.returns-clause-any_run
returns-clause-any_run c = run_ends_well

pub returns-clause-serve : goal.returns-clause-serve
returns-clause-serve c = serve_completes

pub returns-clause-load : goal.returns-clause-load
returns-clause-load c = load_completes

pub returns-clause-fit : goal.returns-clause-fit
returns-clause-fit c = λ words before after why closed fit bytes ends none words_are input. fit_completes words before after why closed fit bytes none words_are input ends
