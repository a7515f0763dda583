use Rattle.load_laws.proofs.WorkersAnswered.{results_are_told}
use Rattle.load_laws.proofs.workers.shares_tell_the_results.Goals as goal

pub returns : goal.returns
returns c = results_are_told
