use Rattle.load_laws.proofs.WorkerEvents.{calls_are_few, few_events_of_all, load_is_unspent}
use Rattle.load_laws.proofs.workers.loads_of_workers_are_short.Goals as goal

pub returns : goal.returns
returns c = record { calls = calls_are_few; events = few_events_of_all; unspent = load_is_unspent }
