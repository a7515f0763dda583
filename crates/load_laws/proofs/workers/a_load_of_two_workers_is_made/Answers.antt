use Rattle.std.proofs.Common.{arith}
use Rattle.load_laws.proofs.TwoWorkers.{is_loaded}
use Rattle.load_laws.proofs.workers.a_load_of_two_workers_is_made.Goals as goal

pub returns-clause-loaded : goal.returns-clause-loaded
returns-clause-loaded c = is_loaded

pub returns-clause-room : goal.returns-clause-room
returns-clause-room c = record { few = omega arith; columns = omega arith; events = omega arith }
