use Rattle.load_laws.proofs.Unmoved.{deletes_still, queries_still}
use Rattle.load_laws.proofs.workers.deletes_and_queries_move_nothing.Goals as goal

pub returns : goal.returns
returns c = record { deletes = deletes_still; queries = queries_still }
