use Rattle.load_laws.proofs.OneWorker.{adds-next, deletes-next, queries-next}
use Rattle.load_laws.proofs.whole_load.one_more_document_is_walked.Goals as goal

pub returns : goal.returns
returns c = record { add = adds-next; delete = deletes-next; query = queries-next }
