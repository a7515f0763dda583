use Rattle.load_laws.proofs.OneWorker.{adds-one, deletes-tens, queries-one, share-one}
use Rattle.load_laws.proofs.whole_load.one_worker_walks_the_documents.Goals as goal

pub returns : goal.returns
returns c = record { share = share-one; adds = adds-one; deletes = deletes-tens; queries = queries-one }
