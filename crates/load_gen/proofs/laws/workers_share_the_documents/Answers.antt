use Rattle.load_gen.proofs.Shares.{deletes-total, share-contains, share-contained, share-total}
use Rattle.load_gen.proofs.laws.workers_share_the_documents.Goals as goal

pub returns-clause-falls : goal.returns-clause-falls
returns-clause-falls c texts workers worker i text = (share-contained texts workers worker i text, share-contains texts workers worker i text)

pub returns-clause-all : goal.returns-clause-all
returns-clause-all c = share-total

pub returns-clause-deleted : goal.returns-clause-deleted
returns-clause-deleted c = deletes-total
