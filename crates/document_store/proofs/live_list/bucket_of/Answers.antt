use Rattle.std.proofs.Common.{◌-◌, ap, bit_and}
use Rattle.document_store.specs.Trees.{bucket_of}
use Rattle.document_store.proofs.live_list.bucket_of.Goals as goal

pub returns-clause-bucket : goal.returns-clause-bucket
unfolding bucket_of
returns-clause-bucket c = ap (λ m. bit_and m (c.args.buckets - 1)) c.mix.ensures
