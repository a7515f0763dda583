use Rattle.std.proofs.Common.{rules}
use Rattle.document_store.specs.Trees.{mixed_number}
use Rattle.document_store.proofs.live_list.mix.Goals as goal

pub returns : goal.returns
unfolding mixed_number
returns c = search rules
