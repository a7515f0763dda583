-- The hash takes in the tail after the bytes.
use Rattle.std.proofs.Common.{ap, ◌∙◌}
use Rattle.term_hash.specs.Hash.{fnv_step}
use Rattle.term_hash.proofs.HashLemmas.{hash-step}
use Rattle.term_hash.proofs.hash.fnv.Goals as goal

pub returns : goal.returns
returns c = c.take_in.ensures ∙ ap (λ hash. fnv_step hash c.args.tail) c.fnv_1a_of.ensures ∙ hash-step c.args.bytes.now c.args.tail
