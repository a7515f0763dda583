-- Words whose numbers differ are in the order of these.
use Rattle.std.proofs.Common.{nat_cmp, ap₂, ◌∙◌}
use Rattle.word_cut.proofs.KeyLemmas.{by_number}
use Rattle.word_cut.proofs.keyed_word.KeyedWord.order.Goals as goal

pub returns-in_default : goal.returns-in_default
returns-in_default c =
    by_number 8 c.args.self.now.bytes.now c.args.other.now.bytes.now c.cmp.result c.args.self.now.of_bytes c.args.other.now.of_bytes
    (c.cmp.ensures ∙ ap₂ nat_cmp c.args.self.now.first_is c.args.other.now.first_is) c.in_default.not-Equal
