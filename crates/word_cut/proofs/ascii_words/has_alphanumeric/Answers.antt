-- Of ASCII a byte is a letter or a digit as a character is.
use Rattle.std.proofs.Common.{◌∙◌, rules, tests}
use Rattle.std.proofs.lemmas.Iterator.{YieldsList-from_slice}
use Rattle.std.proofs.lemmas.Iterator.Search.{any_from_yields_List}
use Rattle.std.specs.Char.{is_ascii_alphanumeric}
use Rattle.word_cut.proofs.Walks.{has_alphanumeric-ascii}
use Rattle.word_cut.proofs.ascii_words.has_alphanumeric.Goals as goal

pub returns : goal.returns
returns c =
    any_from_yields_List is_ascii_alphanumeric _ _ _ c.any.ensures.ran (YieldsList-from_slice c.args.bytes.now cc) (λ x b q k. search (rules, tests))
    ∙ has_alphanumeric-ascii c.args.bytes.now c.requires
