use Rattle.std.proofs.Common.{sym, subst, ◌∙◌}
use Rattle.funnel_model.specs.Words.{AreWordsOf}
use Rattle.shard_set.proofs.Shards.{words_counted}
use Rattle.shard_set.proofs.parting.word_count.Goals as goal

pub returns : goal.returns
returns c =
    c.len.ensures.count
    ∙ words_counted c.words.result.now c.args.doc.now.text c.len.ensures.rising
    (subst (λ set. AreWordsOf set c.args.doc.now.text) (sym c.words.ensures.words) c.words.ensures.of_text)
