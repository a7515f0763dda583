use Rattle.std.proofs.Common.{arith, refl}
use Rattle.fit.proofs.Fitted.{is_fit, is_fitted, of_sample}
use Rattle.fit.specs.Steps.{entries_of}
use Rattle.fit.proofs.fitting.fitted.Goals as goal

pub list_most-requires-clause-sample : goal.list_most-requires-clause-sample
list_most-requires-clause-sample c =
    of_sample c.args.documents c.requires.counted.texts (entries_of c.args.sample.counts.entries) c.args.sample.documents c.args.sample.words c.in-Ok.frame c.requires.counted.counted c.in-Ok.ensures.frame

pub returns-then-words-gt-MOST_ROW_WORDS-clause-no_fit : goal.returns-then-words-gt-MOST_ROW_WORDS-clause-no_fit
returns-then-words-gt-MOST_ROW_WORDS-clause-no_fit c texts counted =
    let of = c.in-Ok.ensures.frame in
    let l = c.in-Ok-list_most.ensures in (
      record {
        some = omega (arith, of.sound.corpus.0, of.corpus, counted.many);
        few = omega (arith, of.sound.corpus.1, of.corpus, counted.many);
      },
      record {
        config = c.in-Ok-list_most.most.config;
        fit = is_fit c.args.documents texts (entries_of c.args.sample.counts.entries) c.args.sample.documents c.args.sample.words c.in-Ok.frame c.in-Ok-list_most.most counted of l;
        slices = omega (arith, l.lists.is.made.slices, of.sound.some_slices.1);
        many = c.sizes-words.ensures.pool_words;
      },
      refl,
      c.if-words-gt-MOST_ROW_WORDS.true,
    )

pub returns-clause-fitted : goal.returns-clause-fitted
returns-clause-fitted c texts counted =
    let of = c.in-Ok.ensures.frame in
    let l = c.in-Ok-list_most.ensures in (
      is_fitted c.args.documents texts (entries_of c.args.sample.counts.entries) c.args.sample.documents c.args.sample.words c.in-Ok.frame c.in-Ok-list_most.most counted of l
          (omega (arith, c.sizes-words.ensures.pool_words, c.if-words-gt-MOST_ROW_WORDS.false)),
      l.lists.is.is_text,
    )
