-- What stands before the next byte of a word is no word, and the piece that begins there may be one.
use Rattle.std.proofs.Common.{◌≡◌, ◌∙◌, ℕ, Bool, false, cond, List, ◌∷◌, ap, sym, slice_range, ◌-◌, arith}
use Rattle.std.proofs.lemmas.Str.{IsAscii-drop, IsAscii-take}
use Rattle.unicode_segmentation.specs.Segments.{has_alphanumeric}
use Rattle.word_cut.specs.Pieces.{words_from}
use Rattle.word_cut.proofs.Walks.{no_word_before, first_word, no_words}
use Rattle.word_cut.proofs.ascii_words.next_word.Goals as goal

pub loop-start-init : goal.loop-start-init
loop-start-init c =
    let gap = c.past_gap-start.ensures in
    record {
      within = gap.within;
      words = no_word_before c.args.bytes.now c.requires.ascii c.args.from c.past_gap-start.result gap.within gap.passed gap.next c.requires.apart;
      begins = gap.next;
    }

pub has_alphanumeric-requires : goal.has_alphanumeric-requires
has_alphanumeric-requires c = IsAscii-take _ (c.word_end-end.result - c.loop-start.start) (IsAscii-drop c.args.bytes.now c.loop-start.start c.requires.ascii)

pub loop-start-preserved : goal.loop-start-preserved
loop-start-preserved c =
    let s = c.args.bytes.now in
    let gap = c.past_gap-start-in-loop-start.ensures in
    let first = c.word_end-end.ensures.end in
    let grows = first.grows in
    let piece : List ℕ = slice_range s c.loop-start.start c.word_end-end.result in
    let none : has_alphanumeric piece ≡ false = sym c.has_alphanumeric.ensures ∙ c.if-has_alphanumeric.false in
    record {
      within = omega arith;
      words =
          c.loop-start.invariant.words ∙ first_word s c.requires.ascii c.loop-start.start c.word_end-end.result first
          ∙ ap (λ (b : Bool). cond b (piece ∷ words_from s c.word_end-end.result) (words_from s c.word_end-end.result)) none
          ∙ no_word_before s c.requires.ascii c.word_end-end.result c.past_gap-start-in-loop-start.result gap.within gap.passed gap.next c.word_end-end.ensures.ends;
      begins = gap.next;
    }

pub returns-clause-word : goal.returns-clause-word
returns-clause-word c = c.loop-start.invariant.words ∙ no_words c.args.bytes.now c.requires.ascii c.loop-start.start c.loop-start.invariant.within.1 c.loop-start-test.false
