-- The walk goes on over bytes of words, and over those that join them.
use Rattle.std.proofs.Common.{◌≡◌, ℕ, ◌+◌, ◌-◌, ◌<◌, true, false, length, slice_index, nat_lt, sym, subst, arith}
use Rattle.std.proofs.lemmas.Bool.{and_parts}
use Rattle.std.proofs.lemmas.Bool.Decides.{nat_tests}
use Rattle.unicode_segmentation.specs.Steps.{IsFirstEnd}
use Rattle.unicode_segmentation.specs.Word.{is_word_break}
use Rattle.word_cut.specs.Kinds.{kind_of_byte, is_in_word, joins, goes_on}
use Rattle.word_cut.proofs.RuleLemmas.{joins_in_words}
use Rattle.word_cut.proofs.Walks.{IsWordWalk, word_begins, word_goes_on, word_is_joined, word_ends}
use Rattle.word_cut.proofs.ascii_words.word_end.Goals as goal

pub loop-end-init : goal.loop-end-init
loop-end-init c = record {
  walk =
      word_goes_on c.args.bytes.now c.requires.ascii c.args.start (c.args.start + 1) c.past_word_bytes-end.result
      (word_begins c.args.bytes.now c.requires.ascii c.args.start c.requires.within c.requires.begins) c.past_word_bytes-end.ensures.within c.past_word_bytes-end.ensures.passed;
  next = c.past_word_bytes-end.ensures.next;
}

pub loop-end-preserved : goal.loop-end-preserved
loop-end-preserved c =
    let s = c.args.bytes.now in
    let grows = c.loop-end.invariant.walk.walk.grows in
    let last : ℕ = c.loop-end.end - 1 in
    let here : c.loop-end.end ≡ last + 1 = omega arith in
    let on : goes_on s last ≡ true = sym c.loop-end-test.ensures in
    let parts : (nat_lt (last + 2) (length s) ≡ true) × (joins (kind_of_byte (slice_index s last)) (kind_of_byte (slice_index s (last + 1))) (kind_of_byte (slice_index s (last + 2))) ≡ true) = and_parts _ _ on in
    let inside : last + 2 < length s = grind (arith, nat_tests) in
    let joined : IsWordWalk s c.args.start (last + 3) =
    word_is_joined s c.requires.ascii c.args.start last (subst (IsWordWalk s c.args.start) here c.loop-end.invariant.walk) inside on (joins_in_words _ _ _ parts.1) in
    let there : last + 3 ≡ c.loop-end.end + 2 = omega arith in
    record {
      walk =
          word_goes_on s c.requires.ascii c.args.start (c.loop-end.end + 2) c.past_word_bytes-end-in-loop-end.result (subst (IsWordWalk s c.args.start) there joined)
          c.past_word_bytes-end-in-loop-end.ensures.within c.past_word_bytes-end-in-loop-end.ensures.passed;
      next = c.past_word_bytes-end-in-loop-end.ensures.next;
    }

pub returns-clause-end : goal.returns-clause-end
returns-clause-end c =
    let s = c.args.bytes.now in
    let grows = c.loop-end.invariant.walk.walk.grows in
    let last : ℕ = c.loop-end.end - 1 in
    let here : c.loop-end.end ≡ last + 1 = omega arith in
    let ends : goes_on s last ≡ false = sym c.loop-end-test.ensures in
    subst (IsFirstEnd is_word_break s c.args.start (length s)) (sym here)
    (word_ends s c.requires.ascii c.args.start last (subst (IsWordWalk s c.args.start) here c.loop-end.invariant.walk)
    (subst (λ (k : ℕ). k < length s → is_in_word (kind_of_byte (slice_index s k)) ≡ false) here c.loop-end.invariant.next) ends)
