-- The words of the text are those of the text in small letters.
use Rattle.std.proofs.Common.{◌≡◌, ◌↔◌, ℕ, List, ap, sym, ◌∙◌, subst}
use Rattle.std.proofs.lemmas.Result.{IfOk-weaker}
use Rattle.std.proofs.lemmas.Str.Ascii.{IsAscii-map, lowercase_ascii}
use Rattle.std.specs.Char.{to_ascii_lowercase}
use Rattle.std.specs.List.{Contains}
use Rattle.std.specs.Str.{IsAscii}
use Rattle.funnel_model.specs.Words.{words}
use Rattle.unicode_segmentation.specs.Word.{words as unicode_words}
use Rattle.word_cut.proofs.AsciiWords.{words-ascii}
use Rattle.word_cut.proofs.cut.words_of_ascii.Goals as goal

pub cut-requires : goal.cut-requires
cut-requires c =
    subst IsAscii (sym (c.as_bytes.ensures.value ∙ c.in_ok-folded.ensures.ok)) (IsAscii-map to_ascii_lowercase c.args.text.now lowercase_ascii c.requires)

pub returns : goal.returns
returns c =
    let same : words c.args.text.now ≡ unicode_words c.as_bytes.result.now =
    words-ascii c.args.text.now c.requires ∙ ap unicode_words (sym (c.as_bytes.ensures.value ∙ c.in_ok-folded.ensures.ok)) in
    IfOk-weaker c.into_set.result (λ set. (word : List ℕ) → Contains set word ↔ Contains c.in_ok-cut.field-0 word) (λ set. (word : List ℕ) → Contains set word ↔ Contains (words c.args.text.now) word)
    (λ set is word.
    subst (λ (ws : List (List ℕ)). Contains set word ↔ Contains ws word) (sym same)
    (λ has. (c.in_ok-cut.ensures word).0 ((is word).0 has), λ has. (is word).1 ((c.in_ok-cut.ensures word).1 has)))
    c.into_set.ensures
