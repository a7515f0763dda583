-- The set has the words of the text.
use Rattle.std.proofs.Common.{◌↔◌, ℕ, List, subst}
use Rattle.std.proofs.lemmas.Result.{IfOk-weaker}
use Rattle.std.specs.List.{Contains}
use Rattle.funnel_model.specs.Words.{words}
use Rattle.word_cut.proofs.cut.words.Goals as goal

pub returns : goal.returns
returns c =
    IfOk-weaker c.into_set.result (λ set. (word : List ℕ) → Contains set word ↔ Contains c.in_ok-found.field-0 word) (λ set. (word : List ℕ) → Contains set word ↔ Contains (words c.args.text.now) word)
    (λ set is word.
    subst (λ (ws : List (List ℕ)). Contains set word ↔ Contains ws word) c.in_ok-folded.ensures
    (λ has. (c.in_ok-found.ensures word).0 ((is word).0 has), λ has. (is word).1 ((c.in_ok-found.ensures word).1 has)))
    c.into_set.ensures
