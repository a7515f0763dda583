use Rattle.std.proofs.Common.{◌∙◌, ℕ, List, ap, map}
use Rattle.std.proofs.lemmas.Result.{IfOk-weaker}
use Rattle.funnel_model.proofs.WordLemmas.{has-same}
use Rattle.bool_query.specs.WordLists.{has}
use Rattle.bool_query.proofs.WordListLemmas.{has-together}
use Rattle.bool_query.proofs.sets.words_of_all.Goals as goal

pub returns : goal.returns
returns c =
    IfOk-weaker c.from_sorted.result _ _
    (λ found is word.
    ap (λ (ws : List (List ℕ)). has ws word) (is ∙ ap (map (λ w. w.now)) c.as_slice.ensures.value)
    ∙ has-same _ _ c.sort_distinct.ensures.same word
    ∙ ap (λ (ws : List (List ℕ)). has ws word) c.in_ok-words.ensures
    ∙ has-together c.args.sets.now word)
    c.from_sorted.ensures
