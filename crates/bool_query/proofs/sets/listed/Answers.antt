use Rattle.std.proofs.Common.{◌≡◌, ◌∙◌, ◌+◌, ◌++◌, ◌∷◌, [], ℕ, List, ap, sym, take, get_or, add-one}
use Rattle.std.proofs.Math.Seq.{take-suc}
use Rattle.bool_query.specs.WordLists.{together}
use Rattle.bool_query.proofs.WordListLemmas.{together-push}
use Rattle.bool_query.proofs.sets.listed.Goals as goal

pub loop-set-preserved : goal.loop-set-preserved
loop-set-preserved c =
    let sets : List (List (List ℕ)) = c.args.sets.now in
    let i : ℕ = c.loop-set.set-index in
    let set : List (List ℕ) = c.set-item.result in
    let next : take (i + 1) sets ≡ take i sets ++ get_or sets i set ∷ [] = rw add-one (take-suc sets i set c.loop-set-test.true) in
    c.in_ok-add_words.ensures
    ∙ ap (λ (ws : List (List ℕ)). ws ++ set) c.loop-set.invariant
    ∙ ap (λ (s : List (List ℕ)). together (take i sets) ++ s) c.set-item.is
    ∙ sym (ap together next ∙ together-push (take i sets) (get_or sets i set))
