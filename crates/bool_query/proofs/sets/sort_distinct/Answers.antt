-- The sorted words, made distinct.
use Rattle.std.proofs.Common.{◌↔◌, ℕ, List, Bor, map, ap, sym, ◌∙◌, subst}
use Rattle.std.proofs.lemmas.List.Filters.{dedup_is}
use Rattle.std.proofs.lemmas.List.Sorted.{IsPermutation-map}
use Rattle.std.specs.List.{Contains}
use Rattle.funnel_model.specs.Words.{IsRising}
use Rattle.word_cut.proofs.OrderLemmas.{same_word, bytes-dedup, bytes-sorted, dedup-rises, dedup-members}
use Rattle.bool_query.proofs.sets.sort_distinct.Goals as goal

abbrev bytes : Bor (List ℕ) → List ℕ
bytes word = word.now

pub returns-clause-rising : goal.returns-clause-rising
returns-clause-rising c =
    let sorted = c.sort_unstable.new.self.items in
    subst IsRising (sym (ap (map bytes) (dedup_is (same_word bytes) _ _ c.dedup.ensures.filtered) ∙ bytes-dedup bytes sorted))
    (dedup-rises (map bytes sorted) (bytes-sorted bytes sorted c.sort_unstable.ensures.sorted))

pub returns-clause-same : goal.returns-clause-same
returns-clause-same c word =
    let words = c.args.words.now.items in
    let sorted = c.sort_unstable.new.self.items in
    subst (λ (ws : List (List ℕ)). Contains ws word ↔ Contains (map bytes words) word)
    (sym (ap (map bytes) (dedup_is (same_word bytes) _ _ c.dedup.ensures.filtered) ∙ bytes-dedup bytes sorted))
    (dedup-members (map bytes words) (map bytes sorted) (IsPermutation-map bytes words sorted c.sort_unstable.ensures.permutation) word)
