-- The words are put in order by their bytes, and made distinct by these.
use Rattle.std.proofs.Common.{rules, ◌≡◌, ◌↔◌, ℕ, List, map, ap, sym, subst, ◌∙◌}
use Rattle.std.proofs.lemmas.Cmp.{nat_list_cmp_total}
use Rattle.std.proofs.lemmas.Fn.{always_returns_same, dedup_same}
use Rattle.std.proofs.lemmas.List.Sorted.{IsPermutation-map, ranks_by}
use Rattle.std.proofs.lemmas.Result.{IfOk-weaker}
use Rattle.std.specs.List.{Contains, dedup}
use Rattle.std.specs.Ordering.{is_lt, nat_cmp}
use Rattle.std.specs.Cmp.Lexicographic.{slice_cmp}
use Rattle.std.specs.Str.{bytes_eq}
use Rattle.funnel_model.specs.Words.{IsRising}
use Rattle.word_cut.specs.declared.keyed_word.KeyedWord.{KeyedWord}
use Rattle.word_cut.proofs.OrderLemmas.{same_word, bytes-dedup, bytes-sorted, dedup-rises, dedup-members}
use Rattle.word_cut.proofs.found_words.FoundWords.into_set.Goals as goal

pub set_of-requires : goal.set_of-requires
set_of-requires c =
    let sorted : List KeyedWord = c.sort_unstable_by.new.self.items in
    let in_order =
    c.sort_unstable_by.ensures.sorted (λ a b. is_lt (slice_cmp nat_cmp a.bytes.now b.bytes.now)) (ranks_by nat_list_cmp_total (λ (w : KeyedWord). w.bytes.now))
    (always_returns_same _ _ _ (λ a r g k. search rules)) in
    let distinct : c.deref.result.now ≡ dedup (same_word (λ (w : KeyedWord). w.bytes.now)) sorted =
    c.deref.ensures.value ∙ dedup_same _ (same_word (λ (w : KeyedWord). w.bytes.now)) _ (λ x y b f' x' y' k. search rules) _ _ c.dedup_by.ensures.filtered in
    subst IsRising (sym (ap (map (λ (w : KeyedWord). w.bytes.now)) distinct ∙ bytes-dedup (λ (w : KeyedWord). w.bytes.now) sorted))
    (dedup-rises _ (bytes-sorted (λ (w : KeyedWord). w.bytes.now) sorted in_order))

pub returns : goal.returns
returns c =
    let sorted : List KeyedWord = c.sort_unstable_by.new.self.items in
    let distinct : c.deref.result.now ≡ dedup (same_word (λ (w : KeyedWord). w.bytes.now)) sorted =
    c.deref.ensures.value ∙ dedup_same _ (same_word (λ (w : KeyedWord). w.bytes.now)) _ (λ x y b f' x' y' k. search rules) _ _ c.dedup_by.ensures.filtered in
    let all : map (λ (w : KeyedWord). w.bytes.now) c.deref.result.now ≡ dedup bytes_eq (map (λ (w : KeyedWord). w.bytes.now) sorted) =
    ap (map (λ (w : KeyedWord). w.bytes.now)) distinct ∙ bytes-dedup (λ (w : KeyedWord). w.bytes.now) sorted in
    IfOk-weaker c.set_of.result (λ set. set ≡ map (λ (w : KeyedWord). w.bytes.now) c.deref.result.now) (λ set. (word : List ℕ) → Contains set word ↔ Contains c.args.self word)
    (λ set is word.
    subst (λ (ws : List (List ℕ)). Contains ws word ↔ Contains c.args.self word) (sym (is ∙ all))
    (subst (λ (ws : List (List ℕ)). Contains (dedup bytes_eq (map (λ (w : KeyedWord). w.bytes.now) sorted)) word ↔ Contains ws word) c.self.view_is
    (dedup-members _ _ (IsPermutation-map (λ (w : KeyedWord). w.bytes.now) c.self.inside.words.items sorted c.sort_unstable_by.ensures.permutation) word)))
    c.set_of.ensures
