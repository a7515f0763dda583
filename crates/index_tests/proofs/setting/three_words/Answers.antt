use Rattle.std.proofs.Common.{◌≡◌, ℕ, List, [], ◌∷◌, sym, subst, map, refl}
use Rattle.std.specs.List.Sorted.{IsStrictlySortedBy}
use Rattle.std.specs.Cmp.Lexicographic.{slice_cmp}
use Rattle.std.specs.Ordering.{nat_cmp}
use Rattle.funnel_model.specs.Listed.{IsInByteOrder, listed_pair}
use Rattle.index_tests.proofs.Rising.{three_rise}
use Rattle.index_tests.proofs.setting.three_words.Goals as goal

-- axolotl, cat and the
words_rise : (a b d : List ℕ) → a ≡ 97 ∷ 120 ∷ 111 ∷ 108 ∷ 111 ∷ 116 ∷ 108 ∷ [] → b ≡ 99 ∷ 97 ∷ 116 ∷ [] → d ≡ 116 ∷ 104 ∷ 101 ∷ [] → IsStrictlySortedBy (slice_cmp nat_cmp) (a ∷ b ∷ d ∷ [])
words_rise a b d e f g = three_rise a b d (rw (e, f) refl) (rw (e, g) refl) (rw (f, g) refl)

pub new-requires : goal.new-requires
new-requires c =
    subst (λ items. IsInByteOrder (map listed_pair items)) (sym c.in_ok-vec.ensures.items)
    (words_rise _ _ _ c.in_ok-axolotl.ensures.ok c.in_ok-cat.ensures.ok c.in_ok-the.ensures.ok)
