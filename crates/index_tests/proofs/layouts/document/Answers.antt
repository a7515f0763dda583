use Rattle.std.proofs.Common.{◌≡◌, ℕ, List, [], ◌∷◌, refl}
use Rattle.funnel_model.specs.Words.{IsRising}
use Rattle.index_tests.proofs.Rising.{three_rise}
use Rattle.index_tests.proofs.layouts.document.Goals as goal

-- axolotl, cat and dog
words_rise : (a b d : List ℕ) → a ≡ 97 ∷ 120 ∷ 111 ∷ 108 ∷ 111 ∷ 116 ∷ 108 ∷ [] → b ≡ 99 ∷ 97 ∷ 116 ∷ [] → d ≡ 100 ∷ 111 ∷ 103 ∷ [] → IsRising (a ∷ b ∷ d ∷ [])
words_rise a b d e f g = three_rise a b d (rw (e, f) refl) (rw (e, g) refl) (rw (f, g) refl)

pub from_sorted-requires : goal.from_sorted-requires
from_sorted-requires c = words_rise _ _ _ c.as_bytes.ensures.value c.as_bytes-2.ensures.value c.as_bytes-3.ensures.value
