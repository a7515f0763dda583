use Rattle.std.proofs.Common.{ℕ, List, [], ◌∷◌}
use Rattle.std.specs.List.Sorted.{IsStrictlySortedBy}
use Rattle.funnel_model.specs.Words.{IsRising}
use Rattle.commit_desk_tests.proofs.draft.document.Goals as goal

one_rises : (word : List ℕ) → IsRising (word ∷ [])
unfolding IsStrictlySortedBy
one_rises word = (tt, tt)

pub from_sorted-requires : goal.from_sorted-requires
from_sorted-requires c = one_rises _
