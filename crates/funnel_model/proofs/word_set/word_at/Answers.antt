-- The word lies between the end before, or the start, and its own end.
use Rattle.std.proofs.Common.{◌≡◌, ◌<◌, ◌≤◌, ◌-◌, ℕ, List, zero, suc, length, get_or, arith, sym, ap, ◌∙◌, subst}
use Rattle.std.specs.List.{slice_range}
use Rattle.funnel_model.specs.WordSets.{pieces, EndAt}
use Rattle.funnel_model.proofs.WordSetLemmas.{end_within, next_from, next_piece}
use Rattle.funnel_model.proofs.word_set.word_at.Goals as goal

-- the end before an index that isn't 0 is not behind the end there
ordered : (ends : List ℕ) (last index : ℕ) → EndAt 0 ends last → 0 < index → index < length ends → get_or ends (index - 1) 0 ≤ get_or ends index 0
ordered ends last zero is some less = absurd (omega arith)
ordered ends last (suc k) is some less =
    let before : k ≡ suc k - 1 = omega arith in
    subst (λ (i : ℕ). get_or ends i 0 ≤ get_or ends (suc k) 0) before (next_from 0 ends last k is less)

-- the word at an index that isn't 0 lies between the two
later : (ends buffer d : List ℕ) (index : ℕ) → 0 < index → index < length ends →
    slice_range buffer (get_or ends (index - 1) 0) (get_or ends index 0) ≡ get_or (pieces 0 ends buffer) index d
later ends buffer d zero some less = absurd (omega arith)
later ends buffer d (suc k) some less =
    let before : suc k - 1 ≡ k = omega arith in
    ap (λ (i : ℕ). slice_range buffer (get_or ends i 0) (get_or ends (suc k) 0)) before ∙ sym (next_piece 0 ends buffer d k less)

pub between-requires-clause-within : goal.between-requires-clause-within
between-requires-clause-within c = end_within 0 _ _ _ c.requires.within c.requires.in_range

pub between-requires-2-clause-in_order : goal.between-requires-2-clause-in_order
between-requires-2-clause-in_order c = ordered _ _ _ c.requires.within (omega arith) c.requires.in_range

pub between-requires-2-clause-within : goal.between-requires-2-clause-within
between-requires-2-clause-within c = end_within 0 _ _ _ c.requires.within c.requires.in_range

pub returns : goal.returns
returns c = c.between-2.ensures ∙ later _ _ _ _ (omega arith) c.requires.in_range
