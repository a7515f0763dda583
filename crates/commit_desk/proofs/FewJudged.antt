-- A turn of a judge has few documents.
use Rattle.std.proofs.Common.{◌≡◌, ℕ, ◌+◌, ◌-◌, ◌*◌, ◌<◌, ◌≤◌, List, [], ◌∷◌, length, get_or, take, drop, refl, sym, ap, ◌∙◌, inl, inr, arith, sum_by, Contains}
use Rattle.std.specs.List.{slice_range}
use Rattle.std.proofs.lemmas.Bool.{cases_lt}
use Rattle.std.proofs.lemmas.List.Elements.{Contains-get_or}
use Rattle.std.proofs.lemmas.List.Sums.{sum_by-cons, sum_by_push}
use Rattle.document_store.proofs.TurnLemmas.{slice_range-more}
use Rattle.document_store.specs.declared.judging.TheConstants.{LEAST_COST}
use Rattle.funnel_model.proofs.AnswerLemmas.{Contains-cons}
use Rattle.funnel_model.specs.declared.event.Event.{Event}
use Rattle.commit_desk.specs.Laws.{TurnsJudgeFewDocuments}
use Rattle.commit_desk.specs.Resolving.{AreLookedFor}
use Rattle.commit_desk.proofs.Given.{Contains-range}

-- a number that isn't above another is no larger
not_above : (n most : ℕ) → (most < n → ⊥) → n ≤ most
not_above n most none = elim (cases_lt most n) [
  | inl above ↦ absurd (none above)
  | inr within ↦ within
]

module _ (earlier : List Event) (cost : ℕ) (candidates : List (ℕ × ℕ)) (looked documents : ℕ × ℕ → ℕ) (least : LEAST_COST ≤ cost)
    (costs : AreLookedFor earlier cost candidates looked) (counts : AreLookedFor earlier 1 candidates documents) where
  -- a candidate has one document at most
  one_document : (candidate : ℕ × ℕ) → Contains candidates candidate → documents candidate ≤ 1
  one_document candidate has =
      not_above (documents candidate) 1 (λ more.
      let none = counts.elsewhere candidate has (λ d since lives. omega (arith, more, counts.where_live candidate has d since lives)) in
      omega (arith, more, none))

  -- and each costs 8 words at least
  each_costs : (candidate : ℕ × ℕ) → Contains candidates candidate → 8 * documents candidate ≤ looked candidate
  each_costs candidate has =
      not_above (8 * documents candidate) (looked candidate) (λ less.
      let none = counts.elsewhere candidate has (λ d since lives. omega (arith, less, least, counts.where_live candidate has d since lives, costs.where_live candidate has d since lives)) in
      omega (arith, less, none))

  -- so do several
  all_cost : (some : List (ℕ × ℕ)) → ((candidate : ℕ × ℕ) → Contains some candidate → Contains candidates candidate) → 8 * sum_by documents some ≤ sum_by looked some
  all_cost [] among = omega arith
  all_cost (candidate ∷ others) among =
      let later = all_cost others (λ other has. among other (Contains-cons candidate others other has)) in
      omega (arith, sum_by-cons documents candidate others, sum_by-cons looked candidate others, each_costs candidate (among candidate (0, omega arith, refl)), later)

-- before its last document a turn has looked for less than 256 words
pub few_judged : TurnsJudgeFewDocuments
few_judged earlier cost candidates from to documents least (looked, costs, ends) counts = elim (cases_lt from to) [
  | inl some ↦
      let last = to - 1 in
      let whole : last + 1 ≡ to = omega (arith, some) in
      let within : last < length candidates = omega (arith, some, ends.within) in
      let before = slice_range candidates from last in
      let candidate = get_or candidates last (0, 0) in
      let light = all_cost earlier cost candidates looked documents least costs counts before (λ c has. Contains-range candidates from last c has) in
      let one = one_document earlier cost candidates looked documents least costs counts candidate (Contains-get_or candidates last (0, 0) within) in
      let split : sum_by documents (slice_range candidates from to) ≡ sum_by documents before + documents candidate =
      ap (λ n. sum_by documents (slice_range candidates from n)) (sym whole) ∙ ap (sum_by documents) (slice_range-more candidates from last (0, 0) (omega (arith, some)) within)
      ∙ sum_by_push documents before candidate in
      omega (arith, ends.looked_before last (omega (arith, some)), light, one, split)
  | inr none ↦
      let empty : to - from ≡ 0 = omega (arith, none) in
      let zero = ap (λ n. sum_by documents (take n (drop from candidates))) empty in
      omega (arith, zero)
]
