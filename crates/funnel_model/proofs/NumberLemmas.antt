-- The numbers of an engine: in a legal history there are some, and one of each.
use Rattle.std.proofs.Common.{◌≡◌, ℕ, zero, suc, ◌<◌, ⊎_elim, Bool, true, false, cond, List, length, sym, refl, ap, ◌∙◌, inl, inr, arith}
use Rattle.std.proofs.lemmas.Bool.{both_ways}
use Rattle.std.proofs.lemmas.Bool.Decides.{same_from_decides}
use Rattle.std.specs.List.{count_by, range_with_len}
use Rattle.std.specs.Prelude.{◌*◌, ◌⊎◌}
use Rattle.funnel_model.specs.declared.event.Event.{Event}
use Rattle.funnel_model.specs.declared.stats.Stats.{Stats}
use Rattle.funnel_model.specs.History.{base, live, place}
use Rattle.funnel_model.specs.Legal.{Limits, IsLegal}
use Rattle.funnel_model.specs.Numbers.{AreStats, IsFinding, unclaimed_columns}
use Rattle.funnel_model.specs.Reserve.{IsCount}
use Rattle.funnel_model.specs.Slices.{IsRetired, is_clearing}
use Rattle.funnel_model.proofs.OpenTokens.{one_token}
use Rattle.funnel_model.proofs.Ranges.{counted_more}
use Rattle.funnel_model.proofs.Retirement.{all_over_cases}

-- whether a slice is retired in a legal history
pub retired_cases : (limits : Limits) (history : List Event) → IsLegal limits history → (slice : ℕ) →
    IsRetired limits.columns slice history ⊎ (IsRetired limits.columns slice history → ⊥)
retired_cases limits history legal slice = by_clearing (is_clearing slice history) refl where
  by_clearing : (b : Bool) → is_clearing slice history ≡ b → IsRetired limits.columns slice history ⊎ (IsRetired limits.columns slice history → ⊥)
  by_clearing true clearing = inr (λ retired. both_ways (is_clearing slice history) retired.not_clearing clearing)
  by_clearing false open' =
      ⊎_elim
      (λ over. inl (record { over = over; not_clearing = open' }))
      (λ not_over. inr (λ retired. not_over retired.over))
      (all_over_cases limits slice history legal limits.columns)

-- a find of the pass is running or not
finding_cases : (history : List Event) (pass : ℕ) → IsFinding history pass ⊎ (IsFinding history pass → ⊥)
finding_cases history pass = ⊎_elim (λ one. inl (one.0, one.1)) (λ none. inr (λ finding. none finding.0 finding.1)) (one_token pass history)

-- which of the two cases is so
abbrev decided : {A B : Type 0} → A ⊎ B → Bool
decided (inl a) = true
decided (inr b) = false

yes_of : {A B : Type 0} (cases : A ⊎ B) → decided cases ≡ true → A
yes_of (inl a) is = a
yes_of (inr b) is = cc

so_decided : {A : Type 0} (cases : A ⊎ (A → ⊥)) → A → decided cases ≡ true
so_decided (inl a) is = refl
so_decided (inr none) is = absurd (none is)

-- where each number is so or not, so many are
some_count : (below : ℕ) (IsSo : ℕ → Type 0) → ((k : ℕ) → IsSo k ⊎ (IsSo k → ⊥)) → (n : ℕ) × IsCount below IsSo n
some_count below IsSo cases = (
  count_by (λ k. decided (cases k)) (range_with_len 0 below),
  record { test = λ k. decided (cases k); tells = λ k in'. (yes_of (cases k), so_decided (cases k)); count = refl },
)

-- tests that agree count the same
pub same_count : (p q : ℕ → Bool) (n : ℕ) → ((k : ℕ) → k < n → p k ≡ q k) → count_by p (range_with_len 0 n) ≡ count_by q (range_with_len 0 n)
same_count p q zero same = refl
same_count p q (suc n) same =
    let before = same_count p q n (λ k below. same k (omega arith)) in
    let last : cond {A = ℕ} (p n) 1 0 ≡ cond (q n) 1 0 = ap (λ b. cond {A = ℕ} b 1 0) (same n (omega arith)) in
    omega (arith, counted_more p n, counted_more q n, before, last)

-- so they are one number
pub one_count : (below : ℕ) (IsSo : ℕ → Type 0) (m n : ℕ) → IsCount below IsSo m → IsCount below IsSo n → m ≡ n
one_count below IsSo m n is also =
    is.count
    ∙ same_count is.test also.test below (λ k in'. same_from_decides (is.test k) (also.test k) (is.tells k in') (also.tells k in'))
    ∙ sym also.count

-- in a legal history the engine has its numbers
pub some_stats : (limits : Limits) (history : List Event) → IsLegal limits history → (stats : Stats) × AreStats limits history stats
some_stats limits history legal =
    let retired = some_count limits.slices (λ slice. IsRetired limits.columns slice history) (retired_cases limits history legal) in
    let finds = some_count limits.passes (IsFinding history) (finding_cases history) in (
      record {
        documents = length (live history);
        place = place history;
        base = base limits.commits history;
        columns = limits.slices * limits.columns;
        free = unclaimed_columns limits history;
        retired = retired.0;
        finds = finds.0;
      },
      record {
        documents_are = refl;
        place_is = refl;
        base_is = refl;
        columns_are = refl;
        free_are = refl;
        retired_are = retired.1;
        finds_are = finds.1;
      },
    )

-- and they are told in one way
pub one_stats : (limits : Limits) (history : List Event) (stats others : Stats) → AreStats limits history stats → AreStats limits history others → stats ≡ others
one_stats limits history stats others is also =
    let told = λ (documents place' base' columns free retired finds : ℕ).
    let numbers : Stats = record { documents = documents; place = place'; base = base'; columns = columns; free = free; retired = retired; finds = finds } in numbers in
    ap (λ n. told n stats.place stats.base stats.columns stats.free stats.retired stats.finds) (is.documents_are ∙ sym also.documents_are)
    ∙ ap (λ n. told others.documents n stats.base stats.columns stats.free stats.retired stats.finds) (is.place_is ∙ sym also.place_is)
    ∙ ap (λ n. told others.documents others.place n stats.columns stats.free stats.retired stats.finds) (is.base_is ∙ sym also.base_is)
    ∙ ap (λ n. told others.documents others.place others.base n stats.free stats.retired stats.finds) (is.columns_are ∙ sym also.columns_are)
    ∙ ap (λ n. told others.documents others.place others.base others.columns n stats.retired stats.finds) (is.free_are ∙ sym also.free_are)
    ∙ ap (λ n. told others.documents others.place others.base others.columns others.free n stats.finds)
    (one_count limits.slices (λ slice. IsRetired limits.columns slice history) stats.retired others.retired is.retired_are also.retired_are)
    ∙ ap (λ n. told others.documents others.place others.base others.columns others.free others.retired n)
    (one_count limits.passes (IsFinding history) stats.finds others.finds is.finds_are also.finds_are)
