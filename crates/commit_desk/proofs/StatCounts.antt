-- What the stages and the tokens tell of how full an engine is.
use Rattle.std.proofs.Common.{◌≡◌, ◌↔◌, ℕ, zero, suc, ◌+◌, ◌<◌, ◌≤◌, Bool, true, not, cond, List, length, get_or, is_some, sum_by, count_by, take, add-one, Option, Some, None, refl, sym, ap, ◌∙◌, subst, arith}
use Rattle.std.proofs.lemmas.Bool.{both_ways, false≢true, true_from_ne_false}
use Rattle.std.proofs.lemmas.List.{take_all}
use Rattle.std.proofs.lemmas.List.Sums.{sum_by_more}
use Rattle.std.specs.List.{range_with_len}
use Rattle.document_store.specs.Slots.{Table}
use Rattle.funnel_model.specs.declared.event.Event.{Event}
use Rattle.funnel_model.specs.Legal.{IsLegal, Limits}
use Rattle.funnel_model.specs.Numbers.{IsFinding, unclaimed_columns}
use Rattle.funnel_model.specs.Reserve.{IsCount, unclaimed_in}
use Rattle.funnel_model.specs.Slices.{AllOver, IsOver, IsRetired, Unclaimed, is_claimed, is_clearing}
use Rattle.funnel_model.proofs.Blocks.{by_is_clearing}
use Rattle.funnel_model.proofs.Columns.{one_state}
use Rattle.funnel_model.proofs.Ranges.{counted_more, none_counted, sum_by-range_more}
use Rattle.slice_stages.specs.Stages.{StageTable, empty_stage, free_in, free_of, is_retired, stage_of}
use Rattle.slice_stages.specs.declared.stage.Stage.{Stage}
use Rattle.slice_stages.specs.declared.stage.Stage.TheVariants as stage
use Rattle.commit_desk.specs.Kept.{AreStages, AreTokens, IsAtStage}
use Rattle.commit_desk.specs.Records.{AreRecorded}
use Rattle.commit_desk.proofs.Emptying.{all_over_by, sum-map, unclaimed_past}
use Rattle.commit_desk.proofs.StageFacts.{retired_since, used_by_stage}

-- as many elements of a list pass a test as of its indexes
counted_at : {X : Type 0} (p : X → Bool) (xs : List X) (d : X) (n : ℕ) → n ≤ length xs → count_by p (take n xs) ≡ count_by (λ i. p (get_or xs i d)) (range_with_len 0 n)
counted_at p xs d zero within = refl
counted_at p xs d (suc n) within =
    let before = counted_at p xs d n (omega (arith, within)) in
    let more : count_by p (take (suc n) xs) ≡ count_by p (take n xs) + cond (p (get_or xs n d)) 1 0 =
    ap (λ k. count_by p (take k xs)) (sym (add-one n)) ∙ sum_by_more (λ x. cond (p x) 1 0) xs n d (omega (arith, within)) in
    let range = counted_more (λ i. p (get_or xs i d)) n in
    omega (arith, before, more, range)

counted_all : {X : Type 0} (p : X → Bool) (xs : List X) (d : X) (n : ℕ) → length xs ≡ n → count_by p xs ≡ count_by (λ i. p (get_or xs i d)) (range_with_len 0 n)
counted_all p xs d n long = ap (count_by p) (sym (take_all n xs (omega (arith, long)))) ∙ counted_at p xs d n (omega (arith, long))

-- and what its elements add up to is told by their indexes
summed_at : {X : Type 0} (f : X → ℕ) (g : ℕ → ℕ) (xs : List X) (d : X) (n : ℕ) → n ≤ length xs → ((i : ℕ) → i < n → f (get_or xs i d) ≡ g i) → sum_by f (take n xs) ≡ sum_by g (range_with_len 0 n)
summed_at f g xs d zero within same = refl
summed_at f g xs d (suc n) within same =
    let before = summed_at f g xs d n (omega (arith, within)) (λ i below. same i (omega (arith, below))) in
    let more : sum_by f (take (suc n) xs) ≡ sum_by f (take n xs) + f (get_or xs n d) = ap (λ k. sum_by f (take k xs)) (sym (add-one n)) ∙ sum_by_more f xs n d (omega (arith, within)) in
    let range : sum_by g (range_with_len 0 (suc n)) ≡ sum_by g (range_with_len 0 n) + g n = ap (λ k. sum_by g (range_with_len 0 k)) (sym (add-one n)) ∙ sum_by-range_more g n in
    omega (arith, before, more, range, same n (omega arith))

module _ (limits : Limits) (history : List Event) (table : Table) (tokens : List (Option ℕ)) (stages : StageTable) (legal : IsLegal limits history) (recorded : AreRecorded limits history table) (staged : AreStages limits history table tokens stages) where
  -- where each column of a slice is over, each is claimed
  none_unclaimed : (slice : ℕ) → AllOver limits.columns slice history → unclaimed_in limits.columns slice history ≡ 0
  none_unclaimed slice over =
      none_counted (λ column. not (is_claimed slice column history)) limits.columns
      (λ column below.
      let was = over column below in
      ap not (true_from_ne_false (is_claimed slice column history)
      (λ unclaimed. subst IsOver (one_state limits history slice column was.0 Unclaimed legal was.1 unclaimed) was.2)))

  free_by : (slice : ℕ) → slice < limits.slices → (s : Stage) → IsAtStage limits.columns history table slice s → free_in limits.columns s ≡ unclaimed_in limits.columns slice history
  free_by slice in' (stage.InUse first over) at = sym (unclaimed_past slice first history at.claims limits.columns)
  free_by slice in' (stage.Retired number) at =
      sym (none_unclaimed slice (all_over_by limits history table tokens stages legal recorded staged slice in' (stage.Retired number) at (λ used. used)))
  free_by slice in' (stage.Clearing pass) at =
      sym (none_unclaimed slice (all_over_by limits history table tokens stages legal recorded staged slice in' (stage.Clearing pass) at (λ used. used)))

  -- the columns that are free are those that are unclaimed
  pub free_kept : free_of stages ≡ unclaimed_columns limits history
  free_kept =
      ap (λ n. sum_by (free_in n) stages.stages) staged.columns_are
      ∙ ap (sum_by (free_in limits.columns)) (sym (take_all limits.slices stages.stages (let c = staged.count in omega (arith, c))))
      ∙ summed_at (free_in limits.columns) (λ slice. unclaimed_in limits.columns slice history) stages.stages empty_stage limits.slices (let c = staged.count in omega (arith, c))
      (λ slice in'. free_by slice in' (stage_of stages slice) (staged.each slice in'))
      ∙ sym (sum-map (λ slice. unclaimed_in limits.columns slice history) (range_with_len 0 limits.slices))

  retired_by : (slice : ℕ) → slice < limits.slices → (s : Stage) → IsAtStage limits.columns history table slice s → (is_retired s ≡ true) ↔ IsRetired limits.columns slice history
  retired_by slice in' (stage.InUse first over) at = (
    λ no. absurd (false≢true no),
    λ retired. absurd ((used_by_stage limits history table legal recorded slice in' (stage.InUse first over) at tt).not_retired retired),
  )
  retired_by slice in' (stage.Retired number) at = (λ yes. retired_since limits.columns slice number history at, λ retired. refl)
  retired_by slice in' (stage.Clearing pass) at = (
    λ no. absurd (false≢true no),
    λ retired. absurd (both_ways (is_clearing slice history) retired.not_clearing (by_is_clearing pass slice history at)),
  )

  -- so many slices are retired
  pub retired_kept : IsCount limits.slices (λ slice. IsRetired limits.columns slice history) (count_by is_retired stages.stages)
  retired_kept = record {
    test = λ slice. is_retired (stage_of stages slice);
    tells = λ slice in'. retired_by slice in' (stage_of stages slice) (staged.each slice in');
    count = counted_all is_retired stages.stages empty_stage limits.slices staged.count;
  }

-- a pass whose token is open runs a find
has_opened : (limits : Limits) (history : List Event) (tokens : List (Option ℕ)) → AreTokens limits history tokens → (pass : ℕ) (token : Option ℕ) → get_or tokens pass None ≡ token → is_some token ≡ true →
    IsFinding history pass
has_opened limits history tokens are pass None is some = absurd (false≢true some)
has_opened limits history tokens are pass (Some number) is some = (number, (are.each pass number).0 is)

-- so many finds are running
pub finds_kept : (limits : Limits) (history : List Event) (tokens : List (Option ℕ)) → AreTokens limits history tokens → IsCount limits.passes (IsFinding history) (count_by is_some tokens)
finds_kept limits history tokens are = record {
  test = λ pass. is_some (get_or tokens pass None);
  tells = λ pass below. (
    λ some. has_opened limits history tokens are pass (get_or tokens pass None) refl some,
    λ finding. ap is_some ((are.each pass finding.0).1 finding.1),
  );
  count = counted_all is_some tokens None limits.passes are.count;
}
