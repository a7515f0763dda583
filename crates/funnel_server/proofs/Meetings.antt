-- The meeting of the workers: first the last one meets the others, and then the others meet the last one.
use Rattle.std.proofs.Common.{◌≡◌, ℕ, ◌+◌, ◌<◌, ◌≤◌, ◌⊎◌, List, length, sym, refl, ap, ◌∙◌, subst, inl, inr, arith, slice_index_or, slice_set, length-set}
use Rattle.std.proofs.lemmas.Bool.{cases_lt}
use Rattle.std.proofs.lemmas.List.{get_or-set_other, get_or-set_same, set-get_or}
use mathlib.Core.List.{IsPrefix}
use Rattle.commit_desk.proofs.Turns.{whole_is_front}
use Rattle.funnel_model.proofs.StepLemmas.{prefix_refl, prefix_trans}
use Rattle.funnel_model.specs.declared.event.Event.{Event}
use Rattle.funnel_model.specs.History.{IsFrontOf}
use Rattle.funnel_server.specs.Parts.{LoadersHaveMet, LastHasMet, LoaderState, Meets, MetLast, OnlySees}
use Rattle.load_laws.proofs.FrontLemmas.{front_trans}

-- what a worker saw it has seen from then on
grows : (before after : LoaderState) → OnlySees before after → IsPrefix before.pass.front after.pass.front
grows before after sees = (sees.seen.later, sym sees.seen.whole)

-- a worker that did nothing, and one that saw something and then something more
sees_none : (loader : LoaderState) → OnlySees loader loader
sees_none loader = record { seen = whole_is_front loader.pass.number loader.pass.front; number = refl; results = refl; stopped = refl }

sees_more : (before middle after : LoaderState) → OnlySees before middle → OnlySees middle after → OnlySees before after
sees_more before middle after first second = record {
  seen = front_trans before.pass.number before.pass.front middle.pass.front after.pass.front first.seen
      (subst (λ n. IsFrontOf n middle.pass.front after.pass.front) first.number second.seen);
  number = second.number ∙ first.number;
  results = second.results ∙ first.results;
  stopped = second.stopped ∙ first.stopped;
}

-- a worker that did nothing stands at its place as before
pub still_there : (loaders : List LoaderState) (place : ℕ) (same d : LoaderState) → same ≡ slice_index_or loaders place d → slice_set loaders place same ≡ loaders
still_there loaders place same d did = ap (slice_set loaders place) did ∙ set-get_or loaders place d

-- ---- the last one meets the others

pub last_met_one : (last n : ℕ) (before now : List LoaderState) (front : List Event) (next : LoaderState) → LastHasMet last n before now → n < last → last < length before →
    ((d : LoaderState) → front ≡ (slice_index_or now n d).pass.front) → ((d : LoaderState) → Meets front (slice_index_or now last d) next) →
    LastHasMet last (n + 1) before (slice_set now last next)
last_met_one last n before now front next so_far less inside is meets =
    let here : (d : LoaderState) → slice_index_or (slice_set now last next) last d ≡ next = λ d. get_or-set_same now last next d (omega (arith, inside, so_far.count)) in
    record {
      count = length-set now last next ∙ so_far.count;
      others = λ k d small. get_or-set_other now last k next d (λ same. absurd (omega (arith, small, same))) ∙ so_far.others k d small;
      sees = λ d. subst (OnlySees (slice_index_or before last d)) (sym (here d))
          (sees_more (slice_index_or before last d) (slice_index_or now last d) next (so_far.sees d) (meets d).sees);
      met = λ k d small. subst (λ (s : LoaderState). IsPrefix (slice_index_or before k d).pass.front s.pass.front) (sym (here d)) (by_case k d small (cases_lt k n));
    }
  where
    by_case : (k : ℕ) (d : LoaderState) → k < n + 1 → (k < n) ⊎ (n ≤ k) → IsPrefix (slice_index_or before k d).pass.front next.pass.front
    by_case k d small (inl lower) =
        prefix_trans (slice_index_or before k d).pass.front (slice_index_or now last d).pass.front next.pass.front (so_far.met k d lower)
        (grows (slice_index_or now last d) next (meets d).sees)
    by_case k d small (inr upper) =
        let same : n ≡ k = omega (arith, small, upper) in
        subst (λ h. IsPrefix h next.pass.front)
        (is d ∙ ap (λ j. (slice_index_or now j d).pass.front) same ∙ ap (λ (s : LoaderState). s.pass.front) (so_far.others k d (omega (arith, less, same))))
        (meets d).met

-- ---- so each one has seen what every one had seen

module _ (last : ℕ) (before middle after : List LoaderState) (count : length before ≡ last + 1) (first : LastHasMet last last before middle) (second : MetLast last last middle after) where
  seen_by_last : (k : ℕ) (d : LoaderState) → k < length before → IsPrefix (slice_index_or before k d).pass.front (slice_index_or middle last d).pass.front
  seen_by_last k d small =
      by_case (cases_lt k last)
    where
      by_case : (k < last) ⊎ (last ≤ k) → IsPrefix (slice_index_or before k d).pass.front (slice_index_or middle last d).pass.front
      by_case (inl lower) = first.met k d lower
      by_case (inr upper) =
          let same : last ≡ k = omega (arith, small, upper, count) in
          subst (λ j. IsPrefix (slice_index_or before j d).pass.front (slice_index_or middle last d).pass.front) same
          (grows (slice_index_or before last d) (slice_index_or middle last d) (first.sees d))

  sees_last : (k : ℕ) (d : LoaderState) → k < length before → IsPrefix (slice_index_or middle last d).pass.front (slice_index_or after k d).pass.front
  sees_last k d small =
      by_case (cases_lt k last)
    where
      by_case : (k < last) ⊎ (last ≤ k) → IsPrefix (slice_index_or middle last d).pass.front (slice_index_or after k d).pass.front
      by_case (inl lower) = (second.met k d lower).met
      by_case (inr upper) =
          let same : last ≡ k = omega (arith, small, upper, count) in
          let is : slice_index_or middle last d ≡ slice_index_or after k d = ap (λ j. slice_index_or middle j d) same ∙ sym (second.kept k d upper) in
          subst (λ (s : LoaderState). IsPrefix (slice_index_or middle last d).pass.front s.pass.front) is (prefix_refl (slice_index_or middle last d).pass.front)

  only_sees : (k : ℕ) (d : LoaderState) → k < length before → OnlySees (slice_index_or before k d) (slice_index_or after k d)
  only_sees k d small =
      by_case (cases_lt k last)
    where
      by_case : (k < last) ⊎ (last ≤ k) → OnlySees (slice_index_or before k d) (slice_index_or after k d)
      by_case (inl lower) = subst (λ (s : LoaderState). OnlySees s (slice_index_or after k d)) (first.others k d lower) (second.met k d lower).sees
      by_case (inr upper) =
          let same : last ≡ k = omega (arith, small, upper, count) in
          let is : slice_index_or middle last d ≡ slice_index_or after k d = ap (λ j. slice_index_or middle j d) same ∙ sym (second.kept k d upper) in
          subst (OnlySees (slice_index_or before k d)) is
          (subst (λ j. OnlySees (slice_index_or before j d) (slice_index_or middle last d)) same (first.sees d))

  pub all_met : LoadersHaveMet before after
  all_met = record {
    count = second.count ∙ first.count;
    sees = only_sees;
    met = λ k other d small below.
        prefix_trans (slice_index_or before other d).pass.front (slice_index_or middle last d).pass.front (slice_index_or after k d).pass.front
        (seen_by_last other d below) (sees_last k d small);
  }
