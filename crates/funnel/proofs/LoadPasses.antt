-- What the passes of a new engine have seen, by their places, once the first ones were the workers of a load.
use Rattle.std.proofs.Common.{◌≡◌, ℕ, zero, suc, ◌+◌, ◌-◌, ◌<◌, ◌≤◌, false, List, [], ◌∷◌, ◌++◌, length, drop, map, sym, refl, ap, ◌∙◌, subst, arith}
use Rattle.std.proofs.lemmas.List.Elements.{All-head, All-tail}
use Rattle.std.specs.List.{All, list_any, range_with_len, remove}
use Rattle.std.specs.Prelude.{◌==◌, slice_index_or}
use Rattle.engine.proofs.NewPasses.{new_numbers}
use Rattle.engine.specs.Engines.{EndsIn}
use Rattle.engine.specs.Passes.{PassView}
use Rattle.funnel_model.specs.declared.event.Event.{Event}
use Rattle.funnel_model.specs.Events.{pass_of}
use Rattle.funnel_model.specs.History.{IsFrontOf}
use Rattle.funnel_model.specs.Legal.{IsLegal}
use Rattle.funnel_server.specs.Loads.{front_at}
use Rattle.slice_rule.specs.Pools.{PoolId}
use Rattle.funnel.proofs.Passes.{number_of, of_first_passes}
use Rattle.funnel.specs.Serving.{new_passes}

-- new passes have seen nothing
pub new_front_at : (from count place : ℕ) → front_at (new_passes from count) place ≡ []
new_front_at from zero place = refl
new_front_at from (suc count) zero = refl
new_front_at from (suc count) (suc place) = new_front_at (from + 1) count place

-- behind the first so many passes each place is so much lower
front_at-drop : (n place : ℕ) (passes : List PassView) → front_at (drop n passes) place ≡ front_at passes (n + place)
front_at-drop zero place passes = ap (front_at passes) (omega arith)
front_at-drop (suc n) place [] = refl
front_at-drop (suc n) place (pass ∷ passes) =
    let next : suc (n + place) ≡ suc n + place = omega arith in
    front_at-drop n place passes ∙ ap (front_at (pass ∷ passes)) next

-- the history goes on from what the pass at each place has seen, where the passes stand by their numbers
front_by_place : (history : List Event) (passes : List PassView) (from count : ℕ) → map number_of passes ≡ range_with_len from count →
    All (EndsIn history) passes → (place : ℕ) → place < count → IsFrontOf (from + place) (front_at passes place) history
front_by_place history [] from zero numbers ends place below = absurd (omega arith)
front_by_place history [] from (suc count) numbers ends place below = absurd (omega (arith, ap length numbers))
front_by_place history (pass ∷ passes) from zero numbers ends place below = absurd (omega arith)
front_by_place history (pass ∷ passes) from (suc count) numbers ends zero below =
    let number : pass.number ≡ from + 0 = ap (λ ns. slice_index_or ns 0 pass.number) numbers ∙ omega arith in
    subst (λ n. IsFrontOf n pass.front history) number (All-head (EndsIn history) pass passes ends)
front_by_place history (pass ∷ passes) from (suc count) numbers ends (suc place) below =
    let same : from + 1 + place ≡ from + suc place = omega arith in
    subst (λ n. IsFrontOf n (front_at passes place) history) same
    (front_by_place history passes (from + 1) count (ap (λ (ns : List ℕ). remove ns 0) numbers) (All-tail (EndsIn history) pass passes ends) place (omega arith))

-- the passes of a new engine before and after a load of so many workers: each stands at its place, and only the workers' were used
pub record AreUsedBy (pool : PoolId) (workers : ℕ) (before after : List PassView) : Type 0 where
  pub counted : pool.limits.passes ≡ pool.config.passes
  pub new : before ≡ new_passes 0 pool.config.passes
  pub numbers : map number_of after ≡ map number_of before
  pub others : drop workers after ≡ drop workers before

module _ (pool : PoolId) (workers : ℕ) (before after : List PassView) (used : AreUsedBy pool workers before after) where
  numbers_are : map number_of after ≡ range_with_len 0 pool.config.passes
  numbers_are = used.numbers ∙ ap (map number_of) used.new ∙ new_numbers 0 pool.config.passes

  -- no worker has seen anything before
  pub nothing_before : (place : ℕ) → front_at before place ≡ []
  nothing_before place = ap (λ (passes : List PassView). front_at passes place) used.new ∙ new_front_at 0 pool.config.passes place

  -- and the others nothing after
  pub nothing_after : (place : ℕ) → workers ≤ place → front_at after place ≡ []
  nothing_after place high =
      let split : workers + (place - workers) ≡ place = omega arith in
      ap (front_at after) (sym split) ∙ sym (front_at-drop workers (place - workers) after)
      ∙ ap (λ (passes : List PassView). front_at passes (place - workers)) used.others
      ∙ front_at-drop workers (place - workers) before ∙ nothing_before (workers + (place - workers))

  module _ (history : List Event) (legal : IsLegal pool.limits history) (ends : All (EndsIn history) after) where
    pub seen_by : (pass : ℕ) → pass < pool.config.passes → IsFrontOf pass (front_at after pass) history
    seen_by pass small =
        let number : 0 + pass ≡ pass = omega arith in
        subst (λ n. IsFrontOf n (front_at after pass) history) number (front_by_place history after 0 pool.config.passes numbers_are ends pass small)

    other_silent : (pass : ℕ) → workers ≤ pass → pass < pool.limits.passes → list_any (λ e. pass_of e == pass) history ≡ false
    other_silent pass high small =
        let seen = seen_by pass (omega (arith, small, used.counted)) in
        let none = nothing_after pass high in
        let whole : history ≡ seen.later = seen.whole ∙ ap (λ (h : List Event). h ++ seen.later) none in
        ap (list_any (λ e. pass_of e == pass)) whole ∙ seen.silent

    -- so all events are of the workers
    pub of_workers : All (λ e. pass_of e < workers) history
    of_workers = of_first_passes pool.limits workers history legal other_silent
