-- What the stages and the tokens tell of why no document can be taken in a slice, and why none can be cleared.
use Rattle.std.proofs.Common.{◌≡◌, ⊎_elim, ℕ, ◌<◌, false, List, Option, arith}
use Rattle.std.proofs.lemmas.Bool.{both_ways}
use Rattle.document_store.specs.Slots.{Table}
use Rattle.funnel_model.specs.Blocks.{IsLowestGuard}
use Rattle.funnel_model.specs.declared.event.Event.{Event}
use Rattle.funnel_model.specs.Legal.{IsBlocked, IsLegal, Limits}
use Rattle.funnel_model.specs.Slices.{IsFilled, IsRetired, is_clearing}
use Rattle.funnel_model.specs.Tokens.{Guards, IsGuarded}
use Rattle.slice_stages.specs.Stages.{StageTable, stage_of}
use Rattle.slice_stages.specs.declared.stage.Stage.TheVariants as stage
use Rattle.token_manager.specs.Guarding.{IsLowestBefore, NoneBefore}
use Rattle.commit_desk.specs.Kept.{AreTokens}
use Rattle.commit_desk.specs.Records.{AreRecorded}
use Rattle.commit_desk.proofs.StageReadings.{AreAtStages, retired_once, retired_slice, stage_is_in_use, stage_is_retired}

module _ (limits : Limits) (history : List Event) (table : Table) (legal : IsLegal limits history) (recorded : AreRecorded limits history table) (stages : StageTable) (each : AreAtStages limits history table stages) where
  -- a slice in use in which no document can be taken is filled, and neither retired nor being cleared
  pub blocked_in_use : (slice first over : ℕ) → slice < limits.slices → stage_of stages slice ≡ stage.InUse first over → IsBlocked limits.columns history slice →
      IsFilled limits.columns slice history × (IsRetired limits.columns slice history → ⊥) × (is_clearing slice history ≡ false)
  blocked_in_use slice first over in' is blocked =
      let used = stage_is_in_use limits history table legal recorded stages each slice first over in' is in
      ⊎_elim
      (λ filled. (filled.0, used.not_retired, used.not_clearing))
      (λ gone. ⊎_elim
      (λ retired. absurd (used.not_retired retired.0))
      (λ clearing. absurd (both_ways (is_clearing slice history) used.not_clearing clearing))
      gone)
      blocked

  -- a retired slice that can't be cleared is guarded
  pub blocked_retired : (slice number : ℕ) → slice < limits.slices → stage_of stages slice ≡ stage.Retired number → IsBlocked limits.columns history slice →
      IsGuarded limits.columns history slice
  blocked_retired slice number in' is blocked =
      let retired = stage_is_retired limits history table legal recorded stages each slice number in' is in
      ⊎_elim
      (λ filled. absurd (filled.1 retired))
      (λ gone. ⊎_elim
      (λ guarded. guarded.1)
      (λ clearing. absurd (both_ways (is_clearing slice history) retired.not_clearing clearing))
      gone)
      blocked

  module _ (tokens : List (Option ℕ)) (tokens_are : AreTokens limits history tokens) where
    -- a pass that guards a slice has a token that was opened before the slice retired
    guard_is_before : (slice number pass opened : ℕ) → slice < limits.slices → stage_of stages slice ≡ stage.Retired number → Guards limits.columns history slice pass opened → opened < number
    guard_is_before slice number pass opened in' is guards =
        let same = retired_once limits history table legal recorded stages each slice number guards.retired_at in' is guards.at_event in
        let before = guards.before in
        omega arith

    -- the lowest pass whose token was opened before the slice retired is the lowest that guards it
    pub guard_by : (slice number pass opened : ℕ) → slice < limits.slices → stage_of stages slice ≡ stage.Retired number → IsLowestBefore tokens number pass opened →
        IsLowestGuard limits.columns history slice pass opened
    guard_by slice number pass opened in' is lowest = record {
      guards = record {
        token = (tokens_are.each pass opened).0 lowest.opened;
        retired = stage_is_retired limits history table legal recorded stages each slice number in' is;
        retired_at = number;
        at_event = (retired_slice limits history table legal recorded stages each slice number in' is).retired;
        before = lowest.before;
      };
      lowest = λ lower less other guards.
          lowest.lowest lower other less ((tokens_are.each lower other).1 guards.token) (guard_is_before slice number lower other in' is guards);
    }

    -- where there is none nobody guards the slice
    pub unguarded_by : (slice number : ℕ) → slice < limits.slices → stage_of stages slice ≡ stage.Retired number → NoneBefore tokens number → IsGuarded limits.columns history slice → ⊥
    unguarded_by slice number in' is none guarded =
        let guards = guarded.2 in
        none guarded.0 guarded.1 ((tokens_are.each guarded.0 guarded.1).1 guards.token) (guard_is_before slice number guarded.0 guarded.1 in' is guards)
