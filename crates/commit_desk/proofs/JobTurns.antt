-- A call of a pass that holds a job: it catches up, and opens the slice that it cleared.
use Rattle.std.proofs.Common.{◌≡◌, ℕ, ◌+◌, ◌<◌, ◌≤◌, Bool, true, false, List, [], ◌∷◌, ◌++◌, length, Some, sym, ap, ◌∙◌, subst, arith}
use Rattle.document_store.specs.Slots.{Table, is_out, with_slice}
use Rattle.funnel_model.specs.declared.claim.ClearJob.{ClearJob}
use Rattle.funnel_model.specs.declared.event.Event.{Event}
use Rattle.funnel_model.specs.declared.event.Event.TheVariants as event
use Rattle.funnel_model.specs.History.{IsFrontOf, last_by}
use Rattle.funnel_model.specs.Legal.{IsAllowed, Limits}
use Rattle.funnel_model.proofs.Clears.{last_by-front}
use Rattle.funnel_model.proofs.Histories.{legal-push}
use Rattle.funnel_model.proofs.LastEvents.{last_is_clearer, last_is_clearing}
use Rattle.funnel_model.proofs.NextEvents.{clears_in_range}
use Rattle.funnel_model.proofs.Progress.{allowed_by}
use Rattle.row_layout.proofs.BitLemmas.{columns-positive}
use Rattle.slice_rule.specs.Pools.{PoolId}
use Rattle.slice_rule.specs.Seats.{HasMade, HasNoneOutstanding, HoldsJob, HomeState, IsSameHome, IsSamePass, IsSeated, PassState, after_append}
use Rattle.slice_stages.specs.Stages.{StageTable, empty_stage, stage_of, with_stage}
use Rattle.slice_stages.specs.declared.stage.Stage.TheVariants as stage
use Rattle.commit_desk.specs.Desks.{DeskState, IsCaughtUp, Makes}
use Rattle.commit_desk.specs.Kept.{Books, IsDesk, AreBooksOf, events_left}
use Rattle.commit_desk.proofs.Few.{few-next}
use Rattle.commit_desk.proofs.FindTurns.{desk_is}
use Rattle.commit_desk.proofs.MadeEvents.{desk_at, made_one}
use Rattle.commit_desk.proofs.SliceEvents.{books_after, kept-as, kept-opened}
use Rattle.commit_desk.proofs.StageReadings.{clearing_stage}
use Rattle.commit_desk.proofs.Turns.{caught_up}

-- the pass with this number caught up, and its last event is still its Clear of the slice
pub record JobTurn (before : DeskState) (most : ℕ) (caught : HomeState) (books : Books) (seat up : PassState) (pass slice : ℕ) : Type 0 where
  pub desk : IsDesk caught.pool most caught.history books
  pub view : desk_at caught most ≡ before
  pub same : IsSamePass seat up
  pub goes : IsFrontOf up.number seat.front up.front
  pub caught_up : IsCaughtUp before up
  pub number : pass ≡ up.number
  pub last : last_by pass caught.history ≡ Some (event.Clear pass slice)

-- what catching up tells
pub job_turn : (pool : PoolId) (before : DeskState) (most : ℕ) (home caught : HomeState) (books : Books) (seat up : PassState) (pass : ℕ) (job : ClearJob) → pool ≡ before.pool →
    IsSeated before.pool seat → HoldsJob seat job → desk_at home most ≡ before → IsDesk home.pool most home.history books → IsSameHome home caught → IsSamePass seat up →
    up.front ≡ caught.history → IsFrontOf up.number seat.front up.front → HasNoneOutstanding up → up.number < pool.limits.passes → pass ≡ up.number →
    JobTurn before most caught books seat up pass job.slice
job_turn pool before most home caught books seat up pass job same_pool of holds view is same_home same front goes none in' number =
    let now = desk_is before home caught most view same_home in
    let last : last_by up.number caught.history ≡ Some (event.Clear up.number job.slice) =
    ap (last_by up.number) (sym front) ∙ last_by-front up.number seat.front up.front goes
    ∙ subst (λ n. last_by n seat.front ≡ Some (event.Clear n job.slice)) (sym same.number) holds in
    record {
      desk = subst (λ (h : List Event). IsDesk caught.pool most h books) (sym same_home.history)
          (subst (λ (p : PoolId). IsDesk p most home.history books) (sym same_home.pool) is);
      view = now;
      same = same;
      goes = goes;
      caught_up = caught_up before seat up of same (front ∙ ap (λ (d : DeskState). d.history) now) none (subst (λ (p : PoolId). up.number < p.limits.passes) same_pool in');
      number = number;
      last = subst (λ n. last_by n caught.history ≡ Some (event.Clear n job.slice)) (sym number) last;
    }

-- each slice of a desk's pool has a column
pub some_column : (pool : PoolId) (most : ℕ) (history : List Event) (books : Books) → IsDesk pool most history books → 0 < pool.limits.columns
some_column pool most history books is = subst (λ n. 0 < n) (sym (ap (λ (l : Limits). l.columns) is.sizes)) (columns-positive pool.config is.in_range)

module _ (before : DeskState) (most : ℕ) (caught : HomeState) (books : Books) (seat up : PassState) (pass slice : ℕ) (turn : JobTurn before most caught books seat up pass slice) where
  -- the pool is the desk's
  pub pool_now : (pool : PoolId) → pool ≡ before.pool → caught.pool ≡ pool
  pool_now pool same = ap (λ (d : DeskState). d.pool) turn.view ∙ sym same

  -- the slice is one of the engine
  pub slice_in_range : slice < caught.pool.limits.slices
  slice_in_range = clears_in_range caught.pool.limits caught.history turn.desk.kept.legal pass slice turn.last

  -- its slots were taken out
  pub slice_out : is_out books.table slice ≡ true
  slice_out =
      let kept = turn.desk.kept in
      let in' = slice_in_range in
      kept.recorded.out slice (let h = kept.recorded.slices_are in omega (arith, h, in')) ∙ last_is_clearing caught.pool.limits caught.history pass slice kept.legal turn.last

  -- and as many come back as it has columns
  pub slots_back : (slots : ℕ) → slots ≡ before.pool.limits.columns → slots ≡ books.table.columns
  slots_back slots are = are ∙ ap (λ (d : DeskState). d.pool.limits.columns) (sym turn.view) ∙ sym turn.desk.kept.recorded.columns_are

  -- it is at the stage Clearing
  pub slice_clearing : (clearer : ℕ) × (stage_of books.stages slice ≡ stage.Clearing clearer)
  slice_clearing =
      let kept = turn.desk.kept in
      clearing_stage caught.pool.limits caught.history books.table kept.legal kept.recorded books.stages kept.staged.each slice pass slice_in_range
      (last_is_clearer caught.pool.limits caught.history pass slice kept.legal turn.last)

  module _ (alone : Bool) where
    -- the pass may open it
    pub opened_allowed : IsAllowed caught.pool.limits caught.history (event.Opened pass slice alone)
    opened_allowed =
        let in' : up.number < caught.pool.limits.passes = subst (λ (d : DeskState). up.number < d.pool.limits.passes) (sym turn.view) turn.caught_up.in_range in
        allowed_by caught.pool.limits caught.history (event.Opened pass slice alone) (subst (λ n. n < caught.pool.limits.passes) (sym turn.number) in') turn.desk.none_awaited
        (record { cleared = turn.last })

    -- what is kept then
    pub opened_kept : (home : HomeState) (events : ℕ) (table : Table) (stages : StageTable) → IsSameHome (after_append caught (event.Opened pass slice alone)) home → events ≡ length caught.history + 1 →
        table ≡ with_slice books.table slice → stages ≡ with_stage books.stages slice empty_stage →
        AreBooksOf caught.pool.config caught.pool.limits most home.history (books_after books events table stages)
    opened_kept home events table stages same events_are table_is stages_are =
        let e = event.Opened pass slice alone in
        let few = few-next most caught.pool.limits.passes caught.history e (event.Clear pass slice) turn.desk.kept.few opened_allowed.pass turn.last (few_left alone) in
        kept-as caught.pool.config caught.pool.limits most (caught.history ++ e ∷ []) home.history
        (books_after books (length caught.history + 1) (with_slice books.table slice) (with_stage books.stages slice empty_stage))
        events table stages same.history events_are table_is stages_are
        (kept-opened caught.pool.config caught.pool.limits most caught.history books turn.desk.kept pass slice alone
        (some_column caught.pool most caught.history books turn.desk) opened_allowed few) where
          few_left : (b : Bool) → events_left (event.Opened pass slice b) + 1 ≤ events_left (event.Clear pass slice)
          few_left true = omega arith
          few_left false = omega arith

    -- and what it makes of the desk and of the pass
    pub opened_made : (home : HomeState) (next : PassState) → IsSameHome (after_append caught (event.Opened pass slice alone)) home → HasMade (event.Opened pass slice alone) up next →
        Makes (event.Opened pass slice alone ∷ []) before (desk_at home most) up next
    opened_made home next same made =
        let e = event.Opened pass slice alone in
        made_one before caught home most up next e turn.view turn.caught_up same (legal-push caught.pool.limits caught.history e turn.desk.kept.legal opened_allowed) made
