-- What a pass that takes room for a document may do, and what it knows of the layout of its slice afterwards.
use Rattle.std.proofs.Common.{◌≡◌, ⊎_elim, ℕ, ◌<◌, false, List, [], ◌∷◌, length, sym, refl, ap, ◌∙◌, subst, append-nil, arith}
use Rattle.std.proofs.lemmas.Bool.{both_ways}
use Rattle.document_store.specs.Slots.{Table}
use Rattle.funnel_model.specs.declared.claim.ClearJob.{ClearJob}
use Rattle.funnel_model.specs.declared.event.Event.{Event}
use Rattle.funnel_model.specs.declared.event.Event.TheVariants as event
use Rattle.funnel_model.specs.History.{IsFrontOf}
use Rattle.funnel_model.specs.Legal.{CanClear, HasRoom, IsFull, IsIdle, IsLegal, Limits, MayTake, NoneCanClear}
use Rattle.funnel_model.specs.Slices.{claimed, is_clearing}
use Rattle.funnel_model.specs.Tunings.{treat}
use Rattle.funnel_model.proofs.Histories.{legal_before}
use Rattle.funnel_model.proofs.LastEvents.{last_is_clearer}
use Rattle.funnel_model.proofs.Retirement.{full_has_no_room}
use Rattle.funnel_model.proofs.TuningLemmas.{treat-later, treat_clearing}
use Rattle.row_layout.specs.Layouts.{LayoutId}
use Rattle.slice_rule.specs.Pools.{PoolId}
use Rattle.slice_rule.specs.Seats.{HoldsJob, PassState}
use Rattle.slice_stages.specs.Stages.{HasLeft, HoldsOfNone, IsLowest}
use Rattle.commit_desk.specs.Desks.{DeskState, IsCaughtUp, Makes}
use Rattle.commit_desk.specs.Kept.{IsDesk}
use Rattle.commit_desk.specs.Layouts.{IsCurrentLayout, IsLayoutOf}
use Rattle.commit_desk.specs.declared.desk.Desk.TheInside.{Inside}
use Rattle.commit_desk.proofs.Inside.{books_of, desk_of}
use Rattle.commit_desk.proofs.LayoutEvents.{laid_after_clear, laid_after_take, layout_in}
use Rattle.commit_desk.proofs.StageReadings.{full_by, left_has_room, may_take, none_has_room}
use Rattle.commit_desk.proofs.Turns.{whole_is_front}

module _ (now : DeskState) (i : Inside) (whole : Table) (desk : IsDesk i.home.pool i.events_limit i.home.history (books_of i whole)) (view : desk_of i ≡ now) where
  -- an idle pass may take the next column of the lowest slice with room
  pub may_from : (pass slice : ℕ) → IsIdle pass now.history → IsLowest (HasLeft i.stages.columns) i.stages slice →
      MayTake now.pool.limits now.history pass slice (length (claimed slice now.history))
  may_from pass slice idle is =
      let kept = desk.kept in
      let lowest : IsLowest (HasLeft i.home.pool.limits.columns) i.stages slice = subst (λ n. IsLowest (HasLeft n) i.stages slice) kept.staged.columns_are is in
      let idle_then : IsIdle pass i.home.history = subst (λ (d : DeskState). IsIdle pass d.history) (sym view) idle in
      subst (λ (d : DeskState). MayTake d.pool.limits d.history pass slice (length (claimed slice d.history))) view
      (may_take i.home.pool.limits i.home.history whole kept.legal kept.recorded i.stages kept.staged.each kept.staged.count pass slice idle_then lowest)

  -- where none has a column left, no slice has room
  pub no_room_from : HoldsOfNone (HasLeft i.stages.columns) i.stages → (slice : ℕ) → slice < now.pool.limits.slices → HasRoom now.pool.limits.columns now.history slice → ⊥
  no_room_from none =
      let kept = desk.kept in
      subst (λ (d : DeskState). (slice : ℕ) → slice < d.pool.limits.slices → HasRoom d.pool.limits.columns d.history slice → ⊥) view
      (none_has_room i.home.pool.limits i.home.history whole kept.legal kept.recorded i.stages kept.staged.each kept.staged.count
      (subst (λ n. HoldsOfNone (HasLeft n) i.stages) kept.staged.columns_are none))

  -- the engine is full where no slice has room and none can be cleared
  pub full_from : ((slice : ℕ) → slice < now.pool.limits.slices → HasRoom now.pool.limits.columns now.history slice → ⊥) → NoneCanClear now.pool.limits now.history →
      IsFull now.pool.limits now.history
  full_from no_room none_can =
      let kept = desk.kept in
      let none_has : (slice : ℕ) → slice < i.home.pool.limits.slices → HasRoom i.home.pool.limits.columns i.home.history slice → ⊥ =
      subst (λ (d : DeskState). (slice : ℕ) → slice < d.pool.limits.slices → HasRoom d.pool.limits.columns d.history slice → ⊥) (sym view) no_room in
      let none_left : HoldsOfNone (HasLeft i.home.pool.limits.columns) i.stages =
      λ slice in' left.
      let below : slice < i.home.pool.limits.slices = (let count = kept.staged.count in omega (arith, count, in')) in
      none_has slice below (left_has_room i.home.pool.limits i.home.history whole kept.legal kept.recorded i.stages kept.staged.each slice below left) in
      subst (λ (d : DeskState). IsFull d.pool.limits d.history) view
      (full_by i.home.pool.limits i.home.history whole kept.legal kept.recorded i.stages kept.staged.each kept.staged.count none_left
      (subst (λ (d : DeskState). NoneCanClear d.pool.limits d.history) (sym view) none_can))

  -- its history is legal
  pub legal_from : IsLegal now.pool.limits now.history
  legal_from = subst (λ (d : DeskState). IsLegal d.pool.limits d.history) view desk.kept.legal

  -- and it isn't full where a slice has room
  pub not_full_by_room : (slice : ℕ) → slice < now.pool.limits.slices → HasRoom now.pool.limits.columns now.history slice → IsFull now.pool.limits now.history → ⊥
  not_full_by_room slice in' room full = full_has_no_room now.pool.limits now.history slice legal_from full in' room.unclaimed

-- nor is it where a slice can be cleared
pub not_full_by_clear : (limits : Limits) (history : List Event) (slice : ℕ) → slice < limits.slices → CanClear limits.columns history slice → IsFull limits history → ⊥
not_full_by_clear limits history slice in' can full = ⊎_elim
    (λ filled. filled.1 can.retired)
    (λ gone. ⊎_elim (λ guarded. can.unguarded guarded.1) (λ clearing. both_ways (is_clearing slice history) can.retired.not_clearing clearing) gone)
    (full slice in')

-- a pass that has seen the whole history and makes no event
pub makes_nothing : (before : DeskState) (seat : PassState) → IsCaughtUp before seat → IsLegal before.pool.limits before.history → Makes [] before before seat seat
makes_nothing before seat caught legal = record {
  pool = refl;
  limit = refl;
  history = sym (append-nil before.history);
  legal = legal;
  seen = subst (λ (h : List Event). IsFrontOf seat.number h before.history) (sym caught.front) (whole_is_front seat.number before.history);
  same = refl;
  number = refl;
  front = caught.front;
  asked = sym (append-nil seat.asked);
  own = refl;
}

module _ (before after : DeskState) (seat next : PassState) (layout : LayoutId) where
  -- the layout of a slice is its layout still when a column of it was claimed
  pub laid_by_take : (pass slice column : ℕ) → IsCaughtUp before seat → Makes (event.Take pass slice column ∷ []) before after seat next →
      IsLayoutOf before.pool.config slice before.history layout → IsLayoutOf next.pool.config slice next.front layout
  laid_by_take pass slice column caught made is =
      subst (λ (p : PoolId). IsLayoutOf p.config slice next.front layout) (sym (made.same ∙ caught.seated.same))
      (laid_after_take before.pool.config before.history next.front layout pass slice column (made.front ∙ made.history) is)

  -- the current layout is that of a slice which was cleared
  pub laid_by_clear : (pass slice : ℕ) → IsCaughtUp before seat → Makes (event.Clear pass slice ∷ []) before after seat next →
      IsCurrentLayout before.pool.config before.history layout → IsLayoutOf next.pool.config slice next.front layout
  laid_by_clear pass slice caught made is =
      subst (λ (p : PoolId). IsLayoutOf p.config slice next.front layout) (sym (made.same ∙ caught.seated.same))
      (laid_after_clear before.pool.config before.history next.front layout pass slice (made.front ∙ made.history) is)

  -- a slice that was cleared, and opened and taken since, has the layout that it had
  pub laid_by_reuse : (job : ClearJob) → HoldsJob seat job →
      Makes (event.Opened seat.number job.slice false ∷ event.Take seat.number job.slice 0 ∷ []) before after seat next →
      IsLayoutOf seat.pool.config job.slice seat.front layout → IsLayoutOf next.pool.config job.slice next.front layout
  laid_by_reuse job holds made is =
      let slice = job.slice in
      let events = event.Opened seat.number slice false ∷ event.Take seat.number slice 0 ∷ [] in
      let limits = after.pool.limits in
      let opening = seat.pool.config in
      let legal : IsLegal limits before.history = legal_before limits before.history events (subst (IsLegal limits) made.history made.legal) in
      let legal_then : IsLegal limits seat.front = legal_before limits seat.front made.seen.later (subst (IsLegal limits) made.seen.whole legal) in
      let clearing = last_is_clearer limits seat.front seat.number slice legal_then holds in
      let treated : treat opening slice next.front ≡ treat opening slice seat.front =
      ap (treat opening slice) (made.front ∙ made.history) ∙ treat-later opening slice before.history events refl
      ∙ treat_clearing limits opening seat.front before.history seat.number slice legal made.seen clearing in
      subst (λ (p : PoolId). IsLayoutOf p.config slice next.front layout) (sym made.same) (record {
        is = is.is ∙ ap (layout_in opening) (sym treated);
        suits = is.suits;
      })
