use Rattle.std.proofs.Common.{◌≡◌, ◌+◌, false, sym, ap, ◌∙◌, subst, arith}
use Rattle.std.proofs.lemmas.Bool.{false≢true}
use Rattle.funnel_model.proofs.ReserveLemmas.{one_held_count}
use Rattle.commit_desk.specs.Desks.{DeskState}
use Rattle.commit_desk.specs.Moving.{is_fewer}
use Rattle.commit_desk.proofs.Emptying.{IsSourceBelow, can_be_emptied, partly_by, source_next, source_of_all, source_still}
use Rattle.commit_desk.proofs.desk.Desk.source.Goals as goal
use Rattle.commit_desk.proofs.desk.Desk.source.Goals.{in-Some+then-is_fewer+then-has_live, in-Some+else-is_fewer, else-is_fewer-via-then-is_fewer+else-has_live, else-is_fewer-via-else-is_fewer, in_default}

pub loop-slice-preserved : goal.loop-slice-preserved
loop-slice-preserved c =
    let limits = c.args.self.now.pool.limits in
    let history = c.args.self.now.history in
    let slice = c.loop-slice.slice in
    let before = c.loop-slice.source in
    elim c.match-held.branch [
      | in-Some+then-is_fewer+then-has_live w ↦
          subst (IsSourceBelow limits history (slice + 1)) (sym w.source-is)
          (source_next limits history slice w.in-Some.held before c.loop-slice.invariant
          (can_be_emptied limits history slice w.in-Some.held w.in-Some.ensures (w.has_live.ensures.0 w.if-has_live.true))
          (sym w.is_fewer.ensures ∙ w.if-is_fewer.true))
      | in-Some+else-is_fewer w ↦
          subst (IsSourceBelow limits history (slice + 1)) (sym w.source-is)
          (source_still limits history slice before c.loop-slice.invariant
          (elim w.else-is_fewer.branch [
            | else-is_fewer-via-then-is_fewer+else-has_live v ↦ λ number can. absurd (false≢true (sym v.if-has_live.false ∙ v.has_live.ensures.1 can.live))
            | else-is_fewer-via-else-is_fewer v ↦ λ number can.
                subst (λ n. is_fewer n before ≡ false) (one_held_count limits.columns history slice w.in-Some.held number w.in-Some.ensures.holds can.holds)
                (sym w.is_fewer.ensures ∙ v.if-is_fewer.false)
          ]))
      | in_default w ↦
          subst (IsSourceBelow limits history (slice + 1)) (sym w.source-is)
          (source_still limits history slice before c.loop-slice.invariant
          (λ number can. absurd (w.in_default.ensures number (partly_by limits history slice number can))))
    ]

pub returns : goal.returns
returns c =
    let kept = c.self.invariant.desk.kept in
    let slices : c.self.inside.slices ≡ c.args.self.now.pool.limits.slices = kept.slices_are ∙ ap (λ (d : DeskState). d.pool.limits.slices) c.self.view_is in
    let end = c.loop-slice.auto.slice-end in
    let done = c.loop-slice-test.false in
    source_of_all c.args.self.now.pool.limits c.args.self.now.history c.loop-slice.slice c.loop-slice.source (omega (arith, slices, end, done)) c.loop-slice.invariant
