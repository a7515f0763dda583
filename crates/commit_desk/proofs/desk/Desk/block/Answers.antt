use Rattle.std.proofs.Common.{◌≡◌, ◌<◌, sym, ◌∙◌, subst}
use Rattle.funnel_model.specs.Blocks.{IsLowestGuard}
use Rattle.funnel_model.specs.Legal.{IsBlocked}
use Rattle.funnel_model.specs.Slices.{IsFilled, IsRetired}
use Rattle.slice_stages.specs.Stages.{stage_of}
use Rattle.slice_stages.specs.declared.stage.Stage.TheVariants as stage
use Rattle.commit_desk.specs.Desks.{DeskState}
use Rattle.commit_desk.proofs.Refusals.{blocked_in_use, blocked_retired, guard_by, unguarded_by}
use Rattle.commit_desk.proofs.desk.Desk.block.Goals as goal
use Rattle.commit_desk.proofs.desk.Desk.block.Goals.{After-stage, After-guard_of, In-InUse}

in_range_now : (c : After-stage) → c.args.slice < c.self.inside.home.pool.limits.slices
in_range_now c = subst (λ (d : DeskState). c.args.slice < d.pool.limits.slices) (sym c.self.view_is) c.requires.in_range

blocked_now : (c : After-stage) → IsBlocked c.self.inside.home.pool.limits.columns c.self.inside.home.history c.args.slice
blocked_now c = subst (λ (d : DeskState). IsBlocked d.pool.limits.columns d.history c.args.slice) (sym c.self.view_is) (c.requires.full c.args.slice c.requires.in_range)

in_use_now : (c : In-InUse) → IsFilled c.args.self.now.pool.limits.columns c.args.slice c.args.self.now.history × (IsRetired c.args.self.now.pool.limits.columns c.args.slice c.args.self.now.history → ⊥)
in_use_now c =
    let i = c.self.inside in
    let kept = c.self.invariant.desk.kept in
    let slice = c.args.slice in
    let is = blocked_in_use i.home.pool.limits i.home.history c.self.invariant.whole kept.legal kept.recorded i.stages kept.staged.each slice c.in-InUse.claimed c.in-InUse.over (in_range_now c.before)
    (sym c.stage.ensures ∙ c.in-InUse.is) (blocked_now c.before) in
    subst (λ (d : DeskState). IsFilled d.pool.limits.columns slice d.history × (IsRetired d.pool.limits.columns slice d.history → ⊥)) c.self.view_is (is.0, is.1)

pub lowest_held-requires-clause-filled : goal.lowest_held-requires-clause-filled
lowest_held-requires-clause-filled c = (in_use_now c).0

pub lowest_held-requires-clause-not_retired : goal.lowest_held-requires-clause-not_retired
lowest_held-requires-clause-not_retired c = (in_use_now c).1

retired_now : (c : After-guard_of) → stage_of c.self.inside.stages c.args.slice ≡ stage.Retired c.in-Retired.at
retired_now c = sym c.stage.ensures ∙ c.in-Retired.is

pub unreachable-requires : goal.unreachable-requires
unreachable-requires c =
    let i = c.self.inside in
    let kept = c.self.invariant.desk.kept in
    let slice = c.args.slice in
    let now = retired_now c.before in
    let in' = in_range_now c.before.before.before in
    unguarded_by i.home.pool.limits i.home.history c.self.invariant.whole kept.legal kept.recorded i.stages kept.staged.each i.tokens kept.tokens_are slice c.in-Retired.at in' now c.in_default.ensures
    (blocked_retired i.home.pool.limits i.home.history c.self.invariant.whole kept.legal kept.recorded i.stages kept.staged.each slice c.in-Retired.at in' now (blocked_now c.before.before.before))

pub returns-in-Some : goal.returns-in-Some
returns-in-Some c =
    let i = c.self.inside in
    let kept = c.self.invariant.desk.kept in
    let slice = c.args.slice in
    subst (λ (d : DeskState). IsLowestGuard d.pool.limits.columns d.history slice c.in-Some.pass c.in-Some.opened_at) c.self.view_is
    (guard_by i.home.pool.limits i.home.history c.self.invariant.whole kept.legal kept.recorded i.stages kept.staged.each i.tokens kept.tokens_are slice c.in-Retired.at c.in-Some.pass c.in-Some.opened_at
    (in_range_now c.before.before.before) (retired_now c.before) c.in-Some.ensures)
