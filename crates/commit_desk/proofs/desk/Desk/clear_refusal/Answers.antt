use Rattle.std.proofs.Common.{◌≡◌, ⊎_elim, ℕ, ◌<◌, ◌≤◌, sym, ◌∙◌, subst, arith}
use Rattle.std.proofs.lemmas.Bool.{cases_lt}
use Rattle.funnel_model.specs.Blocks.{IsLowestGuard}
use Rattle.funnel_model.specs.Legal.{NoneCanClear}
use Rattle.funnel_model.specs.Slices.{IsRetired}
use Rattle.slice_stages.specs.Stages.{stage_of}
use Rattle.slice_stages.specs.declared.stage.Stage.TheVariants as stage
use Rattle.commit_desk.specs.Answers.{IsLowestRetired}
use Rattle.commit_desk.specs.Desks.{DeskState}
use Rattle.commit_desk.proofs.Refusals.{guard_by, unguarded_by}
use Rattle.commit_desk.proofs.StageFacts.{retired_stage}
use Rattle.commit_desk.proofs.StageReadings.{stage_is_retired}
use Rattle.commit_desk.proofs.desk.Desk.clear_refusal.Goals as goal
use Rattle.commit_desk.proofs.desk.Desk.clear_refusal.Goals.{After-stage, After-guard_of}

in_range_now : (c : After-stage) → c.loop-slice.slice < c.self.inside.home.pool.limits.slices
in_range_now c =
    let below = c.loop-slice-test.true in
    let slices_are = c.self.invariant.desk.kept.slices_are in
    omega arith

stage_now : (c : After-guard_of) → stage_of c.self.inside.stages c.loop-slice.slice ≡ stage.Retired c.in-Retired.at
stage_now c = sym c.stage.ensures ∙ c.in-Retired.is

retired_now : (c : After-guard_of) → IsRetired c.self.inside.home.pool.limits.columns c.loop-slice.slice c.self.inside.home.history
retired_now c =
    let i = c.self.inside in
    let kept = c.self.invariant.desk.kept in
    stage_is_retired i.home.pool.limits i.home.history c.self.invariant.whole kept.legal kept.recorded i.stages kept.staged.each c.loop-slice.slice c.in-Retired.at (in_range_now c.before.before) (stage_now c)

pub unreachable-requires : goal.unreachable-requires
unreachable-requires c =
    let i = c.self.inside in
    let kept = c.self.invariant.desk.kept in
    let slice = c.loop-slice.slice in
    let in' = in_range_now c.before.before.before in
    unguarded_by i.home.pool.limits i.home.history c.self.invariant.whole kept.legal kept.recorded i.stages kept.staged.each i.tokens kept.tokens_are slice c.in-Retired.at in' (stage_now c.before)
    c.in_default-guard_of.ensures
    ((subst (λ (d : DeskState). NoneCanClear d.pool.limits d.history) (sym c.self.view_is) c.requires) slice in' (retired_now c.before))

pub returns-in-Retired : goal.returns-in-Retired
returns-in-Retired c =
    let i = c.self.inside in
    let kept = c.self.invariant.desk.kept in
    let slice = c.loop-slice.slice in
    let in' = in_range_now c.before.before.before in
    subst (λ (d : DeskState). IsLowestRetired d.pool.limits d.history slice × IsLowestGuard d.pool.limits.columns d.history slice c.in-Some.pass c.in-Some.opened_at) c.self.view_is (
      record {
        in_range = in';
        retired = retired_now c.before;
        lowest = subst (λ (d : DeskState). (lower : ℕ) → lower < slice → IsRetired d.pool.limits.columns lower d.history → ⊥) (sym c.self.view_is) c.loop-slice.invariant;
      },
      guard_by i.home.pool.limits i.home.history c.self.invariant.whole kept.legal kept.recorded i.stages kept.staged.each i.tokens kept.tokens_are slice c.in-Retired.at c.in-Some.pass c.in-Some.opened_at
          in' (stage_now c.before) c.in-Some.ensures,
    )

pub loop-slice-preserved : goal.loop-slice-preserved
loop-slice-preserved c lower less retired =
    let i = c.self.inside in
    let kept = c.self.invariant.desk.kept in
    let slice = c.loop-slice.slice in
    ⊎_elim
    (λ (below : lower < slice). c.loop-slice.invariant lower below retired)
    (λ (high : slice ≤ lower).
    let same : lower ≡ slice = omega arith in
    let here : IsRetired i.home.pool.limits.columns slice i.home.history =
    subst (λ k. IsRetired i.home.pool.limits.columns k i.home.history) same
    (subst (λ (d : DeskState). IsRetired d.pool.limits.columns lower d.history) (sym c.self.view_is) retired) in
    let in' = in_range_now c.before in
    let found = retired_stage i.home.pool.limits i.home.history c.self.invariant.whole kept.legal kept.recorded slice in' (stage_of i.stages slice) (kept.staged.each slice in') here in
    c.in_default.not-Retired found.0 (c.stage.ensures ∙ found.1))
    (cases_lt lower slice)
