use Rattle.std.proofs.Common.{◌≡◌, ◌<◌, ap, sym, subst, ◌∙◌}
use Rattle.funnel_model.specs.Slices.{is_clearing}
use Rattle.funnel_model.proofs.Blocks.{by_is_clearing}
use Rattle.slice_stages.specs.Stages.{stage_of}
use Rattle.slice_stages.specs.declared.stage.Stage.TheVariants as stage
use Rattle.commit_desk.specs.Desks.{DeskState}
use Rattle.commit_desk.specs.Kept.{IsAtStage}
use Rattle.commit_desk.proofs.desk.Desk.is_clearing.Goals as goal

pub returns-in-Clearing : goal.returns-in-Clearing
returns-in-Clearing c =
    let i = c.self.inside in
    let kept = c.self.invariant.desk.kept in
    let slice = c.args.slice in
    let at = kept.staged.each slice (subst (λ (d : DeskState). slice < d.pool.limits.slices) (sym c.self.view_is) c.requires) in
    let is : stage_of i.stages slice ≡ stage.Clearing c.in-Clearing.pass = sym c.stage.ensures ∙ c.in-Clearing.is in
    sym (ap (λ (d : DeskState). is_clearing slice d.history) (sym c.self.view_is)
    ∙ by_is_clearing c.in-Clearing.pass slice i.home.history (subst (IsAtStage i.home.pool.limits.columns i.home.history c.self.invariant.whole slice) is at))
