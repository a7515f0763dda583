use Rattle.std.proofs.Common.{◌≡◌, ◌+◌, ◌*◌, ◌≤◌, ◌∙◌, length, subst, arith}
use Rattle.funnel_model.specs.History.{MovesAreCaused, base}
use Rattle.row_layout.specs.Sound.{IsSound}
use Rattle.commit_desk.specs.Desks.{DeskState}
use Rattle.commit_desk.proofs.Journals.{base-journal}
use Rattle.commit_desk.proofs.desk.Desk.into_parts.Goals as goal

pub returns-clause-sound : goal.returns-clause-sound
returns-clause-sound c = subst (λ (d : DeskState). IsSound d.pool.config d.history) c.self.view_is c.self.invariant.desk.kept.sound

pub returns-clause-caused : goal.returns-clause-caused
returns-clause-caused c = subst (λ (d : DeskState). MovesAreCaused d.history) c.self.view_is c.self.invariant.desk.kept.caused

pub returns-clause-few : goal.returns-clause-few
returns-clause-few c =
    subst (λ (d : DeskState). length d.history ≤ d.events_limit + 3 * d.pool.limits.passes) c.self.view_is (let few = c.self.invariant.desk.kept.few in omega arith)

pub returns-clause-base : goal.returns-clause-base
returns-clause-base c =
    subst (λ (d : DeskState). c.into_parts-base.result.0 ≡ base d.pool.limits.commits d.history) c.self.view_is
    (c.into_parts-base.ensures.base ∙ base-journal c.self.inside.home.pool.limits.commits c.self.inside.home.history c.self.inside.journal c.self.invariant.desk.kept.journal_is)
