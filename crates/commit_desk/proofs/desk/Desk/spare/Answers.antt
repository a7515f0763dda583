use Rattle.std.proofs.Common.{sym, subst}
use Rattle.funnel_model.specs.Reserve.{HasSpareColumns}
use Rattle.commit_desk.specs.Desks.{DeskState}
use Rattle.commit_desk.proofs.Emptying.{spare_kept}
use Rattle.commit_desk.proofs.desk.Desk.spare.Goals as goal

pub returns : goal.returns
returns c =
    let i = c.self.inside in
    let kept = c.self.invariant.desk.kept in
    subst (λ (d : DeskState). HasSpareColumns d.pool.limits d.history c.spare.result) c.self.view_is
    (subst (HasSpareColumns i.home.pool.limits i.home.history) (sym c.spare.ensures) (spare_kept i.home.pool.limits i.home.history c.self.invariant.whole i.tokens i.stages kept.legal kept.recorded kept.staged))
