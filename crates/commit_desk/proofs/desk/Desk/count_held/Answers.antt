use Rattle.std.proofs.Common.{sym, subst}
use Rattle.funnel_model.specs.Reserve.{HoldsColumns}
use Rattle.commit_desk.specs.Desks.{DeskState}
use Rattle.commit_desk.proofs.Emptying.{held_kept}
use Rattle.commit_desk.proofs.desk.Desk.count_held.Goals as goal

pub returns : goal.returns
returns c =
    let i = c.self.inside in
    let kept = c.self.invariant.desk.kept in
    subst (λ (d : DeskState). HoldsColumns d.pool.limits.columns d.history c.args.slice c.held.result) c.self.view_is
    (subst (HoldsColumns i.home.pool.limits.columns i.home.history c.args.slice) (sym c.held.ensures)
    (held_kept i.home.pool.limits i.home.history c.self.invariant.whole i.tokens i.stages kept.legal kept.recorded kept.staged c.args.slice))
