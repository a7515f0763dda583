use Rattle.std.proofs.Common.{◌<◌, IfOk, sym, subst}
use Rattle.commit_desk.specs.Desks.{DeskState}
use Rattle.commit_desk.specs.Layouts.{IsLayoutOf}
use Rattle.commit_desk.proofs.LayoutsKept.{ok_follows}
use Rattle.commit_desk.proofs.desk.Desk.layout_of.Goals as goal

pub of-requires : goal.of-requires
of-requires c =
    c.self.invariant.desk.kept.layouts_are.every c.args.slice (subst (λ (d : DeskState). c.args.slice < d.pool.limits.slices) (sym c.self.view_is) c.requires)

pub returns : goal.returns
returns c =
    let i = c.self.inside in
    let kept = c.self.invariant.desk.kept.layouts_are in
    subst (λ (d : DeskState). IfOk c.of.result (λ layout. IsLayoutOf d.pool.config c.args.slice d.history layout)) c.self.view_is
    (ok_follows c.of.result
    (λ layout laid. subst (IsLayoutOf i.home.pool.config c.args.slice i.home.history) (sym laid.2) (kept.laid c.args.slice laid.0 laid.1)) c.of.ensures)
