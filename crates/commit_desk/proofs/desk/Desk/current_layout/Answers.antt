use Rattle.std.proofs.Common.{IfOk, subst}
use Rattle.commit_desk.specs.Desks.{DeskState}
use Rattle.commit_desk.specs.Layouts.{IsCurrentLayout}
use Rattle.commit_desk.proofs.LayoutsKept.{ok_follows}
use Rattle.commit_desk.proofs.desk.Desk.current_layout.Goals as goal

pub returns : goal.returns
returns c =
    subst (λ (d : DeskState). IfOk c.current.result (λ layout. IsCurrentLayout d.pool.config d.history layout)) c.self.view_is
    (ok_follows c.current.result c.self.invariant.desk.kept.layouts_are.current c.current.ensures)
