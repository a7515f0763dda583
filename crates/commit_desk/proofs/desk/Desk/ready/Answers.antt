use Rattle.std.proofs.Common.{sym, subst}
use Rattle.funnel_model.specs.Reserve.{HasReadyColumns}
use Rattle.commit_desk.specs.Desks.{DeskState}
use Rattle.commit_desk.proofs.Emptying.{ready_kept}
use Rattle.commit_desk.proofs.Inside.{books_of}
use Rattle.commit_desk.proofs.Marks.{desk-moved, next_now}
use Rattle.commit_desk.proofs.desk.Desk.ready.Goals as goal

pub invariant_of-self : goal.invariant_of-self
invariant_of-self c =
    let i = c.self.inside in
    record { whole = c.self.invariant.whole; desk = desk-moved i.home.pool i.events_limit i.home.history (books_of i c.self.invariant.whole) c.self.invariant.desk c.move_mark.new.stages c.move_mark.ensures; left = c.self.invariant.left; documents = c.self.invariant.documents }

pub returns-clause-ready : goal.returns-clause-ready
returns-clause-ready c =
    let i = c.self.inside in
    let stages = c.move_mark.new.stages in
    let kept = (desk-moved i.home.pool i.events_limit i.home.history (books_of i c.self.invariant.whole) c.self.invariant.desk stages c.move_mark.ensures).kept in
    subst (λ (d : DeskState). HasReadyColumns d.pool.limits d.history c.ready.result) c.self.view_is
    (subst (HasReadyColumns i.home.pool.limits i.home.history) (sym c.ready.ensures)
    (ready_kept i.home.pool.limits i.home.history c.self.invariant.whole i.tokens stages kept.legal kept.recorded kept.staged kept.tokens_are
    (next_now i.home.pool i.events_limit i.home.history (books_of i c.self.invariant.whole) c.self.invariant.desk stages c.move_mark.ensures)))
