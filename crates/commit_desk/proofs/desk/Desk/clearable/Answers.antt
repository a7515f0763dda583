use Rattle.std.proofs.Common.{ℕ, MatchOption, subst}
use Rattle.funnel_model.specs.Legal.{IsIdle, MayClear, NoneCanClear}
use Rattle.commit_desk.specs.Desks.{DeskState}
use Rattle.commit_desk.proofs.Inside.{books_of}
use Rattle.commit_desk.proofs.Marks.{clearable_now, desk-moved}
use Rattle.commit_desk.proofs.desk.Desk.clearable.Goals as goal

pub invariant_of-self : goal.invariant_of-self
invariant_of-self c =
    let i = c.self.inside in
    record { whole = c.self.invariant.whole; desk = desk-moved i.home.pool i.events_limit i.home.history (books_of i c.self.invariant.whole) c.self.invariant.desk c.move_mark.new.stages c.move_mark.ensures; left = c.self.invariant.left; documents = c.self.invariant.documents }

pub returns-clause-answer : goal.returns-clause-answer
returns-clause-answer c =
    let i = c.self.inside in
    subst (λ (d : DeskState). MatchOption c.clearable.result (NoneCanClear d.pool.limits d.history)
    (λ slice. (pass : ℕ) → IsIdle pass d.history → MayClear d.pool.limits d.history pass slice)) c.self.view_is
    (clearable_now i.home.pool i.events_limit i.home.history (books_of i c.self.invariant.whole) c.self.invariant.desk c.move_mark.new.stages c.move_mark.ensures c.clearable.result c.clearable.ensures)
