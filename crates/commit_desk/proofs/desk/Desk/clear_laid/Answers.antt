use Rattle.commit_desk.proofs.TakenRoom.{laid_by_clear, legal_from, makes_nothing}
use Rattle.commit_desk.proofs.desk.Desk.clear_laid.Goals as goal

pub unreachable-requires : goal.unreachable-requires
unreachable-requires c =
    let slice = c.requires.may.0 in
    let may = c.requires.may.1 in
    absurd (may.can_clear.unguarded (c.in_default-begin_clear.ensures.may slice may.in_range may.can_clear.retired))

pub returns-in_default-clause-made : goal.returns-in_default-clause-made
returns-in_default-clause-made c =
    makes_nothing c.args.self.now c.args.seat.now c.requires.caught_up (legal_from c.args.self.now c.self.inside c.self.invariant.whole c.self.invariant.desk c.self.view_is)

pub returns-clause-laid : goal.returns-clause-laid
returns-clause-laid c =
    laid_by_clear c.args.self.now c.begin_clear.new.self c.args.seat.now c.begin_clear.new.seat c.in-Ok.layout c.args.seat.now.number c.in-Some.work.job.slice c.requires.caught_up
    c.in-Some.ensures.made c.in-Ok.ensures
