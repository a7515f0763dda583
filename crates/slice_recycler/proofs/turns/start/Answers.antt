use Rattle.std.proofs.Common.{sym, ◌∙◌}
use Rattle.commit_desk.proofs.CallEnds.{clears_or_rests}
use Rattle.slice_recycler.proofs.turns.start.Goals as goal

pub returns-clause-next : goal.returns-clause-next
returns-clause-next g c =
    let desk = c.deref_mut.result.now.desk in
    clears_or_rests c.args.pool.now desk c.start_clear.new.self c.args.seat.now c.start_clear.new.seat c.requires.rests.seated.same c.start_clear.ensures.none_outstanding c.requires.rests.idle
    (c.deref_mut.result.now.of_pool ∙ sym c.requires.named) desk.events_limit c.start_clear.result c.start_clear.ensures.answer c.start_clear.ensures.events
