use Rattle.engine_tests.proofs.events.recycle.Goals as goal

pub returns-clause-done : goal.returns-clause-done
returns-clause-done g c slice is =
    let turns = rw is at c.recycle.ensures.turns in
    record {
      middle = turns.0;
      begins = record { earlier = turns.2.earlier; others = turns.2.seen; whole = turns.2.made };
      ends = record { earlier = turns.3.earlier; others = turns.3.seen; whole = turns.3.made };
    }

pub returns-clause-none : goal.returns-clause-none
returns-clause-none g c is =
    let turn = rw is at c.recycle.ensures.turns in
    record { earlier = turn.earlier; others = turn.seen; whole = turn.made }
