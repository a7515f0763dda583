use Rattle.commit_desk.proofs.Turns.{idle_now}
use Rattle.commit_desk.proofs.desk.Desk.read_journal.Goals as goal

pub note_journal-requires-clause-idle : goal.note_journal-requires-clause-idle
note_journal-requires-clause-idle c =
    let e = c.catch_up.ensures in
    idle_now c.args.seat.now c.catch_up.new.seat c.catch_up.new.home.history e.seat e.none_since e.front c.requires.idle

pub note_journal-requires-2-clause-idle : goal.note_journal-requires-2-clause-idle
note_journal-requires-2-clause-idle c =
    let e = c.catch_up.ensures in
    idle_now c.args.seat.now c.catch_up.new.seat c.catch_up.new.home.history e.seat e.none_since e.front c.requires.idle
