use Rattle.commit_desk.proofs.CallEnds.{finds_or_rests}
use Rattle.engine.proofs.Finds.{layouts_then, sound_then}
use Rattle.engine.proofs.lone.LoneTurns.open_find.Goals as goal

pub returns-clause-next : goal.returns-clause-next
returns-clause-next c =
    let rests = c.requires.rests in
    let found = c.open_find.ensures in
    finds_or_rests c.args.pool.now c.args.self.now.desk c.open_find.new.self c.args.pass.now c.open_find.new.seat rests.seated.same found.none_outstanding rests.idle c.args.query.now
    c.open_find.result found.token found.events

pub returns-clause-layouts : goal.returns-clause-layouts
returns-clause-layouts c =
    let found = c.open_find.ensures in
    let named = c.args.self.now in
    layouts_then c.args.pool.now named.desk c.open_find.new.self c.args.pass.now c.open_find.new.seat c.args.query.now c.open_find.result c.open_find.new.layouts.entries.items c.requires.at found.events found.layouts

pub returns-clause-sound : goal.returns-clause-sound
returns-clause-sound c =
    let found = c.open_find.ensures in
    let named = c.args.self.now in
    sound_then c.args.pool.now named.desk c.open_find.new.self c.args.pass.now c.open_find.new.seat c.args.query.now c.open_find.result c.requires.at found.events found.sound
