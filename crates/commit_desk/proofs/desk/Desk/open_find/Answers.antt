use Rattle.std.proofs.Common.{Ok, subst}
use Rattle.row_layout.specs.Sound.{IsSound}
use Rattle.commit_desk.specs.Answers.{AnswersFind}
use Rattle.commit_desk.specs.Desks.{DeskState}
use Rattle.commit_desk.specs.FindLayouts.{AreFindLayouts}
use Rattle.commit_desk.proofs.FindTurns.{desk_is}
use Rattle.commit_desk.proofs.Turns.{idle_now}
use Rattle.commit_desk.proofs.desk.Desk.open_find.Goals as goal

pub make_find-requires-clause-idle : goal.make_find-requires-clause-idle
make_find-requires-clause-idle c =
    let up = c.catch_up.ensures in
    let next = c.catch_up.new.seat in
    idle_now c.args.seat.now next c.catch_up.new.home.history up.seat up.none_since up.front c.requires.idle

pub returns-clause-answer : goal.returns-clause-answer
returns-clause-answer c =
    let same = desk_is c.args.self.now c.self.inside.home c.catch_up.new.home c.self.inside.events_limit c.self.view_is c.catch_up.ensures.home in
    subst (λ (d : DeskState). AnswersFind d.events_limit d.pool.limits d.history (Ok c.make_find.result)) same c.make_find.ensures.answer

-- the token has the slices in use, which were shared out
pub returns-clause-layouts : goal.returns-clause-layouts
returns-clause-layouts c =
    let same = desk_is c.args.self.now c.self.inside.home c.catch_up.new.home c.self.inside.events_limit c.self.view_is c.catch_up.ensures.home in
    subst (λ (d : DeskState). AreFindLayouts d.pool d.history c.make_find.result c.share_layouts.new.layouts.entries.items) same
    (c.in-Ok.ensures.shared c.make_find.result c.make_find.ensures.answer.3)

-- what the desk keeps is of a history whose adds and moves have their bits
pub returns-clause-sound : goal.returns-clause-sound
returns-clause-sound c = subst (λ (d : DeskState). IsSound d.pool.config d.history) c.self.view_is c.self.invariant.desk.kept.sound
