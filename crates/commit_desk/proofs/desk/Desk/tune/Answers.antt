use Rattle.std.proofs.Common.{Ok, sym, subst}
use Rattle.commit_desk.specs.Answers.{AnswersTune}
use Rattle.commit_desk.specs.Desks.{DeskState}
use Rattle.commit_desk.specs.Layouts.{HandsBackUnused, TunesWith}
use Rattle.commit_desk.proofs.Checks.{takes_calls}
use Rattle.commit_desk.proofs.FindTurns.{desk_is}
use Rattle.commit_desk.proofs.Turns.{idle_now}
use Rattle.commit_desk.proofs.desk.Desk.tune.Goals as goal

pub make_tune-requires-clause-idle : goal.make_tune-requires-clause-idle
make_tune-requires-clause-idle c =
    let up = c.catch_up.ensures in
    idle_now c.args.seat.now c.catch_up.new.seat c.catch_up.new.home.history up.seat up.none_since up.front c.requires.idle

pub make_tune-requires-clause-tunes : goal.make_tune-requires-clause-tunes
make_tune-requires-clause-tunes c =
    let same = desk_is c.args.self.now c.self.inside.home c.catch_up.new.home c.self.inside.events_limit c.self.view_is c.catch_up.ensures.home in
    subst (λ (d : DeskState). TunesWith d.pool c.args.config.now c.args.layout.now) (sym same) c.requires.tunes

pub returns-clause-answer : goal.returns-clause-answer
returns-clause-answer c =
    let same = desk_is c.args.self.now c.self.inside.home c.catch_up.new.home c.self.inside.events_limit c.self.view_is c.catch_up.ensures.home in
    subst (λ (d : DeskState). AnswersTune d.events_limit d.history (Ok c.make_tune.result)) same
    (takes_calls c.self.inside.events_limit c.catch_up.new.home.history c.if-is_spent.ensures.spent.1, c.make_tune.ensures.tuned.count_is)

pub returns-clause-layout : goal.returns-clause-layout
returns-clause-layout c =
    let same = desk_is c.args.self.now c.self.inside.home c.catch_up.new.home c.self.inside.events_limit c.self.view_is c.catch_up.ensures.home in
    subst (λ (d : DeskState). HandsBackUnused d.pool d.history c.make_tune.new.layout) same c.make_tune.ensures.tuned.hands_back
