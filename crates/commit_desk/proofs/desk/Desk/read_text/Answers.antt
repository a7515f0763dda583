use Rattle.std.proofs.Common.{◌≡◌, ℕ, List, string_bytes, string_capacity, subst}
use Rattle.commit_desk.specs.Answers.{AnswersText, TakesCalls, TellsText}
use Rattle.commit_desk.specs.declared.answers.TextRead.{TextRead}
use Rattle.commit_desk.specs.declared.answers.TextRead.TheVariants as read
use Rattle.commit_desk.specs.Desks.{DeskState}
use Rattle.commit_desk.proofs.Checks.{takes_calls}
use Rattle.commit_desk.proofs.FindTurns.{desk_is}
use Rattle.commit_desk.proofs.Turns.{idle_now}
use Rattle.commit_desk.proofs.desk.Desk.read_text.Goals as goal

pub note_get-requires-clause-idle : goal.note_get-requires-clause-idle
note_get-requires-clause-idle c =
    let e = c.catch_up.ensures in
    idle_now c.args.seat.now c.catch_up.new.seat c.catch_up.new.home.history e.seat e.none_since e.front c.requires.idle

pub note_get-requires-in-Absent-clause-idle : goal.note_get-requires-in-Absent-clause-idle
note_get-requires-in-Absent-clause-idle c =
    let e = c.catch_up.ensures in
    idle_now c.args.seat.now c.catch_up.new.seat c.catch_up.new.home.history e.seat e.none_since e.front c.requires.idle

-- what a desk that takes calls tells of a text is its answer
as_told : (d e : DeskState) (id room : ℕ) (copied : List ℕ) (told : TextRead) → d ≡ e → TakesCalls d.events_limit d.history → TellsText d.history id room copied told →
    AnswersText e.events_limit e.history id room copied told
as_told d e id room copied (read.Read place) same takes told =
    subst (λ (x : DeskState). TakesCalls x.events_limit x.history × TellsText x.history id room copied (read.Read place)) same (takes, told)
as_told d e id room copied read.Absent same takes told =
    subst (λ (x : DeskState). TakesCalls x.events_limit x.history × TellsText x.history id room copied read.Absent) same (takes, told)
as_told d e id room copied (read.Short bytes) same takes told =
    subst (λ (x : DeskState). TakesCalls x.events_limit x.history × TellsText x.history id room copied (read.Short bytes)) same (takes, told)
as_told d e id room copied (read.Spent events) same takes told = absurd told

pub returns-in-Read-clause-answer : goal.returns-in-Read-clause-answer
returns-in-Read-clause-answer c =
    let i = c.self.inside in
    let home = c.catch_up.new.home in
    let desk : DeskState = record { pool = home.pool; events_limit = i.events_limit; history = home.history } in
    as_told desk c.args.self.now c.args.id (string_capacity c.args.room.now) (string_bytes c.copy_text.new.room) (read.Read c.in-Read.place)
    (desk_is c.args.self.now i.home home i.events_limit c.self.view_is c.catch_up.ensures.home)
    (takes_calls i.events_limit home.history c.if-is_spent.ensures.spent.1) c.in-Read.ensures

pub returns-in-Absent-clause-answer : goal.returns-in-Absent-clause-answer
returns-in-Absent-clause-answer c =
    let i = c.self.inside in
    let home = c.catch_up.new.home in
    let desk : DeskState = record { pool = home.pool; events_limit = i.events_limit; history = home.history } in
    as_told desk c.args.self.now c.args.id (string_capacity c.args.room.now) (string_bytes c.copy_text.new.room) read.Absent
    (desk_is c.args.self.now i.home home i.events_limit c.self.view_is c.catch_up.ensures.home)
    (takes_calls i.events_limit home.history c.if-is_spent.ensures.spent.1) c.in-Absent.ensures

pub returns-in-Short-clause-answer : goal.returns-in-Short-clause-answer
returns-in-Short-clause-answer c =
    let i = c.self.inside in
    let home = c.catch_up.new.home in
    let desk : DeskState = record { pool = home.pool; events_limit = i.events_limit; history = home.history } in
    as_told desk c.args.self.now c.args.id (string_capacity c.args.room.now) (string_bytes c.copy_text.new.room) (read.Short c.in-Short.bytes)
    (desk_is c.args.self.now i.home home i.events_limit c.self.view_is c.catch_up.ensures.home)
    (takes_calls i.events_limit home.history c.if-is_spent.ensures.spent.1) c.in-Short.ensures
