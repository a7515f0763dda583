use Rattle.std.proofs.Common.{◌≡◌, false, sym, ap, subst}
use Rattle.std.specs.Option.{is_some}
use Rattle.funnel_model.specs.History.{is_live}
use Rattle.commit_desk.specs.Answers.{IsPresent, TakesCalls}
use Rattle.commit_desk.specs.Desks.{DeskState, HandsOver}
use Rattle.commit_desk.proofs.Checks.{absent_by_way, present_in_way, refused_present, takes_calls}
use Rattle.commit_desk.proofs.FindTurns.{desk_is}
use Rattle.commit_desk.proofs.Turns.{idle_now}
use Rattle.commit_desk.proofs.desk.Desk.take.Goals as goal

pub take_room-requires-clause-may : goal.take_room-requires-clause-may
take_room-requires-clause-may c =
    let e = c.catch_up.ensures in
    let home = c.catch_up.new.home in
    record {
      idle = idle_now c.args.seat.now c.catch_up.new.seat home.history e.seat e.none_since e.front c.requires.idle;
      enters = record {
        takes_calls = takes_calls c.self.inside.events_limit home.history c.if-is_spent.ensures.spent.1;
        absent = subst (λ n. c.args.replaces ≡ false → is_live n home.history ≡ false) c.id.ensures
            (absent_by_way home.history c.args.replaces c.id.result (ap is_some (sym c.in_default.ensures)));
      };
    }

pub refuse_add-requires-clause-idle : goal.refuse_add-requires-clause-idle
refuse_add-requires-clause-idle c =
    let e = c.catch_up.ensures in idle_now c.args.seat.now c.catch_up.new.seat c.catch_up.new.home.history e.seat e.none_since e.front c.requires.idle

pub refuse_add-requires-clause-refused : goal.refuse_add-requires-clause-refused
refuse_add-requires-clause-refused c =
    let home = c.catch_up.new.home in
    refused_present home.pool.limits home.history c.args.replaces c.args.doc.now.id c.in-Some.place c.args.doc.now.text
    (subst (λ n. IsPresent home.history n c.in-Some.place × (c.args.replaces ≡ false)) c.id.ensures
    (present_in_way home.history c.args.replaces c.id.result c.in-Some.place c.in-Some.ensures))

pub returns-in-Some-clause-answer : goal.returns-in-Some-clause-answer
returns-in-Some-clause-answer c =
    let i = c.self.inside in
    let home = c.catch_up.new.home in
    let same = desk_is c.args.self.now i.home home i.events_limit c.self.view_is c.catch_up.ensures.home in
    let present : IsPresent home.history c.args.doc.now.id c.in-Some.place × (c.args.replaces ≡ false) =
    subst (λ n. IsPresent home.history n c.in-Some.place × (c.args.replaces ≡ false)) c.id.ensures
    (present_in_way home.history c.args.replaces c.id.result c.in-Some.place c.in-Some.ensures) in
    record {
      answers = subst (λ (d : DeskState). TakesCalls d.events_limit d.history × IsPresent d.history c.args.doc.now.id c.in-Some.place × (c.args.replaces ≡ false)) same
          (takes_calls i.events_limit home.history c.if-is_spent.ensures.spent.1, present.0, present.1);
      waits = tt;
    }

pub returns-clause-handed : goal.returns-clause-handed
returns-clause-handed c =
    let i = c.self.inside in
    let same = desk_is c.args.self.now i.home c.catch_up.new.home i.events_limit c.self.view_is c.catch_up.ensures.home in
    subst (λ (d : DeskState). HandsOver d c.take_room.result c.take_room.new.seat c.args.room.now c.take_room.new.room) same c.take_room.ensures.handed
