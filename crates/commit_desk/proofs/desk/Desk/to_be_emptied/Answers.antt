use Rattle.std.proofs.Common.{sym, ap, ◌∙◌, subst, arith}
use Rattle.std.specs.Option.{is_some}
use Rattle.funnel_model.specs.Reserve.{HoldsColumns}
use Rattle.funnel_model.proofs.ReserveLemmas.{one_held_count, one_ready, one_source, one_spare}
use Rattle.commit_desk.proofs.Checks.{absent_by_way, kept_out_in_way, takes_calls}
use Rattle.commit_desk.proofs.desk.Desk.to_be_emptied.Goals as goal
use Rattle.commit_desk.proofs.desk.Desk.to_be_emptied.Goals.{then-is_spent-via-then-is_spent, then-is_spent-via-else-is_spent+then-is_some, then-is_spent-via-else-is_spent+else-is_some+then-reserve-spare}

pub returns-then-is_spent-clause-answer : goal.returns-then-is_spent-clause-answer
returns-then-is_spent-clause-answer c slice held is =
    let limits = c.args.self.now.pool.limits in
    let history = c.args.self.now.history in
    elim c.then-is_spent.branch [
      | then-is_spent-via-then-is_spent w ↦ let spent = c.is_spent.ensures.spent.0 w.if-is_spent.true in let takes = is.may.takes_calls in absurd (omega (arith, spent, takes))
      | then-is_spent-via-else-is_spent+then-is_some w ↦
          kept_out_in_way history c.args.replaces c.args.id is.may.absent (ap is_some (sym w.in_the_way.ensures) ∙ sym w.is_some.ensures ∙ w.if-is_some.true)
      | then-is_spent-via-else-is_spent+else-is_some+then-reserve-spare w ↦
          let one = one_spare limits history w.spare.result is.short.0 w.spare.ensures is.short.1 in
          let less = is.short.2 in
          let more = w.if-reserve-spare.true in
          absurd (omega (arith, one, less, more))
    ]

pub returns-in_default-clause-answer : goal.returns-in_default-clause-answer
returns-in_default-clause-answer c slice held is = c.in_default.ensures slice held is.source

pub returns-then-ready-room_to_empty-clause-answer : goal.returns-then-ready-room_to_empty-clause-answer
returns-then-ready-room_to_empty-clause-answer c slice held is =
    let limits = c.args.self.now.pool.limits in
    let history = c.args.self.now.history in
    let source = one_source limits history c.in-Some.slice slice c.in-Some.held held c.in-Some.ensures is.source in
    let one = one_ready limits history c.ready.result is.room.ready c.ready.ensures.ready is.room.are_ready in
    let room = is.room.enough in
    let less = c.if-ready-room_to_empty.true in
    let ceil = c.room_to_empty.ensures in
    let same = one_held_count limits.columns history slice c.in-Some.held is.room.held (subst (λ k. HoldsColumns limits.columns history k c.in-Some.held) source c.in-Some.ensures.can.holds) is.room.holds in
    omega (arith, one, room, less, ceil, same)

pub returns-clause-answer : goal.returns-clause-answer
returns-clause-answer c =
    let more = c.if-ready-room_to_empty.false in
    let ceil = c.room_to_empty.ensures in
    let spare = c.if-reserve-spare.false in (
      c.in-Some.held,
      record {
        may = record {
          takes_calls = takes_calls c.args.self.now.events_limit c.args.self.now.history c.if-is_spent.ensures.spent.1;
          absent = absent_by_way c.args.self.now.history c.args.replaces c.args.id (ap is_some (sym c.in_the_way.ensures) ∙ sym c.is_some.ensures ∙ c.if-is_some.false);
        };
        short = (c.spare.result, c.spare.ensures, omega (arith, spare));
        source = c.in-Some.ensures;
        room = record {
          held = c.in-Some.held;
          holds = c.in-Some.ensures.can.holds;
          ready = c.ready.result;
          are_ready = c.ready.ensures.ready;
          enough = omega (arith, more, ceil);
        };
      },
    )
