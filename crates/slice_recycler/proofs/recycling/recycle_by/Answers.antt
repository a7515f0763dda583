use Rattle.std.proofs.Common.{ℕ, Ok, Err, ap, sym, ◌∙◌, subst}
use Rattle.funnel_model.specs.declared.call.Call.TheVariants as call
use Rattle.funnel_model.specs.declared.reply.Reply.TheVariants as reply
use Rattle.funnel_model.specs.Steps.{Step}
use Rattle.slice_rule.specs.Seats.{PassState}
use Rattle.commit_desk.specs.Answers.{AnswersClear}
use Rattle.slice_recycler.specs.Recycles.{RecycleTurns, reply_of_recycle}
use Rattle.slice_recycler.specs.declared.recycling.Recycled.{Recycled}
use Rattle.slice_recycler.proofs.Recycles.{can_clear, done_step, done_turns, has_cleared, opened_turn, refused_step, refused_turns, started}
use Rattle.slice_recycler.proofs.recycling.recycle_by.Goals as goal

pub clear-requires : goal.clear-requires
clear-requires g c = can_clear c.args.pool.now c.start.new.seat c.in-Ok.to_clear.job c.args.room c.in-Ok.ensures.next.0 c.requires.room

pub open-requires-clause-cleared : goal.open-requires-clause-cleared
open-requires-clause-cleared g c = has_cleared c.args.pool.now c.in-Ok.to_clear.job c.start.new.seat c.clear.new.seat c.in-Ok.ensures.next.0 c.clear.ensures

pub returns-in-Ok : goal.returns-in-Ok
returns-in-Ok g c =
    let limits = c.args.pool.now.limits in
    let seat = c.args.seat.now in
    let job = c.in-Ok.to_clear.job in
    let turn = started (Ok c.in-Ok.to_clear) c.args.pool.now seat.number seat.front c.start.new.seat.front c.in-Ok.ensures.turn in
    let opened = opened_turn seat.number job.slice c.start.new.seat c.clear.new.seat c.open.new.seat.front c.clear.ensures.same c.start.ensures.number c.open.ensures.turn in
    record {
      step = subst (λ (s : ℕ). Step limits seat.number seat.front c.open.new.seat.front call.Recycle (reply.Recycled s)) (sym c.open.ensures.slice)
          (done_step limits seat.number seat.front c.open.new.seat.front c.requires.seat.idle c.open.ensures.legal
          {answers = λ history. AnswersClear limits.events limits history seat.number (Ok c.in-Ok.to_clear)} c.start.new.seat.front job.slice turn opened);
      turns = done_turns limits seat.number seat.front c.start.new.seat.front c.open.new.seat.front c.in-Ok.to_clear c.open.result turn c.in-Ok.ensures.next.1 c.open.ensures.slice opened;
      rests = c.open.ensures.rests;
      number = c.open.ensures.number ∙ ap (λ (p : PassState). p.number) c.clear.ensures.same ∙ c.start.ensures.number;
    }

pub returns-in-Err : goal.returns-in-Err
returns-in-Err g c =
    let limits = c.args.pool.now.limits in
    let seat = c.args.seat.now in
    let next = c.start.new.seat in
    let refusal = c.in-Err.refusal in
    let turn = started (Err refusal) c.args.pool.now seat.number seat.front next.front c.in-Err.ensures.turn in
    record {
      step = subst (λ (r : Recycled). Step limits seat.number seat.front next.front call.Recycle (reply_of_recycle r)) (sym c.from.ensures)
          (refused_step limits seat.number seat.front next.front c.requires.seat.idle c.start.ensures.legal refusal turn);
      turns = subst (RecycleTurns limits seat.number seat.front next.front) (sym c.from.ensures) (refused_turns limits seat.number seat.front next.front refusal turn);
      rests = c.in-Err.ensures.next;
      number = c.start.ensures.number;
    }
