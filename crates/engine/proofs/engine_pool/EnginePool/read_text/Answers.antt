use Rattle.std.proofs.Common.{[], refl, sym, ◌∙◌, subst, string_bytes, string_capacity}
use Rattle.commit_desk.specs.Answers.{AnswersText, events_of_text}
use Rattle.commit_desk.specs.declared.answers.TextRead.TheVariants as read
use Rattle.slice_recycler.specs.Turns.{IsTurn}
use Rattle.engine.specs.Gets.{GetTurn}
use Rattle.engine.proofs.GetSteps.{last_look}
use Rattle.engine.proofs.Moves.{front_goes_on, front_refl, silent_turn}
use Rattle.engine.proofs.engine_pool.EnginePool.read_text.Goals as goal

pub loop-init : goal.loop-init
loop-init g c = record { at = c.requires.at; rests = c.requires.rests; number = refl; empty = c.new-room.ensures.bytes; seen = front_refl c.args.pass.now.number c.args.pass.now.front }

-- another look is made where there was no room
pub loop-preserved : goal.loop-preserved
loop-preserved g c =
    let limits = c.args.self.now.limits in
    let pass = c.args.pass.now in
    let so_far = c.loop.invariant in
    let did = c.in-Short.ensures in
    let bytes = c.in-Short.bytes in
    let after = c.look_for_text.new.pass.front in
    let room = string_capacity c.loop.room in
    let copied = string_bytes c.look_for_text.new.room in
    let turn : IsTurn pass.number c.loop.pass.front after (λ history. AnswersText limits.events history c.args.id room copied (read.Short bytes)) [] =
    subst (λ n. IsTurn n c.loop.pass.front after (λ history. AnswersText limits.events history c.args.id room copied (read.Short bytes)) []) so_far.number did.turn in
    record {
      at = c.look_for_text.ensures.at;
      rests = did.rests;
      number = did.number ∙ so_far.number;
      empty = c.in-Ok.ensures.bytes;
      seen = front_goes_on pass.number pass.front c.loop.pass.front after so_far.seen (silent_turn pass.number c.loop.pass.front after turn);
    }

-- any other answer is that of the get
pub returns-in_default : goal.returns-in_default
returns-in_default g c =
    let limits = c.args.self.now.limits in
    let pass = c.args.pass.now in
    let so_far = c.loop.invariant in
    let did = c.look_for_text.ensures in
    let answer = c.look_for_text.result in
    let after = c.look_for_text.new.pass.front in
    let room = string_capacity c.loop.room in
    let copied = string_bytes c.look_for_text.new.room in
    record {
      turn = subst (GetTurn limits pass.number c.args.id pass.front after) (sym c.text_read.ensures)
          (last_look limits pass.number c.args.id pass.front c.loop.pass.front after room copied answer so_far.seen
          (subst (λ n. IsTurn n c.loop.pass.front after (λ history. AnswersText limits.events history c.args.id room copied answer) (events_of_text n c.args.id answer)) so_far.number did.turn));
      rests = did.rests;
      number = did.number ∙ so_far.number;
      legal = did.legal;
      at = did.at;
    }

pub returns-clause-turn : goal.returns-clause-turn
returns-clause-turn g c =
    let limits = c.args.self.now.limits in
    let pass = c.args.pass.now in
    let so_far = c.loop.invariant in
    let did = c.look_for_text-read.ensures in
    let answer = c.look_for_text-read.result in
    let after = c.look_for_text-read.new.pass.front in
    let room = string_capacity c.loop.room in
    let copied = string_bytes c.look_for_text-read.new.room in
    subst (GetTurn limits pass.number c.args.id pass.front after) (sym c.text_read-2.ensures)
    (last_look limits pass.number c.args.id pass.front c.loop.pass.front after room copied answer so_far.seen
    (subst (λ n. IsTurn n c.loop.pass.front after (λ history. AnswersText limits.events history c.args.id room copied answer) (events_of_text n c.args.id answer)) so_far.number did.turn))
