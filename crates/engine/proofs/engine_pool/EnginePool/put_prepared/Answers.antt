use Rattle.std.proofs.Common.{◌*◌, ◌≤◌, [], ◌∷◌, ℕ, List, true, length, refl, sym, subst}
use Rattle.std.proofs.lemmas.Bool.{both_ways}
use Rattle.commit_desk.proofs.DocumentEvents.{bits_of_text}
use Rattle.commit_desk.specs.Answers.{AnswersPut}
use Rattle.commit_desk.specs.Passes.{HasWritten}
use Rattle.commit_desk.specs.declared.answers.AddFault.TheVariants as add
use Rattle.engine.specs.Adds.{RefusedTurn}
use Rattle.engine.specs.Moves.{AreBitsAt}
use Rattle.engine.proofs.Claims.{put_turns}
use Rattle.funnel_model.specs.declared.event.Event.TheVariants as event
use Rattle.funnel_model.specs.Tunings.{treat}
use Rattle.slice_recycler.specs.Turns.{IsTurn}
use Rattle.slice_recycler.proofs.Steps.{turn_as}
use Rattle.engine.proofs.engine_pool.EnginePool.put_prepared.Goals as goal

-- a put is not refused for a live number
pub unreachable-requires : goal.unreachable-requires
unreachable-requires g c =
    let limits = c.args.self.now.limits in
    let pass = c.args.pass.now in
    let doc = c.args.doc in
    let present = c.in-Err-Present in
    let refused = subst (RefusedTurn limits pass.number true doc.id doc.text pass.front c.claim.new.pass.front) present.field-0-is present.ensures.turns in
    both_ways true refused.turn.answer.2 refl

-- it is refused as its claim is
pub returns-in-Err-Full-clause-turns : goal.returns-in-Err-Full-clause-turns
returns-in-Err-Full-clause-turns g c =
    let pass = c.args.pass.now in
    let doc = c.args.doc in
    subst (RefusedTurn c.args.self.now.limits pass.number true doc.id doc.text pass.front c.claim.new.pass.front) c.in-Err-Full.field-0-is c.in-Err-Full.ensures.turns

pub returns-in-Err-Spent-clause-turns : goal.returns-in-Err-Spent-clause-turns
returns-in-Err-Spent-clause-turns g c =
    let limits = c.args.self.now.limits in
    let pass = c.args.pass.now in
    let doc = c.args.doc in
    let refused : RefusedTurn limits pass.number true doc.id doc.text pass.front c.claim.new.pass.front (add.Spent c.in-Err-Spent.events) =
    subst (RefusedTurn limits pass.number true doc.id doc.text pass.front c.claim.new.pass.front) c.in-Err-Spent.field-0-is c.in-Err-Spent.ensures.turns in
    refused.turn

pub returns-in-Err-Memory-clause-turns : goal.returns-in-Err-Memory-clause-turns
returns-in-Err-Memory-clause-turns g c =
    let limits = c.args.self.now.limits in
    let pass = c.args.pass.now in
    let doc = c.args.doc in
    let refused : RefusedTurn limits pass.number true doc.id doc.text pass.front c.claim.new.pass.front add.Memory =
    subst (RefusedTurn limits pass.number true doc.id doc.text pass.front c.claim.new.pass.front) c.in-Err-Memory.field-0-is c.in-Err-Memory.ensures.turns in
    refused.turn

pub write-requires-clause-room : goal.write-requires-clause-room
write-requires-clause-room g c = subst (λ (set : List (List ℕ)). 26 * length set ≤ c.args.bits.room) (sym c.words.ensures.words) c.requires.prepared.room

pub put_last-did-requires : goal.put_last-did-requires
put_last-did-requires g c = record {
  at = c.claim.ensures.at;
  written = subst (λ (set : List (List ℕ)). HasWritten c.args.self.now c.in-Ok.claimed.0 set c.write.new.bits.bits c.write.new.pass) c.words.ensures.words c.write.ensures.written;
}

pub returns-clause-turns : goal.returns-clause-turns
returns-clause-turns g c =
    let pass = c.args.pass.now in
    let doc = c.args.doc in
    let pool = c.args.self.now in
    let claim = c.in-Ok.claimed.0 in
    let bits = c.write.new.bits.bits in
    let wrote = c.write.new.pass in
    let written : HasWritten pool claim doc.words bits wrote = subst (λ (set : List (List ℕ)). HasWritten pool claim set bits wrote) c.words.ensures.words c.write.ensures.written in
    let of_text : AreBitsAt pool.config pool.limits wrote.front doc.text claim bits =
    bits_of_text pool.limits.slice_words (treat pool.config claim.slice wrote.front) doc.words doc.text claim.slice claim.column bits c.requires.prepared.of_text written.document in
    let after = c.put_last-did.new.pass.front in
    let answer = c.put_last-did.result.0 in
    let turn : IsTurn wrote.number wrote.front after (λ history. AnswersPut history doc.id answer) (event.Add wrote.number doc.id doc.text claim.slice claim.column bits ∷ []) =
    turn_as wrote.number wrote.front after (event.Add wrote.number doc.id doc.text claim.slice claim.column bits ∷ []) (λ history did. did.0) c.put_last-did.ensures.turn in
    put_turns pool.config pool.limits pass.number doc.id doc.text pass.front after claim bits answer c.claim.new.pass wrote c.in-Ok.ensures.turns c.claim.ensures.number
    c.write.ensures.seat of_text turn
