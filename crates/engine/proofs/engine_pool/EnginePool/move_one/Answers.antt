use Rattle.std.proofs.Common.{◌≡◌, ◌∙◌, ◌*◌, ◌≤◌, ◌↔◌, [], ◌∷◌, ℕ, List, Ok, Err, Option, None, IfSome, IsTrue, inl, inr, length, sym, ap, subst}
use Rattle.commit_desk.proofs.DocumentEvents.{bits_of_text}
use Rattle.commit_desk.specs.Leaving.{is_moved}
use Rattle.commit_desk.specs.declared.answers.NotTaken.{NotTaken}
use Rattle.commit_desk.specs.declared.answers.NotTaken.TheVariants as untaken
use Rattle.commit_desk.specs.declared.look.Look.{Look}
use Rattle.commit_desk.specs.Moving.{AnswersTakeMove, HoldsLook, IsThereStill, event_of_move}
use Rattle.commit_desk.specs.Passes.{HasWritten}
use Rattle.engine.specs.Moves.{AreBitsAt, IsLookForMove}
use Rattle.funnel_model.specs.declared.event.Event.{Event}
use Rattle.funnel_model.specs.declared.event.Event.TheVariants as event
use Rattle.funnel_model.specs.History.{IsFrontOf}
use Rattle.funnel_model.specs.Tunings.{treat}
use Rattle.slice_recycler.specs.Turns.{IsTurn}
use Rattle.slice_recycler.proofs.Steps.{turn_as, turn_grows}
use Rattle.commit_desk.proofs.HeldClaims.{holds_by_own, holds_on}
use Rattle.engine.proofs.MovePasses.{lacks_later, lacks_memory, looks_in_vain, move_turns}
use Rattle.engine.proofs.Moves.{front_refl, silent_turn}
use Rattle.engine.proofs.engine_pool.EnginePool.move_one.Goals as goal

pub write-requires-clause-claimed : goal.write-requires-clause-claimed
write-requires-clause-claimed g c =
    c.in-Ok-take_move.ensures.next

pub write-requires-clause-room : goal.write-requires-clause-room
write-requires-clause-room g c =
    let look = c.in-Ok-Some.look in
    let took = c.in-Ok-take_move in
    let same : took.taken.look ≡ look = took.ensures.turn.answer.1 in
    let has : c.words-2.result.now ≡ c.words.result.now = c.words-2.ensures.words ∙ ap (λ (l : Look). l.doc.words) same ∙ sym c.words.ensures.words in
    subst (λ (set : List (List ℕ)). 26 * length set ≤ c.in-Ok.bits.room) (sym has) c.in-Ok.ensures.room

pub end_move-requires-clause-written : goal.end_move-requires-clause-written
end_move-requires-clause-written g c =
    subst (λ (set : List (List ℕ)). HasWritten c.args.self.now c.in-Ok-take_move.taken.claim set c.write.new.bits.bits c.write.new.pass) c.words-2.ensures.words c.write.ensures.written

pub end_move-requires-clause-look : goal.end_move-requires-clause-look
end_move-requires-clause-look g c =
    let look = c.in-Ok-Some.look in
    let seen = c.look.new.pass in
    let took = c.take_move.new.pass in
    let taken = c.in-Ok-take_move.taken in
    let takes = event.Take seen.number taken.claim.slice taken.claim.column ∷ [] in
    let limits = c.args.self.now.limits in
    let answers : List Event → Type 0 = λ history. AnswersTakeMove limits.events limits history seen.number look (Ok taken) in
    let turn : IsTurn seen.number seen.front took.front answers takes = c.in-Ok-take_move.ensures.turn in
    let held : HoldsLook seen look = subst (λ (o : Option Look). IfSome o (HoldsLook seen)) c.in-Ok-Some.field-0-is c.in-Ok-Some.ensures.look in
    subst (HoldsLook c.write.new.pass) (sym turn.answer.1)
    (holds_by_own took c.write.new.pass look c.write.ensures.seat (holds_on seen took look (turn_grows {answers = answers} seen.number seen.front took.front takes turn) held))

pub returns-clause-moved : goal.returns-clause-moved
returns-clause-moved g c =
    let pool = c.args.self.now in
    let config = pool.config in
    let pass = c.args.pass.now in
    let seen = c.look.new.pass in
    let took = c.take_move.new.pass in
    let wrote = c.write.new.pass in
    let look = c.in-Ok-Some.look in
    let taken = c.in-Ok-take_move.taken in
    let bits = c.write.new.bits.bits in
    let looked = subst (λ (o : Option Look). IsTurn pass.number pass.front seen.front (IsLookForMove config.reserve pool.limits pass.number c.args.replaces c.args.id (Ok o)) [])
    c.in-Ok-Some.field-0-is c.in-Ok-Some.ensures.turn in
    let turn : IsTurn seen.number seen.front took.front (λ history. AnswersTakeMove pool.limits.events pool.limits history seen.number look (Ok taken)) (event.Take seen.number taken.claim.slice taken.claim.column ∷ []) =
    c.in-Ok-take_move.ensures.turn in
    let same : taken.look ≡ look = turn.answer.1 in
    let held : HoldsLook seen look = subst (λ (o : Option Look). IfSome o (HoldsLook seen)) c.in-Ok-Some.field-0-is c.in-Ok-Some.ensures.look in
    let written : HasWritten pool taken.claim taken.look.doc.words bits wrote = subst (λ (set : List (List ℕ)). HasWritten pool taken.claim set bits wrote) c.words-2.ensures.words c.write.ensures.written in
    let of_words = subst (λ (k : Look). HasWritten pool taken.claim k.doc.words bits wrote) same written in
    let of_text : AreBitsAt config pool.limits wrote.front look.doc.text taken.claim bits =
    bits_of_text pool.limits.slice_words (treat config taken.claim.slice wrote.front) look.doc.words look.doc.text taken.claim.slice taken.claim.column bits held.of_text of_words.document in
    let moved = is_moved c.end_move.result in
    let after = c.end_move.new.pass.front in
    let ended : IsTurn wrote.number wrote.front after (λ history. IsTrue moved ↔ IsThereStill history taken.look) (event_of_move wrote.number taken.look taken.claim bits moved ∷ []) =
    turn_as wrote.number wrote.front after (event_of_move wrote.number taken.look taken.claim bits moved ∷ []) (λ history did. did.0) c.end_move.ensures.turn in
    move_turns config pool.limits pass.number c.args.replaces c.args.id pass.front after look taken bits moved seen took wrote looked c.look.ensures.number turn same c.take_move.ensures.number
    c.write.ensures.seat of_text ended

-- no document is to be moved
pub returns-in-Ok-None-clause-moved : goal.returns-in-Ok-None-clause-moved
returns-in-Ok-None-clause-moved g c =
    let pool = c.args.self.now in
    let pass = c.args.pass.now in
    let turn : IsTurn pass.number pass.front c.look.new.pass.front (IsLookForMove pool.config.reserve pool.limits pass.number c.args.replaces c.args.id (Ok None)) [] =
    subst (λ (o : Option Look). IsTurn pass.number pass.front c.look.new.pass.front (IsLookForMove pool.config.reserve pool.limits pass.number c.args.replaces c.args.id (Ok o)) []) c.in-Ok-None.field-0-is c.in-Ok-None.ensures.turn in
    inl (record { earlier = turn.earlier; seen = turn.seen; answer = turn.answer.answers; made = turn.made })

-- there was no memory for the look
pub returns-in-Err-clause-moved : goal.returns-in-Err-clause-moved
returns-in-Err-clause-moved g c = lacks_memory c.args.self.now.config c.args.self.now.limits c.args.pass.now.number c.args.replaces c.args.id c.args.pass.now.front c.look.new.pass.front c.in-Err.field-0 c.in-Err.ensures.turn

-- nor for the bits
pub returns-in_default-clause-moved : goal.returns-in_default-clause-moved
returns-in_default-clause-moved g c =
    let pool = c.args.self.now in
    let config = pool.config in
    let pass = c.args.pass.now in
    let seen = c.look.new.pass in
    let look = c.in-Ok-Some.look in
    let looked = subst (λ (o : Option Look). IsTurn pass.number pass.front seen.front (IsLookForMove config.reserve pool.limits pass.number c.args.replaces c.args.id (Ok o)) [])
    c.in-Ok-Some.field-0-is c.in-Ok-Some.ensures.turn in
    lacks_later config pool.limits pass.number c.args.replaces c.args.id pass.front seen.front look looked seen.front (front_refl pass.number seen.front)

-- no column was claimed
pub returns-in-Err-NoColumn-clause-moved : goal.returns-in-Err-NoColumn-clause-moved
returns-in-Err-NoColumn-clause-moved g c =
    let pool = c.args.self.now in
    let config = pool.config in
    let pass = c.args.pass.now in
    let seen = c.look.new.pass in
    let look = c.in-Ok-Some.look in
    let looked = subst (λ (o : Option Look). IsTurn pass.number pass.front seen.front (IsLookForMove config.reserve pool.limits pass.number c.args.replaces c.args.id (Ok o)) [])
    c.in-Ok-Some.field-0-is c.in-Ok-Some.ensures.turn in
    let after = c.take_move.new.pass.front in
    let none = c.in-Err-NoColumn in
    let turn : IsTurn seen.number seen.front after (λ history. AnswersTakeMove pool.limits.events pool.limits history seen.number look (Err (untaken.NoColumn none.doc))) [] =
    subst (λ (f : NotTaken). IsTurn seen.number seen.front after (λ history. AnswersTakeMove pool.limits.events pool.limits history seen.number look (Err f)) []) none.field-0-is none.ensures.turn in
    inr (looks_in_vain config pool.limits pass.number c.args.replaces c.args.id pass.front seen.front look looked after none.doc
    (subst (λ n. IsTurn n seen.front after (λ history. AnswersTakeMove pool.limits.events pool.limits history n look (Err (untaken.NoColumn none.doc))) []) c.look.ensures.number turn))

-- nor was one where its layout can't be shared
pub returns-in-Err-Memory-clause-moved : goal.returns-in-Err-Memory-clause-moved
returns-in-Err-Memory-clause-moved g c =
    let pool = c.args.self.now in
    let config = pool.config in
    let pass = c.args.pass.now in
    let seen = c.look.new.pass in
    let look = c.in-Ok-Some.look in
    let looked = subst (λ (o : Option Look). IsTurn pass.number pass.front seen.front (IsLookForMove config.reserve pool.limits pass.number c.args.replaces c.args.id (Ok o)) [])
    c.in-Ok-Some.field-0-is c.in-Ok-Some.ensures.turn in
    let after = c.take_move.new.pass.front in
    lacks_later config pool.limits pass.number c.args.replaces c.args.id pass.front seen.front look looked after
    (subst (λ n. IsFrontOf n seen.front after) c.look.ensures.number (silent_turn seen.number seen.front after c.in-Err-Memory.ensures.turn))
