use Rattle.std.proofs.Common.{ℕ, List, Option, Result, Ok, Err, Some, ap, refl, ◌∙◌, subst}
use Rattle.commit_desk.specs.Answers.{AnswersTune}
use Rattle.commit_desk.specs.declared.answers.Spent.{Spent}
use Rattle.engine.proofs.DeskTurns.{tune_call}
use Rattle.engine.specs.declared.retuning.TuneFault.TheVariants as tune
use Rattle.engine.specs.Turns.{AnswersTuning}
use Rattle.funnel_model.specs.declared.event.Event.{Event}
use Rattle.funnel_model.specs.Legal.{IsLegal}
use Rattle.row_layout.specs.Layouts.{LayoutId}
use Rattle.slice_recycler.specs.Turns.{IsTurn}
use Rattle.slice_recycler.proofs.Steps.{turn_as}
use Rattle.slice_rule.specs.Pools.{PoolId}
use Rattle.engine.proofs.engine.Engine.tune_by.Goals as goal

-- what the turn of a tuning is answered
told : {pool : PoolId} {pass : ℕ} {before after events : List Event} {given left : Option LayoutId} (answer : Result ℕ Spent) → IsTurn pass before after (AnswersTuning pool given left answer) events →
    IsTurn pass before after (λ history. AnswersTune pool.limits.events history answer) events
told {pass = pass} {before = before} {after = after} {events = events} answer = turn_as pass before after events (λ history is. is.answers)

pub tune_turn-requires-clause-tunes : goal.tune_turn-requires-clause-tunes
tune_turn-requires-clause-tunes g c =
    record { tuning = c.requires.tuning; fits = c.requires.fits; laid = ap (λ (l : LayoutId). Some l) (c.in-Ok.ensures ∙ c.requires.laid) }

-- no memory was found
pub returns-in_default-clause-call : goal.returns-in_default-clause-call
returns-in_default-clause-call g c =
    let limits = g.N.PoolName.pool.limits in
    let seat = c.pass.inside.seat in
    let legal = subst (λ (p : PoolId). IsLegal p.limits seat.front) c.pass.invariant.between.rests.seated.same c.number.ensures.legal in
    rw (← c.pass.view_is) (tune_call limits seat.number seat.front seat.front c.pass.invariant.between.rests.idle legal seat.number refl c.args.config.now (Err tune.Memory) (c.requires.fits, refl))

pub returns-in_default-clause-turn : goal.returns-in_default-clause-turn
returns-in_default-clause-turn g c = rw (← c.pass.view_is) (c.requires.fits, refl)

pub returns-in-Ok-tune_turn-clause-call : goal.returns-in-Ok-tune_turn-clause-call
returns-in-Ok-tune_turn-clause-call g c =
    let limits = g.N.PoolName.pool.limits in
    let seat = c.pass.inside.seat in
    let next = c.tune_turn.new.pass in
    let did = c.in-Ok-tune_turn.ensures in
    rw (← c.pass.view_is)
    (tune_call limits seat.number seat.front next.front c.pass.invariant.between.rests.idle did.legal next.number did.number c.args.config.now (Ok c.in-Ok-tune_turn.count) (c.requires.fits, told (Ok c.in-Ok-tune_turn.count) did.turn))

pub returns-in-Ok-tune_turn-clause-turn : goal.returns-in-Ok-tune_turn-clause-turn
returns-in-Ok-tune_turn-clause-turn g c = rw (← c.pass.view_is) (c.requires.fits, told (Ok c.in-Ok-tune_turn.count) c.in-Ok-tune_turn.ensures.turn)

pub returns-clause-call : goal.returns-clause-call
returns-clause-call g c =
    let limits = g.N.PoolName.pool.limits in
    let seat = c.pass.inside.seat in
    let next = c.tune_turn.new.pass in
    let did = c.in-Err.ensures in
    rw (← c.pass.view_is)
    (tune_call limits seat.number seat.front next.front c.pass.invariant.between.rests.idle did.legal next.number did.number c.args.config.now (Err (tune.Spent c.in-Err.spent.events)) (c.requires.fits, told (Err c.in-Err.spent) did.turn))

pub returns-clause-turn : goal.returns-clause-turn
returns-clause-turn g c = rw (← c.pass.view_is) (c.requires.fits, told (Err c.in-Err.spent) c.in-Err.ensures.turn)
