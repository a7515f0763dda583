-- The step of a put, from its turns.
use Rattle.std.proofs.Common.{◌≡◌, ℕ, ◌+◌, ◌≤◌, true, List, [], length, Result, Ok, Err, refl, sym, ap, ◌∙◌, ⊎_elim, inl, inr, subst, arith}
use Rattle.funnel_model.specs.declared.call.Call.TheVariants as call
use Rattle.funnel_model.specs.declared.config.Config.{Config}
use Rattle.funnel_model.specs.declared.event.Event.{Event}
use Rattle.funnel_model.specs.declared.reply.Reply.{Reply}
use Rattle.funnel_model.specs.declared.reply.Reply.TheVariants as reply
use Rattle.funnel_model.specs.History.{IsFrontOf, own, place}
use Rattle.funnel_model.specs.Legal.{IsIdle, IsLegal, Limits}
use Rattle.funnel_model.specs.Steps.{Step, most_moves, place_told}
use Rattle.commit_desk.specs.declared.answers.Put.{Put}
use Rattle.commit_desk.specs.declared.answers.Put.TheVariants as did
use Rattle.line_proto.specs.Services.{AnswersCall, IsNotTaken}
use Rattle.slice_rule.specs.Pools.{PoolId}
use Rattle.slice_recycler.proofs.Steps.{IsQuiet, idle_still, quiet_adds_none, quiet_front, quiet_trans, quiet_turn, quiet_weaker, step_put_after, step_put_without_memory, step_spent_after}
use Rattle.engine.specs.Puts.{OwnPutTurns, PutTurns, PutsAfterMoves, PutsLast}
use Rattle.engine.specs.declared.putting.PutFault.{PutFault}
use Rattle.engine.specs.declared.putting.PutFault.TheVariants as put
use Rattle.engine.specs.Moves.{MovesAll}
use Rattle.engine.specs.Replies.{reply_of_put}
use Rattle.engine.proofs.AddSteps.{claimed_quietly, refused_by}
use Rattle.engine.proofs.Moves.{all_moved, moves_are_quiet, no_shorter, none_moved_late}
use Rattle.engine.proofs.NotTaken.{claimed_late, taken_late}

module _ (limits : Limits) (pass id : ℕ) (text : List ℕ) where
  -- The step of a put that may have moved documents first.
  module _ (before start after : List Event) (idle : IsIdle pass before) (idle_start : IsIdle pass start) (first : IsQuiet pass (most_moves (call.Put id text)) before start) (legal : IsLegal limits after) where
    -- one whose document was added, in the place of a live one or not
    put_by : (config : Config) (answer : Put) → PutsLast config limits pass id text start after answer → Step limits pass before after (call.Put id text) (reply_of_put (Ok answer))
    put_by config (did.Added added) turns =
        let last = turns.done in
        step_put_after limits pass before turns.middle after id text turns.claim.slice turns.claim.column turns.bits (reply.Added added) idle
        (claimed_quietly limits pass true id text before start after idle first turns.middle turns.claim turns.claimed) last
        (ap reply.Added last.answer.1 ∙ ap (λ b. place_told b (place last.earlier + 1)) (sym last.answer.0)) legal
    put_by config (did.Replaced added) turns =
        let last = turns.done in
        step_put_after limits pass before turns.middle after id text turns.claim.slice turns.claim.column turns.bits (reply.Replaced added) idle
        (claimed_quietly limits pass true id text before start after idle first turns.middle turns.claim turns.claimed) last
        (ap reply.Replaced last.answer.1 ∙ ap (λ b. place_told b (place last.earlier + 1)) (sym last.answer.0)) legal

    own_put_step : (config : Config) (answer : Result Put PutFault) → OwnPutTurns config limits pass id text start after answer → Step limits pass before after (call.Put id text) (reply_of_put answer)
    own_put_step config (Ok answer) turns = put_by config answer turns
    own_put_step config (Err (put.Full blocks)) refused = refused_by limits pass true id text before start after idle first reply.Full refused.turn refl legal
    own_put_step config (Err (put.Spent events)) turn = step_spent_after limits pass before start after (call.Put id text) idle idle_start first turn turn.answer.many legal
    own_put_step config (Err put.Memory) turn =
        let most = most_moves (call.Put id text) in
        step_put_without_memory limits pass before after idle legal (idle_still pass start after turn idle_start) id text
        (quiet_weaker pass (most + 0) most before after (omega arith) (quiet_trans pass most 0 before start after first (quiet_turn pass start after [] turn refl refl)))

  module _ (config : Config) (before start after : List Event) (all : MovesAll config limits pass true id before start) where
    first_moved : (answer : Result Put PutFault) → OwnPutTurns config limits pass id text start after answer → PutsAfterMoves config limits pass id text before after answer
    first_moved answer own = record { middle = start; moves = all; own = own }

    pub moved_put_turns : (answer : Result Put PutFault) → OwnPutTurns config limits pass id text start after answer → PutTurns config limits pass id text before after answer
    moved_put_turns (Ok done) own = first_moved (Ok done) own
    moved_put_turns (Err (put.Full blocks)) own = first_moved (Err (put.Full blocks)) own
    moved_put_turns (Err (put.Spent events)) own = first_moved (Err (put.Spent events)) own
    moved_put_turns (Err put.Memory) own = inr (first_moved (Err put.Memory) own)

    pub moved_put_step : (answer : Result Put PutFault) → OwnPutTurns config limits pass id text start after answer → IsIdle pass before → IsIdle pass start → IsLegal limits after →
        Step limits pass before after (call.Put id text) (reply_of_put answer)
    moved_put_step answer own idle idle_start legal =
        own_put_step before start after idle idle_start
        (quiet_weaker pass all.moves (most_moves (call.Put id text)) before start all.few (moves_are_quiet config limits pass true id all.moves before start (all_moved config limits pass true id before start all)))
        legal config answer own

  -- A put of a pass that has seen as many events as there may be isn't taken.
  own_put_not_taken : (config : Config) (before start after : List Event) (answer : Result Put PutFault) → limits.events ≤ length before → IsFrontOf pass before start →
      OwnPutTurns config limits pass id text start after answer → IsNotTaken (record { opening = config; limits = limits; pass = pass }) before after (reply_of_put answer)
  own_put_not_taken config before start after answer many seen turns = of answer turns where
    many_now : limits.events ≤ length start
    many_now = let grows = no_shorter pass before start seen in omega (arith, many, grows)

    of : (answer : Result Put PutFault) → OwnPutTurns config limits pass id text start after answer → IsNotTaken (record { opening = config; limits = limits; pass = pass }) before after (reply_of_put answer)
    of (Ok done) turns = absurd (claimed_late limits pass true id text start turns.middle turns.claim many_now turns.claimed)
    of (Err (put.Full blocks)) turns = absurd (taken_late limits pass start after _ turns.turn many_now turns.turn.answer.0.takes_calls)
    of (Err (put.Spent events)) turns =
        record { reply = inl refl; call = quiet_adds_none pass 0 before after (quiet_trans pass 0 0 before start after (quiet_front pass before start seen) (quiet_turn pass start after [] turns refl refl)) }
    of (Err put.Memory) turns = absurd (taken_late limits pass start after _ turns many_now turns.answer.0.takes_calls)

  module _ (before : List Event) (many : limits.events ≤ length before) where
    moved_put_not_taken : (config : Config) (after : List Event) (answer : Result Put PutFault) → PutsAfterMoves config limits pass id text before after answer →
        IsNotTaken (record { opening = config; limits = limits; pass = pass }) before after (reply_of_put answer)
    moved_put_not_taken config after answer turns =
        own_put_not_taken config before turns.middle after answer many
        (none_moved_late config limits pass true id turns.moves.moves before turns.middle many (all_moved config limits pass true id before turns.middle turns.moves)) turns.own

    pub put_not_taken : (config : Config) (after : List Event) (answer : Result Put PutFault) → PutTurns config limits pass id text before after answer →
        IsNotTaken (record { opening = config; limits = limits; pass = pass }) before after (reply_of_put answer)
    put_not_taken config after (Ok done) turns = moved_put_not_taken config after (Ok done) turns
    put_not_taken config after (Err (put.Full blocks)) turns = moved_put_not_taken config after (Err (put.Full blocks)) turns
    put_not_taken config after (Err (put.Spent events)) turns = moved_put_not_taken config after (Err (put.Spent events)) turns
    put_not_taken config after (Err put.Memory) turns =
        ⊎_elim (λ (same : before ≡ after). record { reply = inr refl; call = ap (own pass) (sym same) })
        (λ (moved : PutsAfterMoves config limits pass id text before after (Err put.Memory)). moved_put_not_taken config after (Err put.Memory) moved) turns

-- so a put is answered as a call
pub answers_put : (pool : PoolId) (pass id : ℕ) (text : List ℕ) (before after : List Event) (answer : Result Put PutFault) (given : Reply) →
    Step pool.limits pass before after (call.Put id text) (reply_of_put answer) → PutTurns pool.config pool.limits pass id text before after answer → given ≡ reply_of_put answer →
    AnswersCall (record { opening = pool.config; limits = pool.limits; pass = pass }) before after (call.Put id text) given
answers_put pool pass id text before after answer given step turns told =
    subst (AnswersCall (record { opening = pool.config; limits = pool.limits; pass = pass }) before after (call.Put id text)) (sym told)
    (record { step = step; spent = λ many. put_not_taken pool.limits pass id text before many pool.config after answer turns })
