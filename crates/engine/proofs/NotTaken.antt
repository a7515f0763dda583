-- An add of a pass that has seen as many events as there may be isn't taken.
use Rattle.std.proofs.Common.{◌≡◌, ℕ, ◌<◌, ◌≤◌, List, [], length, Bool, false, Result, Ok, Err, refl, sym, ap, ⊎_elim, inl, inr, arith, subst}
use Rattle.funnel_model.specs.declared.call.Call.TheVariants as call
use Rattle.funnel_model.specs.declared.reply.Reply.{Reply}
use Rattle.funnel_model.specs.declared.config.Config.{Config}
use Rattle.funnel_model.specs.declared.claim.Claim.{Claim}
use Rattle.funnel_model.specs.declared.event.Event.{Event}
use Rattle.funnel_model.specs.History.{IsFrontOf, own}
use Rattle.funnel_model.specs.Legal.{Limits}
use Rattle.funnel_model.specs.Steps.{Step}
use Rattle.slice_rule.specs.Pools.{PoolId}
use Rattle.commit_desk.specs.declared.answers.AddFault.{AddFault}
use Rattle.commit_desk.specs.declared.answers.AddFault.TheVariants as add
use Rattle.commit_desk.specs.declared.answers.CommitFault.{CommitFault}
use Rattle.line_proto.specs.Services.{AnswersCall, IsNotTaken}
use Rattle.slice_recycler.proofs.Steps.{quiet_adds_none, quiet_front, quiet_trans, quiet_turn}
use Rattle.slice_recycler.specs.Turns.{IsTurn}
use Rattle.engine.specs.Adds.{AddTurns, ClaimTurns, CommitTurns, MovesFirst, OwnTurns}
use Rattle.engine.specs.Replies.{reply_of_add}
use Rattle.engine.proofs.Moves.{all_moved, no_shorter, none_moved_late}

module _ (limits : Limits) (pass : ℕ) where
  -- no call is taken by a desk that has as many events
  pub taken_late : {answers : List Event → Type 0} (before after events : List Event) (turn : IsTurn pass before after answers events) → limits.events ≤ length before → length turn.earlier < limits.events → ⊥
  taken_late before after events turn many few = let seen = no_shorter pass before turn.earlier turn.seen in omega (arith, few, many, seen)

  pub claimed_late : (replaces : Bool) (id : ℕ) (text : List ℕ) (before after : List Event) (claim : Claim) → limits.events ≤ length before → ClaimTurns limits pass replaces id text before after claim → ⊥
  claimed_late replaces id text before after claim many turns =
      ⊎_elim
      (λ first. taken_late before after _ first.took many first.took.answer.0.takes_calls)
      (λ first. taken_late before first.middle _ first.cleared many first.cleared.answer.0.takes_calls)
      turns

module _ (limits : Limits) (pass id : ℕ) (text : List ℕ) where
  committed_late : (config : Config) (before after : List Event) (answer : Result ℕ CommitFault) → limits.events ≤ length before → CommitTurns config limits pass id text before after answer → ⊥
  committed_late config before after answer many turns = claimed_late limits pass false id text before turns.middle turns.claim many turns.claimed

  -- the own turns of an add, before which nothing was moved
  own_not_taken : (config : Config) (before start after : List Event) (answer : Result ℕ AddFault) → limits.events ≤ length before → IsFrontOf pass before start → OwnTurns config limits pass id text start after answer →
      IsNotTaken (record { opening = config; limits = limits; pass = pass }) before after (reply_of_add answer)
  own_not_taken config before start after answer many seen turns = of answer turns where
    many_now : limits.events ≤ length start
    many_now = let grows = no_shorter pass before start seen in omega (arith, many, grows)

    of : (answer : Result ℕ AddFault) → OwnTurns config limits pass id text start after answer → IsNotTaken (record { opening = config; limits = limits; pass = pass }) before after (reply_of_add answer)
    of (Ok added) turns = absurd (committed_late config start after (Ok added) many_now turns)
    of (Err (add.Present added)) turns =
        absurd (⊎_elim (λ turn. taken_late limits pass start after _ turn many_now turn.answer.0) (λ late. committed_late config start after _ many_now late) turns)
    of (Err (add.Full blocks)) turns = absurd (taken_late limits pass start after _ turns.turn many_now turns.turn.answer.0.takes_calls)
    of (Err (add.Spent events)) turns =
        record { reply = inl refl; call = quiet_adds_none pass 0 before after (quiet_trans pass 0 0 before start after (quiet_front pass before start seen) (quiet_turn pass start after [] turns refl refl)) }
    of (Err add.Memory) turns = absurd (taken_late limits pass start after _ turns many_now turns.answer.0.takes_calls)

  module _ (before : List Event) (many : limits.events ≤ length before) where
    moved_not_taken : (config : Config) (after : List Event) (answer : Result ℕ AddFault) → MovesFirst config limits pass id text before after answer →
        IsNotTaken (record { opening = config; limits = limits; pass = pass }) before after (reply_of_add answer)
    moved_not_taken config after answer turns =
        own_not_taken config before turns.middle after answer many (none_moved_late config limits pass false id turns.moves.moves before turns.middle many (all_moved config limits pass false id before turns.middle turns.moves)) turns.own

    pub add_not_taken : (config : Config) (after : List Event) (answer : Result ℕ AddFault) → AddTurns config limits pass id text before after answer →
        IsNotTaken (record { opening = config; limits = limits; pass = pass }) before after (reply_of_add answer)
    add_not_taken config after (Ok added) turns = moved_not_taken config after (Ok added) turns
    add_not_taken config after (Err (add.Present added)) turns = moved_not_taken config after (Err (add.Present added)) turns
    add_not_taken config after (Err (add.Full blocks)) turns = moved_not_taken config after (Err (add.Full blocks)) turns
    add_not_taken config after (Err (add.Spent events)) turns = moved_not_taken config after (Err (add.Spent events)) turns
    add_not_taken config after (Err add.Memory) turns =
        ⊎_elim (λ (same : before ≡ after). record { reply = inr refl; call = ap (own pass) (sym same) })
        (λ (moved : MovesFirst config limits pass id text before after (Err add.Memory)). moved_not_taken config after (Err add.Memory) moved) turns

-- so an add is answered as a call
pub answers_add : (pool : PoolId) (pass id : ℕ) (text : List ℕ) (before after : List Event) (answer : Result ℕ AddFault) (given : Reply) →
    Step pool.limits pass before after (call.Add id text) (reply_of_add answer) → AddTurns pool.config pool.limits pass id text before after answer → given ≡ reply_of_add answer →
    AnswersCall (record { opening = pool.config; limits = pool.limits; pass = pass }) before after (call.Add id text) given
answers_add pool pass id text before after answer given step turns told =
    subst (AnswersCall (record { opening = pool.config; limits = pool.limits; pass = pass }) before after (call.Add id text)) (sym told)
    (record { step = step; spent = λ many. add_not_taken pool.limits pass id text before many pool.config after answer turns })
