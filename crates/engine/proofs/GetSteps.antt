-- The step of a get, from its turns.
use Rattle.std.proofs.Common.{◌≡◌, ℕ, ◌≤◌, List, [], ◌∷◌, length, Result, Ok, Err, refl, sym, ap, subst, inl}
use Rattle.funnel_model.specs.declared.call.Call.TheVariants as call
use Rattle.funnel_model.specs.declared.config.Config.{Config}
use Rattle.funnel_model.specs.declared.event.Event.{Event}
use Rattle.funnel_model.specs.declared.event.Event.TheVariants as event
use Rattle.funnel_model.specs.declared.reply.Reply.{Reply}
use Rattle.funnel_model.specs.declared.reply.Reply.TheVariants as reply
use Rattle.funnel_model.specs.History.{IsFrontOf}
use Rattle.funnel_model.specs.Legal.{IsIdle, IsLegal, Limits}
use Rattle.funnel_model.specs.Steps.{Step, text_told}
use Rattle.funnel_model.proofs.StepLemmas.{call_by-own}
use Rattle.commit_desk.specs.Answers.{AnswersText, events_of_text}
use Rattle.commit_desk.specs.declared.answers.TextRead.{TextRead}
use Rattle.commit_desk.specs.declared.answers.TextRead.TheVariants as read
use Rattle.line_proto.specs.Services.{AnswersCall, IsNotTaken}
use Rattle.slice_recycler.specs.Turns.{IsTurn}
use Rattle.slice_recycler.proofs.Steps.{idle_still, quiet_adds_none, quiet_turn, step_get_without_memory, step_made_by_turn, step_spent_turn, turn_as}
use Rattle.engine.specs.declared.getting.GetFault.{GetFault}
use Rattle.engine.specs.declared.getting.GetFault.TheVariants as get
use Rattle.engine.specs.Gets.{GetTurn, answer_of_read}
use Rattle.engine.specs.Replies.{reply_of_get}
use Rattle.engine.proofs.Moves.{turn_from}
use Rattle.engine.proofs.NotTaken.{taken_late}

module _ (limits : Limits) (pass id : ℕ) where
  -- a look at the desk, before which others may have made events, is the last of a get
  pub last_look : (before seen after : List Event) (room : ℕ) (copied : List ℕ) (answer : TextRead) → IsFrontOf pass before seen →
      IsTurn pass seen after (λ history. AnswersText limits.events history id room copied answer) (events_of_text pass id answer) → GetTurn limits pass id before after (answer_of_read answer copied)
  last_look before seen after room copied (read.Read place) grows turn =
      let events = event.Read pass (call.Get id) ∷ [] in
      turn_as pass before after events (λ history answer. record { takes_calls = answer.0; is = answer.1 }) (turn_from pass before seen after events grows turn)
  last_look before seen after room copied read.Absent grows turn =
      let events = event.Read pass (call.Get id) ∷ [] in
      turn_as pass before after events (λ history answer. record { takes_calls = answer.0; is = answer.1 }) (turn_from pass before seen after events grows turn)
  last_look before seen after room copied (read.Short bytes) grows turn =
      turn_as pass before after [] (λ history answer. (answer.1.0, record { takes_calls = answer.0; is = answer.1.1 })) (turn_from pass before seen after [] grows turn)
  last_look before seen after room copied (read.Spent events) grows turn = turn_from pass before seen after [] grows turn

  module _ (before after : List Event) where
    pub get_step : (answer : Result (ℕ × List ℕ) GetFault) → GetTurn limits pass id before after answer → IsIdle pass before → IsLegal limits after →
        Step limits pass before after (call.Get id) (reply_of_get answer)
    get_step (Ok told) turn idle legal =
        let e = event.Read pass (call.Get id) in
        step_made_by_turn limits pass before after e (call.Get id) (reply.Text told.0 told.1) idle turn refl (call_by-own pass e refl) refl refl (sym (ap text_told turn.answer.is)) refl legal
    get_step (Err get.Absent) turn idle legal =
        let e = event.Read pass (call.Get id) in
        step_made_by_turn limits pass before after e (call.Get id) reply.Absent idle turn refl (call_by-own pass e refl) refl refl (sym (ap text_told turn.answer.is)) refl legal
    get_step (Err (get.Spent events)) turn idle legal = step_spent_turn limits pass before after (call.Get id) idle turn turn.answer.many legal
    get_step (Err get.Memory) turn idle legal =
        step_get_without_memory limits pass before after idle legal (idle_still pass before after turn idle) (quiet_turn pass before after [] turn refl refl) id

    -- a get of a pass that has seen as many events as there may be isn't taken
    get_not_taken : (config : Config) (answer : Result (ℕ × List ℕ) GetFault) → GetTurn limits pass id before after answer → limits.events ≤ length before →
        IsNotTaken (record { opening = config; limits = limits; pass = pass }) before after (reply_of_get answer)
    get_not_taken config (Ok told) turn many = absurd (taken_late limits pass before after _ turn many turn.answer.takes_calls)
    get_not_taken config (Err get.Absent) turn many = absurd (taken_late limits pass before after _ turn many turn.answer.takes_calls)
    get_not_taken config (Err (get.Spent events)) turn many = record { reply = inl refl; call = quiet_adds_none pass 0 before after (quiet_turn pass before after [] turn refl refl) }
    get_not_taken config (Err get.Memory) turn many = absurd (taken_late limits pass before after _ turn many turn.answer.1.takes_calls)

    pub answers_get : (config : Config) (answer : Result (ℕ × List ℕ) GetFault) (given : Reply) → Step limits pass before after (call.Get id) (reply_of_get answer) →
        GetTurn limits pass id before after answer → given ≡ reply_of_get answer → AnswersCall (record { opening = config; limits = limits; pass = pass }) before after (call.Get id) given
    answers_get config answer given step turn told =
        subst (AnswersCall (record { opening = config; limits = limits; pass = pass }) before after (call.Get id)) (sym told) (record { step = step; spent = get_not_taken config answer turn })
