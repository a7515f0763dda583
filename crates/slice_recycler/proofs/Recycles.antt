-- What a recycle is answered, from its turns.
use Rattle.std.proofs.Common.{◌≡◌, ℕ, List, [], ◌∷◌, Result, Ok, true, refl, sym, ap, subst, inr}
use Rattle.std.specs.List.{Contains}
use Rattle.funnel_model.specs.declared.call.Call.TheVariants as call
use Rattle.funnel_model.specs.declared.claim.ClearJob.{ClearJob}
use Rattle.funnel_model.specs.declared.event.Event.{Event}
use Rattle.funnel_model.specs.declared.event.Event.TheVariants as event
use Rattle.funnel_model.specs.declared.reply.Reply.TheVariants as reply
use Rattle.funnel_model.specs.Legal.{IsIdle, IsLegal, Limits}
use Rattle.funnel_model.specs.Steps.{Step}
use Rattle.funnel_model.proofs.StepLemmas.{call_by-own}
use Rattle.slice_rule.specs.declared.view.Fact.TheVariants as fact
use Rattle.slice_rule.specs.Numbers.{last_number}
use Rattle.slice_rule.specs.Pools.{PoolId}
use Rattle.slice_rule.specs.Seats.{HoldsJob, PassState}
use Rattle.commit_desk.specs.Answers.{AnswersClear, events_of_clear}
use Rattle.commit_desk.specs.Passes.{HasCleared, IsToClear}
use Rattle.commit_desk.specs.declared.answers.ClearRefusal.{ClearRefusal}
use Rattle.commit_desk.specs.declared.answers.ClearRefusal.TheVariants as clear
use Rattle.commit_desk.specs.declared.answers.ToClear.{ToClear}
use Rattle.commit_desk.proofs.CallEnds.{seated_still}
use Rattle.slice_recycler.specs.Cleared.{CanClearSlice, ClearsSlice, IsRoomOf}
use Rattle.slice_recycler.specs.Recycles.{IsRefusedTurn, RecycleTurns, refused_as, reply_of_recycle, work_on}
use Rattle.slice_recycler.specs.declared.recycling.Recycled.TheVariants as recycled
use Rattle.slice_recycler.specs.Turns.{IsTurn, StartsClear}
use Rattle.slice_recycler.proofs.Steps.{own-unanswered, quiet_turn, step_made_after, step_made_by_turn, step_spent_turn, turn_as}

module _ (limits : Limits) (pass : ℕ) (before after : List Event) where
  pub refused_turns : (refusal : ClearRefusal) → IsRefusedTurn limits pass before after refusal → RecycleTurns limits pass before after (refused_as refusal)
  refused_turns clear.NoneRetired turn = turn
  refused_turns (clear.Guarded slice guard opened_at) turn = turn
  refused_turns (clear.Spent events) turn = turn

  module _ (idle : IsIdle pass before) (legal : IsLegal limits after) where
    pub refused_step : (refusal : ClearRefusal) → IsRefusedTurn limits pass before after refusal → Step limits pass before after call.Recycle (reply_of_recycle (refused_as refusal))
    refused_step clear.NoneRetired turn =
        let e = event.No pass call.Recycle in
        step_made_by_turn limits pass before after e call.Recycle reply.NothingRetired idle turn refl (call_by-own pass e refl) refl refl turn.answer.2 refl legal
    refused_step (clear.Guarded slice guard opened_at) turn =
        let e = event.No pass call.Recycle in
        let lowest = turn.answer.2.0 in
        step_made_by_turn limits pass before after e call.Recycle (reply.Guarded slice guard) idle turn refl (call_by-own pass e refl) refl refl
        (record { in_range = lowest.in_range; retired = lowest.retired; lowest = lowest.lowest; number = opened_at; guard = turn.answer.2.1 }) refl legal
    refused_step (clear.Spent events) turn = step_spent_turn limits pass before after call.Recycle idle turn turn.answer.many legal

    -- a slice was cleared and opened
    pub done_step : {answers opens : List Event → Type 0} (middle : List Event) (slice : ℕ) → IsTurn pass before middle answers (event.Clear pass slice ∷ []) →
        IsTurn pass middle after opens (event.Opened pass slice true ∷ []) → Step limits pass before after call.Recycle (reply.Recycled slice)
    done_step middle slice first second =
        let clears = event.Clear pass slice in
        let opened = event.Opened pass slice true in
        step_made_after limits pass before middle after opened call.Recycle (reply.Recycled slice) idle
        (quiet_turn pass before middle (clears ∷ []) first (own-unanswered pass (clears ∷ []) refl) refl) second refl (call_by-own pass opened refl) refl refl (refl, refl) refl legal

-- what the first turn of a recycle is answered
pub started : (answer : Result ToClear ClearRefusal) (pool : PoolId) (pass : ℕ) (before after : List Event) → IsTurn pass before after (StartsClear pool pass answer) (events_of_clear pass answer) →
    IsTurn pass before after (λ history. AnswersClear pool.limits.events pool.limits history pass answer) (events_of_clear pass answer)
started answer pool pass before after = turn_as pass before after (events_of_clear pass answer) (λ history starts. starts.answers)

-- a pass that is to clear a slice can, where each slice has room for so many words
pub can_clear : (pool : PoolId) (seat : PassState) (job : ClearJob) (room : ℕ) → IsToClear pool job seat → IsRoomOf room pool → CanClearSlice pool seat job room
can_clear pool seat job room start has_room = record {
  same = start.seated.same;
  holds = start.holds;
  none_outstanding = start.seated.none_outstanding;
  has_room = has_room;
}

-- and when it made all words zero, it has cleared it
pub has_cleared : (pool : PoolId) (job : ClearJob) (seat next : PassState) → IsToClear pool job seat → ClearsSlice pool seat next job → HasCleared pool job next
has_cleared pool job seat next start did = record {
  to_clear = record {
    seated = seated_still pool seat next did.same start.seated;
    holds = subst (λ (p : PassState). HoldsJob p job) (sym did.same) start.holds;
    in_range = start.in_range;
  };
  zeros = λ word inside.
      subst (λ n. Contains next.own (fact.WordZero n word)) (sym (ap (λ (p : PassState). last_number p.number p.front) did.same))
      ((did.zeros (fact.WordZero (last_number seat.number seat.front) word)).1 (inr (word, inside, refl)));
}

-- the turn of a pass that did something itself since its turn before
pub opened_turn : {answers : List Event → Type 0} (pass slice : ℕ) (seat next : PassState) (after : List Event) → next ≡ record seat { own = next.own } → seat.number ≡ pass →
    IsTurn next.number next.front after answers (event.Opened next.number slice true ∷ []) → IsTurn pass seat.front after answers (event.Opened pass slice true ∷ [])
opened_turn {answers = answers} pass slice seat next after is number turn =
    subst (λ n. IsTurn n seat.front after answers (event.Opened n slice true ∷ [])) number
    (subst (λ (p : PassState). IsTurn p.number p.front after answers (event.Opened p.number slice true ∷ [])) is turn)

-- the two turns of a recycle that is done
pub done_turns : (limits : Limits) (pass : ℕ) (before middle after : List Event) (to_clear : ToClear) (slice : ℕ) →
    IsTurn pass before middle (λ history. AnswersClear limits.events limits history pass (Ok to_clear)) (event.Clear pass to_clear.job.slice ∷ []) → to_clear.slots ≡ limits.columns →
    slice ≡ to_clear.job.slice → IsTurn pass middle after (λ history. Unit {0}) (event.Opened pass to_clear.job.slice true ∷ []) → RecycleTurns limits pass before after (recycled.Done slice)
done_turns limits pass before middle after to_clear slice first slots same second = (
  middle,
  to_clear.old_layout,
  subst (λ (s : ℕ). IsTurn pass before middle (λ history. AnswersClear limits.events limits history pass (Ok (work_on limits s to_clear.old_layout))) (event.Clear pass s ∷ [])) (sym same)
      (subst (λ (n : ℕ). IsTurn pass before middle (λ history. AnswersClear limits.events limits history pass (Ok (record to_clear { slots = n }))) (event.Clear pass to_clear.job.slice ∷ [])) slots first),
  subst (λ (s : ℕ). IsTurn pass middle after (λ history. Unit {0}) (event.Opened pass s true ∷ [])) (sym same) second,
)
