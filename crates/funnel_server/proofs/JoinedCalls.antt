-- How calls join that a pass makes one after another, where it sees events of other passes in between.
use Rattle.std.proofs.Common.{◌≡◌, ◌⊎◌, ℕ, false, List, [], ◌∷◌, ◌++◌, sym, ap, ◌∙◌, subst, arith, inl, inr}
use Rattle.std.specs.Prelude.{IfSome}
use Rattle.funnel_model.proofs.Clears.{last_by-front}
use Rattle.funnel_model.proofs.StepLemmas.{prefix_trans}
use Rattle.funnel_model.specs.declared.call.Call.{Call}
use Rattle.funnel_model.specs.declared.call.Call.TheVariants as call
use Rattle.funnel_model.specs.declared.event.Event.{Event}
use Rattle.funnel_model.specs.declared.reply.Reply.{Reply}
use Rattle.funnel_model.specs.Events.{leaves_open}
use Rattle.funnel_model.specs.History.{IsFrontOf, own}
use Rattle.funnel_model.specs.Legal.{Limits}
use Rattle.funnel_model.specs.Steps.{FindsNoMemory, IsJudged, IsMade, IsPut, IsSpent, LacksMemory, Linear, Step}
use Rattle.load_laws.proofs.FrontLemmas.{calls_in_front, moved_in_front}

-- a want of memory after a history is one after each with the same calls
memory_from : (pass : ℕ) (front before after : List Event) (asked : Call) → own pass before ≡ own pass front →
    FindsNoMemory pass before after asked → FindsNoMemory pass front after asked
memory_from pass front before after (call.Add id text) same none = none ∙ same
memory_from pass front before after (call.Put id text) same none = none ∙ same
memory_from pass front before after (call.Tune config) same none = none ∙ same
memory_from pass front before after (call.Find query) same (inl none) = inl (none ∙ same)
memory_from pass front before after (call.Find query) same (inr made) = inr (made ∙ ap (λ cs. cs ++ call.Find query ∷ []) same)
memory_from pass front before after (call.Query expr) same (inl none) = inl (none ∙ same)
memory_from pass front before after (call.Query expr) same (inr made) = inr (made ∙ ap (λ cs. cs ++ call.Find [] ∷ []) same)
memory_from pass front before after (call.Count expr) same (inl none) = inl (none ∙ same)
memory_from pass front before after (call.Count expr) same (inr made) = inr (made ∙ ap (λ cs. cs ++ call.Find [] ∷ []) same)
memory_from pass front before after (call.Newest expr most) same (inl none) = inl (none ∙ same)
memory_from pass front before after (call.Newest expr most) same (inr made) = inr (made ∙ ap (λ cs. cs ++ call.Find [] ∷ []) same)
memory_from pass front before after (call.Oldest expr most) same (inl none) = inl (none ∙ same)
memory_from pass front before after (call.Oldest expr most) same (inr made) = inr (made ∙ ap (λ cs. cs ++ call.Find [] ∷ []) same)
memory_from pass front before after (call.Get id) same (inl none) = inl (none ∙ same)
memory_from pass front before after (call.Get id) same (inr made) = inr (made ∙ ap (λ cs. cs ++ call.Get id ∷ []) same)
memory_from pass front before after (call.Journal from) same (inl none) = inl (none ∙ same)
memory_from pass front before after (call.Journal from) same (inr made) = inr (made ∙ ap (λ cs. cs ++ call.Journal from ∷ []) same)
memory_from pass front before after _ same none = absurd none

-- a step from a history is one from each front of it
pub step_from_front : (limits : Limits) (pass : ℕ) (front before after : List Event) (asked : Call) (given : Reply) → IsFrontOf pass front before →
    Step limits pass before after asked given → Step limits pass front after asked given
step_from_front limits pass front before after asked given seen step = record {
  grows = prefix_trans front before after (seen.later, sym seen.whole) step.grows;
  legal = step.legal;
  idle_before = subst (λ o. IfSome o (λ e. leaves_open e ≡ false)) (last_by-front pass front before seen) step.idle_before;
  idle_after = step.idle_after;
  few_moves = omega (arith, step.few_moves, moved_in_front pass front before seen);
  outcome = outcome step.outcome;
}
  where
    same : own pass before ≡ own pass front
    same = calls_in_front pass front before seen

    outcome : IsMade limits pass before after asked given ⊎ LacksMemory pass before after asked given ⊎ IsSpent limits pass before after given
        ⊎ IsJudged pass before after asked given ⊎ IsPut limits pass before after asked given →
        IsMade limits pass front after asked given ⊎ LacksMemory pass front after asked given ⊎ IsSpent limits pass front after given
        ⊎ IsJudged pass front after asked given ⊎ IsPut limits pass front after asked given
    outcome (inl made) =
        inl (record { call = made.call ∙ ap (λ cs. cs ++ asked ∷ []) same; answered = made.answered; replaces_none = made.replaces_none })
    outcome (inr (inl lacks)) = inr (inl (record { reply = lacks.reply; call = memory_from pass front before after asked same lacks.call }))
    outcome (inr (inr (inl spent))) = inr (inr (inl (record { reply = spent.reply; call = spent.call ∙ same; many = spent.many })))
    outcome (inr (inr (inr (inl judged)))) = inr (inr (inr (inl (record {
      expr = judged.expr;
      query = judged.query;
      call = judged.call ∙ ap (λ cs. cs ++ call.Find [] ∷ []) same;
      earlier = judged.earlier;
      later = judged.later;
      whole = judged.whole;
      none_later = judged.none_later;
      reply = judged.reply;
    }))))
    outcome (inr (inr (inr (inr put)))) = inr (inr (inr (inr (record {
      id = put.id;
      text = put.text;
      put = put.put;
      answered = put.answered;
      call = put.call ∙ ap (λ cs. cs ++ call.Add put.id put.text ∷ []) same;
      placed = put.placed;
    }))))

-- calls that lead on from where others ended
pub linear-append : (limits : Limits) (pass : ℕ) (before middle after : List Event) (calls more : List Call) (replies given : List Reply) →
    Linear limits pass before middle calls replies → Linear limits pass middle after more given →
    Linear limits pass before after (calls ++ more) (replies ++ given)
linear-append limits pass before middle after [] more [] given run next =
    subst (λ (h : List Event). Linear limits pass h after more given) (sym run) next
linear-append limits pass before middle after (c ∷ cs) more (r ∷ rs) given run next =
    (run.0, run.1, linear-append limits pass run.0 middle after cs more rs given run.2 next)
linear-append limits pass before middle after [] more (r ∷ rs) given run next = absurd run
linear-append limits pass before middle after (c ∷ cs) more [] given run next = absurd run
