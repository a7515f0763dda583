-- The events in a history that answer the calls of a pass, one for each.
use Rattle.std.proofs.Common.{◌≡◌, ◌≢◌, ℕ, ◌<◌, ◌==◌, ⊎_elim, Bool, true, false, cond, List, [], ◌∷◌, ◌++◌, length, Some, None, refl, sym, ap, ◌∙◌, subst, arith, append_assoc}
use Rattle.std.proofs.lemmas.Bool.{eqb-true, or_parts}
use Rattle.std.proofs.lemmas.List.{append-nil, append_cancel_right, length-append}
use Rattle.std.proofs.lemmas.List.Elements.{All-head, All-tail}
use Rattle.std.specs.List.{All, cons_option, list_any}
use mathlib.Core.List.{IsPrefix}
use Rattle.funnel_model.proofs.StepCauses.{is_put, is_query, made_outcome}
use Rattle.funnel_model.proofs.StepLemmas.{linear-grows, own-append, prefix_trans}
use Rattle.funnel_model.specs.declared.call.Call.{Call}
use Rattle.funnel_model.specs.declared.event.Event.{Event}
use Rattle.funnel_model.specs.declared.reply.Reply.{Reply}
use Rattle.funnel_model.specs.declared.reply.Reply.TheVariants as reply
use Rattle.funnel_model.specs.Events.{call_of, pass_of}
use Rattle.funnel_model.specs.History.{call_by, own}
use Rattle.funnel_model.specs.Legal.{Limits}
use Rattle.funnel_model.specs.Steps.{IsMade, IsReply, Linear}
use Rattle.load_laws.proofs.JobCounts.{is_renamed}

-- the event of the history that answers this call of the pass, which came after its calls so far
pub record EventOf (limits : Limits) (pass : ℕ) (history : List Event) (before : List Call) (asked : Call) (given : Reply) : Type 0 where
  pub earlier : List Event
  pub event : Event
  pub later : List Event
  pub whole : history ≡ earlier ++ event ∷ later
  pub of_pass : pass_of event ≡ pass
  pub call : call_of event ≡ Some asked
  pub calls : own pass earlier ≡ before
  pub reply : IsReply limits earlier event given

-- each of the calls has one
abbrev pub HaveEvents : Limits → ℕ → List Event → List Call → List Call → List Reply → Type 0
HaveEvents limits pass history before [] [] = Unit {0}
HaveEvents limits pass history before (asked ∷ calls) (given ∷ replies) =
    EventOf limits pass history before asked given × HaveEvents limits pass history (before ++ asked ∷ []) calls replies
HaveEvents limits pass history before [] (given ∷ replies) = ⊥
HaveEvents limits pass history before (asked ∷ calls) [] = ⊥

-- an event that answers a call of a pass is one of it
of_pass_if : (pass : ℕ) (e : Event) (asked : Call) → call_by pass e ≡ Some asked → (pass_of e ≡ pass) × (call_of e ≡ Some asked)
of_pass_if pass e asked is = by_test (pass_of e == pass) refl is where
  by_test : (b : Bool) → (pass_of e == pass) ≡ b → cond b (call_of e) None ≡ Some asked → (pass_of e ≡ pass) × (call_of e ≡ Some asked)
  by_test true same at = (eqb-true (pass_of e) pass same, at)
  by_test false other at = cc

-- a step that was made has its event in each history that goes on from it
event_of_step : (limits : Limits) (pass : ℕ) (before middle history : List Event) (done : List Call) (asked : Call) (given : Reply) →
    IsMade limits pass before middle asked given → IsPrefix middle history → own pass before ≡ done → EventOf limits pass history done asked given
event_of_step limits pass before middle history done asked given made goes so_far =
    let is = made.answered in
    let at = of_pass_if pass is.event asked is.call in
    let calls : own pass is.earlier ++ asked ∷ [] ≡ own pass before ++ asked ∷ [] =
    ap (λ o. own pass is.earlier ++ cons_option o []) (sym is.call)
    ∙ ap (λ cs. own pass is.earlier ++ cons_option (call_by pass is.event) cs) (sym is.last)
    ∙ sym (own-append pass is.earlier (is.event ∷ is.later)) ∙ ap (own pass) (sym is.whole) ∙ made.call in
    record {
      earlier = is.earlier;
      event = is.event;
      later = is.later ++ goes.0;
      whole = sym goes.1 ∙ ap (λ (h : List Event). h ++ goes.0) is.whole ∙ append_assoc is.earlier (is.event ∷ is.later) goes.0;
      of_pass = at.0;
      call = at.1;
      calls = append_cancel_right (own pass is.earlier) (own pass before) (asked ∷ []) calls ∙ so_far;
      reply = is.reply;
    }

-- so has each call of a pass that keeps its name and found memory, in a history that wasn't spent
pub events_of_run : (limits : Limits) (pass : ℕ) (before after history : List Event) (done calls : List Call) (replies : List Reply) →
    Linear limits pass before after calls replies → IsPrefix after history → length history < limits.events → All (λ r. r ≢ reply.Memory) replies →
    own pass before ≡ done → list_any is_renamed calls ≡ false → HaveEvents limits pass history done calls replies
events_of_run limits pass before after history done [] [] run goes unspent memory so_far none = tt
events_of_run limits pass before after history done (asked ∷ calls) (given ∷ replies) run goes unspent memory so_far none =
    let middle = run.0 in
    let from_middle = prefix_trans middle after history (linear-grows limits pass middle after calls replies run.2) goes in
    let lengths = length-append middle from_middle.0 in
    let same = ap length from_middle.1 in
    let others = or_parts (is_renamed asked) (list_any is_renamed calls) none in
    let names = or_parts (is_query asked) (is_put asked) others.0 in
    let made = ⊎_elim
    (λ made. made)
    (λ rest. ⊎_elim
    (λ lacks. absurd (All-head (λ r. r ≢ reply.Memory) given replies memory lacks.reply))
    (λ spent. let many = spent.many in absurd (omega arith))
    rest)
    (made_outcome limits pass before middle asked given names.0 names.1 run.1) in (
      event_of_step limits pass before middle history done asked given made from_middle so_far,
      events_of_run limits pass middle after history (done ++ asked ∷ []) calls replies run.2 goes unspent (All-tail (λ r. r ≢ reply.Memory) given replies memory)
          (made.call ∙ ap (λ cs. cs ++ asked ∷ []) so_far) others.1,
    )
events_of_run limits pass before after history done [] (given ∷ replies) run goes unspent memory so_far none = absurd run
events_of_run limits pass before after history done (asked ∷ calls) [] run goes unspent memory so_far none = absurd run

-- the events of calls in two parts
pub record TwoParts (limits : Limits) (pass : ℕ) (history : List Event) (before first second : List Call) (replies : List Reply) : Type 0 where
  pub to_first : List Reply
  pub to_second : List Reply
  pub whole : replies ≡ to_first ++ to_second
  pub first_events : HaveEvents limits pass history before first to_first
  pub second_events : HaveEvents limits pass history (before ++ first) second to_second

pub two_parts : (limits : Limits) (pass : ℕ) (history : List Event) (before first second : List Call) (replies : List Reply) →
    HaveEvents limits pass history before (first ++ second) replies → TwoParts limits pass history before first second replies
two_parts limits pass history before [] second replies have = record {
  to_first = [];
  to_second = replies;
  whole = refl;
  first_events = tt;
  second_events = subst (λ cs. HaveEvents limits pass history cs second replies) (sym (append-nil before)) have;
}
two_parts limits pass history before (asked ∷ first) second (given ∷ replies) have =
    let rest = two_parts limits pass history (before ++ asked ∷ []) first second replies have.1 in
    record {
      to_first = given ∷ rest.to_first;
      to_second = rest.to_second;
      whole = ap (λ rs. given ∷ rs) rest.whole;
      first_events = (have.0, rest.first_events);
      second_events = subst (λ cs. HaveEvents limits pass history cs second rest.to_second) (append_assoc before (asked ∷ []) first) rest.second_events;
    }
two_parts limits pass history before (asked ∷ first) second [] have = absurd have
