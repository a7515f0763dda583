-- The event that answers a call of a pass that is alone, and how the history is before and after it.
use Rattle.std.proofs.Common.{◌≡◌, ℕ, ◌+◌, ◌≤◌, ⊎_elim, false, cond, List, [], ◌∷◌, ◌++◌, length, Some, sym, refl, ap, ◌∙◌, subst, append_assoc, arith}
use Rattle.std.proofs.lemmas.Bool.{cases_lt, or_parts}
use Rattle.std.proofs.lemmas.List.{length-append}
use Rattle.std.proofs.lemmas.List.Elements.{All-head}
use Rattle.std.specs.List.{cons_option}
use Rattle.funnel_model.proofs.Histories.{allowed_within, legal_before}
use Rattle.funnel_model.proofs.LiveLemmas.{place-append}
use Rattle.funnel_model.proofs.NothingMoved.{moves_nothing-before, moves_nothing-parts}
use Rattle.funnel_model.proofs.Retirement.{split_front}
use Rattle.funnel_model.proofs.StepCauses.{is_put, is_query, made_outcome}
use Rattle.funnel_model.proofs.StepLemmas.{call_by-own, own-append}
use Rattle.funnel_model.specs.declared.call.Call.{Call}
use Rattle.funnel_model.specs.declared.event.Event.{Event}
use Rattle.funnel_model.specs.declared.reply.Reply.{Reply}
use Rattle.funnel_model.specs.Events.{call_of, pass_of}
use Rattle.funnel_model.specs.History.{MovesNothing, own, place}
use Rattle.funnel_model.specs.Legal.{Limits, IsAllowed, IsLegal}
use Rattle.funnel_model.specs.Steps.{IsMade, IsReply}
use Rattle.load_laws.specs.LonePass.{IsAlone, LoneStep, count_of_takes}
use Rattle.load_laws.proofs.JobCounts.{is_renamed}
use Rattle.load_laws.proofs.Quiet.{Quiet, alone_front, alone_rest, filled, filled-push, fills_column, quiet_calls}
use Rattle.load_laws.proofs.Takes.{takes_filled}
use Rattle.funnel_model.proofs.Absence.{empty_by_length}

-- a front that isn't longer than another begins it
pub shorter_begins : {A : Type 0} (front rest longer later : List A) → front ++ rest ≡ longer ++ later → length front ≤ length longer →
    (between : List A) × (longer ≡ front ++ between)
shorter_begins [] rest longer later is within = (longer, refl)
shorter_begins (x ∷ xs) rest [] later is within = absurd (omega arith)
shorter_begins (x ∷ xs) rest (y ∷ ys) later is within =
    let same : x ≡ y = cc in
    let more = shorter_begins xs rest ys later (cc) (omega arith) in
    (more.0, cc (more.1))

-- a call that keeps its name was made, as it found memory and wasn't refused as spent
is_made : (limits : Limits) (pass : ℕ) (before after : List Event) (asked : Call) (given : Reply) → is_renamed asked ≡ false → LoneStep limits pass before after asked given →
    IsMade limits pass before after asked given
is_made limits pass before after asked given keeps lone =
    let names = or_parts (is_query asked) (is_put asked) keeps in
    ⊎_elim
    (λ made. made)
    (λ rest. ⊎_elim
    (λ lacks. absurd (lone.memory lacks.reply))
    (λ spent. let many = spent.many in let few = lone.unspent in absurd (omega arith))
    rest)
    (made_outcome limits pass before after asked given names.0 names.1 lone.step)

-- the event that answers the call, and that nothing changes before it or after it; each take was followed by an add or a drop
pub record Answered (limits : Limits) (pass : ℕ) (before after : List Event) (asked : Call) (given : Reply) : Type 0 where
  pub earlier : List Event
  pub event : Event
  pub call : call_of event ≡ Some asked
  pub reply : IsReply limits earlier event given
  pub allowed : IsAllowed limits earlier event
  pub legal : IsLegal limits earlier
  pub alone : IsAlone pass earlier
  pub unmoved : MovesNothing earlier
  pub is_own : pass_of event ≡ pass
  pub first : Quiet before earlier
  pub last : Quiet (earlier ++ event ∷ []) after
  pub filled_before : count_of_takes before ≡ filled before
  pub filled_after : count_of_takes after ≡ filled after

-- the event that answers a call of a pass
pub record CallAt (pass : ℕ) (before after : List Event) (asked : Call) (earlier : List Event) (event : Event) (later : List Event) : Type 0 where
  pub rest : List Event
  pub grows : before ++ rest ≡ after
  pub whole : after ≡ earlier ++ event ∷ later
  pub calls : own pass after ≡ own pass before ++ asked ∷ []
  pub answers : own pass (event ∷ later) ≡ asked ∷ []
  pub none_later : own pass later ≡ []

-- the event comes after the front before the call, with no other call between
event_is_new : (pass : ℕ) (before after : List Event) (asked : Call) (earlier : List Event) (e : Event) (later : List Event) →
    CallAt pass before after asked earlier e later → (between : List Event) × (earlier ≡ before ++ between) × (own pass between ≡ [])
event_is_new pass before after asked earlier e later at =
    let count_of_calls = ap length at.calls ∙ length-append (own pass before) (asked ∷ []) in
    let whole = at.grows ∙ at.whole in
    ⊎_elim
    (λ old.
    let split = split_front before at.rest earlier later e whole old in
    let none = ap length (sym (own-append pass split.0 at.rest) ∙ ap (own pass) (sym split.2) ∙ at.none_later) in
    let parts = length-append (own pass split.0) (own pass at.rest) in
    let all = ap length (ap (own pass) (sym at.grows) ∙ own-append pass before at.rest) ∙ length-append (own pass before) (own pass at.rest) in
    absurd (omega arith))
    (λ new.
    let between = shorter_begins before at.rest earlier (e ∷ later) whole new in
    let all = ap length (ap (own pass) at.whole ∙ own-append pass earlier (e ∷ later) ∙ ap (λ cs. own pass earlier ++ cs) at.answers)
    ∙ length-append (own pass earlier) (asked ∷ []) in
    let parts = ap length (ap (own pass) between.1 ∙ own-append pass before between.0) ∙ length-append (own pass before) (own pass between.0) in
    (between.0, between.1, empty_by_length (own pass between.0) (omega arith)))
    (cases_lt (length earlier) (length before))

pub answered : (limits : Limits) (pass : ℕ) (before after : List Event) (asked : Call) (given : Reply) → is_renamed asked ≡ false → LoneStep limits pass before after asked given →
    Answered limits pass before after asked given
answered limits pass before after asked given keeps lone =
    let made = is_made limits pass before after asked given keeps lone in
    let is = made.answered in
    let e = is.event in
    let grows = lone.step.grows in
    let whole = is.whole in
    let legal = lone.step.legal in
    let at : CallAt pass before after asked is.earlier e is.later = record {
      rest = grows.0;
      grows = grows.1;
      whole = whole;
      calls = made.call;
      answers = ap (λ o. cons_option o (own pass is.later)) is.call ∙ ap (λ cs. asked ∷ cs) is.last;
      none_later = is.last;
    } in
    let new = event_is_new pass before after asked is.earlier e is.later at in
    let alone = subst (IsAlone pass) whole lone.alone in
    let alone_earlier = alone_front pass is.earlier (e ∷ is.later) alone in
    let alone_later = alone_rest pass is.earlier (e ∷ is.later) alone in
    let is_own = All-head (λ x. pass_of x ≡ pass) e is.later alone_later in
    let with_event : after ≡ (is.earlier ++ e ∷ []) ++ is.later = whole ∙ sym (append_assoc is.earlier (e ∷ []) is.later) in
    let alone_between = alone_rest pass before new.0 (subst (IsAlone pass) new.1 alone_earlier) in
    let legal_start = legal_before limits before grows.0 (subst (IsLegal limits) (sym grows.1) legal) in
    let unmoved_start = moves_nothing-parts before grows.0 (subst MovesNothing (sym grows.1) lone.unmoved) in
    let alone_start = alone_front pass before grows.0 (subst (IsAlone pass) (sym grows.1) lone.alone) in
    record {
      earlier = is.earlier;
      event = e;
      call = sym (call_by-own pass e is_own) ∙ is.call;
      reply = is.reply;
      allowed = allowed_within limits after is.earlier e is.later legal whole;
      legal = legal_before limits is.earlier (e ∷ is.later) (subst (IsLegal limits) whole legal);
      alone = alone_earlier;
      unmoved = (moves_nothing-before after is.earlier e is.later whole lone.unmoved).0;
      is_own = is_own;
      first = subst (Quiet before) (sym new.1) (quiet_calls pass before new.0 alone_between new.2);
      last = subst (Quiet (is.earlier ++ e ∷ [])) (sym with_event)
          (quiet_calls pass (is.earlier ++ e ∷ []) is.later
          (alone_rest pass (is.earlier ++ e ∷ []) is.later (subst (IsAlone pass) with_event lone.alone)) is.last);
      filled_before = takes_filled limits pass before legal_start unmoved_start.0 alone_start lone.step.idle_before;
      filled_after = takes_filled limits pass after legal lone.unmoved lone.alone lone.step.idle_after;
    }

-- the commits after a call are those before it and its event's
pub place_after : (limits : Limits) (pass : ℕ) (before after : List Event) (asked : Call) (given : Reply) → (is : Answered limits pass before after asked given) →
    place after ≡ place before + place (is.event ∷ [])
place_after limits pass before after asked given is =
    let pushed = place-append is.earlier (is.event ∷ []) in
    let first = is.first.at_place in
    let last = is.last.at_place in
    omega arith

-- and so are the takes
pub takes_after : (limits : Limits) (pass : ℕ) (before after : List Event) (asked : Call) (given : Reply) → (is : Answered limits pass before after asked given) →
    count_of_takes after ≡ count_of_takes before + cond (fills_column is.event) 1 0
takes_after limits pass before after asked given is =
    let pushed = filled-push is.earlier is.event in
    let first = is.first.filled_same in
    let last = is.last.filled_same in
    let filled_before = is.filled_before in
    let filled_after = is.filled_after in
    omega arith
