-- A list that finds no memory for its text may be answered as a want of memory.
use Rattle.std.proofs.Common.{◌≡◌, ⊎_elim, ℕ, ◌+◌, Bool, true, false, cond, List, [], Option, Some, None, length, sym, refl, ap, ◌∙◌, subst, inl, inr}
use Rattle.std.specs.Option.{option_map_or}
use Rattle.std.specs.Prelude.{◌==◌}
use Rattle.funnel_model.specs.declared.call.Call.{Call}
use Rattle.funnel_model.specs.declared.call.Call.TheVariants as call
use Rattle.funnel_model.specs.declared.event.Event.{Event}
use Rattle.funnel_model.specs.declared.event.Event.TheVariants as event
use Rattle.funnel_model.specs.declared.reply.Reply.{Reply}
use Rattle.funnel_model.specs.declared.reply.Reply.TheVariants as reply
use Rattle.funnel_model.specs.declared.expr.Expr.{Expr}
use Rattle.funnel_model.specs.Events.{call_of, pass_of}
use Rattle.funnel_model.specs.History.{is_live, live_place, place}
use Rattle.funnel_model.specs.Legal.{Limits}
use Rattle.funnel_model.specs.Steps.{AddsCall, FindsNoMemory, IsReply, IsReplyToRecycle, IsReplyToRefused, IsReplyToStats, Step, expression_of, is_placed, place_told}
use Rattle.funnel_model.specs.Tunings.{tunings}
use Rattle.funnel_model.proofs.ReplyLemmas.{dropped_at}
use Rattle.funnel_stats.specs.Tunings.{Tuned, Gives, Faulty, Wide, tuned}
use Rattle.line_proto.specs.Forms.{Asked, Calls, Searches, Tunes}
use Rattle.line_proto.specs.Services.{AnswersAsked, AnswersCall, AnswersTuned, Caller, searched}
use Rattle.line_proto.specs.Texts.{is_list}

-- a reply that is none of the lists is no list
pub not_long : (given x : Reply) → given ≡ x → is_list x ≡ false → is_list given ≡ true → ⊥
not_long given x same up down = both (is_list given) (ap is_list same ∙ up) down where
  both : (b : Bool) → b ≡ false → b ≡ true → ⊥
  both b up down = cc

placed : (o : Option ℕ) (other : Reply) → is_list other ≡ false → is_list (option_map_or reply.Present o other) ≡ false
placed None other is = is
placed (Some n) other is = refl

-- what tells of a document that was added is no list
told_place : (replaced : Bool) (n : ℕ) → is_list (place_told replaced n) ≡ false
told_place true n = refl
told_place false n = refl

placed_is_short : (given : Reply) → is_placed given ≡ true → is_list given ≡ true → ⊥
placed_is_short (reply.Added n) is long = cc
placed_is_short (reply.Replaced n) is long = cc
placed_is_short given is long = cc

-- nor are the numbers of the engine
stats_are_short : (limits : Limits) (history : List Event) (given : Reply) → IsReplyToStats limits history given → is_list given ≡ true → ⊥
stats_are_short limits history (reply.Stats stats) is long = cc
stats_are_short limits history given is long = absurd is

-- a refused recycle is answered by no list
recycle_is_short : (limits : Limits) (history : List Event) (given : Reply) → IsReplyToRecycle limits history given → is_list given ≡ true → ⊥
recycle_is_short limits history reply.NothingRetired is long = cc
recycle_is_short limits history (reply.Guarded slice pass) is long = cc
recycle_is_short limits history given is long = absurd is

-- nor is another refused call
refused_is_short : (limits : Limits) (history : List Event) (asked : Call) (given : Reply) → IsReplyToRefused limits history asked given → is_list given ≡ true → ⊥
refused_is_short limits history (call.Add id text) given is long =
    not_long given (option_map_or reply.Present (live_place id history) reply.Full) is (placed (live_place id history) reply.Full refl) long
refused_is_short limits history (call.Put id text) given is long = not_long given reply.Full is refl long
refused_is_short limits history (call.Delete id) given is long = not_long given reply.Absent is refl long
refused_is_short limits history call.Recycle given is long = recycle_is_short limits history given is long
refused_is_short limits history asked given is long = absurd is

-- the call of an option is one
the_same : (x y : Call) → Some x ≡ Some y → x ≡ y
the_same x y is = cc

-- what holds of the call that was asked holds of the call of the event
at_call : (asked made : Call) (P : Call → Type 0) → Some made ≡ Some asked → P asked → P made
at_call asked made P is holds = subst P (sym (the_same made asked is)) holds

-- a call that is answered by a list may be one that found no memory for it
lists_want_memory : (limits : Limits) (pass : ℕ) (history before after : List Event) (e : Event) (asked : Call) (given : Reply) → IsReply limits history e given →
    is_list given ≡ true → call_of e ≡ Some asked → AddsCall pass before after asked → FindsNoMemory pass before after asked
lists_want_memory limits pass history before after (event.Add p id text s c bits) asked given is long by made =
    absurd (not_long given (place_told (is_live id history) (place history + 1)) is (told_place (is_live id history) (place history + 1)) long)
lists_want_memory limits pass history before after (event.Drop p id text s c) asked given is long by made =
    let at = dropped_at (live_place id history) given is in absurd (not_long given (reply.Present at.0) (sym at.2) refl long)
lists_want_memory limits pass history before after (event.Del p id) asked given is long by made = absurd (not_long given (reply.Deleted (place history + 1)) is refl long)
lists_want_memory limits pass history before after (event.Find p query) asked given is long by made =
    subst (FindsNoMemory pass before after) (the_same (call.Find query) asked by) (inr (at_call asked (call.Find query) (AddsCall pass before after) by made))
lists_want_memory limits pass history before after (event.Opened p s alone) asked given is long by made = absurd (not_long given (reply.Recycled s) is.1 refl long)
lists_want_memory limits pass history before after (event.Tune p config) asked given is long by made =
    absurd (not_long given (reply.Tuned (length (tunings history) + 1)) is refl long)
lists_want_memory limits pass history before after (event.No p refused) asked given is long by made = absurd (refused_is_short limits history refused given is long)
lists_want_memory limits pass history before after (event.Read p (call.Journal from)) asked given is long by made =
    subst (FindsNoMemory pass before after) (the_same (call.Journal from) asked by) (inr (at_call asked (call.Journal from) (AddsCall pass before after) by made))
lists_want_memory limits pass history before after (event.Read p (call.Get id)) asked given is long by made =
    subst (FindsNoMemory pass before after) (the_same (call.Get id) asked by) (inr (at_call asked (call.Get id) (AddsCall pass before after) by made))
lists_want_memory limits pass history before after (event.Read p call.Stats) asked given is long by made = absurd (stats_are_short limits history given is long)
lists_want_memory limits pass history before after (event.Read p call.Place) asked given is long by made = absurd (not_long given (reply.Place (place history)) is refl long)
lists_want_memory limits pass history before after e asked given is long by made = absurd is

-- a call that searches by an expression may have found none, too
search_wants_memory : (pass : ℕ) (before after : List Event) (asked : Call) (expr : Expr) → expression_of asked ≡ Some expr → AddsCall pass before after (call.Find []) →
    FindsNoMemory pass before after asked
search_wants_memory pass before after (call.Query kept) expr is made = inr made
search_wants_memory pass before after (call.Count kept) expr is made = inr made
search_wants_memory pass before after (call.Newest kept most) expr is made = inr made
search_wants_memory pass before after (call.Oldest kept most) expr is made = inr made
search_wants_memory pass before after asked expr is made = absurd (cc)

-- the call of an event of the pass is the event's
of_event : (b : Bool) (o : Option Call) (asked : Call) → cond b o None ≡ Some asked → o ≡ Some asked
of_event true o asked is = is
of_event false o asked is = cc

-- a call whose list found no memory for its text was made, or not
without_memory : (limits : Limits) (pass : ℕ) (before after : List Event) (asked : Call) (given : Reply) → is_list given ≡ true → Step limits pass before after asked given →
    Step limits pass before after asked reply.Memory
without_memory limits pass before after asked given long step =
    ⊎_elim
    (λ made.
    let answered = made.answered in
    let call = of_event (pass_of answered.event == pass) (call_of answered.event) asked answered.call in
    record {
      grows = step.grows;
      legal = step.legal;
      idle_before = step.idle_before;
      idle_after = step.idle_after;
      few_moves = step.few_moves;
      outcome = inr (inl (record { reply = refl; call = lists_want_memory limits pass answered.earlier before after answered.event asked given answered.reply long call made.call }));
    })
    (λ others. ⊎_elim
    (λ lacks. absurd (not_long given reply.Memory lacks.reply refl long))
    (λ more. ⊎_elim
    (λ spent. absurd (not_long given reply.Spent spent.reply refl long))
    (λ last. ⊎_elim
    (λ judged.
    record {
      grows = step.grows;
      legal = step.legal;
      idle_before = step.idle_before;
      idle_after = step.idle_after;
      few_moves = step.few_moves;
      outcome = inr (inl (record { reply = refl; call = search_wants_memory pass before after asked judged.expr judged.query judged.call }));
    })
    (λ put. absurd (placed_is_short given put.placed long))
    last)
    more)
    others)
    step.outcome

-- and over a front that is spent it isn't made
call_without_memory : (caller : Caller) (before after : List Event) (asked : Call) (given : Reply) → is_list given ≡ true → AnswersCall caller before after asked given →
    AnswersCall caller before after asked reply.Memory
call_without_memory caller before after asked given long answers = record {
  step = without_memory caller.limits caller.pass before after asked given long answers.step;
  spent = λ many. record { reply = inr refl; call = (answers.spent many).call };
}

-- so it is with what comes of a tuning's text
tuned_without_memory : (caller : Caller) (before after : List Event) (comes : Tuned) (given : Reply) → is_list given ≡ true → AnswersTuned caller before after comes given →
    AnswersTuned caller before after comes reply.Memory
tuned_without_memory caller before after (Gives config) given long answers = call_without_memory caller before after (call.Tune config) given long answers
tuned_without_memory caller before after (Faulty fault) given long answers = (answers.0, inr refl)
tuned_without_memory caller before after (Wide needed room) given long answers = (answers.0, inr refl)

-- and with what is asked
pub asked_without_memory : (caller : Caller) (before after : List Event) (asked : Asked) (given : Reply) → is_list given ≡ true → AnswersAsked caller before after asked given →
    AnswersAsked caller before after asked reply.Memory
asked_without_memory caller before after (Calls asked) given long answers = call_without_memory caller before after asked given long answers
asked_without_memory caller before after (Searches told sought) given long (inl read) =
    inl (record { expr = read.expr; reads = read.reads; answers = call_without_memory caller before after (searched told read.expr) given long read.answers })
asked_without_memory caller before after (Searches told sought) given long (inr unread) = inr (unread.0, tt)
asked_without_memory caller before after (Tunes text) given long answers = tuned_without_memory caller before after (tuned caller.opening text) given long answers
