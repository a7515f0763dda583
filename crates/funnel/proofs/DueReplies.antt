-- Which replies a run can have: it is too short to spend its history.
use Rattle.std.proofs.Common.{◌≡◌, ◌+◌, ◌<◌, ◌≤◌, ◌⊎◌, ℕ, Bool, true, false, cond, List, [], ◌∷◌, ◌++◌, length, refl, sym, ap, ◌∙◌, subst, inl, inr, arith, length-append}
use Rattle.std.proofs.lemmas.List.{length-map}
use Rattle.std.specs.List.{fold}
use Rattle.std.specs.Prelude.{◌==◌}
use Rattle.engine.specs.Engines.{ClosedState}
use Rattle.funnel_io.specs.Lines.{Cut, cut_byte, last_line, lines, rest_of, whole_lines}
use Rattle.funnel_io.specs.Streams.{Incoming, Outgoing}
use Rattle.funnel_io.specs.declared.end.End.{End}
use Rattle.funnel_io.specs.declared.end.End.TheVariants as end_of
use Rattle.funnel_model.specs.declared.call.Call.{Call}
use Rattle.funnel_model.specs.declared.call.Call.TheVariants as call
use Rattle.funnel_model.specs.declared.config.Config.{Config}
use Rattle.funnel_model.specs.declared.event.Event.{Event}
use Rattle.funnel_model.specs.declared.reply.Reply.{Reply}
use Rattle.funnel_model.specs.declared.reply.Reply.TheVariants as reply
use Rattle.funnel_model.specs.Legal.{Limits}
use Rattle.funnel_model.specs.Steps.{FindsNoMemory, Step}
use Rattle.funnel_model.proofs.StepCauses.{memory_cause, spent_cause}
use Rattle.funnel_model.proofs.StepLemmas.{linear-grows}
use Rattle.funnel_stats.specs.Tunings.{Tuned, Gives, Faulty, Wide, tuned}
use Rattle.line_proto.specs.Forms.{Item, Asks, Malformed, TooLong, Calls, Searches, Tunes, item_of, items}
use Rattle.line_proto.specs.Services.{AnswersTuned, Caller, IsUnread, searched}
use Rattle.load_laws.proofs.EventCounts.{few_events_of_calls}
use Rattle.load_laws.specs.LonePass.{IsAlone}
use Rattle.session.proofs.SessionLaws.{calls_few, runs_calls}
use Rattle.session.specs.Ends.{IsWithin}
use Rattle.session.specs.Sessions.{Answers, AnswersItem, Session}
use Rattle.funnel.specs.Laws.{AnswersInput, AreDue, CallTakesMemory, IsDue, RepliesAreDue}
use Rattle.funnel.specs.Runs.{Ran, first_caller, limits_by}
use Rattle.session.specs.declared.serving.TheConstants.{MOST_BYTES}
use Rattle.funnel.specs.declared.ends.Why.{Why}

-- the cut after a byte that ends a line, or doesn't
abbrev next_cut : Cut → ℕ → Bool → Cut
next_cut now byte true = record { whole = now.whole ++ now.rest ∷ []; rest = [] }
next_cut now byte false = record { whole = now.whole; rest = now.rest ++ byte ∷ [] }

next_few : (now : Cut) (byte : ℕ) (ends : Bool) → length (next_cut now byte ends).whole + length (next_cut now byte ends).rest ≤ length now.whole + length now.rest + 1
next_few now byte true = omega (arith, length-append now.whole (now.rest ∷ []))
next_few now byte false = omega (arith, length-append now.rest (byte ∷ []))

-- one byte makes one line more at most
one_byte : (now : Cut) (byte : ℕ) → length (cut_byte now byte).whole + length (cut_byte now byte).rest ≤ length now.whole + length now.rest + 1
one_byte now byte = subst (λ (next : Cut). length next.whole + length next.rest ≤ length now.whole + length now.rest + 1) (by_test (byte == 10)) (next_few now byte (byte == 10)) where
  by_test : (ends : Bool) → next_cut now byte ends ≡ cond ends (next_cut now byte true) (next_cut now byte false)
  by_test true = refl
  by_test false = refl

cut_few : (bytes : List ℕ) (now : Cut) →
    length (fold cut_byte now bytes).whole + length (fold cut_byte now bytes).rest ≤ length now.whole + length now.rest + length bytes
cut_few [] now = omega arith
cut_few (byte ∷ bytes) now = omega (arith, one_byte now byte, cut_few bytes (cut_byte now byte))

last_few : (rest : List ℕ) (ended : Bool) → length (last_line rest ended) ≤ length rest
last_few rest false = omega arith
last_few [] true = omega arith
last_few (byte ∷ bytes) true = omega arith

-- so bytes have at most as many lines
items_few : (bytes : List ℕ) (ended : Bool) → length (items bytes ended) ≤ length bytes
items_few bytes ended = omega (
  arith,
  length-map (lines bytes ended) item_of,
  length-append (whole_lines bytes) (last_line (rest_of bytes) ended),
  last_few (rest_of bytes) ended,
  cut_few bytes (record { whole = []; rest = [] }),
)

takes_memory : (pass : ℕ) (before after : List Event) (asked : Call) → FindsNoMemory pass before after asked → CallTakesMemory asked
takes_memory pass before after (call.Add id text) found = tt
takes_memory pass before after (call.Put id text) found = tt
takes_memory pass before after (call.Get id) found = tt
takes_memory pass before after (call.Find query) found = tt
takes_memory pass before after (call.Query expr) found = tt
takes_memory pass before after (call.Count expr) found = tt
takes_memory pass before after (call.Newest expr most) found = tt
takes_memory pass before after (call.Oldest expr most) found = tt
takes_memory pass before after (call.Journal from) found = tt
takes_memory pass before after (call.Tune config) found = tt
takes_memory pass before after _ none = absurd none

-- a call that leads to fewer events than there may be
due_call : (limits : Limits) (pass : ℕ) (before after : List Event) (asked : Call) (given : Reply) → Step limits pass before after asked given →
    length after < limits.events → IsDue (Asks (Calls asked)) given
due_call limits pass before after asked given step few = record {
  unspent = λ is. absurd (omega (arith, few, (spent_cause limits pass before after asked (subst (Step limits pass before after asked) is step)).0));
  memory = λ is. takes_memory pass before after asked (memory_cause limits pass before after asked (subst (Step limits pass before after asked) is step));
}

-- what is refused otherwise, or for want of memory, isn't spent
told_otherwise : (given other : Reply) → (other ≡ reply.Spent → ⊥) → (given ≡ other) ⊎ (given ≡ reply.Memory) → given ≡ reply.Spent → ⊥
told_otherwise given other unlike (inl told) is = unlike (sym told ∙ is)
told_otherwise given other unlike (inr told) is = let lacks = sym told ∙ is in cc

-- what comes of a tuning's text
due_tuned : (caller : Caller) (before after : List Event) (text : List ℕ) (comes : Tuned) (given : Reply) → AnswersTuned caller before after comes given →
    length after < caller.limits.events → IsDue (Asks (Tunes text)) given
due_tuned caller before after text (Gives config) given answers few =
    let due = due_call caller.limits caller.pass before after (call.Tune config) given answers.step few in
    record { unspent = due.unspent; memory = λ is. tt }
due_tuned caller before after text (Faulty fault) given answers few =
    record { unspent = told_otherwise given (reply.Tuning fault) (λ is. cc) answers.1; memory = λ is. tt }
due_tuned caller before after text (Wide needed room) given answers few =
    record { unspent = told_otherwise given (reply.Wide needed room) (λ is. cc) answers.1; memory = λ is. tt }

due_item : (caller : Caller) (before after : List Event) (item : Item) (given : Reply) → AnswersItem caller before item given after →
    length after < caller.limits.events → IsDue item given
due_item caller before after (Asks (Calls asked)) given answers few = due_call caller.limits caller.pass before after asked given answers.step few
due_item caller before after (Asks (Searches told sought)) given (inl read) few =
    let due = due_call caller.limits caller.pass before after (searched told read.expr) given read.answers.step few in
    record { unspent = due.unspent; memory = λ is. tt }
due_item caller before after (Asks (Searches told sought)) given (inr unread) few =
    record { unspent = λ is. subst (IsUnread sought) is unread.1; memory = λ is. tt }
due_item caller before after (Asks (Tunes text)) given answers few = due_tuned caller before after text (tuned caller.opening text) given answers few
due_item caller before after Malformed given answers few =
    record { unspent = λ is. let other = sym answers.0 ∙ is in cc; memory = λ is. let other = sym answers.0 ∙ is in cc }
due_item caller before after TooLong given answers few =
    record { unspent = λ is. let other = sym answers.0 ∙ is in cc; memory = λ is. let other = sym answers.0 ∙ is in cc }

due_all : (caller : Caller) (before after : List Event) (asked : List Item) (replies : List Reply) → Answers caller before asked replies after →
    length after < caller.limits.events → AreDue asked replies
due_all caller before after [] [] run few = tt
due_all caller before after (item ∷ items) (given ∷ replies) run few =
    let later = runs_calls caller run.0 after items replies run.2 in
    let grows = linear-grows caller.limits caller.pass run.0 after later.calls later.told later.steps in
    (due_item caller before run.0 item given run.1 (omega (arith, few, length-append run.0 grows.0, ap length grows.1)), due_all caller run.0 after items replies run.2 few)
due_all caller before after [] (given ∷ replies) run few = absurd run
due_all caller before after (item ∷ items) [] run few = absurd run

module _ (config : Config) (history : List Event) (alone : IsAlone 0 history) where
  -- the replies to so few items of a pass that is alone
  due_of_few : (asked : List Item) (replies : List Reply) → length asked ≤ MOST_BYTES → Answers (first_caller config (limits_by config)) [] asked replies history →
      AreDue asked replies
  due_of_few asked replies few answers =
      let caller = first_caller config (limits_by config) in
      let runs = runs_calls caller [] history asked replies answers in
      let events = few_events_of_calls caller.limits 0 history runs.calls runs.told runs.steps alone in
      due_all caller [] history asked replies answers (omega (arith, events, calls_few config asked replies runs.calls runs.told runs.are, few))

  due_of_items : (taken : List ℕ) (ended : Bool) (replies : List Reply) → length taken ≤ MOST_BYTES →
      Answers (first_caller config (limits_by config)) [] (items taken ended) replies history → AreDue (items taken ended) replies
  due_of_items taken ended replies few answers = due_of_few (items taken ended) replies (omega (arith, few, items_few taken ended)) answers

  due_of_session : (taken written : List ℕ) (end : End) (session : Session (first_caller config (limits_by config)) [] history taken written end) →
      IsWithin MOST_BYTES (length taken) end → RepliesAreDue (first_caller config (limits_by config)) [] history taken written end session
  due_of_session taken written end_of.Done session within = due_of_items taken true session.replies (omega (arith, within)) session.answers
  due_of_session taken written end_of.ReadFault session within = due_of_items taken false session.replies (omega (arith, within)) session.answers
  due_of_session taken written (end_of.ByteLimit limit) session within =
      due_of_items taken false session.1.replies (omega (arith, within.1)) session.1.answers
  due_of_session taken written end_of.WriteFault session within =
      due_of_few session.first session.replies
      (omega (arith, within, items_few taken true, ap length session.asked_are, length-append session.first session.others)) session.answers
  due_of_session taken written end_of.Memory session within = tt

pub replies_are_due : (config : Config) (incoming later_incoming : Incoming) (outgoing later_outgoing : Outgoing) (why : Why) (closed : ClosedState)
    (ran : Ran config incoming later_incoming outgoing later_outgoing why closed) →
    RepliesAreDue (first_caller config (limits_by config)) [] closed.history ran.serves.taken ran.serves.written ran.end ran.serves.session
replies_are_due config incoming later_incoming outgoing later_outgoing why closed ran =
    due_of_session config closed.history ran.of_first.alone ran.serves.taken ran.serves.written ran.end ran.serves.session ran.serves.within

-- so it is with a whole input that is short enough
pub input_is_due : (config : Config) (bytes : List ℕ) (before after : Outgoing) (closed : ClosedState) (answers : AnswersInput config bytes before after closed) →
    length bytes < MOST_BYTES → AreDue (items bytes true) answers.replies
input_is_due config bytes before after closed answers few =
    due_of_items config closed.history answers.of_first.alone bytes true answers.replies (omega (arith, few)) answers.answers
