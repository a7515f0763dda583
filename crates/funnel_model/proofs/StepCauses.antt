-- What the answer of a step tells of it.
use Rattle.std.proofs.Common.{◌≡◌, ℕ, ◌+◌, ◌<◌, ◌≤◌, ⊎_elim, inl, inr, Bool, true, false, cond, List, [], ◌∷◌, ◌++◌, length, Option, Some, None, sym, refl, ap, ◌∙◌, subst}
use Rattle.std.proofs.lemmas.Bool.{both_ways, cases_order}
use Rattle.std.specs.List.{cons_option}
use Rattle.std.specs.Option.{is_some, option_map_or}
use Rattle.std.specs.Prelude.{◌==◌, ◌⊎◌, nat_lt}
use Rattle.funnel_model.specs.declared.call.Call.{Call}
use Rattle.funnel_model.specs.declared.call.Call.TheVariants as call
use Rattle.funnel_model.specs.declared.commit.Commit.{Commit}
use Rattle.funnel_model.specs.declared.event.Event.{Event}
use Rattle.funnel_model.specs.declared.event.Event.TheVariants as event
use Rattle.funnel_model.specs.declared.reply.Reply.{Reply}
use Rattle.funnel_model.specs.declared.reply.Reply.TheVariants as reply
use Rattle.funnel_model.specs.Events.{call_of, pass_of}
use Rattle.funnel_model.specs.Expressions.{answer_by, tree_of}
use Rattle.funnel_model.specs.History.{Document, base, call_by, commits_after, document_with, is_live, live_place, own, place}
use Rattle.funnel_model.specs.Legal.{Limits}
use Rattle.funnel_model.specs.Steps.{AddsNone, AnswersLast, FindsNoMemory, IsJudged, IsMade, IsPut, IsReply, IsReplyToRead, IsReplyToRecycle, IsReplyToRefused, IsReplyToStats, IsSpent, LacksMemory, Step, expression_of, is_replaced, place_told, text_told, told_of}
use Rattle.funnel_model.proofs.ReplyLemmas.{dropped_at, one_reply}
use Rattle.funnel_model.proofs.Retirement.{same_split, split_front}
use Rattle.funnel_model.proofs.Spans.{not_empty}
use Rattle.funnel_model.proofs.StepLemmas.{own-append}

-- whether a reply is one that no event gives: it comes from outside the history
abbrev pub is_outside : Reply → Bool
is_outside reply.Spent = true
is_outside reply.Memory = true
is_outside reply.Line = true
is_outside (reply.Tuning fault) = true
is_outside (reply.Wide needed room) = true
is_outside (reply.Query at) = true
is_outside (reply.Deep at) = true
is_outside reply.Long = true
is_outside _ = false

-- whether it is the reply to a line that is no call: one without a form, one that is too long, a tuning that has a fault or needs too
-- much room, and a text that is no boolean query
abbrev pub is_line : Reply → Bool
is_line reply.Line = true
is_line (reply.Tuning fault) = true
is_line (reply.Wide needed room) = true
is_line (reply.Query at) = true
is_line (reply.Deep at) = true
is_line reply.Long = true
is_line _ = false

line_is_outside : (given : Reply) → is_line given ≡ true → is_outside given ≡ true
line_is_outside reply.Line is = refl
line_is_outside reply.Long is = refl
line_is_outside (reply.Tuning fault) is = refl
line_is_outside (reply.Wide needed room) is = refl
line_is_outside (reply.Query at) is = refl
line_is_outside (reply.Deep at) is = refl
line_is_outside _ is = cc

-- no refused recycle is answered so
recycle_inside : (limits : Limits) (history : List Event) (given : Reply) → IsReplyToRecycle limits history given → is_outside given ≡ false
recycle_inside limits history reply.NothingRetired is = refl
recycle_inside limits history (reply.Guarded slice pass) is = refl
recycle_inside limits history given is = absurd is

-- nor any other refused call
refused_inside : (limits : Limits) (history : List Event) (asked : Call) (given : Reply) → IsReplyToRefused limits history asked given → is_outside given ≡ false
refused_inside limits history (call.Add id text) given is = ap is_outside is ∙ inside (live_place id history) where
  inside : (o : Option ℕ) → is_outside (option_map_or reply.Present o reply.Full) ≡ false
  inside (Some n) = refl
  inside None = refl
refused_inside limits history (call.Put id text) given is = ap is_outside is
refused_inside limits history (call.Delete id) given is = ap is_outside is
refused_inside limits history call.Recycle given is = recycle_inside limits history given is
refused_inside limits history asked given is = absurd is

-- nor an add that is done, a get, or the numbers of the engine
placed_inside : (b : Bool) (n : ℕ) → is_outside (place_told b n) ≡ false
placed_inside true n = refl
placed_inside false n = refl

text_inside : (o : Option Document) → is_outside (text_told o) ≡ false
text_inside (Some document) = refl
text_inside None = refl

stats_inside : (limits : Limits) (history : List Event) (given : Reply) → IsReplyToStats limits history given → is_outside given ≡ false
stats_inside limits history (reply.Stats stats) is = refl
stats_inside limits history given is = absurd is

-- no event gives such a reply
reply_inside : (limits : Limits) (history : List Event) (e : Event) (given : Reply) → IsReply limits history e given → is_outside given ≡ false
reply_inside limits history (event.Add pass id text slice column bits) given is = ap is_outside is ∙ placed_inside (is_live id history) (place history + 1)
reply_inside limits history (event.Drop pass id text slice column) given is = ap is_outside (sym (dropped_at (live_place id history) given is).2)
reply_inside limits history (event.Del pass id) given is = ap is_outside is
reply_inside limits history (event.Find pass query) given is = ap is_outside is
reply_inside limits history (event.Opened pass slice alone) given is = ap is_outside is.1
reply_inside limits history (event.No pass asked) given is = refused_inside limits history asked given is
reply_inside limits history (event.Tune pass config) given is = ap is_outside is
reply_inside limits history (event.Read pass call.Place) given is = ap is_outside is
reply_inside limits history (event.Read pass (call.Journal from)) given is =
    ap is_outside is ∙ inside (nat_lt from (base limits.commits history)) (base limits.commits history) (commits_after history from) where
      inside : (b : Bool) (n : ℕ) (commits : List Commit) → is_outside (cond b (reply.Trimmed n) (reply.Commits commits)) ≡ false
      inside true n commits = refl
      inside false n commits = refl
reply_inside limits history (event.Read pass (call.Get id)) given is = ap is_outside is ∙ text_inside (document_with id history)
reply_inside limits history (event.Read pass call.Stats) given is = stats_inside limits history given is
reply_inside limits history (event.Read pass _) given is = absurd is
reply_inside limits history _ given is = absurd is

-- a call that is answered from outside the history wasn't made
not_made : (limits : Limits) (pass : ℕ) (history : List Event) (asked : Call) (given : Reply) → AnswersLast limits pass history asked given → is_outside given ≡ true → ⊥
not_made limits pass history asked given answered outside =
    both_ways (is_outside given) (reply_inside limits answered.earlier answered.event given answered.reply) outside

-- nor is it told of what an expression keeps
told_inside : (asked : Call) (ids : List ℕ) → is_outside (told_of asked ids) ≡ false
told_inside (call.Count expr) ids = refl
told_inside (call.Newest expr most) ids = refl
told_inside (call.Oldest expr most) ids = refl
told_inside _ ids = refl

not_judged : (pass : ℕ) (before after : List Event) (asked : Call) (given : Reply) → IsJudged pass before after asked given → is_outside given ≡ true → ⊥
not_judged pass before after asked given judged outside =
    both_ways (is_outside given) (ap is_outside judged.reply ∙ told_inside asked (answer_by judged.earlier (tree_of judged.expr))) outside

-- nor of a put that was done
not_put : (limits : Limits) (pass : ℕ) (before after : List Event) (asked : Call) (given : Reply) → IsPut limits pass before after asked given → is_outside given ≡ true → ⊥
not_put limits pass before after asked given put outside = not_made limits pass after (call.Add put.id put.text) given put.answered outside

-- so it comes of want of memory, or of so many events
from_outside : (limits : Limits) (pass : ℕ) (before after : List Event) (asked : Call) (given : Reply) → is_outside given ≡ true → Step limits pass before after asked given →
    LacksMemory pass before after asked given ⊎ IsSpent limits pass before after given
from_outside limits pass before after asked given outside step =
    ⊎_elim
    (λ made. absurd (not_made limits pass after asked given made.answered outside))
    (λ rest. ⊎_elim
    (λ lacks. inl lacks)
    (λ more. ⊎_elim
    (λ spent. inr spent)
    (λ last. ⊎_elim
    (λ judged. absurd (not_judged pass before after asked given judged outside))
    (λ put. absurd (not_put limits pass before after asked given put outside))
    last)
    more)
    rest)
    step.outcome

-- Spent comes only of so many events
pub spent_cause : (limits : Limits) (pass : ℕ) (before after : List Event) (asked : Call) → Step limits pass before after asked reply.Spent →
    (limits.events ≤ length after) × AddsNone pass before after
spent_cause limits pass before after asked step =
    ⊎_elim (λ lacks. let other = lacks.reply in cc) (λ spent. (spent.many, spent.call)) (from_outside limits pass before after asked reply.Spent refl step)

-- want of memory comes only to a call that may want it
pub memory_cause : (limits : Limits) (pass : ℕ) (before after : List Event) (asked : Call) → Step limits pass before after asked reply.Memory →
    FindsNoMemory pass before after asked
memory_cause limits pass before after asked step =
    ⊎_elim (λ lacks. lacks.call) (λ spent. let other = spent.reply in cc) (from_outside limits pass before after asked reply.Memory refl step)

-- and no step is answered as a line that is no call
pub never_unread : (limits : Limits) (pass : ℕ) (before after : List Event) (asked : Call) (given : Reply) → is_line given ≡ true →
    Step limits pass before after asked given → ⊥
never_unread limits pass before after asked given unread step =
    ⊎_elim
    (λ lacks. both_ways (is_line given) (ap is_line lacks.reply) unread)
    (λ spent. both_ways (is_line given) (ap is_line spent.reply) unread)
    (from_outside limits pass before after asked given (line_is_outside given unread) step)

-- whether a call searches by an expression
abbrev pub is_query : Call → Bool
is_query asked = is_some (expression_of asked)

-- a call that may be refused, or that only reads, doesn't
refused_is_no_query : (limits : Limits) (history : List Event) (asked : Call) (given : Reply) → IsReplyToRefused limits history asked given → is_query asked ≡ false
refused_is_no_query limits history (call.Add id text) given is = refl
refused_is_no_query limits history (call.Put id text) given is = refl
refused_is_no_query limits history (call.Delete id) given is = refl
refused_is_no_query limits history call.Recycle given is = refl
refused_is_no_query limits history asked given is = absurd is

read_is_no_query : (limits : Limits) (history : List Event) (asked : Call) (given : Reply) → IsReplyToRead limits history asked given → is_query asked ≡ false
read_is_no_query limits history call.Place given is = refl
read_is_no_query limits history (call.Journal from) given is = refl
read_is_no_query limits history (call.Get id) given is = refl
read_is_no_query limits history call.Stats given is = refl
read_is_no_query limits history asked given is = absurd is

-- no event that answers a call gives a reply to one that searches by an expression
no_event_of_query : (limits : Limits) (history : List Event) (e : Event) (asked : Call) (given : Reply) → call_of e ≡ Some asked →
    IsReply limits history e given → is_query asked ≡ false
no_event_of_query limits history (event.Add pass id text slice column bits) asked given called is = let same : call.Add id text ≡ asked = cc in ap is_query (sym same)
no_event_of_query limits history (event.Drop pass id text slice column) asked given called is = let same : call.Add id text ≡ asked = cc in ap is_query (sym same)
no_event_of_query limits history (event.Del pass id) asked given called is = let same : call.Delete id ≡ asked = cc in ap is_query (sym same)
no_event_of_query limits history (event.Find pass query) asked given called is = let same : call.Find query ≡ asked = cc in ap is_query (sym same)
no_event_of_query limits history (event.Opened pass slice alone) asked given called is =
    let some : Some call.Recycle ≡ Some asked = sym (ap (λ b. cond b (Some call.Recycle) None) is.0) ∙ called in
    let same : call.Recycle ≡ asked = cc in ap is_query (sym same)
no_event_of_query limits history (event.Tune pass config) asked given called is = let same : call.Tune config ≡ asked = cc in ap is_query (sym same)
no_event_of_query limits history (event.No pass refused) asked given called is =
    let same : refused ≡ asked = cc in ap is_query (sym same) ∙ refused_is_no_query limits history refused given is
no_event_of_query limits history (event.Read pass read) asked given called is =
    let same : read ≡ asked = cc in ap is_query (sym same) ∙ read_is_no_query limits history read given is
no_event_of_query limits history _ asked given called is = absurd is

-- so such a call is never the call of an event
pub query_not_made : (limits : Limits) (pass : ℕ) (before after : List Event) (asked : Call) (given : Reply) → is_query asked ≡ true →
    IsMade limits pass before after asked given → ⊥
query_not_made limits pass before after asked given searches made =
    let is = made.answered in
    both_ways (is_query asked) (no_event_of_query limits is.earlier is.event asked given (by_test (pass_of is.event == pass) is.call) is.reply) searches where
      by_test : (b : Bool) → cond b (call_of made.answered.event) None ≡ Some asked → call_of made.answered.event ≡ Some asked
      by_test true called = called
      by_test false called = cc

-- and only such a call is judged
pub only_queries_are_judged : (pass : ℕ) (before after : List Event) (asked : Call) (given : Reply) → is_query asked ≡ false → IsJudged pass before after asked given → ⊥
only_queries_are_judged pass before after asked given other judged = both_ways (is_query asked) other (ap is_some judged.query)

-- whether a call is a put
abbrev pub is_put : Call → Bool
is_put (call.Put id text) = true
is_put _ = false

-- only a put is done as one
pub only_puts_are_put : (limits : Limits) (pass : ℕ) (before after : List Event) (asked : Call) (given : Reply) → is_put asked ≡ false →
    IsPut limits pass before after asked given → ⊥
only_puts_are_put limits pass before after asked given other put = both_ways (is_put asked) other (ap is_put put.put)

-- a call that searches by an expression is no put
query_is_no_put : (asked : Call) → is_query asked ≡ true → is_put asked ≡ false
query_is_no_put (call.Put id text) searches = cc
query_is_no_put _ searches = refl

-- such a call is answered by its expression, and for no other cause than want of memory or that the history is spent it isn't
pub query_outcome : (limits : Limits) (pass : ℕ) (before after : List Event) (asked : Call) (given : Reply) → is_query asked ≡ true → Step limits pass before after asked given →
    LacksMemory pass before after asked given ⊎ IsSpent limits pass before after given ⊎ IsJudged pass before after asked given
query_outcome limits pass before after asked given searches step =
    ⊎_elim
    (λ made. absurd (query_not_made limits pass before after asked given searches made))
    (λ rest. ⊎_elim
    (λ lacks. inl lacks)
    (λ more. ⊎_elim
    (λ spent. inr (inl spent))
    (λ last. ⊎_elim
    (λ judged. inr (inr judged))
    (λ put. absurd (only_puts_are_put limits pass before after asked given (query_is_no_put asked searches) put))
    last)
    more)
    rest)
    step.outcome

-- a call that neither searches by an expression nor is a put was made, or lacks memory, or came to a spent history
pub made_outcome : (limits : Limits) (pass : ℕ) (before after : List Event) (asked : Call) (given : Reply) → is_query asked ≡ false → is_put asked ≡ false →
    Step limits pass before after asked given →
    IsMade limits pass before after asked given ⊎ LacksMemory pass before after asked given ⊎ IsSpent limits pass before after given
made_outcome limits pass before after asked given no_query no_put step =
    ⊎_elim
    (λ made. inl made)
    (λ rest. ⊎_elim
    (λ lacks. inr (inl lacks))
    (λ more. ⊎_elim
    (λ spent. inr (inr spent))
    (λ last. ⊎_elim
    (λ judged. absurd (only_queries_are_judged pass before after asked given no_query judged))
    (λ put. absurd (only_puts_are_put limits pass before after asked given no_put put))
    last)
    more)
    rest)
    step.outcome

-- an add replaces nothing
pub adds_replace_none : (limits : Limits) (pass : ℕ) (before after : List Event) (id : ℕ) (text : List ℕ) (given : Reply) →
    Step limits pass before after (call.Add id text) given → is_replaced given ≡ false
adds_replace_none limits pass before after id text given step =
    ⊎_elim
    (λ made. made.replaces_none)
    (λ rest. ⊎_elim (λ lacks. ap is_replaced lacks.reply) (λ spent. ap is_replaced spent.reply) rest)
    (made_outcome limits pass before after (call.Add id text) given refl refl step)

-- an event that answers a put refuses it
put_is_refused : (limits : Limits) (history : List Event) (e : Event) (id : ℕ) (text : List ℕ) (given : Reply) → call_of e ≡ Some (call.Put id text) →
    IsReply limits history e given → given ≡ reply.Full
put_is_refused limits history (event.Add pass other words slice column bits) id text given called is = cc
put_is_refused limits history (event.Drop pass other words slice column) id text given called is = cc
put_is_refused limits history (event.Del pass other) id text given called is = cc
put_is_refused limits history (event.Find pass query) id text given called is = cc
put_is_refused limits history (event.Opened pass slice alone) id text given called is =
    let some : Some call.Recycle ≡ Some (call.Put id text) = sym (ap (λ b. cond b (Some call.Recycle) None) is.0) ∙ called in cc
put_is_refused limits history (event.Tune pass config) id text given called is = cc
put_is_refused limits history (event.No pass refused) id text given called is =
    let same : refused ≡ call.Put id text = cc in subst (λ (c : Call). IsReplyToRefused limits history c given) same is
put_is_refused limits history (event.Read pass read) id text given called is =
    let same : read ≡ call.Put id text = cc in absurd (subst (λ (c : Call). IsReplyToRead limits history c given) same is)
put_is_refused limits history _ id text given called is = absurd is

-- so a put is done, or refused for want of room, or lacks memory, or comes to a spent history
pub put_outcome : (limits : Limits) (pass : ℕ) (before after : List Event) (id : ℕ) (text : List ℕ) (given : Reply) →
    Step limits pass before after (call.Put id text) given →
    IsPut limits pass before after (call.Put id text) given ⊎ (given ≡ reply.Full) ⊎ (given ≡ reply.Memory) ⊎ (given ≡ reply.Spent)
put_outcome limits pass before after id text given step =
    ⊎_elim
    (λ made.
    let is = made.answered in
    inr (inl (put_is_refused limits is.earlier is.event id text given (by_test is.event (pass_of is.event == pass) is.call) is.reply)))
    (λ rest. ⊎_elim
    (λ lacks. inr (inr (inl lacks.reply)))
    (λ more. ⊎_elim
    (λ spent. inr (inr (inr spent.reply)))
    (λ last. ⊎_elim
    (λ judged. absurd (only_queries_are_judged pass before after (call.Put id text) given refl judged))
    (λ put. inl put)
    last)
    more)
    rest)
    step.outcome where
      by_test : (e : Event) (b : Bool) → cond b (call_of e) None ≡ Some (call.Put id text) → call_of e ≡ Some (call.Put id text)
      by_test e true called = called
      by_test e false called = cc

-- the last call of a pass isn't followed by an event that answers one
later_is_last : (pass : ℕ) (earlier other later rest : List Event) (e x : Event) (asked : Call) → earlier ++ e ∷ later ≡ other ++ x ∷ rest → own pass later ≡ [] →
    call_by pass x ≡ Some asked → length earlier < length other → ⊥
later_is_last pass earlier other later rest e x asked whole last answers less =
    let split = split_front other (x ∷ rest) earlier later e (sym whole) less in
    let calls : own pass later ≡ own pass split.0 ++ asked ∷ own pass rest =
    ap (own pass) split.2 ∙ own-append pass split.0 (x ∷ rest) ∙ ap (λ o. own pass split.0 ++ cons_option o (own pass rest)) answers in
    not_empty (own pass split.0) (own pass rest) asked (sym calls ∙ last)

-- two events that answer the last call of a pass are one event
same_last : (limits : Limits) (pass : ℕ) (history : List Event) (asked other : Call) (given also : Reply) →
    (is : AnswersLast limits pass history asked given) (is_too : AnswersLast limits pass history other also) →
    (is.earlier ≡ is_too.earlier) × (is.event ≡ is_too.event)
same_last limits pass history asked other given also is is_too =
    let whole = sym is.whole ∙ is_too.whole in
    ⊎_elim
    (λ same. same_split is.earlier is_too.earlier is.later is_too.later is.event is_too.event whole same)
    (λ order. ⊎_elim
    (λ less. absurd (later_is_last pass is.earlier is_too.earlier is.later is_too.later is.event is_too.event other whole is.last is_too.call less))
    (λ more. absurd (later_is_last pass is_too.earlier is.earlier is_too.later is.later is_too.event is.event asked (sym whole) is_too.last is.call more))
    order)
    (cases_order (length is.earlier) (length is_too.earlier))

-- so the last call of a pass is one
pub one_last_call : (limits : Limits) (pass : ℕ) (history : List Event) (asked other : Call) (given also : Reply) → AnswersLast limits pass history asked given →
    AnswersLast limits pass history other also → asked ≡ other
one_last_call limits pass history asked other given also is is_too =
    let same = same_last limits pass history asked other given also is is_too in
    let calls : Some asked ≡ Some other = sym is.call ∙ ap (call_by pass) same.1 ∙ is_too.call in
    cc

-- and has one answer
pub one_answer : (limits : Limits) (pass : ℕ) (history : List Event) (asked other : Call) (given also : Reply) → AnswersLast limits pass history asked given →
    AnswersLast limits pass history other also → given ≡ also
one_answer limits pass history asked other given also is is_too =
    let same = same_last limits pass history asked other given also is is_too in
    one_reply limits is_too.earlier is_too.event given also
    (subst (λ x. IsReply limits is_too.earlier x given) same.1 (subst (λ h. IsReply limits h is.event given) same.0 is.reply)) is_too.reply
