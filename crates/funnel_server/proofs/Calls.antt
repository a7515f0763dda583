-- The calls that sessions add to those of their pass.
use Rattle.std.proofs.Common.{◌≡◌, ◌≢◌, List, [], ◌∷◌, ◌++◌, ℕ, Bool, true, false, cond, flat_map, append_assoc, append-nil, sym, refl, ap, ◌∙◌, subst, inl, inr, ⊎_elim}
use Rattle.std.specs.List.{All}
use Rattle.std.proofs.lemmas.Bool.{both_ways}
use Rattle.std.proofs.lemmas.List.Elements.{All-cons, All-head, All-nil, All-tail}
use mathlib.Core.List.{IsPrefix}
use Rattle.funnel_io.specs.declared.end.End.{End}
use Rattle.funnel_io.specs.declared.end.End.TheVariants as end_of
use Rattle.funnel_model.proofs.StepCauses.{is_put, is_query, made_outcome, memory_cause, only_queries_are_judged, put_outcome, query_outcome, spent_cause}
use Rattle.funnel_model.proofs.StepLemmas.{linear-grows, prefix_refl, prefix_trans}
use Rattle.funnel_model.specs.declared.call.Call.{Call}
use Rattle.funnel_model.specs.declared.call.Call.TheVariants as call
use Rattle.funnel_model.specs.declared.event.Event.{Event}
use Rattle.funnel_model.specs.declared.reply.Reply.{Reply}
use Rattle.funnel_model.specs.declared.reply.Reply.TheVariants as reply
use Rattle.funnel_model.specs.History.{own}
use Rattle.funnel_model.specs.Legal.{Limits}
use Rattle.funnel_model.specs.Steps.{AddsCall, AddsNone, FindsNoMemory, IsPut, Linear, Step, is_placed}
use Rattle.line_proto.specs.Services.{Caller}
use Rattle.session.proofs.SessionLaws.{runs_calls as lines_run_calls}
use Rattle.session.specs.Ends.{Stand}
use Rattle.session.specs.Sessions.{Answers, Session}
use Rattle.http_front.proofs.RunLaws.{runs_calls}
use Rattle.http_front.specs.Sessions.{Answers as AnswersRequests, Session as RequestSession}
use Rattle.funnel_server.specs.Laws.{AreMade, GoesOnByCalls, HasSeen, IsMadeAs, MakesCalls, made_for}
use Rattle.funnel_server.specs.Sessions.{AreItsCalls, IsServed, answered, exchanges_in, replies_in}
use Rattle.funnel_server.specs.Workers.{AreInOrder, IsVisit, Visit}

-- the calls of a pass after these are those before and then these
abbrev Adds : ℕ → List Event → List Event → List Call → Type 0
Adds pass before after made = own pass after ≡ own pass before ++ made

adds_nothing : (pass : ℕ) (before after : List Event) → AddsNone pass before after → Adds pass before after []
adds_nothing pass before after none = none ∙ sym (append-nil (own pass before))

-- what one call makes
record OneMade (pass : ℕ) (before after : List Event) (asked : Call) (given : Reply) : Type 0 where
  made : List Call
  is : IsMadeAs given asked made
  adds : Adds pass before after made

-- a put that is done made the add of its number and text
put_done : (limits : Limits) (pass : ℕ) (before after : List Event) (id : ℕ) (text : List ℕ) (given : Reply) → IsPut limits pass before after (call.Put id text) given
    → AddsCall pass before after (made_for given (call.Put id text))
put_done limits pass before after id text given put =
    let same : call.Put id text ≡ call.Put put.id put.text = put.put in
    let added : call.Add put.id put.text ≡ call.Add id text = cc in
    subst (λ b. AddsCall pass before after (cond b (call.Add id text) (call.Put id text))) (sym put.placed)
    (subst (λ (c : Call). AddsCall pass before after c) added put.call)

-- and one that is refused for want of room is the pass's own
put_full : (limits : Limits) (pass : ℕ) (before after : List Event) (id : ℕ) (text : List ℕ) (given : Reply) → given ≡ reply.Full
    → Step limits pass before after (call.Put id text) given → AddsCall pass before after (made_for given (call.Put id text))
put_full limits pass before after id text given full step =
    subst (λ b. AddsCall pass before after (cond b (call.Add id text) (call.Put id text))) (sym (ap is_placed full))
    (⊎_elim
    (λ made. made.call)
    (λ rest. ⊎_elim
    (λ lacks. let other = sym full ∙ lacks.reply in absurd (cc))
    (λ more. ⊎_elim
    (λ spent. let other = sym full ∙ spent.reply in absurd (cc))
    (λ last. ⊎_elim
    (λ judged. absurd (only_queries_are_judged pass before after (call.Put id text) given refl judged))
    (λ put. absurd (both_ways (is_placed given) (ap is_placed full) put.placed))
    last)
    more)
    rest)
    step.outcome)

put_made : (limits : Limits) (pass : ℕ) (before after : List Event) (id : ℕ) (text : List ℕ) (given : Reply) → given ≢ reply.Spent → given ≢ reply.Memory
    → Step limits pass before after (call.Put id text) given → AddsCall pass before after (made_for given (call.Put id text))
put_made limits pass before after id text given not_spent not_memory step =
    ⊎_elim
    (λ put. put_done limits pass before after id text given put)
    (λ rest. ⊎_elim
    (λ full. put_full limits pass before after id text given full step)
    (λ last. ⊎_elim (λ memory. absurd (not_memory memory)) (λ spent. absurd (not_spent spent)) last)
    rest)
    (put_outcome limits pass before after id text given step)

-- a search by an expression made the find of the empty query
search_made : (limits : Limits) (pass : ℕ) (before after : List Event) (asked : Call) (given : Reply) → is_query asked ≡ true → given ≢ reply.Spent → given ≢ reply.Memory
    → Step limits pass before after asked given → AddsCall pass before after (call.Find [])
search_made limits pass before after asked given searches not_spent not_memory step =
    ⊎_elim
    (λ lacks. absurd (not_memory lacks.reply))
    (λ last. ⊎_elim (λ spent. absurd (not_spent spent.reply)) (λ judged. judged.call) last)
    (query_outcome limits pass before after asked given searches step)

-- and a call that is neither was made
itself_made : (limits : Limits) (pass : ℕ) (before after : List Event) (asked : Call) (given : Reply) → is_query asked ≡ false → is_put asked ≡ false
    → given ≢ reply.Spent → given ≢ reply.Memory → Step limits pass before after asked given → AddsCall pass before after asked
itself_made limits pass before after asked given no_query no_put not_spent not_memory step =
    ⊎_elim
    (λ made. made.call)
    (λ rest. ⊎_elim (λ lacks. absurd (not_memory lacks.reply)) (λ spent. absurd (not_spent spent.reply)) rest)
    (made_outcome limits pass before after asked given no_query no_put step)

made_call : (limits : Limits) (pass : ℕ) (before after : List Event) (asked : Call) (given : Reply) → given ≢ reply.Spent → given ≢ reply.Memory
    → Step limits pass before after asked given → AddsCall pass before after (made_for given asked)
made_call limits pass before after (call.Query expr) given not_spent not_memory step =
    search_made limits pass before after (call.Query expr) given refl not_spent not_memory step
made_call limits pass before after (call.Count expr) given not_spent not_memory step =
    search_made limits pass before after (call.Count expr) given refl not_spent not_memory step
made_call limits pass before after (call.Newest expr most) given not_spent not_memory step =
    search_made limits pass before after (call.Newest expr most) given refl not_spent not_memory step
made_call limits pass before after (call.Oldest expr most) given not_spent not_memory step =
    search_made limits pass before after (call.Oldest expr most) given refl not_spent not_memory step
made_call limits pass before after (call.Put id text) given not_spent not_memory step =
    put_made limits pass before after id text given not_spent not_memory step
made_call limits pass before after asked given not_spent not_memory step =
    itself_made limits pass before after asked given refl refl not_spent not_memory step

-- a call without memory was made or not
without_memory : (pass : ℕ) (before after : List Event) (asked : Call) → FindsNoMemory pass before after asked → OneMade pass before after asked reply.Memory
without_memory pass before after (call.Add id text) none = record { made = []; is = refl; adds = adds_nothing pass before after none }
without_memory pass before after (call.Put id text) none = record { made = []; is = refl; adds = adds_nothing pass before after none }
without_memory pass before after (call.Tune config) none = record { made = []; is = refl; adds = adds_nothing pass before after none }
without_memory pass before after (call.Find query) (inl none) = record { made = []; is = inl refl; adds = adds_nothing pass before after none }
without_memory pass before after (call.Find query) (inr adds) = record { made = call.Find query ∷ []; is = inr refl; adds = adds }
without_memory pass before after (call.Query expr) (inl none) = record { made = []; is = inl refl; adds = adds_nothing pass before after none }
without_memory pass before after (call.Query expr) (inr adds) = record { made = call.Find [] ∷ []; is = inr refl; adds = adds }
without_memory pass before after (call.Count expr) (inl none) = record { made = []; is = inl refl; adds = adds_nothing pass before after none }
without_memory pass before after (call.Count expr) (inr adds) = record { made = call.Find [] ∷ []; is = inr refl; adds = adds }
without_memory pass before after (call.Newest expr most) (inl none) = record { made = []; is = inl refl; adds = adds_nothing pass before after none }
without_memory pass before after (call.Newest expr most) (inr adds) = record { made = call.Find [] ∷ []; is = inr refl; adds = adds }
without_memory pass before after (call.Oldest expr most) (inl none) = record { made = []; is = inl refl; adds = adds_nothing pass before after none }
without_memory pass before after (call.Oldest expr most) (inr adds) = record { made = call.Find [] ∷ []; is = inr refl; adds = adds }
without_memory pass before after (call.Get id) (inl none) = record { made = []; is = inl refl; adds = adds_nothing pass before after none }
without_memory pass before after (call.Get id) (inr adds) = record { made = call.Get id ∷ []; is = inr refl; adds = adds }
without_memory pass before after (call.Journal from) (inl none) = record { made = []; is = inl refl; adds = adds_nothing pass before after none }
without_memory pass before after (call.Journal from) (inr adds) = record { made = call.Journal from ∷ []; is = inr refl; adds = adds }
without_memory pass before after asked found = absurd found

one_made : (limits : Limits) (pass : ℕ) (before after : List Event) (asked : Call) (given : Reply) → Step limits pass before after asked given → OneMade pass before after asked given
one_made limits pass before after asked reply.Spent step =
    record { made = []; is = refl; adds = adds_nothing pass before after (spent_cause limits pass before after asked step).1 }
one_made limits pass before after asked reply.Memory step = without_memory pass before after asked (memory_cause limits pass before after asked step)
one_made limits pass before after asked given step =
    record { made = made_for given asked ∷ []; is = refl; adds = made_call limits pass before after asked given (λ is. cc) (λ is. cc) step }

-- what calls make, one after another
all_made : (limits : Limits) (pass : ℕ) (before after : List Event) (calls : List Call) (replies : List Reply) → Linear limits pass before after calls replies
    → (made : List Call) × AreMade calls replies made × Adds pass before after made
all_made limits pass before after [] [] run = ([], refl, adds_nothing pass before after (ap (own pass) (sym run)))
all_made limits pass before after (asked ∷ calls) (given ∷ replies) run =
    let one = one_made limits pass before run.0 asked given run.1 in
    let later = all_made limits pass run.0 after calls replies run.2 in (
      one.made ++ later.0,
      (one.made, later.0, one.is, later.1, refl),
      later.2 ∙ ap (λ calls. calls ++ later.0) one.adds ∙ append_assoc (own pass before) one.made later.0,
    )
all_made limits pass before after [] (given ∷ replies) run = absurd run
all_made limits pass before after (asked ∷ calls) [] run = absurd run

-- a session's items are answered, one after another
session_answers : (caller : Caller) (before after : List Event) (taken written : List ℕ) (end : End) (session : Session caller before after taken written end)
    → Answers caller before (answered caller before after taken written end session) (replies_in caller before after taken written end session) after
session_answers caller before after taken written end_of.Done session = session.answers
session_answers caller before after taken written end_of.ReadFault session = session.answers
session_answers caller before after taken written (end_of.ByteLimit limit) session = session.1.answers
session_answers caller before after taken written end_of.WriteFault session = session.answers
session_answers caller before after taken written end_of.Memory session = sym session.2

-- and so are a connection's requests
requests_answered : (caller : Caller) (before after : List Event) (taken written : List ℕ) (end : End) (session : RequestSession caller before after taken written end)
    → AnswersRequests caller before (exchanges_in caller before after taken written end session) after
requests_answered caller before after taken written end_of.Done session = session.answers
requests_answered caller before after taken written end_of.ReadFault session = session.all.answers
requests_answered caller before after taken written (end_of.ByteLimit limit) session = session.1.all.answers
requests_answered caller before after taken written end_of.WriteFault session = session.answers
requests_answered caller before after taken written end_of.Memory session = sym session.2

-- the calls of a session lead from front to front
record ItsCalls (http : Bool) (caller : Caller) (old new : Stand) (end : End) (served : IsServed http caller old new end) : Type 0 where
  asked : List Call
  replies : List Reply
  are_its : AreItsCalls http caller old new end served asked replies
  steps : Linear caller.limits caller.pass old.front new.front asked replies

its_calls : (http : Bool) (caller : Caller) (old new : Stand) (end : End) (served : IsServed http caller old new end) → ItsCalls http caller old new end served
its_calls true caller old new end served =
    let runs = runs_calls caller old.front new.front (exchanges_in caller old.front new.front served.taken served.written end served.session)
    (requests_answered caller old.front new.front served.taken served.written end served.session) in
    record { asked = runs.asked; replies = runs.replies; are_its = runs.are; steps = runs.steps }
its_calls false caller old new end served =
    let items = answered caller old.front new.front served.taken served.written end served.session in
    let replies = replies_in caller old.front new.front served.taken served.written end served.session in
    let runs = lines_run_calls caller old.front new.front items replies (session_answers caller old.front new.front served.taken served.written end served.session) in
    record { asked = runs.calls; replies = runs.told; are_its = runs.are; steps = runs.steps }

-- what a session makes
record OneSession (caller : Caller) (visit : Visit) : Type 0 where
  made : List Call
  makes : MakesCalls caller visit made
  adds : Adds caller.pass visit.before.front visit.after.front made

one_session : (caller : Caller) (visit : Visit) → IsVisit caller visit → OneSession caller visit
one_session caller visit session =
    let calls = its_calls visit.http caller visit.before visit.after visit.end session.serves in
    let made = all_made caller.limits caller.pass visit.before.front visit.after.front calls.asked calls.replies calls.steps in
    record {
      made = made.0;
      makes = record { session = session; asked = calls.asked; replies = calls.replies; are_its = calls.are_its; steps = calls.steps; are = made.1 };
      adds = made.2;
    }

-- the front of a pass goes on over a session
session_grows : (caller : Caller) (visit : Visit) (made : List Call) → MakesCalls caller visit made → IsPrefix visit.before.front visit.after.front
session_grows caller visit made makes =
    linear-grows caller.limits caller.pass visit.before.front visit.after.front makes.asked makes.replies makes.steps

pub go_on_by_calls : (caller : Caller) (before after : List Event) (visits : List Visit) → All (IsVisit caller) visits → AreInOrder before visits after
    → GoesOnByCalls caller before after visits
go_on_by_calls caller before after [] sessions order = record {
  made = [];
  sessions = tt;
  calls = adds_nothing caller.pass before after (ap (own caller.pass) (sym order));
  grows = subst (IsPrefix before) order (prefix_refl before);
  seen = All-nil (HasSeen after);
}
go_on_by_calls caller before after (visit ∷ visits) sessions order =
    let one = one_session caller visit (All-head (IsVisit caller) visit visits sessions) in
    let later = go_on_by_calls caller visit.after.front after visits (All-tail (IsVisit caller) visit visits sessions) order.1 in
    let grows = prefix_trans visit.before.front visit.after.front after (session_grows caller visit one.made one.makes) later.grows in
    record {
      made = one.made ∷ later.made;
      sessions = (one.makes, later.sessions);
      calls = later.calls ∙ ap (λ calls. calls ++ flat_map (λ (made : List Call). made) later.made) one.adds
          ∙ append_assoc (own caller.pass visit.before.front) one.made (flat_map (λ (made : List Call). made) later.made)
          ∙ ap (λ front. own caller.pass front ++ (one.made ++ flat_map (λ (made : List Call). made) later.made)) order.0;
      grows = subst (λ front. IsPrefix front after) order.0 grows;
      seen = All-cons (HasSeen after) visit visits (record { before = grows; after = later.grows }) later.seen;
    }
