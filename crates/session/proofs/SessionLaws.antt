-- Laws of sessions.
use Rattle.std.proofs.Common.{◌≡◌, ◌≢◌, ℕ, ◌<◌, ◌≤◌, ◌⊎◌, true, false, List, [], ◌∷◌, ◌++◌, length, take, drop, sym, refl, ap, ◌∙◌, subst, ⊎_elim, inl, inr, arith, append_assoc, length-append, length-drop, take-append-drop}
use Rattle.std.specs.Io.KnownBytes.{IsAtEnd}
use Rattle.std.proofs.lemmas.List.{length-map}
use Rattle.funnel_io.specs.Lines.{last_line, lines, rest_of, whole_lines}
use Rattle.funnel_io.specs.declared.end.End.{End}
use Rattle.funnel_io.specs.declared.end.End.TheVariants as end_of
use Rattle.funnel_model.proofs.LastEvents.{token_is_last}
use Rattle.funnel_model.proofs.NextEvents.{busy}
use Rattle.funnel_model.proofs.StepCauses.{memory_cause}
use Rattle.funnel_model.specs.declared.call.Call.{Call}
use Rattle.funnel_model.specs.declared.call.Call.TheVariants as call
use Rattle.funnel_model.specs.declared.config.Config.{Config}
use Rattle.funnel_model.specs.declared.event.Event.{Event}
use Rattle.funnel_model.specs.declared.event.Event.TheVariants as event
use Rattle.funnel_model.specs.declared.expr.Expr.{Expr}
use Rattle.funnel_model.specs.declared.reply.Reply.{Reply}
use Rattle.funnel_model.specs.declared.reply.Reply.TheVariants as reply
use Rattle.funnel_model.specs.History.{own}
use Rattle.funnel_model.specs.Tokens.{HasToken}
use Rattle.funnel_model.specs.Steps.{AddsCall, AddsNone, Linear, Step}
use Rattle.funnel_stats.specs.Tunings.{Tuned, Gives, Faulty, Wide, tuned}
use Rattle.line_proto.specs.Forms.{Asked, Item, Asks, Malformed, TooLong, Calls, Searches, Tunes, Told, Ids, Amount, Last, First, item_of}
use Rattle.line_proto.specs.Services.{AnswersAsked, AnswersCall, AnswersTuned, Caller, IsNotTaken, IsUnread, RefusesTuning, searched}
use Rattle.line_proto.specs.Texts.{text_of, texts}
use Rattle.session.proofs.Progress.{texts-push}
use Rattle.session.specs.Ends.{Serves, Stand}
use Rattle.session.specs.Laws.{AreCalls, IsCallOf, IsNoCall, RunsCalls, IsRefusedAs, IsTunedInVain, TakesNone, IsProperFront, EndsByCount, FindIsOver}
use Rattle.session.specs.Sessions.{Answers, AnswersItem, CutsLast}

-- what is asked is one call, which is answered by this step, or none, and there is no step
abbrev pub IsOneCall : Caller → List Event → List Event → Asked → Reply → Type 0
IsOneCall caller before after asked given = (made : Call) × IsCallOf caller.opening (Asks asked) made × Step caller.limits caller.pass before after made given

abbrev pub IsNone : Caller → List Event → List Event → Asked → Reply → Type 0
IsNone caller before after asked given = (before ≡ after) × IsNoCall caller.opening (Asks asked) given

-- a tuning is one, by what comes of its text
tuned_call : (caller : Caller) (before after : List Event) (text : List ℕ) (comes : Tuned) (given : Reply) → tuned caller.opening text ≡ comes →
    AnswersTuned caller before after comes given → IsOneCall caller before after (Tunes text) given ⊎ IsNone caller before after (Tunes text) given
tuned_call caller before after text (Gives config) given is answers = inl (call.Tune config, (config, is, refl), answers.step)
tuned_call caller before after text (Faulty fault) given is answers = inr (answers.0, subst (λ (comes : Tuned). RefusesTuning comes given) (sym is) answers.1)
tuned_call caller before after text (Wide needed room) given is answers = inr (answers.0, subst (λ (comes : Tuned). RefusesTuning comes given) (sym is) answers.1)

-- and so is all that may be asked
pub call_or_none : (caller : Caller) (before after : List Event) (asked : Asked) (given : Reply) → AnswersAsked caller before after asked given →
    IsOneCall caller before after asked given ⊎ IsNone caller before after asked given
call_or_none caller before after (Calls asked) given answers = inl (asked, refl, answers.step)
call_or_none caller before after (Searches told sought) given (inl read) = inl (searched told read.expr, (read.expr, read.reads, refl), read.answers.step)
call_or_none caller before after (Searches told sought) given (inr unread) = inr unread
call_or_none caller before after (Tunes text) given answers = tuned_call caller before after text (tuned caller.opening text) given refl answers

-- an item that is no call is none of the calls
runs_none : (caller : Caller) (before middle after : List Event) (item : Item) (given : Reply) (items : List Item) (replies : List Reply)
    → before ≡ middle → IsNoCall caller.opening item given → RunsCalls caller middle after items replies
    → RunsCalls caller before after (item ∷ items) (given ∷ replies)
runs_none caller before middle after item given items replies same none run = record {
  calls = run.calls;
  told = run.told;
  are = inl (none, run.are);
  steps = subst (λ h. Linear caller.limits caller.pass h after run.calls run.told) (sym same) run.steps;
}

-- what is asked is the first call, or none
runs_asked : (caller : Caller) (before middle after : List Event) (asked : Asked) (given : Reply) (items : List Item) (replies : List Reply)
    → IsOneCall caller before middle asked given ⊎ IsNone caller before middle asked given → RunsCalls caller middle after items replies
    → RunsCalls caller before after (Asks asked ∷ items) (given ∷ replies)
runs_asked caller before middle after asked given items replies (inl one) run = record {
  calls = one.0 ∷ run.calls;
  told = given ∷ run.told;
  are = inr (one.0, run.calls, run.told, one.1, run.are, refl, refl);
  steps = (middle, one.2, run.steps);
}
runs_asked caller before middle after asked given items replies (inr none) run =
    runs_none caller before middle after (Asks asked) given items replies none.0 none.1 run

-- an item with its reply is the first call, or no call
runs_one : (caller : Caller) (before middle after : List Event) (item : Item) (given : Reply) (items : List Item) (replies : List Reply)
    → AnswersItem caller before item given middle → RunsCalls caller middle after items replies → RunsCalls caller before after (item ∷ items) (given ∷ replies)
runs_one caller before middle after (Asks asked) given items replies answers run =
    runs_asked caller before middle after asked given items replies (call_or_none caller before middle asked given answers) run
runs_one caller before middle after Malformed given items replies answers run =
    runs_none caller before middle after Malformed given items replies answers.1 tt run
runs_one caller before middle after TooLong given items replies answers run =
    runs_none caller before middle after TooLong given items replies answers.1 tt run

pub runs_calls : (caller : Caller) (before after : List Event) (asked : List Item) (replies : List Reply) → Answers caller before asked replies after
    → RunsCalls caller before after asked replies
runs_calls caller before after [] [] run = record { calls = []; told = []; are = (refl, refl); steps = run }
runs_calls caller before after (item ∷ items) (given ∷ replies) run =
    runs_one caller before run.0 after item given items replies run.1 (runs_calls caller run.0 after items replies run.2)
runs_calls caller before after [] (given ∷ replies) run = absurd run
runs_calls caller before after (item ∷ items) [] run = absurd run

-- so items have at most as many calls
pub calls_few : (opening : Config) (items : List Item) (replies : List Reply) (calls : List Call) (told : List Reply) → AreCalls opening items replies calls told →
    length calls ≤ length items
calls_few opening [] [] calls told are = let none = ap length are.0 in omega arith
calls_few opening (item ∷ items) (given ∷ replies) calls told (inl no_call) = let few = calls_few opening items replies calls told no_call.1 in omega arith
calls_few opening (item ∷ items) (given ∷ replies) calls told (inr one) =
    let few = calls_few opening items replies one.1 one.2 one.4 in
    let same = ap length one.5 in
    omega arith
calls_few opening [] (given ∷ replies) calls told are = absurd are
calls_few opening (item ∷ items) [] calls told are = absurd are

-- one item over a spent front
record OneRefused (caller : Caller) (before middle : List Event) (item : Item) (given : Reply) : Type 0 where
  pub refusal : IsRefusedAs caller.opening item given
  pub none : AddsNone caller.pass before middle
  pub spent : caller.limits.events ≤ length middle

-- a front that grows stays spent
still_spent : (caller : Caller) (before middle : List Event) (asked : Call) (given : Reply) → caller.limits.events ≤ length before
    → AnswersCall caller before middle asked given → caller.limits.events ≤ length middle
still_spent caller before middle asked given many answers =
    let grows = answers.step.grows in
    omega (arith, many, length-append before grows.0, ap length grows.1)

-- what comes of a tuning's text over it
tuned_in_vain : (caller : Caller) (before middle : List Event) (text : List ℕ) (comes : Tuned) (given : Reply) → caller.limits.events ≤ length before
    → tuned caller.opening text ≡ comes → AnswersTuned caller before middle comes given → OneRefused caller before middle (Asks (Tunes text)) given
tuned_in_vain caller before middle text (Gives config) given many is answers =
    let not_taken : IsNotTaken caller before middle given = answers.spent many in
    record {
      refusal = subst (λ (comes : Tuned). IsTunedInVain comes given) (sym is) not_taken.reply;
      none = not_taken.call;
      spent = still_spent caller before middle (call.Tune config) given many answers;
    }
tuned_in_vain caller before middle text (Faulty fault) given many is answers = record {
  refusal = subst (λ (comes : Tuned). IsTunedInVain comes given) (sym is) answers.1;
  none = ap (own caller.pass) (sym answers.0);
  spent = subst (λ h. caller.limits.events ≤ length h) answers.0 many;
}
tuned_in_vain caller before middle text (Wide needed room) given many is answers = record {
  refusal = subst (λ (comes : Tuned). IsTunedInVain comes given) (sym is) answers.1;
  none = ap (own caller.pass) (sym answers.0);
  spent = subst (λ h. caller.limits.events ≤ length h) answers.0 many;
}

one_refused : (caller : Caller) (before middle : List Event) (item : Item) (given : Reply) → caller.limits.events ≤ length before
    → AnswersItem caller before item given middle → OneRefused caller before middle item given
one_refused caller before middle (Asks (Calls asked)) given many answers =
    let not_taken : IsNotTaken caller before middle given = answers.spent many in
    record { refusal = not_taken.reply; none = not_taken.call; spent = still_spent caller before middle asked given many answers }
one_refused caller before middle (Asks (Searches told sought)) given many (inl read) =
    let not_taken : IsNotTaken caller before middle given = read.answers.spent many in
    record {
      refusal = ⊎_elim (λ (spent : given ≡ reply.Spent). inl spent) (λ (memory : given ≡ reply.Memory). inr (subst (IsUnread sought) (sym memory) tt)) not_taken.reply;
      none = not_taken.call;
      spent = still_spent caller before middle (searched told read.expr) given many read.answers;
    }
one_refused caller before middle (Asks (Searches told sought)) given many (inr unread) =
    record { refusal = inr unread.1; none = ap (own caller.pass) (sym unread.0); spent = subst (λ h. caller.limits.events ≤ length h) unread.0 many }
one_refused caller before middle (Asks (Tunes text)) given many answers =
    tuned_in_vain caller before middle text (tuned caller.opening text) given many refl answers
one_refused caller before middle Malformed given many answers =
    record { refusal = answers.0; none = ap (own caller.pass) (sym answers.1); spent = subst (λ h. caller.limits.events ≤ length h) answers.1 many }
one_refused caller before middle TooLong given many answers =
    record { refusal = answers.0; none = ap (own caller.pass) (sym answers.1); spent = subst (λ h. caller.limits.events ≤ length h) answers.1 many }

pub takes_none : (caller : Caller) (before after : List Event) (asked : List Item) (replies : List Reply) → caller.limits.events ≤ length before
    → Answers caller before asked replies after → TakesNone caller before after asked replies
takes_none caller before after [] [] many run = record { refused = tt; none = ap (own caller.pass) (sym run) }
takes_none caller before after (item ∷ items) (given ∷ replies) many run =
    let one = one_refused caller before run.0 item given many run.1 in
    let others = takes_none caller run.0 after items replies one.spent run.2 in
    record { refused = (one.refusal, others.refused); none = others.none ∙ one.none }
takes_none caller before after [] (given ∷ replies) many run = absurd run
takes_none caller before after (item ∷ items) [] many run = absurd run

pub proper_front : (replies : List Reply) (written : List ℕ) → CutsLast replies written → IsProperFront written (texts replies)
proper_front replies written cuts = record {
  missing = drop cuts.count (text_of cuts.last);
  whole = ap texts cuts.replies_are ∙ (texts-push cuts.first cuts.last
      ∙ (ap (λ bs. texts cuts.first ++ bs) (sym (take-append-drop cuts.count (text_of cuts.last)))
      ∙ (sym (append_assoc (texts cuts.first) (take cuts.count (text_of cuts.last)) (drop cuts.count (text_of cuts.last)))
      ∙ ap (λ bs. bs ++ drop cuts.count (text_of cuts.last)) (sym cuts.text))));
  some = omega (arith, cuts.proper, length-drop cuts.count (text_of cuts.last));
}

-- a rest that is a line is one more than those that newlines ended
one_more : (taken : List ℕ) → rest_of taken ≢ [] → length (lines taken false) < length (lines taken true)
one_more taken some =
    omega (arith, length-append (whole_lines taken) (last_line (rest_of taken) false), length-append (whole_lines taken) (last_line (rest_of taken) true), one (rest_of taken) some) where
      one : (rest : List ℕ) → rest ≢ [] → length (last_line rest true) ≡ 1
      one [] some = absurd (some refl)
      one (byte ∷ bytes) some = refl

pub last_line_answered : (caller : Caller) (limit : ℕ) (old new : Stand) (served : Serves caller limit old new end_of.WriteFault)
    → served.session.others ≡ [] → rest_of served.taken ≢ [] → IsAtEnd new.incoming.left
last_line_answered caller limit old new served all some =
    (served.leaves (omega (
      arith,
      one_more served.taken some,
      length-map (lines served.taken true) item_of,
      ap length served.session.asked_are,
      length-append served.session.first served.session.others,
      ap length all,
    ))).0

pub by_count : (caller : Caller) (limit : ℕ) (old new : Stand) (end : End) (served : Serves caller limit old new end)
    → EndsByCount caller limit old new end served
by_count caller limit old new end_of.Done served none memory = (λ is. served.within, λ less. refl)
by_count caller limit old new end_of.ReadFault served none memory = absurd (none.0 (omega (arith, served.faults.reads)))
by_count caller limit old new end_of.WriteFault served none memory = absurd (none.1 (omega (arith, served.faults.writes)))
by_count caller limit old new (end_of.ByteLimit told) served none memory = (λ is. cc, λ less. absurd (omega (arith, served.within.1, less)))
by_count caller limit old new end_of.Memory served none memory = absurd (memory refl)

pub at_limit : (caller : Caller) (limit : ℕ) (old new : Stand) (end : End) (served : Serves caller limit old new end) → 1 ≤ limit → limit ≤ length served.taken
    → (end ≡ end_of.ByteLimit limit) ⊎ (end ≡ end_of.WriteFault)
at_limit caller limit old new end_of.Done served some many = absurd (omega (arith, served.within, many))
at_limit caller limit old new end_of.ReadFault served some many = absurd (omega (arith, served.within, many))
at_limit caller limit old new (end_of.ByteLimit told) served some many = inl (ap end_of.ByteLimit served.within.0)
at_limit caller limit old new end_of.WriteFault served some many = inr refl
at_limit caller limit old new end_of.Memory served some many = absurd (omega (arith, some, many, ap length served.session.0))

-- the pass of a call that is answered has no token
no_token : (caller : Caller) (before after : List Event) (asked : Call) (given : Reply) → AnswersCall caller before after asked given →
    (number : ℕ) → HasToken after caller.pass number → ⊥
no_token caller before after asked given answers number token =
    let last = token_is_last caller.limits after caller.pass number answers.step.legal token in
    busy caller.pass after (event.Find caller.pass last.0) last.1 refl answers.step.idle_after

pub find_is_over : (caller : Caller) (before after : List Event) (query : List ℕ) → AnswersCall caller before after (call.Find query) reply.Memory
    → FindIsOver caller.pass before after query
find_is_over caller before after query answers = record {
  no_token = no_token caller before after (call.Find query) reply.Memory answers;
  calls = memory_cause caller.limits caller.pass before after (call.Find query) answers.step;
}

-- a search that found no memory made the find of the empty query, or no call
search_calls : (caller : Caller) (before after : List Event) (told : Told) (expr : Expr) → AnswersCall caller before after (searched told expr) reply.Memory
    → AddsNone caller.pass before after ⊎ AddsCall caller.pass before after (call.Find [])
search_calls caller before after Ids expr answers = memory_cause caller.limits caller.pass before after (call.Query expr) answers.step
search_calls caller before after Amount expr answers = memory_cause caller.limits caller.pass before after (call.Count expr) answers.step
search_calls caller before after (Last most) expr answers = memory_cause caller.limits caller.pass before after (call.Newest expr most) answers.step
search_calls caller before after (First most) expr answers = memory_cause caller.limits caller.pass before after (call.Oldest expr most) answers.step

pub search_is_over : (caller : Caller) (before after : List Event) (told : Told) (expr : Expr) → AnswersCall caller before after (searched told expr) reply.Memory
    → FindIsOver caller.pass before after []
search_is_over caller before after told expr answers = record {
  no_token = no_token caller before after (searched told expr) reply.Memory answers;
  calls = search_calls caller before after told expr answers;
}
