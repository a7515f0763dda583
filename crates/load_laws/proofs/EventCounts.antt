-- A pass makes at most four events a call, and four a document that it moves: where it clears a slice for it, a Clear, an Opened, a Take and
-- the event that ends the claim.
use Rattle.std.proofs.Common.{◌≡◌, ℕ, ◌+◌, ◌*◌, ◌≤◌, ◌==◌, ◌&&◌, ⊎_elim, Bool, true, false, cond, List, [], ◌∷◌, ◌++◌, length, Option, Some, None, sym, refl, ap, ap₂, ◌∙◌, subst, arith}
use Rattle.std.proofs.lemmas.Bool.{cases_eq}
use Rattle.std.proofs.lemmas.List.{length-append}
use Rattle.std.proofs.lemmas.List.Sums.{sum_by-cons, sum_by_push}
use Rattle.std.specs.List.{cons_option, sum_by}
use Rattle.std.specs.Option.{IfSome, option_map_or}
use Rattle.funnel_model.proofs.Histories.{holds_of_legal}
use Rattle.funnel_model.proofs.Moved.{moved_by-append}
use Rattle.funnel_model.proofs.Spans.{last_by-other, last_by-own}
use Rattle.funnel_model.proofs.StepLemmas.{call_by-own, linear-grows, linear-legal, own-append}
use Rattle.funnel_model.specs.declared.call.Call.{Call}
use Rattle.funnel_model.specs.declared.call.Call.TheVariants as call
use Rattle.funnel_model.specs.declared.event.Event.{Event}
use Rattle.funnel_model.specs.declared.event.Event.TheVariants as event
use Rattle.funnel_model.specs.declared.expr.Expr.{Expr}
use Rattle.funnel_model.specs.declared.reply.Reply.{Reply}
use Rattle.funnel_model.specs.Events.{call_of, leaves_open, moves, pass_of}
use Rattle.funnel_model.specs.History.{last_by, moved_by, own}
use Rattle.funnel_model.specs.Legal.{Limits, IsAllowed, IsIdle, IsLegal, MayFollow}
use Rattle.funnel_model.specs.Steps.{FindsNoMemory, Linear, Step, expression_of, most_moves}
use Rattle.load_laws.specs.LonePass.{IsAlone}
use Rattle.load_laws.proofs.PassTotals.{length_is_sum, own-other, weigh_by, weigh_by-alone, weigh_by-other, weigh_by-own}

-- how many events of a call there are at most up to this one, where it doesn't answer the call yet
abbrev begun : Event → ℕ
begun (event.Clear pass slice) = 1
begun (event.Opened pass slice true) = 0
begun (event.Opened pass slice false) = 2
begun (event.Take pass slice column) = 3
begun _ = 0

-- how many events of a call are still to come after the one that answers it
abbrev due : Event → ℕ
due (event.Find pass query) = 1
due _ = 0

-- how many calls an event answers
abbrev answered_by : Event → ℕ
answered_by e = length (cons_option (call_of e) [])

abbrev begun_last : Option Event → ℕ
begun_last last = option_map_or begun last 0

abbrev due_last : Option Event → ℕ
due_last last = option_map_or due last 0

-- an idle pass has begun nothing
idle_event : (e : Event) → leaves_open e ≡ false → begun_last (Some e) ≡ 0
idle_event (event.Take pass slice column) shut = cc
idle_event (event.Clear pass slice) shut = cc
idle_event (event.Opened pass slice false) shut = cc
idle_event (event.Opened pass slice true) shut = refl
idle_event _ shut = refl

idle_last : (last : Option Event) → IfSome last (λ e. leaves_open e ≡ false) → begun_last last ≡ 0
idle_last None idle = refl
idle_last (Some e) idle = idle_event e idle

-- how many documents an event moves; a claim of a column for one that came too late counts too
abbrev pub moved_once : Event → ℕ
moved_once e = cond (moves e) 1 0

-- an event goes on from the last one of its pass, within four events a call and four a move
abbrev GoesOnFrom : Option Event → Event → Type 0
GoesOnFrom last e = begun_last last + 1 + due e ≤ due_last last + 4 * answered_by e + 4 * moved_once e + begun e

-- it does where the pass was idle, if it has one event or four
from_idle : (last : Option Event) (e : Event) → IfSome last (λ x. leaves_open x ≡ false) → 1 + due e ≤ 4 * answered_by e + begun e → GoesOnFrom last e
from_idle last e idle few = let none = idle_last last idle in omega arith

goes_on_from : (limits : Limits) (history : List Event) (e : Event) → MayFollow limits history e → GoesOnFrom (last_by (pass_of e) history) e
goes_on_from limits history (event.Take pass slice column) rule =
    ⊎_elim
    (λ r. from_idle (last_by pass history) (event.Take pass slice column) r.idle (omega arith))
    (λ r. subst (λ o. GoesOnFrom o (event.Take pass slice column)) (sym r.opened) (omega arith))
    rule
goes_on_from limits history (event.Add pass id text slice column bits) rule =
    subst (λ o. GoesOnFrom o (event.Add pass id text slice column bits)) (sym rule.taken) (omega arith)
goes_on_from limits history (event.Drop pass id text slice column) rule =
    subst (λ o. GoesOnFrom o (event.Drop pass id text slice column)) (sym rule.taken) (omega arith)
goes_on_from limits history (event.Del pass id) rule = from_idle (last_by pass history) (event.Del pass id) rule.idle (omega arith)
goes_on_from limits history (event.Move pass id slice column bits) rule =
    subst (λ o. GoesOnFrom o (event.Move pass id slice column bits)) (sym rule.taken) (omega arith)
goes_on_from limits history (event.Void pass slice column) rule =
    subst (λ o. GoesOnFrom o (event.Void pass slice column)) (sym rule.taken) (omega arith)
goes_on_from limits history (event.Find pass query) rule = from_idle (last_by pass history) (event.Find pass query) rule (omega arith)
goes_on_from limits history (event.End pass) rule = subst (λ o. GoesOnFrom o (event.End pass)) (sym rule.begun) (omega arith)
goes_on_from limits history (event.Clear pass slice) rule = from_idle (last_by pass history) (event.Clear pass slice) rule.idle (omega arith)
goes_on_from limits history (event.Opened pass slice true) rule = subst (λ o. GoesOnFrom o (event.Opened pass slice true)) (sym rule.cleared) (omega arith)
goes_on_from limits history (event.Opened pass slice false) rule = subst (λ o. GoesOnFrom o (event.Opened pass slice false)) (sym rule.cleared) (omega arith)
goes_on_from limits history (event.Tune pass config) rule = from_idle (last_by pass history) (event.Tune pass config) rule (omega arith)
goes_on_from limits history (event.No pass asked) rule = from_idle (last_by pass history) (event.No pass asked) rule.idle (omega arith)
goes_on_from limits history (event.Read pass asked) rule = from_idle (last_by pass history) (event.Read pass asked) rule.idle (omega arith)

-- how many events of the pass are in the history
abbrev pub events_of : ℕ → List Event → ℕ
events_of pass history = weigh_by (λ e. 1) pass history

-- there are at most four events of the pass a call, four a move, and those of a call or a move that hasn't ended yet
abbrev AreFew : ℕ → List Event → Type 0
AreFew pass history =
    events_of pass history + due_last (last_by pass history)
    ≤ 4 * length (own pass history) + 4 * weigh_by moved_once pass history + begun_last (last_by pass history)

-- with one more event of the pass
few-own : (limits : Limits) (pass : ℕ) (history : List Event) (e : Event) → AreFew pass history → IsAllowed limits history e → pass_of e ≡ pass →
    AreFew pass (history ++ e ∷ [])
few-own limits pass history e few allowed is_own =
    let step : GoesOnFrom (last_by pass history) e = subst (λ p. GoesOnFrom (last_by p history) e) is_own (goes_on_from limits history e allowed.rule) in
    let last = last_by-own pass history e is_own in
    let begun_now : begun_last (last_by pass (history ++ e ∷ [])) ≡ begun e = ap begun_last last in
    let due_now : due_last (last_by pass (history ++ e ∷ [])) ≡ due e = ap due_last last in
    let calls : length (own pass (history ++ e ∷ [])) ≡ length (own pass history) + answered_by e =
    ap length (own-append pass history (e ∷ []) ∙ ap (λ o. own pass history ++ cons_option o []) (call_by-own pass e is_own))
    ∙ length-append (own pass history) (cons_option (call_of e) []) in
    let moved = weigh_by-own moved_once pass history e is_own in
    let events = weigh_by-own (λ x. 1) pass history e is_own in
    omega arith

-- and with one of another
few-other : (pass : ℕ) (history : List Event) (e : Event) → AreFew pass history → (pass_of e ≡ pass → ⊥) → AreFew pass (history ++ e ∷ [])
few-other pass history e few other =
    let last = last_by-other pass history e other in
    let begun_now = ap begun_last last in
    let due_now = ap due_last last in
    let calls = ap length (own-other pass history e other) in
    let moved = weigh_by-other moved_once pass history e other in
    let events = weigh_by-other (λ x. 1) pass history e other in
    omega arith

few-push : (limits : Limits) (pass : ℕ) (history : List Event) (e : Event) → IsLegal limits history → AreFew pass history → IsAllowed limits history e →
    AreFew pass (history ++ e ∷ [])
few-push limits pass history e legal few allowed =
    ⊎_elim (few-own limits pass history e few allowed) (few-other pass history e few) (cases_eq (pass_of e) pass)

-- the moves of a pass are those of its events that move
pub moved_weighs : (pass : ℕ) (history : List Event) → moved_by pass history ≡ weigh_by moved_once pass history
moved_weighs pass [] = refl
moved_weighs pass (e ∷ later) =
    sum_by-cons (λ x. cond (pass_of x == pass && moves x) 1 0) e later
    ∙ ap₂ (λ m n. m + n) (by_pass (pass_of e == pass)) (moved_weighs pass later)
    ∙ sym (sum_by-cons (λ x. cond (pass_of x == pass) (moved_once x) 0) e later)
  where
    by_pass : (b : Bool) → cond (b && moves e) 1 0 ≡ cond b (moved_once e) 0
    by_pass true = refl
    by_pass false = refl

-- a pass that is idle has made at most four events a call and four a move
pub few_events : (limits : Limits) (pass : ℕ) (history : List Event) → IsLegal limits history → IsIdle pass history →
    events_of pass history ≤ 4 * length (own pass history) + 4 * moved_by pass history
few_events limits pass history legal idle =
    let few = holds_of_legal limits (AreFew pass) (omega arith) (few-push limits pass) history legal in
    let none = idle_last (last_by pass history) idle in
    omega (arith, few, none, moved_weighs pass history)

-- of one that is alone these are all events
pub few_events_alone : (limits : Limits) (pass : ℕ) (history : List Event) → IsLegal limits history → IsAlone pass history → IsIdle pass history →
    length history ≤ 4 * length (own pass history) + 4 * moved_by pass history
few_events_alone limits pass history legal alone idle =
    omega (arith, few_events limits pass history legal idle, weigh_by-alone (λ e. 1) pass history alone, length_is_sum history)

-- a step makes its call or none, whatever calls weigh
one_more_call : (w : Call → ℕ) (pass : ℕ) (before after : List Event) (asked : Call) → own pass after ≡ own pass before ++ asked ∷ [] →
    sum_by w (own pass after) ≤ sum_by w (own pass before) + w asked
one_more_call w pass before after asked is = omega (arith, ap (sum_by w) is, sum_by_push w (own pass before) asked)

no_more_calls : (w : Call → ℕ) (pass : ℕ) (before after : List Event) (asked : Call) → own pass after ≡ own pass before →
    sum_by w (own pass after) ≤ sum_by w (own pass before) + w asked
no_more_calls w pass before after asked is = omega (arith, ap (sum_by w) is)

-- a call weighs no less than the one that is made for it: a search by an expression than a find of no words, and a put than the add
pub record IsLight (w : Call → ℕ) : Type 0 where
  pub finds : (asked : Call) (expr : Expr) → expression_of asked ≡ Some expr → w (call.Find []) ≤ w asked
  pub adds : (id : ℕ) (text : List ℕ) → w (call.Add id text) ≤ w (call.Put id text)

-- so it is where each call weighs the same
one_each : IsLight (λ c. 1)
one_each = record { finds = λ asked expr is. omega arith; adds = λ id text. omega arith }

-- what a search makes weighs no more than it
search_calls : (w : Call → ℕ) → IsLight w → (pass : ℕ) (before after : List Event) (asked : Call) (expr : Expr) → expression_of asked ≡ Some expr →
    own pass after ≡ own pass before ++ call.Find [] ∷ [] → sum_by w (own pass after) ≤ sum_by w (own pass before) + w asked
search_calls w light pass before after asked expr is made =
    omega (arith, light.finds asked expr is, one_more_call w pass before after (call.Find []) made)

without_memory : (w : Call → ℕ) → IsLight w → (pass : ℕ) (before after : List Event) (asked : Call) → FindsNoMemory pass before after asked →
    sum_by w (own pass after) ≤ sum_by w (own pass before) + w asked
without_memory w light pass before after (call.Add id text) none = no_more_calls w pass before after (call.Add id text) none
without_memory w light pass before after (call.Put id text) none = no_more_calls w pass before after (call.Put id text) none
without_memory w light pass before after (call.Tune config) none = no_more_calls w pass before after (call.Tune config) none
without_memory w light pass before after (call.Find query) found =
    ⊎_elim (no_more_calls w pass before after (call.Find query)) (one_more_call w pass before after (call.Find query)) found
without_memory w light pass before after (call.Query expr) found =
    ⊎_elim (no_more_calls w pass before after (call.Query expr)) (search_calls w light pass before after (call.Query expr) expr refl) found
without_memory w light pass before after (call.Count expr) found =
    ⊎_elim (no_more_calls w pass before after (call.Count expr)) (search_calls w light pass before after (call.Count expr) expr refl) found
without_memory w light pass before after (call.Newest expr most) found =
    ⊎_elim (no_more_calls w pass before after (call.Newest expr most)) (search_calls w light pass before after (call.Newest expr most) expr refl) found
without_memory w light pass before after (call.Oldest expr most) found =
    ⊎_elim (no_more_calls w pass before after (call.Oldest expr most)) (search_calls w light pass before after (call.Oldest expr most) expr refl) found
without_memory w light pass before after (call.Get id) found =
    ⊎_elim (no_more_calls w pass before after (call.Get id)) (one_more_call w pass before after (call.Get id)) found
without_memory w light pass before after (call.Journal from) found =
    ⊎_elim (no_more_calls w pass before after (call.Journal from)) (one_more_call w pass before after (call.Journal from)) found
without_memory w light pass before after _ none = absurd none

calls_of_step : (w : Call → ℕ) → IsLight w → (limits : Limits) (pass : ℕ) (before after : List Event) (asked : Call) (given : Reply) → Step limits pass before after asked given →
    sum_by w (own pass after) ≤ sum_by w (own pass before) + w asked
calls_of_step w light limits pass before after asked given step =
    ⊎_elim
    (λ made. one_more_call w pass before after asked made.call)
    (λ rest. ⊎_elim
    (λ lacks. without_memory w light pass before after asked lacks.call)
    (λ more. ⊎_elim
    (λ spent. no_more_calls w pass before after asked spent.call)
    (λ last. ⊎_elim
    (λ judged. search_calls w light pass before after asked judged.expr judged.query judged.call)
    (λ put. omega (arith, light.adds put.id put.text, one_more_call w pass before after (call.Add put.id put.text) put.call, ap w put.put))
    last)
    more)
    rest)
    step.outcome

-- the pass is idle after its calls, its history has no more calls than it was asked, whatever these weigh, and it moved no more than they may
pub record Ends (pass : ℕ) (before after : List Event) (calls : List Call) : Type 0 where
  pub idle : IsIdle pass after
  pub few : (w : Call → ℕ) → IsLight w → sum_by w (own pass after) ≤ sum_by w (own pass before) + sum_by w calls
  pub moves_few : moved_by pass after ≤ moved_by pass before + sum_by most_moves calls

pub ends : (limits : Limits) (pass : ℕ) (before after : List Event) (calls : List Call) (replies : List Reply) → IsIdle pass before →
    Linear limits pass before after calls replies → Ends pass before after calls
ends limits pass before after [] [] idle is = record {
  idle = subst (IsIdle pass) is idle;
  few = λ w light. omega (arith, ap (λ (h : List Event). sum_by w (own pass h)) is);
  moves_few = omega (arith, ap (λ (h : List Event). moved_by pass h) is);
}
ends limits pass before after (asked ∷ calls) (given ∷ replies) idle run =
    let others = ends limits pass run.0 after calls replies run.1.idle_after run.2 in
    record {
      idle = others.idle;
      few = λ w light. omega (arith, calls_of_step w light limits pass before run.0 asked given run.1, others.few w light, sum_by-cons w asked calls);
      moves_few = omega (arith, run.1.few_moves, others.moves_few, sum_by-cons most_moves asked calls);
    }
ends limits pass before after [] (given ∷ replies) idle run = absurd run
ends limits pass before after (asked ∷ calls) [] idle run = absurd run

-- and nothing where none of its calls may
pub moves_none : (limits : Limits) (pass : ℕ) (before after : List Event) (calls : List Call) (replies : List Reply) → IsIdle pass before →
    Linear limits pass before after calls replies → sum_by most_moves calls ≡ 0 → moved_by pass after ≡ moved_by pass before
moves_none limits pass before after calls replies idle run none =
    let grows = linear-grows limits pass before after calls replies run in
    let few = (ends limits pass before after calls replies idle run).moves_few in
    omega (arith, few, none, ap (moved_by pass) grows.1, moved_by-append pass before grows.0)

-- calls move few documents each
moves_a_call : (calls : List Call) → sum_by most_moves calls ≤ 16 * length calls
moves_a_call [] = omega arith
moves_a_call (asked ∷ calls) = omega (arith, of_one asked, moves_a_call calls, sum_by-cons most_moves asked calls) where
  of_one : (c : Call) → most_moves c ≤ 16
  of_one (call.Add id text) = omega arith
  of_one (call.Put id text) = omega arith
  of_one _ = omega arith

-- so a pass that is idle after some calls of its own has few events, for each of them four and four for each document that it moves
pub few_events_a_call : (limits : Limits) (pass : ℕ) (history : List Event) (calls : List Call) → IsLegal limits history → Ends pass [] history calls →
    events_of pass history ≤ 68 * length calls
few_events_a_call limits pass history calls legal end =
    omega (
      arith,
      few_events limits pass history legal end.idle,
      end.few (λ c. 1) one_each,
      end.moves_few,
      moves_a_call calls,
      length_is_sum calls,
      length_is_sum (own pass history),
    )

-- and of one that is alone these are all events
pub few_events_of_calls : (limits : Limits) (pass : ℕ) (after : List Event) (calls : List Call) (replies : List Reply) →
    Linear limits pass [] after calls replies → IsAlone pass after → length after ≤ 68 * length calls
few_events_of_calls limits pass after calls replies run alone =
    let few = few_events_a_call limits pass after calls (linear-legal limits pass [] after calls replies tt run)
    (ends limits pass [] after calls replies tt run) in
    omega (arith, few, weigh_by-alone (λ e. 1) pass after alone, length_is_sum after)
