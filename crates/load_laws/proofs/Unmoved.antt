-- A load moves nothing: no document is deleted or dropped up to the end of its adds, and its deletes and queries move nothing by themselves.
use Rattle.std.proofs.Common.{◌≡◌, ℕ, ◌+◌, ◌≤◌, Bool, true, false, cond, List, [], ◌∷◌, ◌++◌, refl, sym, ◌∙◌, subst, arith, append_assoc}
use Rattle.std.proofs.lemmas.Bool.{both_ways, or_from}
use Rattle.std.proofs.lemmas.List.Sums.{sum_by-append, sum_by-cons, sum_by_push}
use Rattle.std.specs.List.{list_any, sum_by}
use Rattle.funnel_model.proofs.CausedMoves.{caused-front, has_cause-push, uncaused}
use Rattle.funnel_model.proofs.Histories.{holds_of_legal, legal_before}
use Rattle.funnel_model.proofs.Moved.{moved_by-still}
use Rattle.funnel_model.proofs.StepLemmas.{linear-grows, linear-legal}
use Rattle.funnel_model.specs.declared.call.Call.{Call}
use Rattle.funnel_model.specs.declared.event.Event.{Event}
use Rattle.funnel_model.specs.declared.event.Event.TheVariants as event
use Rattle.funnel_model.specs.declared.reply.Reply.{Reply}
use Rattle.funnel_model.specs.Events.{moves}
use Rattle.funnel_model.specs.History.{MovesAreCaused, MovesNothing, has_cause, is_cause, is_live, moved_by}
use Rattle.funnel_model.specs.Legal.{Limits, IsAllowed, IsIdle, IsLegal}
use Rattle.funnel_model.specs.Steps.{Linear, most_moves}
use Rattle.load_gen.specs.Documents.{documents}
use Rattle.load_gen.specs.Jobs.{adds_of, deletes_of, jobs, queries_of}
use Rattle.load_gen.proofs.Totals.{total-none}
use Rattle.load_laws.specs.LonePass.{IsAlone}
use Rattle.load_laws.specs.Workers.{IsLoaded}
use Rattle.load_laws.proofs.Balance.{AddsOnce, is_number, not_live_before, number_is}
use Rattle.load_laws.proofs.EventCounts.{IsLight, ends, moved_once, moved_weighs, moves_none}
use Rattle.load_laws.proofs.JobCounts.{add_weight, adds_in_adds, delete_weight, deletes_in_adds, deletes_move_nothing, over, queries_move_nothing}
use Rattle.load_laws.proofs.JobFacts.{at_most_once}
use Rattle.load_laws.proofs.Parts.{parts_asked}
use Rattle.load_laws.proofs.PassTotals.{asked, total-same_below, total-weigh_by, weigh_by, weigh_by-alone, weigh_by-calls}
use Rattle.load_laws.proofs.Quiet.{alone_front}

-- no number is asked to be added twice, and no delete is asked
record AddsEachOnce (history : List Event) : Type 0 where
  once : AddsOnce history
  no_delete : sum_by (asked (delete_weight (λ id. 1))) history ≡ 0

-- so it is before its last event
once_before : (history : List Event) (e : Event) → AddsEachOnce (history ++ e ∷ []) → AddsEachOnce history
once_before history e adds = record {
  once = λ id. omega (arith, adds.once id, sum_by_push (asked (add_weight (is_number id))) history e);
  no_delete = omega (arith, adds.no_delete, sum_by_push (asked (delete_weight (λ id. 1))) history e);
}

-- this event deletes nothing, drops nothing and replaces nothing: the number of a drop, or of an add that replaces, is live, and was asked
-- to be added before
no_cause_next : (limits : Limits) (history : List Event) (e : Event) → IsLegal limits history → IsAllowed limits history e →
    AddsEachOnce (history ++ e ∷ []) → is_cause history e ≡ false
no_cause_next limits history (event.Add pass id text slice column bits) legal allowed adds =
    not_live_before limits history (event.Add pass id text slice column bits) id legal adds.once (number_is id)
no_cause_next limits history (event.Del pass id) legal allowed adds =
    absurd (omega (arith, adds.no_delete, sum_by_push (asked (delete_weight (λ id. 1))) history (event.Del pass id)))
no_cause_next limits history (event.Drop pass id text slice column) legal allowed adds =
    absurd (both_ways (is_live id history)
    (not_live_before limits history (event.Drop pass id text slice column) id legal adds.once (number_is id)) allowed.rule.present)
no_cause_next limits history _ legal allowed adds = refl

-- so nothing is moved there, where each move has its cause
no_cause : (limits : Limits) (history : List Event) → IsLegal limits history → AddsEachOnce history → has_cause history ≡ false
no_cause limits =
    holds_of_legal limits (λ h. AddsEachOnce h → has_cause h ≡ false) (λ adds. refl)
    (λ h e legal before allowed adds.
    has_cause-push h e ∙ or_from (has_cause h) (is_cause h e) (before (once_before h e adds)) (no_cause_next limits h e legal allowed adds))

adds_move_nothing : (limits : Limits) (history : List Event) → IsLegal limits history → MovesAreCaused history → AddsEachOnce history → MovesNothing history
adds_move_nothing limits history legal caused adds = uncaused history caused (no_cause limits history legal adds)

-- nothing is moved where no event weighs as a move
weightless : (history : List Event) → sum_by moved_once history ≡ 0 → MovesNothing history
weightless [] none = refl
weightless (e ∷ later) none =
    let all = sum_by-cons moved_once e later in
    or_from (moves e) (list_any moves later) (unless (moves e) (omega (arith, all, none))) (weightless later (omega (arith, all, none))) where
      unless : (b : Bool) → cond b 1 0 ≤ 0 → b ≡ false
      unless true is = absurd (omega (arith, is))
      unless false is = refl

-- a worker moves nothing for its deletes, nor for its queries
pub deletes_still : (limits : Limits) (worker : ℕ) (before after : List Event) (texts : List (List ℕ)) (workers : ℕ) (replies : List Reply) → IsIdle worker before →
    Linear limits worker before after (deletes_of texts workers worker) replies → moved_by worker after ≡ moved_by worker before
deletes_still limits worker before after texts workers replies idle run =
    moves_none limits worker before after (deletes_of texts workers worker) replies idle run (deletes_move_nothing texts workers worker)

pub queries_still : (limits : Limits) (worker : ℕ) (before after : List Event) (workers : ℕ) (replies : List Reply) → IsIdle worker before →
    Linear limits worker before after (queries_of workers worker) replies → moved_by worker after ≡ moved_by worker before
queries_still limits worker before after workers replies idle run =
    moves_none limits worker before after (queries_of workers worker) replies idle run (queries_move_nothing workers worker)

-- the load of several workers
pub load_moves_nothing : (limits : Limits) (docs words seed workers : ℕ) (history : List Event) (replies : ℕ → List Reply) →
    IsLoaded limits docs words seed workers history replies → MovesNothing history
load_moves_nothing limits docs words seed workers history replies loaded =
    let p = loaded.parts in
    let parts = parts_asked limits docs words seed workers history replies loaded in
    let split : history ≡ p.adding ++ (p.deleting ++ p.querying) = p.whole ∙ append_assoc p.adding p.deleting p.querying in
    let still = adds_move_nothing limits p.adding
    (legal_before limits p.adding (p.deleting ++ p.querying) (subst (IsLegal limits) split loaded.legal))
    (caused-front p.adding (p.deleting ++ p.querying) (subst MovesAreCaused split loaded.caused))
    (record { once = λ id. omega (arith, parts.adds_first (is_number id), at_most_once docs id); no_delete = parts.deletes_first (λ id. 1) }) in
    weightless history
    (sym (total-weigh_by moved_once workers history loaded.no_other)
    ∙ total-same_below (λ worker. weigh_by moved_once worker history) (λ worker. 0) workers
    (λ worker below. sym (moved_weighs worker history) ∙ p.moved worker below ∙ moved_by-still worker p.adding still)
    ∙ total-none workers)

-- calls in two parts are made one part after the other
record TwoRuns (limits : Limits) (pass : ℕ) (before after : List Event) (first more : List Call) : Type 0 where
  middle : List Event
  to_first : List Reply
  to_more : List Reply
  first_run : Linear limits pass before middle first to_first
  more_run : Linear limits pass middle after more to_more

two_runs : (limits : Limits) (pass : ℕ) (before after : List Event) (first more : List Call) (replies : List Reply) →
    Linear limits pass before after (first ++ more) replies → TwoRuns limits pass before after first more
two_runs limits pass before after [] more replies run =
    record { middle = before; to_first = []; to_more = replies; first_run = refl; more_run = run }
two_runs limits pass before after (asked_first ∷ first) more (given ∷ replies) run =
    let rest = two_runs limits pass run.0 after first more replies run.2 in
    record {
      middle = rest.middle;
      to_first = given ∷ rest.to_first;
      to_more = rest.to_more;
      first_run = (run.0, run.1, rest.first_run);
      more_run = rest.more_run;
    }
two_runs limits pass before after (asked_first ∷ first) more [] run = absurd run

-- the load of one worker, whose pass is alone
pub lone_load_moves_nothing : (limits : Limits) (pass docs words seed : ℕ) (after : List Event) (replies : List Reply) →
    Linear limits pass [] after (jobs docs words seed 1 0) replies → IsAlone pass after → MovesAreCaused after → MovesNothing after
lone_load_moves_nothing limits pass docs words seed after replies run alone caused =
    let runs = two_runs limits pass [] after adds others replies
    (subst (λ calls. Linear limits pass [] after calls replies) (append_assoc adds (deletes_of texts 1 0) (queries_of 1 0)) run) in
    let adding = runs.middle in
    let grows = linear-grows limits pass adding after others runs.to_more runs.more_run in
    let end = ends limits pass [] adding adds runs.to_first tt runs.first_run in
    let alone_adding = alone_front pass adding grows.0 (subst (IsAlone pass) (sym grows.1) alone) in
    let weighs : (w : Call → ℕ) → IsLight w → sum_by (asked w) adding ≤ sum_by w adds =
    λ w light. omega (arith, end.few w light, weigh_by-alone (asked w) pass adding alone_adding, weigh_by-calls w pass adding) in
    let still = adds_move_nothing limits adding (linear-legal limits pass [] adding adds runs.to_first tt runs.first_run)
    (caused-front adding grows.0 (subst MovesAreCaused (sym grows.1) caused))
    (record {
      once = λ id. omega (arith, weighs (add_weight (is_number id)) (adds_light (is_number id)), numbers (is_number id), at_most_once docs id);
      no_delete = omega (arith, weighs (delete_weight (λ id. 1)) deletes_light, no_deletes);
    }) in
    let later = (ends limits pass adding after others runs.to_more end.idle runs.more_run).moves_few in
    let nothing : moved_by pass after ≡ 0 = omega (arith, later, moved_by-still pass adding still, others_move_nothing) in
    weightless after (sym (weigh_by-alone moved_once pass after alone) ∙ sym (moved_weighs pass after) ∙ nothing)
  where
    texts : List (List ℕ)
    texts = documents docs words seed

    adds : List Call
    adds = adds_of texts 1 0

    others : List Call
    others = deletes_of texts 1 0 ++ queries_of 1 0

    adds_light : (g : ℕ → ℕ) → IsLight (add_weight g)
    adds_light g = record { finds = λ asked expr is. omega arith; adds = λ id text. omega arith }

    deletes_light : IsLight (delete_weight (λ id. 1))
    deletes_light = record { finds = λ asked expr is. omega arith; adds = λ id text. omega arith }

    numbers : (g : ℕ → ℕ) → 0 + sum_by (add_weight g) adds ≡ over docs g
    numbers g = adds_in_adds g docs words seed 1 (omega arith)

    no_deletes : 0 + sum_by (delete_weight (λ id. 1)) adds ≡ 0
    no_deletes = deletes_in_adds (λ id. 1) texts 1

    others_move_nothing : sum_by most_moves others ≡ 0
    others_move_nothing =
        sum_by-append most_moves (deletes_of texts 1 0) (queries_of 1 0)
        ∙ omega (arith, deletes_move_nothing texts 1 0, queries_move_nothing 1 0)
