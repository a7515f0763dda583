-- The events of a load of several workers: how many there are, and which calls they answer.
use Rattle.std.proofs.Common.{◌≡◌, ℕ, zero, suc, ◌+◌, ◌*◌, ◌/◌, ◌%◌, ◌^◌, ◌<◌, ◌≤◌, ◌==◌, Bool, true, false, cond, List, [], ◌∷◌, ◌++◌, Some, length, flat_map, refl, sym, ap, ap₂, ◌∙◌, subst, arith}
use Rattle.std.proofs.lemmas.List.{length-append, length-map}
use Rattle.std.proofs.lemmas.List.Elements.{All-head}
use Rattle.std.specs.List.{All, cons_option, enumerate_from, range_with_len, sum_by}
use Rattle.funnel_model.proofs.StepLemmas.{call_by-own, own-append}
use Rattle.funnel_model.specs.declared.call.Call.{Call}
use Rattle.funnel_model.specs.declared.call.Call.TheVariants as call
use Rattle.funnel_model.specs.declared.event.Event.{Event}
use Rattle.funnel_model.specs.declared.reply.Reply.{Reply}
use Rattle.funnel_model.specs.Events.{call_of, pass_of}
use Rattle.funnel_model.specs.History.{own}
use Rattle.funnel_model.specs.Legal.{Limits, IsIdle, IsLegal}
use Rattle.load_gen.specs.declared.limits.TheConstants.{CHECKED_ONE_IN, MOST_DOCS}
use Rattle.load_gen.specs.Documents.{documents, name_of_document}
use Rattle.load_gen.specs.Jobs.{add_and_check, adds_of, deletes_of, jobs, nth_add, queries_of, share}
use Rattle.load_gen.specs.Queries.{queries}
use Rattle.load_gen.proofs.Shares.{deletes-total, share-total}
use Rattle.load_gen.proofs.Totals.{sum_by-total, total, total-plus, total-same}
use Rattle.load_laws.specs.Workers.{HasAsked, IsLoaded, calls_of_load}
use Rattle.load_laws.proofs.EventCounts.{Ends, ends, events_of, few_events_a_call}
use Rattle.load_laws.proofs.FrontLemmas.{calls_in_front, idle_from_front, moved_in_front}
use Rattle.load_laws.proofs.OneWorker.{length-documents}
use Rattle.load_laws.proofs.Quiet.{all_second}
use Rattle.load_laws.proofs.PassTotals.{length_is_sum, total-below, total-weigh_by}

-- the calls of a worker are its jobs
pub own_of_load : (limits : Limits) (docs words seed workers : ℕ) (history : List Event) (replies : ℕ → List Reply) →
    IsLoaded limits docs words seed workers history replies → (worker : ℕ) → worker < workers → own worker history ≡ jobs docs words seed workers worker
own_of_load limits docs words seed workers history replies loaded worker below =
    let p = loaded.parts in
    ap (own worker) p.whole ∙ own-append worker (p.adding ++ p.deleting) p.querying
    ∙ ap₂ (λ (xs ys : List Call). xs ++ ys)
    (own-append worker p.adding p.deleting ∙ ap₂ (λ (xs ys : List Call). xs ++ ys) (p.adds worker below) (p.deletes worker below)) (p.queries worker below)

-- how a pass ends in a history once its calls are made
ends_in : (limits : Limits) (history : List Event) (pass : ℕ) (calls : List Call) (replies : List Reply) → HasAsked limits history pass calls replies →
    Ends pass [] history calls
ends_in limits history pass calls replies asked =
    let end = ends limits pass [] asked.front calls replies tt asked.run in
    record {
      idle = idle_from_front pass asked.front history asked.seen end.idle;
      few = λ w light. omega (arith, end.few w light, ap (sum_by w) (calls_in_front pass asked.front history asked.seen));
      moves_few = omega (arith, end.moves_few, moved_in_front pass asked.front history asked.seen);
    }

pub idle_in : (limits : Limits) (history : List Event) (pass : ℕ) (calls : List Call) (replies : List Reply) → HasAsked limits history pass calls replies →
    IsIdle pass history
idle_in limits history pass calls replies asked = (ends_in limits history pass calls replies asked).idle

total-times : (f : ℕ → ℕ) (n : ℕ) → total (λ k. 68 * f k) n ≡ 68 * total f n
total-times f zero = refl
total-times f (suc n) = let lower = total-times f n in omega arith

-- the history has few events a call where no pass but those that asked has one
pub few_events_of_all : (limits : Limits) (workers : ℕ) (history : List Event) (calls : ℕ → List Call) (replies : ℕ → List Reply) →
    IsLegal limits history → All (λ e. pass_of e < workers) history →
    ((worker : ℕ) → worker < workers → HasAsked limits history worker (calls worker) (replies worker)) →
    length history ≤ 68 * sum_by (λ worker. length (calls worker)) (range_with_len 0 workers)
few_events_of_all limits workers history calls replies legal no_other asked =
    let all : length history ≡ total (λ worker. events_of worker history) workers =
    length_is_sum history ∙ sym (total-weigh_by (λ e. 1) workers history no_other) in
    let each = total-below (λ worker. events_of worker history) (λ worker. 68 * length (calls worker)) workers
    (λ worker below. few_events_a_call limits worker history (calls worker) legal (ends_in limits history worker (calls worker) (replies worker) (asked worker below))) in
    let times = total-times (λ worker. length (calls worker)) workers in
    let counted = sum_by-total (λ worker. length (calls worker)) workers in
    omega (arith, all, each, times, counted)

-- a worker's adds and the finds between them are at most two for a document
two_a_document : (n : ℕ) (items : List (ℕ × List ℕ)) → length (flat_map nth_add (enumerate_from n items)) ≤ 2 * length items
two_a_document n [] = omega arith
two_a_document n ((i, text) ∷ items) =
    let first = two (n % CHECKED_ONE_IN == 0) in
    let later = two_a_document (n + 1) items in
    let both = length-append (add_and_check n (i + 1, text)) (flat_map nth_add (enumerate_from (n + 1) items)) in
    omega (arith, first, later, both)
  where
    two : (b : Bool) → length (call.Add (i + 1) text ∷ cond b (call.Find (name_of_document (i + 1)) ∷ []) []) ≤ 2
    two true = omega arith
    two false = omega arith

-- so all workers together make at most two calls a document, one for each tenth, and the queries
pub calls_are_few : (docs words seed workers : ℕ) → 0 < workers → calls_of_load docs words seed workers ≤ 2 * docs + docs / 10 + 8
calls_are_few docs words seed workers some =
    let texts = documents docs words seed in
    let calls = sum_by-total (λ worker. length (jobs docs words seed workers worker)) workers in
    let parts = total-same (λ worker. length (jobs docs words seed workers worker))
    (λ worker. length (adds_of texts workers worker) + length (deletes_of texts workers worker) + length (queries_of workers worker)) workers
    (λ worker. length-append (adds_of texts workers worker ++ deletes_of texts workers worker) (queries_of workers worker)
    ∙ ap (λ n. n + length (queries_of workers worker)) (length-append (adds_of texts workers worker) (deletes_of texts workers worker))) in
    let two = total-plus (λ worker. length (adds_of texts workers worker) + length (deletes_of texts workers worker)) (λ worker. length (queries_of workers worker)) workers in
    let one = total-plus (λ worker. length (adds_of texts workers worker)) (λ worker. length (deletes_of texts workers worker)) workers in
    let adds = total-below (λ worker. length (adds_of texts workers worker)) (λ worker. length (share texts workers worker) + length (share texts workers worker)) workers
    (λ worker below. let two = two_a_document 1 (share texts workers worker) in omega arith) in
    let shares = total-plus (λ worker. length (share texts workers worker)) (λ worker. length (share texts workers worker)) workers in
    let documents_shared = sym (sum_by-total (λ worker. length (share texts workers worker)) workers) ∙ share-total texts workers some in
    let count = length-documents docs words seed in
    let deletes : total (λ worker. length (deletes_of texts workers worker)) workers ≡ docs / 10 =
    sym (sum_by-total (λ worker. length (deletes_of texts workers worker)) workers) ∙ deletes-total texts workers some ∙ ap (λ n. n / 10) count in
    let asked : total (λ worker. length (queries_of workers worker)) workers ≡ 8 =
    total-same (λ worker. length (queries_of workers worker)) (λ worker. length (share queries workers worker)) workers
    (λ worker. length-map (share queries workers worker) (λ item. call.Find item.1))
    ∙ sym (sum_by-total (λ worker. length (share queries workers worker)) workers) ∙ share-total queries workers some in
    omega arith

-- far fewer events than any engine takes
pub load_is_unspent : (limits : Limits) (docs words seed workers : ℕ) (history : List Event) (replies : ℕ → List Reply) → 0 < workers → docs ≤ MOST_DOCS →
    IsLegal limits history → All (λ e. pass_of e < workers) history →
    ((worker : ℕ) → worker < workers → HasAsked limits history worker (jobs docs words seed workers worker) (replies worker)) → length history < 2 ^ 62
load_is_unspent limits docs words seed workers history replies some few legal no_other asked =
    let events : length history ≤ 68 * calls_of_load docs words seed workers =
    few_events_of_all limits workers history (λ worker. jobs docs words seed workers worker) replies legal no_other asked in
    let calls = calls_are_few docs words seed workers some in
    omega (arith, few, events, calls)

-- what holds of all calls of each pass holds of the call that an event answers
pub call_in : (P : Call → Type 0) (history earlier : List Event) (e : Event) (later : List Event) (asked : Call) → history ≡ earlier ++ e ∷ later →
    call_of e ≡ Some asked → All P (own (pass_of e) history) → P asked
call_in P history earlier e later asked whole is all =
    let pass = pass_of e in
    let split : own pass history ≡ own pass earlier ++ asked ∷ own pass later =
    ap (own pass) whole ∙ own-append pass earlier (e ∷ later)
    ∙ ap (λ o. own pass earlier ++ cons_option o (own pass later)) (call_by-own pass e refl ∙ is) in
    All-head P asked (own pass later) (all_second P (own pass earlier) (asked ∷ own pass later) (subst (All P) split all))
