-- A whole load that one worker makes: it fits an engine that has room for it, and its replies.
use Rattle.std.proofs.Common.{◌≡◌, ◌≢◌, ℕ, zero, suc, ◌+◌, ◌*◌, ◌%◌, ◌^◌, ◌==◌, ◌<◌, ◌≤◌, Bool, true, false, cond, not, ◌&&◌, List, [], ◌∷◌, ◌++◌, length, map, filter, flat_map, drop, refl, sym, ap, ap₂, ◌∙◌, subst, arith}
use Rattle.std.specs.List.{All, enumerate_from, range_with_len, sum_by}
use Rattle.std.proofs.Math.Seq.{drop-append_seam}
use Rattle.std.proofs.lemmas.List.{append_assoc, length-append}
use Rattle.std.proofs.lemmas.List.Elements.{All-cons, All-nil}
use Rattle.std.proofs.lemmas.List.FromFn.{length-enumerate_from}
use Rattle.std.proofs.lemmas.List.Sums.{sum_by-append, sum_by-cons}
use Rattle.funnel_model.specs.declared.call.Call.{Call}
use Rattle.funnel_model.specs.declared.call.Call.TheVariants as call
use Rattle.funnel_model.specs.declared.event.Event.{Event}
use Rattle.funnel_model.specs.declared.reply.Reply.{Reply}
use Rattle.funnel_model.specs.declared.reply.Reply.TheVariants as reply
use Rattle.funnel_model.specs.History.{MovesAreCaused}
use Rattle.funnel_model.specs.Legal.{Limits}
use Rattle.funnel_model.specs.Steps.{Linear}
use Rattle.funnel_model.specs.Words.{meets}
use Rattle.load_gen.specs.declared.limits.TheConstants.{CHECKED_ONE_IN, MOST_DOCS}
use Rattle.load_gen.specs.Documents.{document, documents, name_of_document}
use Rattle.load_gen.specs.Jobs.{adds_of, deletes_of, is_deleted, jobs, queries_of}
use Rattle.load_gen.specs.Queries.{queries}
use Rattle.load_gen.specs.Summary.{found, result_of, results_of}
use Rattle.load_gen.proofs.Deletes.{each_tenth}
use Rattle.load_laws.specs.LonePass.{IsAlone}
use Rattle.load_laws.specs.Loads.{AreInTurn, FitsEmptyEngine, adds_in, answers_from, answers_of, commits_in, numbers_meeting, held_after, is_add, is_commit}
use Rattle.load_laws.specs.Replies.{lone_add, replies_to_adds, replies_to_deletes, replies_to_jobs, replies_to_queries, result_in}
use Rattle.load_laws.proofs.AddsPart.{AddsAnswered, IsBelow, IsNamed, adds_answered}
use Rattle.load_laws.proofs.DeletesPart.{deletes_answered, deletes_in_turn, deletes_leave}
use Rattle.load_laws.proofs.EventCounts.{few_events_of_calls}
use Rattle.load_laws.proofs.ListLemmas.{answers-append, in_turn-append}
use Rattle.load_laws.proofs.LoadLemmas.{load_is_answered}
use Rattle.load_laws.proofs.OneWorker.{adds-one, deletes-one, length-documents, queries-one}
use Rattle.load_laws.proofs.PlainQueries.{meets-document}
use Rattle.load_laws.proofs.Unmoved.{lone_load_moves_nothing}
use Rattle.load_laws.proofs.WorkerEvents.{calls_are_few}
use Rattle.load_laws.specs.Workers.{calls_of_load}

-- the three parts
abbrev first_part : List (List ℕ) → List Call
first_part texts = flat_map lone_add (enumerate_from 1 texts)

abbrev second_part : List (List ℕ) → List Call
second_part texts = map call.Delete (filter is_deleted (range_with_len 1 (length texts)))

abbrev third_part : List Call
third_part = map call.Find queries

abbrev all_parts : List (List ℕ) → List Call
all_parts texts = first_part texts ++ (second_part texts ++ third_part)

parts : (docs words seed : ℕ) → jobs docs words seed 1 0 ≡ all_parts (documents docs words seed)
parts docs words seed =
    let texts = documents docs words seed in
    append_assoc (adds_of texts 1 0) (deletes_of texts 1 0) (queries_of 1 0)
    ∙ ap₂ (λ (first others : List Call). first ++ others) (adds-one texts) (ap₂ (λ (second third : List Call). second ++ third) (deletes-one texts) queries-one)

-- queries are answered by what is held, and leave it
queries_answered : (place : ℕ) (held : List (ℕ × List ℕ)) (asked : List (List ℕ)) → answers_from place held (map call.Find asked) ≡ map (λ query. reply.Found (numbers_meeting held query)) asked
queries_answered place held [] = refl
queries_answered place held (query ∷ asked) = ap (λ rs. reply.Found (numbers_meeting held query) ∷ rs) (queries_answered place held asked)

queries_in_turn : (held : List (ℕ × List ℕ)) (asked : List (List ℕ)) → AreInTurn held (map call.Find asked)
queries_in_turn held [] = tt
queries_in_turn held (query ∷ asked) = queries_in_turn held asked

-- what passes two tests in turn passes both
filter_both : (p q : ℕ × List ℕ → Bool) (ds : List (ℕ × List ℕ)) → filter p (filter q ds) ≡ filter (λ d. q d && p d) ds
filter_both p q [] = refl
filter_both p q (d ∷ ds) = by_tests (q d) (p d) refl (filter_both p q ds) where
  by_tests : (here there : Bool) → p d ≡ there → filter p (filter q ds) ≡ filter (λ x. q x && p x) ds →
      filter p (cond here (d ∷ filter q ds) (filter q ds)) ≡ cond (here && there) (d ∷ filter (λ x. q x && p x) ds) (filter (λ x. q x && p x) ds)
  by_tests true true is rest = ap (λ b. cond b (d ∷ filter p (filter q ds)) (filter p (filter q ds))) is ∙ ap (λ xs. d ∷ xs) rest
  by_tests true false is rest = ap (λ b. cond b (d ∷ filter p (filter q ds)) (filter p (filter q ds))) is ∙ rest
  by_tests false there is rest = rest

-- among the documents that are left a query finds what the summary tells
found_left : (texts : List (List ℕ)) (query : List ℕ) → numbers_meeting (filter (λ d. not (is_deleted d.0)) (enumerate_from 1 texts)) query ≡ found texts query
found_left texts query = ap (λ (ds : List (ℕ × List ℕ)). map (λ d. d.0) ds) (filter_both (λ d. meets d.1 query) (λ d. not (is_deleted d.0)) (enumerate_from 1 texts))

all_found : (texts asked : List (List ℕ)) →
    map (λ query. reply.Found (numbers_meeting (filter (λ d. not (is_deleted d.0)) (enumerate_from 1 texts)) query)) asked ≡ map (λ query. reply.Found (found texts query)) asked
all_found texts [] = refl
all_found texts (query ∷ asked) = ap₂ (λ ids rs. reply.Found ids ∷ rs) (found_left texts query) (all_found texts asked)

-- how many of a list of calls are of a kind
abbrev count_of : (Call → Bool) → List Call → ℕ
count_of p calls = sum_by (λ c. cond (p c) 1 0) calls

-- of a kind of which each add is and no find is there is one call for each document that is added
adds_counted : (p : Call → Bool) → ((id : ℕ) (text : List ℕ) → p (call.Add id text) ≡ true) → ((query : List ℕ) → p (call.Find query) ≡ false) →
    (n : ℕ) (texts : List (List ℕ)) → count_of p (flat_map lone_add (enumerate_from n texts)) ≡ length texts
adds_counted p add find n [] = refl
adds_counted p add find n (text ∷ texts) =
    let rest = flat_map lone_add (enumerate_from (n + 1) texts) in
    let later = adds_counted p add find (n + 1) texts in
    let first = one (n % CHECKED_ONE_IN == 0) in
    sum_by-append (λ c. cond (p c) 1 0) (lone_add (n, text)) rest ∙ omega (arith, first, later)
  where
    one : (b : Bool) → count_of p (call.Add n text ∷ cond b (call.Find (name_of_document n) ∷ []) []) ≡ 1
    one true = ap₂ (λ a f. sum_by (λ b. cond b 1 0) (a ∷ f ∷ [])) (add n text) (find (name_of_document n))
    one false = ap (λ a. sum_by (λ b. cond b 1 0) (a ∷ [])) (add n text)

-- of deletes none is an add
deletes_are_no_adds : (ids : List ℕ) → count_of is_add (map call.Delete ids) ≡ 0
deletes_are_no_adds [] = refl
deletes_are_no_adds (id ∷ ids) =
    let later = deletes_are_no_adds ids in
    sum_by-cons (λ c. cond (is_add c) 1 0) (call.Delete id) (map call.Delete ids) ∙ omega (arith, later)

-- a load has an add for each document
adds_of_load : (texts : List (List ℕ)) → adds_in (all_parts texts) ≡ length texts
adds_of_load texts =
    let first = adds_counted is_add (λ id text. refl) (λ query. refl) 1 texts in
    let second = deletes_are_no_adds (filter is_deleted (range_with_len 1 (length texts))) in
    let third : count_of is_add third_part ≡ 0 = refl in
    let others = sum_by-append (λ c. cond (is_add c) 1 0) (second_part texts) third_part in
    sum_by-append (λ c. cond (is_add c) 1 0) (first_part texts) (second_part texts ++ third_part) ∙ omega (arith, first, second, third, others)

-- the generated documents are found by their names
named_from : (words seed n docs : ℕ) → n + docs < 2 ^ 64 → All IsNamed (enumerate_from (n + 1) (map (document words seed) (range_with_len n docs)))
named_from words seed n zero small = All-nil IsNamed
named_from words seed n (suc docs) small =
    All-cons IsNamed (n + 1, document words seed n) (enumerate_from (n + 1 + 1) (map (document words seed) (range_with_len (n + 1) docs)))
    (λ asked below. meets-document words seed n asked (omega (arith, small)) below) (named_from words seed (n + 1) docs (omega (arith, small)))

documents_are_named : (docs words seed : ℕ) → docs ≤ MOST_DOCS → All IsNamed (enumerate_from 1 (documents docs words seed))
documents_are_named docs words seed few = named_from words seed 0 docs (omega (arith, few))

-- the first part of a load
first_answered : (docs words seed : ℕ) → docs ≤ MOST_DOCS → AddsAnswered 0 [] (enumerate_from 1 (documents docs words seed))
first_answered docs words seed few =
    let count = length-documents docs words seed in
    adds_answered 0 [] (documents docs words seed) (omega (arith, few, count)) (All-nil (IsBelow 1)) (All-nil IsNamed) (documents_are_named docs words seed few)

-- the calls of a load are in turn
in_turn : (docs words seed : ℕ) → docs ≤ MOST_DOCS → AreInTurn [] (all_parts (documents docs words seed))
in_turn docs words seed few =
    let texts = documents docs words seed in
    let first = first_answered docs words seed few in
    let left = held_after (enumerate_from 1 texts) (second_part texts) in
    in_turn-append [] (first_part texts) (second_part texts ++ third_part) first.in_turn
    (subst (λ held. AreInTurn held (second_part texts ++ third_part)) (sym first.after)
    (in_turn-append (enumerate_from 1 texts) (second_part texts) third_part (deletes_in_turn texts) (queries_in_turn left queries)))

-- a load fits an engine with a column for each document
pub load_fits : (limits : Limits) (docs words seed : ℕ) → docs ≤ MOST_DOCS → docs ≤ limits.slices * limits.columns →
    FitsEmptyEngine limits (jobs docs words seed 1 0)
load_fits limits docs words seed few columns =
    let texts = documents docs words seed in
    let count = length-documents docs words seed in
    let of_adds = adds_of_load texts in
    subst (FitsEmptyEngine limits) (sym (parts docs words seed)) (record {
      in_turn = in_turn docs words seed few;
      columns = omega (arith, of_adds, count, columns);
    })

-- the replies to the second and the third part
others_answered : (texts : List (List ℕ)) → answers_from (length texts) (enumerate_from 1 texts) (second_part texts ++ third_part) ≡ replies_to_deletes (length texts) ++ replies_to_queries texts
others_answered texts =
    let ids = filter is_deleted (range_with_len 1 (length texts)) in
    let left = filter (λ d. not (is_deleted d.0)) (enumerate_from 1 texts) in
    let place = length texts + commits_in (second_part texts) in
    answers-append (length texts) (enumerate_from 1 texts) (second_part texts) third_part
    ∙ ap₂ (λ (second third : List Reply). second ++ third)
    (deletes_answered (length texts) (enumerate_from 1 texts) ids ∙ ap (λ n. map reply.Deleted (range_with_len (length texts + 1) n)) (each_tenth (length texts)))
    (ap (λ held. answers_from place held third_part) (deletes_leave texts) ∙ queries_answered place left queries ∙ all_found texts queries)

-- the replies to a load
pub load_answers : (docs words seed : ℕ) → docs ≤ MOST_DOCS → answers_of [] (jobs docs words seed 1 0) ≡ replies_to_jobs docs words seed
load_answers docs words seed few =
    let texts = documents docs words seed in
    let first = first_answered docs words seed few in
    let count = length-documents docs words seed in
    let commits = adds_counted is_commit (λ id text. refl) (λ query. refl) 1 texts in
    let at : 0 + commits_in (first_part texts) ≡ length texts = omega (arith, commits) in
    ap (answers_of []) (parts docs words seed)
    ∙ answers-append 0 [] (first_part texts) (second_part texts ++ third_part)
    ∙ ap₂ (λ (one others : List Reply). one ++ others)
    (first.replies ∙ ap (λ n. replies_to_adds n) (length-enumerate_from 1 texts ∙ count))
    (ap₂ (λ n held. answers_from n held (second_part texts ++ third_part)) at first.after ∙ others_answered texts
    ∙ ap (λ n. replies_to_deletes n ++ replies_to_queries texts) count)
    ∙ sym (append_assoc (replies_to_adds docs) (replies_to_deletes docs) (replies_to_queries texts))

-- a load is far too short to spend the events
pub load_is_short : (docs words seed : ℕ) → docs ≤ MOST_DOCS → 68 * length (jobs docs words seed 1 0) < 2 ^ 62
load_is_short docs words seed few =
    let calls = calls_are_few docs words seed 1 (omega arith) in
    let one : calls_of_load docs words seed 1 ≡ 0 + length (jobs docs words seed 1 0) = refl in
    omega (arith, few, calls, one)

-- a pass that is alone and finds memory is answered so
pub load_is_replied : (limits : Limits) (pass docs words seed : ℕ) (after : List Event) (replies : List Reply) → docs ≤ MOST_DOCS →
    docs ≤ limits.slices * limits.columns → 2 ^ 62 ≤ limits.events →
    Linear limits pass [] after (jobs docs words seed 1 0) replies → IsAlone pass after → MovesAreCaused after →
    All (λ r. r ≢ reply.Memory) replies → replies ≡ replies_to_jobs docs words seed
load_is_replied limits pass docs words seed after replies few columns many run alone caused memory =
    let short = load_is_short docs words seed few in
    let events = few_events_of_calls limits pass after (jobs docs words seed 1 0) replies run alone in
    load_is_answered limits pass after (jobs docs words seed 1 0) replies run alone
    (lone_load_moves_nothing limits pass docs words seed after replies run alone caused) (omega (arith, short, events, many)) memory
    (load_fits limits docs words seed few columns)
    ∙ load_answers docs words seed few

-- the results in the last eight replies are those of the summary
results_from : (texts asked : List (List ℕ)) → map result_in (map (λ query. reply.Found (found texts query)) asked) ≡ map (λ query. result_of (found texts query)) asked
results_from texts [] = refl
results_from texts (query ∷ asked) = ap (λ rs. result_of (found texts query) ∷ rs) (results_from texts asked)

pub last_results : (docs words seed : ℕ) (earlier last : List Reply) → earlier ++ last ≡ replies_to_jobs docs words seed → length last ≡ 8 →
    map result_in last ≡ results_of (documents docs words seed)
last_results docs words seed earlier last all eight =
    let texts = documents docs words seed in
    let front = replies_to_adds docs ++ replies_to_deletes docs in
    let these = length-append earlier last in
    let those = length-append front (replies_to_queries texts) in
    let queried : length (replies_to_queries texts) ≡ 8 = refl in
    let as_long : length earlier ≡ length front = let same = ap (λ (rs : List Reply). length rs) all in omega (arith, these, those, queried, same, eight) in
    let is : last ≡ replies_to_queries texts =
    sym (drop-append_seam earlier last) ∙ ap₂ (λ (n : ℕ) (rs : List Reply). drop n rs) as_long all ∙ drop-append_seam front (replies_to_queries texts) in
    ap (λ (rs : List Reply). map result_in rs) is ∙ results_from texts queries
