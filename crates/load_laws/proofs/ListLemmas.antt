-- What a plain list of documents tells of more calls, and what a query finds in it.
use Rattle.std.proofs.Common.{◌≡◌, ℕ, ◌+◌, true, List, [], ◌∷◌, ◌++◌, filter, ap, ◌∙◌, arith, Contains}
use Rattle.funnel_model.proofs.AnswerLemmas.{Contains-filter, Contains-map, kept_by_filter}
use Rattle.funnel_model.specs.declared.call.Call.{Call}
use Rattle.funnel_model.specs.declared.call.Call.TheVariants as call
use Rattle.funnel_model.specs.declared.reply.Reply.TheVariants as reply
use Rattle.funnel_model.specs.Words.{meets}
use Rattle.load_laws.specs.Loads.{AreInTurn, answers_from, commits_in, numbers_meeting, held_after, without}
use Rattle.load_laws.proofs.LoadLemmas.{commits-cons}

-- further calls are answered as the documents tell that are held by then
pub answers-append : (place : ℕ) (documents : List (ℕ × List ℕ)) (first more : List Call) →
    answers_from place documents (first ++ more)
    ≡ answers_from place documents first ++ answers_from (place + commits_in first) (held_after documents first) more
answers-append place documents [] more = ap (λ n. answers_from n documents more) (let h : place ≡ place + 0 = omega arith in h)
answers-append place documents (call.Add id text ∷ calls) more =
    let held = documents ++ (id, text) ∷ [] in
    let one : place + 1 + commits_in calls ≡ place + commits_in (call.Add id text ∷ calls) = omega (arith, commits-cons (call.Add id text) calls) in
    ap (λ rs. reply.Added (place + 1) ∷ rs) (answers-append (place + 1) held calls more)
    ∙ ap (λ n. reply.Added (place + 1) ∷ (answers_from (place + 1) held calls ++ answers_from n (held_after held calls) more)) one
answers-append place documents (call.Delete id ∷ calls) more =
    let held = without id documents in
    let one : place + 1 + commits_in calls ≡ place + commits_in (call.Delete id ∷ calls) = omega (arith, commits-cons (call.Delete id) calls) in
    ap (λ rs. reply.Deleted (place + 1) ∷ rs) (answers-append (place + 1) held calls more)
    ∙ ap (λ n. reply.Deleted (place + 1) ∷ (answers_from (place + 1) held calls ++ answers_from n (held_after held calls) more)) one
answers-append place documents (call.Find query ∷ calls) more =
    let none : place + commits_in calls ≡ place + commits_in (call.Find query ∷ calls) = omega (arith, commits-cons (call.Find query) calls) in
    ap (λ rs. reply.Found (numbers_meeting documents query) ∷ rs) (answers-append place documents calls more)
    ∙ ap (λ n. reply.Found (numbers_meeting documents query) ∷ (answers_from place documents calls ++ answers_from n (held_after documents calls) more)) none
answers-append place documents (asked ∷ calls) more =
    let none : place + commits_in calls ≡ place + commits_in (asked ∷ calls) = omega (arith, commits-cons asked calls) in
    answers-append place documents calls more
    ∙ ap (λ n. answers_from place documents calls ++ answers_from n (held_after documents calls) more) none

-- further calls are in turn where they are for the documents that are held by then
pub in_turn-append : (documents : List (ℕ × List ℕ)) (first more : List Call) → AreInTurn documents first → AreInTurn (held_after documents first) more →
    AreInTurn documents (first ++ more)
in_turn-append documents [] more turn next = next
in_turn-append documents (call.Add id text ∷ calls) more turn next = (turn.0, in_turn-append (documents ++ (id, text) ∷ []) calls more turn.1 next)
in_turn-append documents (call.Delete id ∷ calls) more turn next = (turn.0, in_turn-append (without id documents) calls more turn.1 next)
in_turn-append documents (call.Find query ∷ calls) more turn next = in_turn-append documents calls more turn next
in_turn-append documents (_ ∷ calls) more turn next = absurd turn

-- a query finds each document that meets it, and no other
pub found_has : (documents : List (ℕ × List ℕ)) (query : List ℕ) (d : ℕ × List ℕ) → Contains documents d → meets d.1 query ≡ true →
    Contains (numbers_meeting documents query) d.0
found_has documents query d held meets_it =
    Contains-map (λ (x : ℕ × List ℕ). x.0) (filter (λ (x : ℕ × List ℕ). meets x.1 query) documents) d
    (Contains-filter (λ (x : ℕ × List ℕ). meets x.1 query) documents d held meets_it)

pub found_only : (documents : List (ℕ × List ℕ)) (query : List ℕ) (id : ℕ) → Contains (numbers_meeting documents query) id →
    (d : ℕ × List ℕ) × Contains documents d × (d.0 ≡ id) × (meets d.1 query ≡ true)
found_only documents query id is = kept_by_filter (λ (x : ℕ × List ℕ). x.0) (λ (x : ℕ × List ℕ). meets x.1 query) documents id is
