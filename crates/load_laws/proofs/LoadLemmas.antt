-- A load that a pass makes alone is answered as a plain list of documents tells.
use Rattle.std.proofs.Common.{◌≡◌, ◌≢◌, ℕ, ◌+◌, ◌*◌, ◌<◌, ◌≤◌, Bool, true, false, cond, not, ◌||◌, List, [], ◌∷◌, ◌++◌, length, map, filter, sym, refl, ap, ◌∙◌, subst, arith}
use Rattle.std.proofs.lemmas.List.{length-append, map-append}
use Rattle.std.proofs.lemmas.List.Elements.{All-head, All-tail}
use Rattle.std.proofs.lemmas.List.Sums.{sum_by-cons}
use Rattle.std.specs.List.{All, list_any}
use Rattle.std.specs.Prelude.{◌==◌}
use Rattle.funnel_model.proofs.NothingMoved.{moves_nothing-parts}
use Rattle.funnel_model.proofs.StepLemmas.{linear-grows}
use Rattle.funnel_model.specs.declared.call.Call.{Call}
use Rattle.funnel_model.specs.declared.call.Call.TheVariants as call
use Rattle.funnel_model.specs.declared.event.Event.{Event}
use Rattle.funnel_model.specs.declared.reply.Reply.{Reply}
use Rattle.funnel_model.specs.declared.reply.Reply.TheVariants as reply
use Rattle.funnel_model.specs.History.{Document, MovesNothing, live, place}
use Rattle.funnel_model.specs.Legal.{Limits}
use Rattle.funnel_model.specs.Steps.{Linear}
use Rattle.funnel_model.specs.Words.{meets}
use Rattle.load_laws.specs.LonePass.{IsAlone, LoneStep, count_of_takes}
use Rattle.load_laws.specs.Loads.{AreInTurn, FitsEmptyEngine, HasDocuments, answers_from, answers_of, adds_in, commits_in, numbers_meeting, held_after, holds, is_add, is_commit, without}
use Rattle.load_laws.proofs.LoneSteps.{adds, deletes_it, finds}
use Rattle.load_laws.proofs.Quiet.{alone_front}

-- the documents by their numbers and texts alone
abbrev pub pairs : List Document → List (ℕ × List ℕ)
pairs documents = map (λ d. (d.id, d.text)) documents

-- they hold the same numbers
holds_pairs : (id : ℕ) (documents : List Document) → holds id (pairs documents) ≡ list_any (λ d. d.id == id) documents
holds_pairs id [] = refl
holds_pairs id (d ∷ ds) = ap (λ b. (d.id == id) || b) (holds_pairs id ds)

-- and without one of them the same are left
without_pairs : (id : ℕ) (documents : List Document) → without id (pairs documents) ≡ pairs (filter (λ d. not (d.id == id)) documents)
without_pairs id [] = refl
without_pairs id (d ∷ ds) = by_test (not (d.id == id)) (without_pairs id ds) where
  by_test : (b : Bool) → without id (pairs ds) ≡ pairs (filter (λ x. not (x.id == id)) ds) →
      cond b ((d.id, d.text) ∷ without id (pairs ds)) (without id (pairs ds)) ≡ pairs (cond b (d ∷ filter (λ x. not (x.id == id)) ds) (filter (λ x. not (x.id == id)) ds))
  by_test true rest = ap (λ ps. (d.id, d.text) ∷ ps) rest
  by_test false rest = rest

-- a query finds the same
found_pairs : (documents : List Document) (query : List ℕ) → numbers_meeting (pairs documents) query ≡ map (λ d. d.id) (filter (λ d. meets d.text query) documents)
found_pairs [] query = refl
found_pairs (d ∷ ds) query = by_test (meets d.text query) (found_pairs ds query) where
  by_test : (b : Bool) → numbers_meeting (pairs ds) query ≡ map (λ x. x.id) (filter (λ x. meets x.text query) ds) →
      map (λ (p : ℕ × List ℕ). p.0) (cond b ((d.id, d.text) ∷ filter (λ p. meets p.1 query) (pairs ds)) (filter (λ p. meets p.1 query) (pairs ds)))
      ≡ map (λ x. x.id) (cond b (d ∷ filter (λ x. meets x.text query) ds) (filter (λ x. meets x.text query) ds))
  by_test true rest = ap (λ ns. d.id ∷ ns) rest
  by_test false rest = rest

-- the calls are made by a pass that is alone, which found memory, before the events were spent, and nothing is moved
record Made (limits : Limits) (pass : ℕ) (before after : List Event) (calls : List Call) (replies : List Reply) : Type 0 where
  run : Linear limits pass before after calls replies
  alone : IsAlone pass after
  unmoved : MovesNothing after
  unspent : length after < limits.events
  memory : All (λ r. r ≢ reply.Memory) replies

-- the first of them, and the others
record MadeFirst (limits : Limits) (pass : ℕ) (before after : List Event) (asked : Call) (calls : List Call) (given : Reply) (replies : List Reply) : Type 0 where
  middle : List Event
  first : LoneStep limits pass before middle asked given
  others : Made limits pass middle after calls replies

made_first : (limits : Limits) (pass : ℕ) (before after : List Event) (asked : Call) (calls : List Call) (given : Reply) (replies : List Reply) →
    Made limits pass before after (asked ∷ calls) (given ∷ replies) → MadeFirst limits pass before after asked calls given replies
made_first limits pass before after asked calls given replies made =
    let middle = made.run.0 in
    let grows = linear-grows limits pass middle after calls replies made.run.2 in
    let few = made.unspent in
    let counted = length-append middle grows.0 in
    let same = ap length grows.1 in
    record {
      middle = middle;
      first = record {
        step = made.run.1;
        alone = alone_front pass middle grows.0 (subst (IsAlone pass) (sym grows.1) made.alone);
        unmoved = (moves_nothing-parts middle grows.0 (subst MovesNothing (sym grows.1) made.unmoved)).0;
        unspent = omega arith;
        memory = All-head (λ r. r ≢ reply.Memory) given replies made.memory;
      };
      others = record {
        run = made.run.2;
        alone = made.alone;
        unmoved = made.unmoved;
        unspent = few;
        memory = All-tail (λ r. r ≢ reply.Memory) given replies made.memory;
      };
    }

-- the calls fit what stands in the history: they are in turn, and there is a column for each add
record FitsAfter (limits : Limits) (before : List Event) (calls : List Call) : Type 0 where
  in_turn : AreInTurn (pairs (live before)) calls
  columns : count_of_takes before + adds_in calls ≤ limits.slices * limits.columns

-- the adds and the commits of calls, where one more comes first
adds-cons : (asked : Call) (calls : List Call) → adds_in (asked ∷ calls) ≡ cond (is_add asked) 1 0 + adds_in calls
adds-cons asked calls = sum_by-cons (λ c. cond (is_add c) 1 0) asked calls

pub commits-cons : (asked : Call) (calls : List Call) → commits_in (asked ∷ calls) ≡ cond (is_commit asked) 1 0 + commits_in calls
commits-cons asked calls = sum_by-cons (λ c. cond (is_commit c) 1 0) asked calls

-- the calls are answered as this list tells after so many commits, and lead to what it holds then
record AnsweredFrom (after : List Event) (n : ℕ) (documents : List (ℕ × List ℕ)) (calls : List Call) (replies : List Reply) : Type 0 where
  replies_are : replies ≡ answers_from n documents calls
  held : pairs (live after) ≡ held_after documents calls
  at_place : place after ≡ n + commits_in calls

-- a list and a place that are the same tell the same
same_from : (middle after : List Event) (n : ℕ) (documents : List (ℕ × List ℕ)) (calls : List Call) (replies : List Reply) → place middle ≡ n →
    pairs (live middle) ≡ documents → AnsweredFrom after (place middle) (pairs (live middle)) calls replies → AnsweredFrom after n documents calls replies
same_from middle after n documents calls replies at held answers =
    subst (λ ds. AnsweredFrom after n ds calls replies) held (subst (λ k. AnsweredFrom after k (pairs (live middle)) calls replies) at answers)

-- the calls are answered as the list of the live documents tells
answered_by_list : (limits : Limits) (pass : ℕ) (before after : List Event) (calls : List Call) (replies : List Reply) →
    Made limits pass before after calls replies → FitsAfter limits before calls →
    AnsweredFrom after (place before) (pairs (live before)) calls replies
answered_by_list limits pass before after [] [] made fits = record {
  replies_are = refl;
  held = ap (λ (h : List Event). pairs (live h)) (sym made.run);
  at_place = omega (arith, ap (λ (h : List Event). place h) made.run);
}
answered_by_list limits pass before after (call.Add id text ∷ calls) (given ∷ replies) made fits =
    let split = made_first limits pass before after (call.Add id text) calls given replies made in
    let more_adds = adds-cons (call.Add id text) calls in
    let more_commits = commits-cons (call.Add id text) calls in
    let columns = fits.columns in
    let done = adds limits pass before split.middle id text given split.first (sym (holds_pairs id (live before)) ∙ fits.in_turn.0)
    (omega arith) in
    let documents : pairs (live split.middle) ≡ pairs (live before) ++ (id, text) ∷ [] =
    ap pairs done.documents ∙ map-append (λ (d : Document). (d.id, d.text)) (live before) (record { id = id; text = text; place = place before + 1 } ∷ []) in
    let at_place = done.at_place in
    let takes = done.takes in
    let others = same_from split.middle after (place before + 1) (pairs (live before) ++ (id, text) ∷ []) calls replies at_place documents
    (answered_by_list limits pass split.middle after calls replies split.others (record {
      in_turn = subst (λ ds. AreInTurn ds calls) (sym documents) fits.in_turn.1;
      columns = omega arith;
    })) in
    let end = others.at_place in
    record {
      replies_are = ap (λ r. r ∷ replies) done.reply ∙ ap (λ rs. reply.Added (place before + 1) ∷ rs) others.replies_are;
      held = others.held;
      at_place = omega arith;
    }
answered_by_list limits pass before after (call.Delete id ∷ calls) (given ∷ replies) made fits =
    let split = made_first limits pass before after (call.Delete id) calls given replies made in
    let more_adds = adds-cons (call.Delete id) calls in
    let more_commits = commits-cons (call.Delete id) calls in
    let columns = fits.columns in
    let done = deletes_it limits pass before split.middle id given split.first (sym (holds_pairs id (live before)) ∙ fits.in_turn.0) in
    let documents : pairs (live split.middle) ≡ without id (pairs (live before)) = ap pairs done.documents ∙ sym (without_pairs id (live before)) in
    let at_place = done.at_place in
    let takes = done.takes in
    let others = same_from split.middle after (place before + 1) (without id (pairs (live before))) calls replies at_place documents
    (answered_by_list limits pass split.middle after calls replies split.others (record {
      in_turn = subst (λ ds. AreInTurn ds calls) (sym documents) fits.in_turn.1;
      columns = omega arith;
    })) in
    let end = others.at_place in
    record {
      replies_are = ap (λ r. r ∷ replies) done.reply ∙ ap (λ rs. reply.Deleted (place before + 1) ∷ rs) others.replies_are;
      held = others.held;
      at_place = omega arith;
    }
answered_by_list limits pass before after (call.Find query ∷ calls) (given ∷ replies) made fits =
    let split = made_first limits pass before after (call.Find query) calls given replies made in
    let more_adds = adds-cons (call.Find query) calls in
    let more_commits = commits-cons (call.Find query) calls in
    let columns = fits.columns in
    let done = finds limits pass before split.middle query given split.first in
    let documents = ap pairs done.documents in
    let at_place = done.at_place in
    let takes = done.takes in
    let others = same_from split.middle after (place before) (pairs (live before)) calls replies at_place documents
    (answered_by_list limits pass split.middle after calls replies split.others (record {
      in_turn = subst (λ ds. AreInTurn ds calls) (sym documents) fits.in_turn;
      columns = omega arith;
    })) in
    let end = others.at_place in
    record {
      replies_are = ap (λ r. r ∷ replies) (done.reply ∙ ap reply.Found (sym (found_pairs (live before) query)))
          ∙ ap (λ rs. reply.Found (numbers_meeting (pairs (live before)) query) ∷ rs) others.replies_are;
      held = others.held;
      at_place = omega arith;
    }
answered_by_list limits pass before after (_ ∷ calls) (given ∷ replies) made fits = absurd fits.in_turn
answered_by_list limits pass before after [] (given ∷ replies) made fits = absurd made.run
answered_by_list limits pass before after (asked ∷ calls) [] made fits = absurd made.run

-- from an empty history
from_nothing : (limits : Limits) (pass : ℕ) (after : List Event) (calls : List Call) (replies : List Reply) → Made limits pass [] after calls replies →
    FitsEmptyEngine limits calls → AnsweredFrom after 0 [] calls replies
from_nothing limits pass after calls replies made fits =
    let columns = fits.columns in
    answered_by_list limits pass [] after calls replies made (record { in_turn = fits.in_turn; columns = omega arith })

pub load_is_answered : (limits : Limits) (pass : ℕ) (after : List Event) (calls : List Call) (replies : List Reply) → Linear limits pass [] after calls replies →
    IsAlone pass after → MovesNothing after → length after < limits.events → All (λ r. r ≢ reply.Memory) replies → FitsEmptyEngine limits calls →
    replies ≡ answers_of [] calls
load_is_answered limits pass after calls replies run alone unmoved unspent memory fits =
    (from_nothing limits pass after calls replies (record { run = run; alone = alone; unmoved = unmoved; unspent = unspent; memory = memory }) fits).replies_are

pub load_is_held : (limits : Limits) (pass : ℕ) (after : List Event) (calls : List Call) (replies : List Reply) → Linear limits pass [] after calls replies →
    IsAlone pass after → MovesNothing after → length after < limits.events → All (λ r. r ≢ reply.Memory) replies → FitsEmptyEngine limits calls →
    HasDocuments after (held_after [] calls) (commits_in calls)
load_is_held limits pass after calls replies run alone unmoved unspent memory fits =
    let answers = from_nothing limits pass after calls replies (record { run = run; alone = alone; unmoved = unmoved; unspent = unspent; memory = memory }) fits in
    let at = answers.at_place in
    record { held = answers.held; at_place = omega arith }
