-- A load that workers put to a new engine is answered as it is to be.
use Rattle.std.proofs.Common.{◌≡◌, ◌≢◌, ◌⊎◌, ℕ, suc, ◌+◌, ◌<◌, ◌≤◌, false, List, [], ◌∷◌, ◌++◌, length, drop, map, refl, sym, ap, ◌∙◌, arith, inl, inr, append_assoc, append-nil}
use Rattle.std.proofs.lemmas.List.{drop_at, length-append}
use Rattle.std.proofs.lemmas.List.Elements.{All-tail}
use Rattle.std.proofs.lemmas.Bool.{or_parts}
use Rattle.std.specs.List.{All, list_any}
use mathlib.Core.List.{IsPrefix}
use Rattle.funnel_model.proofs.StepCauses.{is_put, is_query, made_outcome}
use Rattle.funnel_model.proofs.StepLemmas.{linear-answered, linear-grows, prefix_trans}
use Rattle.funnel_model.specs.declared.call.Call.{Call}
use Rattle.funnel_model.specs.declared.config.Config.{Config}
use Rattle.funnel_model.specs.declared.event.Event.{Event}
use Rattle.funnel_model.specs.declared.reply.Reply.{Reply}
use Rattle.funnel_model.specs.declared.reply.Reply.TheVariants as reply
use Rattle.funnel_model.specs.Events.{pass_of}
use Rattle.funnel_model.specs.History.{IsFrontOf, MovesAreCaused, moved_by, own}
use Rattle.funnel_model.specs.Legal.{IsIdle, IsLegal, Limits}
use Rattle.funnel_model.specs.Steps.{IsMade, IsSpent, LacksMemory, Linear}
use Rattle.funnel_server.proofs.AskedShares.{asks_share}
use Rattle.funnel_server.specs.Laws.{AsksShare}
use Rattle.funnel_server.specs.Loads.{ComesToQueries, IsPut, worker_of}
use Rattle.load_gen.specs.Documents.{documents}
use Rattle.load_gen.specs.Jobs.{adds_of, calls_of_share, deletes_of, jobs, queries_of, share}
use Rattle.load_gen.specs.Summary.{results_of}
use Rattle.load_laws.proofs.EventCounts.{ends}
use Rattle.load_laws.proofs.FrontLemmas.{calls_in_front, front_trans, idle_from_front, moved_in_front}
use Rattle.load_laws.proofs.JobCounts.{adds_keep_names, deletes_keep_names, finds_keep_names, is_renamed}
use Rattle.load_laws.proofs.Meetings.{parts_of_met}
use Rattle.load_laws.proofs.Unmoved.{deletes_still, queries_still}
use Rattle.load_laws.proofs.WorkerEvents.{load_is_unspent, own_of_load}
use Rattle.load_laws.proofs.WorkersAnswered.{results_are_told, worker_is_answered}
use Rattle.load_laws.specs.Replies.{result_in}
use Rattle.load_laws.specs.Workers.{AreAnswered, Fronts, HasAsked, HasRoomFor, HaveMet, IsAnsweredAsTold, IsLoaded, KeepsToParts}

-- ---- the calls that a pass made

-- calls that keep their names and find memory, in a history that isn't spent, are the pass's own, each once
own_calls : (limits : Limits) (pass : ℕ) (before after history : List Event) (calls : List Call) (replies : List Reply) →
    Linear limits pass before after calls replies → IsPrefix after history → length history < limits.events → All (λ r. r ≢ reply.Memory) replies → list_any is_renamed calls ≡ false →
    own pass after ≡ own pass before ++ calls
own_calls limits pass before after history [] [] run goes few memory none = ap (own pass) (sym run) ∙ sym (append-nil (own pass before))
own_calls limits pass before after history (asked ∷ calls) (given ∷ replies) run goes few memory none =
    let others = or_parts (is_renamed asked) (list_any is_renamed calls) none in
    let names = or_parts (is_query asked) (is_put asked) others.0 in
    let later = own_calls limits pass run.0 after history calls replies run.2 goes few (All-tail (λ r. r ≢ reply.Memory) given replies memory) others.1 in
    let from_here = prefix_trans run.0 after history (linear-grows limits pass run.0 after calls replies run.2) goes in
    let count : length history ≡ length run.0 + length from_here.0 = ap length (sym from_here.1) ∙ length-append run.0 from_here.0 in
    later
    ∙ ap (λ xs. xs ++ calls) (made (made_outcome limits pass before run.0 asked given names.0 names.1 run.1) (omega (arith, few, count)))
    ∙ append_assoc (own pass before) (asked ∷ []) calls
  where
    made : IsMade limits pass before run.0 asked given ⊎ LacksMemory pass before run.0 asked given ⊎ IsSpent limits pass before run.0 given →
        length run.0 < limits.events → own pass run.0 ≡ own pass before ++ asked ∷ []
    made (inl is_made) short = is_made.call
    made (inr (inl lacks)) short = absurd (memory 0 given (omega arith) lacks.reply)
    made (inr (inr spent)) short = absurd (omega (arith, short, spent.many))
own_calls limits pass before after history [] (given ∷ replies) run goes few memory none = absurd run
own_calls limits pass before after history (asked ∷ calls) [] run goes few memory none = absurd run

front_grows : (pass : ℕ) (front history : List Event) → IsFrontOf pass front history → IsPrefix front history
front_grows pass front history seen = (seen.later, sym seen.whole)

-- calls have a reply each where they are answered
answered_count : (calls : List Call) (replies : List Reply) → AreAnswered calls replies → length calls ≡ length replies
answered_count [] [] are = refl
answered_count (asked ∷ calls) (given ∷ replies) are = ap suc (answered_count calls replies are.1)
answered_count [] (given ∷ replies) are = absurd are
answered_count (asked ∷ calls) [] are = absurd are

-- of two ways to take a list apart into three the last parts are the same where the first ones are as long
same_last : (first second third other another last : List Reply) → first ++ second ++ third ≡ other ++ another ++ last → length first ≡ length other →
    length second ≡ length another → third ≡ last
same_last first second third other another last same one two =
    let long : length (other ++ another) ≡ length (first ++ second) = omega (arith, one, two, length-append first second, length-append other another) in
    sym (drop_at (first ++ second) third (length (first ++ second)) refl)
    ∙ ap (drop (length (first ++ second))) same
    ∙ drop_at (other ++ another) last (length (first ++ second)) long

-- ---- a load that was put

-- Workers that had seen nothing put a load to an engine with room for it. The history goes on from what each of them has seen since,
-- and no other pass has an event in it.
module _ (opening : Config) (limits : Limits) (docs words seed workers : ℕ) (after : ℕ → List Event) (results : List (ℕ × ℕ)) (history : List Event)
    (some : 1 ≤ workers) (room : HasRoomFor limits docs) (legal : IsLegal limits history) (caused : MovesAreCaused history)
    (no_other : All (λ e. pass_of e < workers) history)
    (seen : (worker : ℕ) → worker < workers → IsFrontOf worker (after worker) history)
    (put : IsPut opening limits (documents docs words seed) workers (λ _. []) after results) where
  abbrev texts : List (List ℕ)
  texts = documents docs words seed

  abbrev pub fronts : ℕ → Fronts
  fronts worker =
      let course = put.courses worker in
      record {
        added = course.added;
        met_added = course.met_added;
        deleted = course.deleted;
        met_deleted = course.met_deleted;
        queried = put.queried worker;
        met_queried = after worker;
      }

  abbrev pub replies_to : ℕ → List Reply
  replies_to worker = (put.courses worker).to_adds ++ (put.courses worker).to_deletes ++ put.to_queries worker

  asks : (worker : ℕ) → worker < workers → AsksShare (worker_of opening limits worker) [] (after worker) texts workers (replies_to worker)
  asks worker below =
      asks_share (worker_of opening limits worker) [] (put.queried worker) (after worker) texts workers (put.courses worker) (put.to_queries worker) (put.come.each worker below)
      (put.asked worker below) (put.meets_queries worker below)

  has_asked : (worker : ℕ) → worker < workers → HasAsked limits history worker (jobs docs words seed workers worker) (replies_to worker)
  has_asked worker below =
      let share_asked = asks worker below in
      record {
        front = share_asked.front;
        seen = front_trans worker share_asked.front (after worker) history share_asked.seen (seen worker below);
        run = share_asked.asked.run;
        memory = share_asked.asked.memory;
      }

  few : length history < limits.events
  few =
      let unspent = load_is_unspent limits docs words seed workers history replies_to (omega (arith, some)) room.few legal no_other has_asked in
      omega (arith, unspent, room.events)

  -- a worker's calls by the end of each part
  module _ (worker : ℕ) (below : worker < workers) where
    comes : ComesToQueries (worker_of opening limits worker) [] texts workers (put.courses worker)
    comes = put.come.each worker below

    before_queried : IsPrefix (fronts worker).queried history
    before_queried =
        prefix_trans (fronts worker).queried (after worker) history
        (front_grows worker (fronts worker).queried (after worker) (put.meets_queries worker below)) (front_grows worker (after worker) history (seen worker below))

    querying : IsPrefix (fronts worker).met_deleted (fronts worker).queried
    querying =
        linear-grows limits worker (fronts worker).met_deleted (fronts worker).queried (queries_of workers worker) (put.to_queries worker) (put.asked worker below).run

    before_met_deleted : IsPrefix (fronts worker).met_deleted history
    before_met_deleted = prefix_trans (fronts worker).met_deleted (fronts worker).queried history querying before_queried

    before_deleted : IsPrefix (fronts worker).deleted history
    before_deleted =
        prefix_trans (fronts worker).deleted (fronts worker).met_deleted history
        (front_grows worker (fronts worker).deleted (fronts worker).met_deleted comes.meets_deletes) before_met_deleted

    deleting : IsPrefix (fronts worker).met_added (fronts worker).deleted
    deleting =
        linear-grows limits worker (fronts worker).met_added (fronts worker).deleted (deletes_of texts workers worker) (put.courses worker).to_deletes comes.deletes.run

    before_added : IsPrefix (fronts worker).added history
    before_added =
        prefix_trans (fronts worker).added (fronts worker).met_added history
        (front_grows worker (fronts worker).added (fronts worker).met_added comes.meets_adds)
        (prefix_trans (fronts worker).met_added (fronts worker).deleted history deleting before_deleted)

    by_added : own worker (fronts worker).added ≡ adds_of texts workers worker
    by_added =
        own_calls limits worker [] (fronts worker).added history (adds_of texts workers worker) (put.courses worker).to_adds comes.adds.run before_added few comes.adds.memory
        (adds_keep_names texts workers worker)

    by_deleted : own worker (fronts worker).deleted ≡ adds_of texts workers worker ++ deletes_of texts workers worker
    by_deleted =
        own_calls limits worker (fronts worker).met_added (fronts worker).deleted history (deletes_of texts workers worker) (put.courses worker).to_deletes
        comes.deletes.run before_deleted few comes.deletes.memory (deletes_keep_names texts workers worker)
        ∙ ap (λ cs. cs ++ deletes_of texts workers worker)
        (calls_in_front worker (fronts worker).added (fronts worker).met_added comes.meets_adds ∙ by_added)

    by_queried : own worker (fronts worker).queried ≡ calls_of_share texts workers worker
    by_queried =
        own_calls limits worker (fronts worker).met_deleted (fronts worker).queried history (queries_of workers worker) (put.to_queries worker)
        (put.asked worker below).run before_queried few (put.asked worker below).memory (finds_keep_names workers worker)
        ∙ ap (λ cs. cs ++ queries_of workers worker)
        (calls_in_front worker (fronts worker).deleted (fronts worker).met_deleted comes.meets_deletes ∙ by_deleted)

    idle_added : IsIdle worker (fronts worker).added
    idle_added = (ends limits worker [] (fronts worker).added (adds_of texts workers worker) (put.courses worker).to_adds tt comes.adds.run).idle

    idle_deleted : IsIdle worker (fronts worker).deleted
    idle_deleted =
        (ends limits worker (fronts worker).met_added (fronts worker).deleted (deletes_of texts workers worker) (put.courses worker).to_deletes
        (idle_from_front worker (fronts worker).added (fronts worker).met_added comes.meets_adds idle_added) comes.deletes.run).idle

    idle_queried : IsIdle worker (fronts worker).queried
    idle_queried =
        (ends limits worker (fronts worker).met_deleted (fronts worker).queried (queries_of workers worker) (put.to_queries worker)
        (idle_from_front worker (fronts worker).deleted (fronts worker).met_deleted comes.meets_deletes idle_deleted) (put.asked worker below).run).idle

    -- what the worker moved it moved for its adds
    moved : moved_by worker history ≡ moved_by worker (fronts worker).added
    moved =
        moved_in_front worker (after worker) history (seen worker below)
        ∙ moved_in_front worker (fronts worker).queried (after worker) (put.meets_queries worker below)
        ∙ queries_still limits worker (fronts worker).met_deleted (fronts worker).queried workers (put.to_queries worker)
        (idle_from_front worker (fronts worker).deleted (fronts worker).met_deleted comes.meets_deletes idle_deleted) (put.asked worker below).run
        ∙ moved_in_front worker (fronts worker).deleted (fronts worker).met_deleted comes.meets_deletes
        ∙ deletes_still limits worker (fronts worker).met_added (fronts worker).deleted texts workers (put.courses worker).to_deletes
        (idle_from_front worker (fronts worker).added (fronts worker).met_added comes.meets_adds idle_added) comes.deletes.run
        ∙ moved_in_front worker (fronts worker).added (fronts worker).met_added comes.meets_adds

    keeps : KeepsToParts texts workers worker history (fronts worker)
    keeps = record {
      adds = by_added;
      idle_after_adds = idle_added;
      moved = moved;
      meets_adds = comes.meets_adds;
      goes_on = deleting;
      deletes = by_deleted;
      idle_after_deletes = idle_deleted;
      meets_deletes = comes.meets_deletes;
      goes_on_again = querying;
      queries = by_queried;
      idle_after_queries = idle_queried;
      meets_queries = put.meets_queries worker below;
      ends = seen worker below;
    }

  pub met : HaveMet texts workers history fronts
  met = record { keeps = keeps; met_adds = put.come.met_adds; met_deletes = put.come.met_deletes; met_queries = put.met_queries }

  pub is_loaded : IsLoaded limits docs words seed workers history replies_to
  is_loaded = record {
    some = omega (arith, some);
    legal = legal;
    caused = caused;
    no_other = no_other;
    parts = parts_of_met texts workers history fronts (omega (arith, some)) met;
    asked = has_asked;
  }

  pub calls_are : (worker : ℕ) → worker < workers → own worker history ≡ jobs docs words seed workers worker
  calls_are = own_of_load limits docs words seed workers history replies_to is_loaded

  pub are_answered : (worker : ℕ) → worker < workers → IsAnsweredAsTold texts workers worker (replies_to worker)
  are_answered = worker_is_answered limits docs words seed workers history replies_to is_loaded room

  -- a worker's results are those that the summary tells
  told_by : (worker : ℕ) → worker < workers →
      map (λ (item : ℕ × (ℕ × ℕ)). item.1) (share results workers worker) ≡ map (λ (item : ℕ × (ℕ × ℕ)). item.1) (share (results_of texts) workers worker)
  told_by worker below =
      let told = are_answered worker below in
      let c = put.courses worker in
      let way = comes worker below in
      let adds = linear-answered limits worker [] (fronts worker).added (adds_of texts workers worker) c.to_adds way.adds.run in
      let deletes = linear-answered limits worker (fronts worker).met_added (fronts worker).deleted (deletes_of texts workers worker) c.to_deletes way.deletes.run in
      let last = same_last c.to_adds c.to_deletes (put.to_queries worker) told.to_adds told.to_deletes told.to_queries told.whole
      (sym adds ∙ answered_count (adds_of texts workers worker) told.to_adds told.added)
      (sym deletes ∙ answered_count (deletes_of texts workers worker) told.to_deletes told.deleted) in
      put.results_are worker below ∙ ap (map result_in) last ∙ told.results

  pub results_told : results ≡ results_of texts
  results_told = results_are_told docs words seed workers results (omega (arith, some)) put.count told_by
