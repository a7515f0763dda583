-- The parts of a load: all workers come to their queries, and then put the whole load or end early.
use Rattle.std.proofs.Common.{◌≡◌, ℕ, ◌<◌, ◌≤◌, true, false, List, [], ◌∷◌, length, map, refl, sym, ap, ◌∙◌, subst, arith, slice_index_or}
use Rattle.std.proofs.lemmas.List.{get_or_default}
use Rattle.std.specs.List.{list_any}
use Rattle.std.specs.Prelude.{◌%◌}
use mathlib.Core.List.{IsPrefix}
use Rattle.funnel_model.specs.declared.config.Config.{Config}
use Rattle.funnel_model.specs.declared.event.Event.{Event}
use Rattle.funnel_model.specs.declared.reply.Reply.{Reply}
use Rattle.funnel_model.specs.History.{IsFrontOf}
use Rattle.funnel_model.specs.Legal.{Limits}
use Rattle.line_proto.specs.Services.{Caller}
use Rattle.load_gen.specs.Jobs.{adds_of, deletes_of, queries_of, share}
use Rattle.load_gen.specs.Queries.{queries}
use Rattle.load_laws.specs.Replies.{result_in}
use Rattle.funnel_server.specs.Loads.{AllComeToQueries, AreAsked, Course, EndsEarlyInQueries, IsPut, front_at, worker_of}
use Rattle.funnel_server.specs.Parts.{AreWorkers, EachEnds, EndsDeletes, EndsLastPart, EndsPart, LoadersHaveMet, LoaderState, passes_of}
use Rattle.funnel_server.specs.Shares.{HasResults, IsDone}
use Rattle.funnel_server.proofs.Chosen.{chosen}
use Rattle.funnel_server.proofs.LoadWorkers.{caller_is, early_along, ends_early, front_of, meets_alone, none_stopped, part_done, seen_by, still_workers}
use Rattle.funnel_server.proofs.SameShares.{share_same}

-- each worker came to the end of a part, and none of them stopped
pub record AllEnd (Ends : ℕ → LoaderState → LoaderState → Type 0) (before after : List LoaderState) : Type 0 where
  pub count : length after ≡ length before
  pub each : EachEnds Ends before after
  pub none : list_any (λ (l : LoaderState). l.stopped) after ≡ false

-- the results are those that the workers have, each at its place
pub record AreResults (results : List (ℕ × ℕ)) (loaders : List LoaderState) : Type 0 where
  pub count : length results ≡ 8
  pub each : (place : ℕ) (d : LoaderState) → place < 8 →
      slice_index_or results place (0, 0) ≡ slice_index_or (slice_index_or loaders (place % length loaders) d).results place (0, 0)

module _ (opening : Config) (limits : Limits) (texts : List (List ℕ)) (workers : ℕ) (start added met_added deleted met_deleted : List LoaderState) (are : AreWorkers workers start)
    (adds : AllEnd (λ k. EndsPart opening limits (adds_of texts workers k)) start added) (meet_adds : LoadersHaveMet added met_added)
    (long_deletes : length deleted ≡ length met_added) (deletes : EachEnds (λ k. EndsDeletes opening limits (deletes_of texts workers k)) met_added deleted)
    (meet_deletes : LoadersHaveMet deleted met_deleted) where
  are_added : AreWorkers workers added
  are_added = still_workers workers start added are adds.count (λ k d small. (adds.each k d small).number)

  are_met : AreWorkers workers met_added
  are_met = still_workers workers added met_added are_added meet_adds.count (λ k d small. (meet_adds.sees k d small).number)

  are_deleted : AreWorkers workers deleted
  are_deleted = still_workers workers met_added deleted are_met long_deletes (λ k d small. (deletes k d small).number)

  are_last : AreWorkers workers met_deleted
  are_last = still_workers workers deleted met_deleted are_deleted meet_deletes.count (λ k d small. (meet_deletes.sees k d small).number)

  pub workers_at_end : (after : List LoaderState) → length after ≡ length met_deleted → EachEnds (EndsLastPart opening limits workers) met_deleted after → AreWorkers workers after
  workers_at_end after long finds = still_workers workers met_deleted after are_last long (λ k d small. (finds k d small).part.number)

  module _ (d : LoaderState) where
    -- a worker's adds have these replies
    abbrev AddsHave : ℕ → List Reply → Type 0
    AddsHave k replies = AreAsked (worker_of opening limits k) (seen_by start d k) (seen_by added d k) (adds_of texts workers k) replies

    added_by : (k : ℕ) → k < workers → (replies : List Reply) × AddsHave k replies
    added_by k small =
        part_done opening limits (worker_of opening limits k) (adds_of texts workers k) (slice_index_or start k d) (slice_index_or added k d) (caller_is opening limits k (slice_index_or start k d).pass (are.numbers k d small))
        (adds.each k d (omega (arith, small, are.count))) (none_stopped added k d adds.none (omega (arith, small, are_added.count)))

    -- and its deletes these
    abbrev DeletesHave : ℕ → List Reply → Type 0
    DeletesHave k replies = AreAsked (worker_of opening limits k) (seen_by met_added d k) (seen_by deleted d k) (deletes_of texts workers k) replies

    deleted_by : (k : ℕ) → k < workers → (replies : List Reply) × DeletesHave k replies
    deleted_by k small =
        subst (λ (c : Caller). IsDone c (seen_by met_added d k) (seen_by deleted d k) (deletes_of texts workers k)) (caller_is opening limits k (slice_index_or met_added k d).pass (are_met.numbers k d small))
        (deletes k d (omega (arith, small, are_met.count))).done

    -- how each worker fared until its queries
    abbrev course_of : ℕ → Course
    course_of k = record {
      added = seen_by added d k;
      met_added = seen_by met_added d k;
      deleted = seen_by deleted d k;
      met_deleted = seen_by met_deleted d k;
      to_adds = (chosen AddsHave workers [] added_by).0 k;
      to_deletes = (chosen DeletesHave workers [] deleted_by).0 k;
    }

    all_come : AllComeToQueries opening limits texts workers (front_at (passes_of start)) course_of
    all_come = record {
      each = λ k small. record {
        adds = subst (λ (h : List Event). AreAsked (worker_of opening limits k) h (seen_by added d k) (adds_of texts workers k) ((chosen AddsHave workers [] added_by).0 k))
            (sym (front_of start k d (omega (arith, small, are.count)))) ((chosen AddsHave workers [] added_by).1 k small);
        meets_adds = meets_alone k (slice_index_or added k d) (slice_index_or met_added k d) (are_added.numbers k d small)
            (meet_adds.sees k d (omega (arith, small, are_added.count)));
        deletes = (chosen DeletesHave workers [] deleted_by).1 k small;
        meets_deletes = meets_alone k (slice_index_or deleted k d) (slice_index_or met_deleted k d) (are_deleted.numbers k d small)
            (meet_deletes.sees k d (omega (arith, small, are_deleted.count)));
      };
      met_adds = λ k other small below. meet_adds.met k other d (omega (arith, small, are_added.count)) (omega (arith, below, are_added.count));
      met_deletes = λ k other small below. meet_deletes.met k other d (omega (arith, small, are_deleted.count)) (omega (arith, below, are_deleted.count));
    }

  -- where one of the workers stopped in the last part
  pub early_in_queries : (after : List LoaderState) → 1 ≤ workers → length after ≡ length met_deleted → EachEnds (EndsLastPart opening limits workers) met_deleted after →
      list_any (λ (l : LoaderState). l.stopped) after ≡ true → EndsEarlyInQueries opening limits texts workers (front_at (passes_of start)) (front_at (passes_of after))
  early_in_queries after some long finds stopped =
      by_case start are.count
    where
      by_case : (loaders : List LoaderState) → length loaders ≡ workers → EndsEarlyInQueries opening limits texts workers (front_at (passes_of start)) (front_at (passes_of after))
      by_case [] none = absurd (omega (arith, some, none))
      by_case (d ∷ loaders) more = record {
        courses = course_of d;
        come = all_come d;
        ends = early_along opening limits workers (queries_of workers) (front_at (passes_of met_deleted)) (front_at (passes_of after)) (seen_by met_deleted d) (front_at (passes_of after))
            (λ k small. front_of met_deleted k d (omega (arith, small, are_last.count))) (λ k small. refl)
            (ends_early opening limits workers (queries_of workers) met_deleted after are_last long (λ k e small. (finds k e small).part) stopped);
      }

  -- where none did, and they met once more
  module _ (queried after : List LoaderState) (finds : AllEnd (EndsLastPart opening limits workers) met_deleted queried) (meet_queries : LoadersHaveMet queried after) where
    are_queried : AreWorkers workers queried
    are_queried = workers_at_end queried finds.count finds.each

    pub workers_met : AreWorkers workers after
    workers_met = still_workers workers queried after are_queried meet_queries.count (λ k d small. (meet_queries.sees k d small).number)

    module _ (d : LoaderState) where
      found_by : (k : ℕ) → k < workers → HasResults (worker_of opening limits k) (seen_by met_deleted d k) (seen_by queried d k) workers k (slice_index_or queried k d).results
      found_by k small =
          subst (λ (c : Caller). HasResults c (seen_by met_deleted d k) (seen_by queried d k) workers k (slice_index_or queried k d).results) (caller_is opening limits k (slice_index_or met_deleted k d).pass (are_last.numbers k d small))
          ((finds.each k d (omega (arith, small, are_last.count))).found (none_stopped queried k d finds.none (omega (arith, small, are_queried.count))))

      -- a worker's queries have these replies, which tell the results that it has
      record QueriesHave (k : ℕ) (replies : List Reply) : Type 0 where
        asked : AreAsked (worker_of opening limits k) (seen_by met_deleted d k) (seen_by queried d k) (queries_of workers k) replies
        results_are : map (λ item. item.1) (share (slice_index_or queried k d).results workers k) ≡ map result_in replies

      queries_by : (k : ℕ) → k < workers → (replies : List Reply) × QueriesHave k replies
      queries_by k small =
          let found = found_by k small in (found.replies, record { asked = found.asked; results_are = found.results_are })

      -- which it still has when it has met the others
      same_results : (k : ℕ) → k < workers → (slice_index_or after k d).results ≡ (slice_index_or queried k d).results
      same_results k small = (meet_queries.sees k d (omega (arith, small, are_queried.count))).results

      -- the results of a worker's queries stand at the places of its share
      same_share : (results : List (ℕ × ℕ)) → AreResults results after → (k : ℕ) → k < workers → share results workers k ≡ share (slice_index_or queried k d).results workers k
      same_share results told k small =
          let eight : length (slice_index_or after k d).results ≡ length queries = ap length (same_results k small) ∙ (found_by k small).count in
          share_same workers k results (slice_index_or after k d).results (told.count ∙ sym eight) (λ place e inside is.
          get_or_default results place e (0, 0) inside
          ∙ told.each place d (omega (arith, inside, told.count))
          ∙ ap (λ n. slice_index_or (slice_index_or after n d).results place (0, 0)) (ap (λ n. place % n) workers_met.count ∙ is)
          ∙ get_or_default (slice_index_or after k d).results place (0, 0) e (omega (arith, inside, told.count ∙ sym eight)))
          ∙ ap (λ rs. share rs workers k) (same_results k small)

      put_by : (results : List (ℕ × ℕ)) → AreResults results after → IsPut opening limits texts workers (front_at (passes_of start)) (front_at (passes_of after)) results
      put_by results told =
          let replies = chosen QueriesHave workers [] queries_by in
          record {
            courses = course_of d;
            come = all_come d;
            queried = seen_by queried d;
            to_queries = replies.0;
            asked = λ k small. (replies.1 k small).asked;
            meets_queries = λ k small. subst (IsFrontOf k (seen_by queried d k)) (sym (front_of after k d (omega (arith, small, workers_met.count))))
                (meets_alone k (slice_index_or queried k d) (slice_index_or after k d) (are_queried.numbers k d small)
                (meet_queries.sees k d (omega (arith, small, are_queried.count))));
            met_queries = λ k other small below. subst (IsPrefix (seen_by queried d other)) (sym (front_of after k d (omega (arith, small, workers_met.count))))
                (meet_queries.met k other d (omega (arith, small, are_queried.count)) (omega (arith, below, are_queried.count)));
            count = told.count;
            results_are = λ k small. ap (map (λ item. item.1)) (same_share results told k small) ∙ (replies.1 k small).results_are;
          }

    pub put : (results : List (ℕ × ℕ)) → 1 ≤ workers → AreResults results after → IsPut opening limits texts workers (front_at (passes_of start)) (front_at (passes_of after)) results
    put results some told =
        by_case start are.count
      where
        by_case : (loaders : List LoaderState) → length loaders ≡ workers → IsPut opening limits texts workers (front_at (passes_of start)) (front_at (passes_of after)) results
        by_case [] none = absurd (omega (arith, some, none))
        by_case (loader ∷ loaders) long = put_by loader results told
