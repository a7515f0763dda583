-- The workers of a load, all of them, from part to part.
use Rattle.std.proofs.Common.{◌≡◌, ℕ, zero, suc, ◌<◌, Bool, true, false, List, [], ◌∷◌, length, sym, refl, ap, ◌∙◌, subst, arith, slice_index_or}
use Rattle.std.proofs.lemmas.List.Folds.{Any-from_list_any, list_any_at}
use Rattle.std.specs.List.{list_any}
use Rattle.std.specs.Prelude.{MatchBool, MatchResult, Result, Ok, Err}
use Rattle.std.specs.Result.{IsErr}
use Rattle.engine.specs.Clients.{caller_of}
use Rattle.engine.specs.Passes.{PassView}
use Rattle.funnel_model.specs.declared.call.Call.{Call}
use Rattle.funnel_model.specs.declared.config.Config.{Config}
use Rattle.funnel_model.specs.declared.event.Event.{Event}
use Rattle.funnel_model.specs.History.{IsFrontOf}
use Rattle.funnel_model.specs.Legal.{Limits}
use Rattle.line_proto.specs.Services.{Caller}
use Rattle.funnel_server.specs.Loads.{EndsPartEarly, StopsAfter, front_at, worker_of}
use Rattle.funnel_server.specs.Parts.{AreWorkers, EachEnds, EndsPart, LoaderState, OnlySees, passes_of}
use Rattle.funnel_server.specs.Shares.{EndsEarly, IsDone}
use Rattle.funnel_server.proofs.Chosen.{chosen}
use Rattle.funnel_server.proofs.Stops.{Cut, cut_in_part}

-- what the pass of a worker has seen
pub front_of : (loaders : List LoaderState) (k : ℕ) (d : LoaderState) → k < length loaders → front_at (passes_of loaders) k ≡ (slice_index_or loaders k d).pass.front
front_of [] k d small = absurd (omega (arith, small))
front_of (loader ∷ loaders) zero d small = refl
front_of (loader ∷ loaders) (suc k) d small = front_of loaders k d (omega (arith, small))

-- none of them stopped
pub none_stopped : (loaders : List LoaderState) (k : ℕ) (d : LoaderState) → list_any (λ (l : LoaderState). l.stopped) loaders ≡ false → k < length loaders →
    (slice_index_or loaders k d).stopped ≡ false
none_stopped loaders k d none small =
    by_case (slice_index_or loaders k d).stopped refl
  where
    by_case : (b : Bool) → (slice_index_or loaders k d).stopped ≡ b → b ≡ false
    by_case false is = refl
    by_case true is = sym (list_any_at (λ (l : LoaderState). l.stopped) loaders k d small is) ∙ none

-- the pass of a worker calls for it
pub caller_is : (opening : Config) (limits : Limits) (k : ℕ) (pass : PassView) → pass.number ≡ k → caller_of opening limits pass ≡ worker_of opening limits k
caller_is opening limits k pass number = ap (worker_of opening limits) number

-- one worker's part, told of the worker's own caller
part_ends : (opening : Config) (limits : Limits) (caller : Caller) (calls : List Call) (before after : LoaderState) → caller_of opening limits before.pass ≡ caller → EndsPart opening limits calls before after →
    MatchBool after.stopped (EndsEarly caller before.pass.front after.pass.front calls) (IsDone caller before.pass.front after.pass.front calls)
part_ends opening limits caller calls before after is ends =
    subst (λ (c : Caller). MatchBool after.stopped (EndsEarly c before.pass.front after.pass.front calls) (IsDone c before.pass.front after.pass.front calls)) is ends.outcome

pub part_done : (opening : Config) (limits : Limits) (caller : Caller) (calls : List Call) (before after : LoaderState) → caller_of opening limits before.pass ≡ caller → EndsPart opening limits calls before after → after.stopped ≡ false →
    IsDone caller before.pass.front after.pass.front calls
part_done opening limits caller calls before after is ends done =
    subst (λ b. MatchBool b (EndsEarly caller before.pass.front after.pass.front calls) (IsDone caller before.pass.front after.pass.front calls)) done
    (part_ends opening limits caller calls before after is ends)

-- and one worker's meeting
pub meets_alone : (k : ℕ) (before after : LoaderState) → before.pass.number ≡ k → OnlySees before after → IsFrontOf k before.pass.front after.pass.front
meets_alone k before after is sees = subst (λ (n : ℕ). IsFrontOf n before.pass.front after.pass.front) is sees.seen

-- workers that keep their passes are still the workers
pub still_workers : (workers : ℕ) (before after : List LoaderState) → AreWorkers workers before → length after ≡ length before →
    ((k : ℕ) (d : LoaderState) → k < length before → (slice_index_or after k d).pass.number ≡ (slice_index_or before k d).pass.number) → AreWorkers workers after
still_workers workers before after are long same = record {
  count = long ∙ are.count;
  numbers = λ k d small. same k d (omega (arith, small, are.count)) ∙ are.numbers k d small;
}

-- ---- a part that ended early

-- what the worker of this number has seen
abbrev pub seen_by : List LoaderState → LoaderState → ℕ → List Event
seen_by loaders d k = (slice_index_or loaders k d).pass.front

-- what is said of a part that ended early depends on what the workers alone had seen
pub early_along : (opening : Config) (limits : Limits) (workers : ℕ) (calls : ℕ → List Call) (before after first last : ℕ → List Event) → ((k : ℕ) → k < workers → before k ≡ first k) →
    ((k : ℕ) → k < workers → after k ≡ last k) → EndsPartEarly opening limits workers calls before after → EndsPartEarly opening limits workers calls first last
early_along opening limits workers calls before after first last begins ends early = record {
  asked = early.asked;
  left = early.left;
  calls_are = early.calls_are;
  stops = λ k small.
      subst (λ (h : List Event). StopsAfter (worker_of opening limits k) h (last k) (early.asked k) (early.left k)) (begins k small)
      (subst (λ (h : List Event). StopsAfter (worker_of opening limits k) (before k) h (early.asked k) (early.left k)) (ends k small) (early.stops k small));
  stopped = early.stopped;
  is_worker = early.is_worker;
  some_left = early.some_left;
}

-- a part ended early in which one of the workers stopped
module _ (opening : Config) (limits : Limits) (workers : ℕ) (calls : ℕ → List Call) (before after : List LoaderState) (are : AreWorkers workers before)
    (long : length after ≡ length before) (each : EachEnds (λ k. EndsPart opening limits (calls k)) before after) where
  module _ (d : LoaderState) where
    -- where a worker's part is cut
    abbrev IsCutAt : ℕ → List Call × List Call → Type 0
    IsCutAt k parts = Cut (worker_of opening limits k) (seen_by before d k) (seen_by after d k) (calls k) (slice_index_or after k d).stopped parts.0 parts.1

    cut_of : (k : ℕ) → k < workers → (parts : List Call × List Call) × IsCutAt k parts
    cut_of k small =
        cut_in_part (worker_of opening limits k) (seen_by before d k) (seen_by after d k) (calls k) (slice_index_or after k d).stopped
        (part_ends opening limits (worker_of opening limits k) (calls k) (slice_index_or before k d) (slice_index_or after k d) (caller_is opening limits k (slice_index_or before k d).pass (are.numbers k d small)) (each k d (omega (arith, small, are.count))))

    cut_at : (stopped : ℕ) → stopped < workers → (slice_index_or after stopped d).stopped ≡ true → EndsPartEarly opening limits workers calls (seen_by before d) (seen_by after d)
    cut_at stopped is_worker did_stop =
        let parts = chosen IsCutAt workers ([], []) cut_of in
        record {
          asked = λ k. (parts.0 k).0;
          left = λ k. (parts.0 k).1;
          calls_are = λ k small. (parts.1 k small).calls_are;
          stops = λ k small. (parts.1 k small).stops;
          stopped = stopped;
          is_worker = is_worker;
          some_left = (parts.1 stopped is_worker).some_left did_stop;
        }

  pub ends_early : list_any (λ (l : LoaderState). l.stopped) after ≡ true → EndsPartEarly opening limits workers calls (front_at (passes_of before)) (front_at (passes_of after))
  ends_early some =
      let any = Any-from_list_any (λ (l : LoaderState). l.stopped) after some in
      let d = any.1 in
      early_along opening limits workers calls (seen_by before d) (seen_by after d) (front_at (passes_of before)) (front_at (passes_of after))
      (λ k small. sym (front_of before k d (omega (arith, small, are.count))))
      (λ k small. sym (front_of after k d (omega (arith, small, are.count, long))))
      (cut_at d any.0 (omega (arith, any.2, long, are.count)) (ap (λ (l : LoaderState). l.stopped) any.3 ∙ any.4))

-- an answer that is an error
pub when_err : {A B : Type 0} (answer : Result A B) (P : A → Type 0) (Q : Type 0) → IsErr answer → Q → MatchResult answer P (λ _. Q)
when_err (Err fault) P Q is holds = holds
when_err (Ok value) P Q is holds = absurd (cc is)
