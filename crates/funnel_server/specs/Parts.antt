-- The workers of a load between its parts, for the clauses of functions that are not public.
use Rattle.std.specs.Prelude.{ℕ, ◌<◌, ◌≤◌, ◌≡◌, Bool, false, List, length, map, slice_index_or, MatchBool}
use Rattle.std.specs.List.{list_any}
use mathlib.Core.List.{IsPrefix}
use Rattle.engine.specs.Clients.{caller_of}
use Rattle.engine.specs.Passes.{PassView}
use Rattle.funnel_model.specs.declared.call.Call.{Call}
use Rattle.funnel_model.specs.declared.config.Config.{Config}
use Rattle.funnel_model.specs.declared.event.Event.{Event}
use Rattle.funnel_model.specs.History.{IsFrontOf}
use Rattle.funnel_model.specs.Legal.{Limits}
use Rattle.load_gen.specs.Jobs.{queries_of}
use Rattle.funnel_server.specs.Shares.{EndsEarly, HasResults, IsDone}

-- a worker of a load: its pass, the results of the queries that it ran, and whether the last of its adds and queries ended for want of
-- memory
pub record LoaderState : Type 0 where
  pub pass : PassView
  pub results : List (ℕ × ℕ)
  pub stopped : Bool

-- the passes of the workers
abbrev pub passes_of : List LoaderState → List PassView
passes_of loaders = map (λ (loader : LoaderState). loader.pass) loaders

-- one of the workers stopped in the last of its adds and queries
abbrev pub any_stopped : List LoaderState → Bool
any_stopped loaders = list_any (λ (loader : LoaderState). loader.stopped) loaders

-- there are so many workers, and the pass of each has its number
pub record AreWorkers (workers : ℕ) (loaders : List LoaderState) : Type 0 where
  pub count : length loaders ≡ workers
  pub numbers : (k : ℕ) (d : LoaderState) → k < workers → (slice_index_or loaders k d).pass.number ≡ k

-- a worker came to the end of its first part or its last one: it asked all its calls, or it stopped for want of memory
pub record EndsPart (opening : Config) (limits : Limits) (calls : List Call) (before after : LoaderState) : Type 0 where
  pub number : after.pass.number ≡ before.pass.number
  pub outcome :
      MatchBool after.stopped
      (EndsEarly (caller_of opening limits before.pass) before.pass.front after.pass.front calls)
      (IsDone (caller_of opening limits before.pass) before.pass.front after.pass.front calls)

-- and in the last part, where it asked all, it has the results of its queries
pub record EndsLastPart (opening : Config) (limits : Limits) (workers worker : ℕ) (before after : LoaderState) : Type 0 where
  pub part : EndsPart opening limits (queries_of workers worker) before after
  pub found : after.stopped ≡ false → HasResults (caller_of opening limits before.pass) before.pass.front after.pass.front workers worker after.results

-- a worker came to the end of its second part: it asked all its calls, and did nothing else
pub record EndsDeletes (opening : Config) (limits : Limits) (calls : List Call) (before after : LoaderState) : Type 0 where
  pub number : after.pass.number ≡ before.pass.number
  pub done : IsDone (caller_of opening limits before.pass) before.pass.front after.pass.front calls
  pub results : after.results ≡ before.results
  pub stopped : after.stopped ≡ before.stopped

-- each worker came to the end of a part
abbrev pub EachEnds : (ℕ → LoaderState → LoaderState → Type 0) → List LoaderState → List LoaderState → Type 0
EachEnds Ends before after = (k : ℕ) (d : LoaderState) → k < length before → Ends k (slice_index_or before k d) (slice_index_or after k d)

-- a worker saw what others had seen, and did nothing else
pub record OnlySees (before after : LoaderState) : Type 0 where
  pub seen : IsFrontOf before.pass.number before.pass.front after.pass.front
  pub number : after.pass.number ≡ before.pass.number
  pub results : after.results ≡ before.results
  pub stopped : after.stopped ≡ before.stopped

-- it saw what this front has
pub record Meets (front : List Event) (before after : LoaderState) : Type 0 where
  pub sees : OnlySees before after
  pub met : IsPrefix front after.pass.front

-- the last one, at this place, met the first n of the others, and these did nothing
pub record LastHasMet (last n : ℕ) (before after : List LoaderState) : Type 0 where
  pub count : length after ≡ length before
  pub others : (k : ℕ) (d : LoaderState) → k < last → slice_index_or after k d ≡ slice_index_or before k d
  pub sees : (d : LoaderState) → OnlySees (slice_index_or before last d) (slice_index_or after last d)
  pub met : (k : ℕ) (d : LoaderState) → k < n → IsPrefix (slice_index_or before k d).pass.front (slice_index_or after last d).pass.front

-- the first n of the others met the last one, and the further ones and the last one did nothing
pub record MetLast (last n : ℕ) (before after : List LoaderState) : Type 0 where
  pub count : length after ≡ length before
  pub kept : (k : ℕ) (d : LoaderState) → n ≤ k → slice_index_or after k d ≡ slice_index_or before k d
  pub met : (k : ℕ) (d : LoaderState) → k < n →
      Meets (slice_index_or before last d).pass.front (slice_index_or before k d) (slice_index_or after k d)

-- the workers met: each one saw what every one had seen before
pub record LoadersHaveMet (before after : List LoaderState) : Type 0 where
  pub count : length after ≡ length before
  pub sees : (k : ℕ) (d : LoaderState) → k < length before → OnlySees (slice_index_or before k d) (slice_index_or after k d)
  pub met : (k other : ℕ) (d : LoaderState) → k < length before → other < length before →
      IsPrefix (slice_index_or before other d).pass.front (slice_index_or after k d).pass.front
