-- A load that workers put to one engine, each by a pass of its own: they add the documents, then delete some, then run the queries.
use Rattle.std.specs.Prelude.{ℕ, ◌<◌, ◌≡◌, ◌≢◌, ◌⊎◌, List, [], ◌∷◌, ◌++◌, length, map, slice_get}
use Rattle.std.specs.List.{All}
use Rattle.std.specs.Option.{option_map_or}
use mathlib.Core.List.{IsPrefix}
use Rattle.funnel_model.specs.declared.call.Call.{Call}
use Rattle.funnel_model.specs.declared.config.Config.{Config}
use Rattle.funnel_model.specs.declared.event.Event.{Event}
use Rattle.funnel_model.specs.declared.reply.Reply.{Reply}
use Rattle.funnel_model.specs.declared.reply.Reply.TheVariants as reply
use Rattle.funnel_model.specs.History.{IsFrontOf}
use Rattle.funnel_model.specs.Legal.{Limits}
use Rattle.funnel_model.specs.Steps.{Linear, Step}
use Rattle.engine.specs.Passes.{PassView}
use Rattle.line_proto.specs.Services.{Caller}
use Rattle.load_gen.specs.Jobs.{adds_of, deletes_of, queries_of, share}
use Rattle.load_gen.specs.Queries.{queries}
use Rattle.load_laws.specs.Replies.{result_in}

-- the calls lead the caller's pass from front to front, and have these replies, none of which is a want of memory
pub record AreAsked (caller : Caller) (before after : List Event) (calls : List Call) (replies : List Reply) : Type 0 where
  pub run : Linear caller.limits caller.pass before after calls replies
  pub memory : All (λ r. r ≢ reply.Memory) replies

-- the worker with this number, by the pass of the same number, of an engine with these limits that was opened with this configuration
abbrev pub worker_of : Config → Limits → ℕ → Caller
worker_of opening limits worker = record { opening = opening; limits = limits; pass = worker }

-- how a worker of a load fared until it was to run its queries: what its pass had seen after its adds, and once it had then met the others,
-- and the same of its deletes; and the replies to both
pub record Course : Type 0 where
  pub added : List Event
  pub met_added : List Event
  pub deleted : List Event
  pub met_deleted : List Event
  pub to_adds : List Reply
  pub to_deletes : List Reply

-- the worker asked for its adds and then for its deletes, and found memory for each; while it met the others, its pass did nothing
pub record ComesToQueries (caller : Caller) (before : List Event) (texts : List (List ℕ)) (workers : ℕ) (course : Course) : Type 0 where
  pub adds : AreAsked caller before course.added (adds_of texts workers caller.pass) course.to_adds
  pub meets_adds : IsFrontOf caller.pass course.added course.met_added
  pub deletes : AreAsked caller course.met_added course.deleted (deletes_of texts workers caller.pass) course.to_deletes
  pub meets_deletes : IsFrontOf caller.pass course.deleted course.met_deleted

-- so did each worker; and it had seen all adds of every other one before it deleted, and all deletes before it was to run its queries
pub record AllComeToQueries (opening : Config) (limits : Limits) (texts : List (List ℕ)) (workers : ℕ) (before : ℕ → List Event) (courses : ℕ → Course) : Type 0 where
  pub each : (worker : ℕ) → worker < workers → ComesToQueries (worker_of opening limits worker) (before worker) texts workers (courses worker)
  pub met_adds : (worker other : ℕ) → worker < workers → other < workers → IsPrefix (courses other).added (courses worker).met_added
  pub met_deletes : (worker other : ℕ) → worker < workers → other < workers → IsPrefix (courses other).deleted (courses worker).met_deleted

-- the whole load was put, and these are the results of its eight queries: those that the replies to each worker's queries tell; and after
-- its queries each worker saw what every other one had seen after its own, and did nothing else
pub record IsPut (opening : Config) (limits : Limits) (texts : List (List ℕ)) (workers : ℕ) (before after : ℕ → List Event) (results : List (ℕ × ℕ)) : Type 0 where
  pub courses : ℕ → Course
  pub come : AllComeToQueries opening limits texts workers before courses
  pub queried : ℕ → List Event
  pub to_queries : ℕ → List Reply
  pub asked : (worker : ℕ) → worker < workers →
      AreAsked (worker_of opening limits worker) (courses worker).met_deleted (queried worker) (queries_of workers worker) (to_queries worker)
  pub meets_queries : (worker : ℕ) → worker < workers → IsFrontOf worker (queried worker) (after worker)
  pub met_queries : (worker other : ℕ) → worker < workers → other < workers → IsPrefix (queried other) (after worker)
  pub count : length results ≡ length queries
  pub results_are : (worker : ℕ) → worker < workers → map (λ item. item.1) (share results workers worker) ≡ map result_in (to_queries worker)

-- of the calls that are left, if there are any, the first one found no memory; so a find that was not asked, as there was no memory for
-- the name that it looks for, is told as one that found none
abbrev pub GoesNoFurther : Caller → List Event → List Event → List Call → Type 0
GoesNoFurther caller before after [] = before ≡ after
GoesNoFurther caller before after (asked ∷ calls) = Step caller.limits caller.pass before after asked reply.Memory

-- the caller asked all calls or the first ones, and found memory for each, and went no further with those that are left
pub record StopsAfter (caller : Caller) (before after : List Event) (asked left : List Call) : Type 0 where
  pub middle : List Event
  pub replies : List Reply
  pub answered : AreAsked caller before middle asked replies
  pub ends : GoesNoFurther caller middle after left

-- a part of the load ended early: each worker asked the first ones of its calls, or all, and some worker has calls left
pub record EndsPartEarly (opening : Config) (limits : Limits) (workers : ℕ) (calls : ℕ → List Call) (before after : ℕ → List Event) : Type 0 where
  pub asked : ℕ → List Call
  pub left : ℕ → List Call
  pub calls_are : (worker : ℕ) → worker < workers → calls worker ≡ asked worker ++ left worker
  pub stops : (worker : ℕ) → worker < workers → StopsAfter (worker_of opening limits worker) (before worker) (after worker) (asked worker) (left worker)
  pub stopped : ℕ
  pub is_worker : stopped < workers
  pub some_left : left stopped ≢ []

-- the load ended early in its last part
pub record EndsEarlyInQueries (opening : Config) (limits : Limits) (texts : List (List ℕ)) (workers : ℕ) (before after : ℕ → List Event) : Type 0 where
  pub courses : ℕ → Course
  pub come : AllComeToQueries opening limits texts workers before courses
  pub ends : EndsPartEarly opening limits workers (queries_of workers) (λ worker. (courses worker).met_deleted) after

-- the load was cut short: it was not begun, or it ended early in its first part or its last one. A delete takes no memory, so where
-- deletes are begun all are asked
abbrev pub IsCutShort : Config → Limits → List (List ℕ) → ℕ → (ℕ → List Event) → (ℕ → List Event) → Type 0
IsCutShort opening limits texts workers before after =
    ((worker : ℕ) → worker < workers → before worker ≡ after worker)
    ⊎ EndsPartEarly opening limits workers (adds_of texts workers) before after
    ⊎ EndsEarlyInQueries opening limits texts workers before after

-- what the pass at this place of a list has seen, and nothing where there is none
abbrev pub front_at : List PassView → ℕ → List Event
front_at passes place = option_map_or (λ (pass : PassView). pass.front) (slice_get passes place) []
