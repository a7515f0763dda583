-- A load that several workers make: the history of the engine once all of them have ended, and what each was answered.
use Rattle.std.specs.Prelude.{ℕ, ◌-◌, ◌*◌, ◌^◌, ◌<◌, ◌≤◌, ◌≡◌, ◌≢◌, List, [], ◌∷◌, ◌++◌, map, filter, not}
use Rattle.std.specs.List.{All, range_with_len}
use Rattle.std.specs.List.Sorted.{IsPermutation}
use mathlib.Core.List.{IsPrefix}
use Rattle.funnel_model.specs.declared.call.Call.{Call}
use Rattle.funnel_model.specs.declared.call.Call.TheVariants as call
use Rattle.funnel_model.specs.declared.event.Event.{Event}
use Rattle.funnel_model.specs.declared.reply.Reply.{Reply}
use Rattle.funnel_model.specs.declared.reply.Reply.TheVariants as reply
use Rattle.funnel_model.specs.Events.{pass_of}
use Rattle.funnel_model.specs.History.{IsFrontOf, MovesAreCaused, live, moved_by, own}
use Rattle.funnel_model.specs.Legal.{Limits, IsIdle, IsLegal}
use Rattle.funnel_model.specs.Steps.{Linear}
use Rattle.load_gen.specs.declared.limits.TheConstants.{MOST_DOCS}
use Rattle.load_gen.specs.Documents.{document, documents, name_of_document}
use Rattle.load_gen.specs.Jobs.{adds_of, calls_of_share, count_all, deletes_of, is_deleted, jobs, queries_of, share}
use Rattle.load_gen.specs.Summary.{results_of}
use Rattle.load_laws.specs.Replies.{result_in}

-- in this part of a history each worker makes these calls and no other
abbrev pub IsPart : ℕ → (ℕ → List Call) → List Event → Type 0
IsPart workers calls part = (worker : ℕ) → worker < workers → own worker part ≡ calls worker

-- no worker is in the middle of a call
abbrev pub AreIdle : ℕ → List Event → Type 0
AreIdle workers history = (worker : ℕ) → worker < workers → IsIdle worker history

-- The parts of a load follow each other: every worker has added its documents before one deletes, and every worker has deleted before
-- one runs its queries. No worker is in the middle of a call where a part ends, and what a worker moves for its adds it moves in the first
-- part, so all events of a part come before those of the next
pub record HasParts (texts : List (List ℕ)) (workers : ℕ) (history : List Event) : Type 0 where
  pub adding : List Event
  pub deleting : List Event
  pub querying : List Event
  pub whole : history ≡ adding ++ deleting ++ querying
  pub adds : IsPart workers (adds_of texts workers) adding
  pub idle_after_adds : AreIdle workers adding
  pub moved : (worker : ℕ) → worker < workers → moved_by worker history ≡ moved_by worker adding
  pub deletes : IsPart workers (deletes_of texts workers) deleting
  pub idle_after_deletes : AreIdle workers (adding ++ deleting)
  pub queries : IsPart workers (queries_of workers) querying

-- what a worker had seen when it had added its documents, and once it had then met the others; and the same of its deletes and of
-- its queries
pub record Fronts : Type 0 where
  pub added : List Event
  pub met_added : List Event
  pub deleted : List Event
  pub met_deleted : List Event
  pub queried : List Event
  pub met_queried : List Event

-- by these fronts the worker had ended its adds, its deletes and its queries, and did nothing while it met the others and after that;
-- for its deletes and its queries it moved nothing
pub record KeepsToParts (texts : List (List ℕ)) (workers worker : ℕ) (history : List Event) (fronts : Fronts) : Type 0 where
  pub adds : own worker fronts.added ≡ adds_of texts workers worker
  pub idle_after_adds : IsIdle worker fronts.added
  pub moved : moved_by worker history ≡ moved_by worker fronts.added
  pub meets_adds : IsFrontOf worker fronts.added fronts.met_added
  pub goes_on : IsPrefix fronts.met_added fronts.deleted
  pub deletes : own worker fronts.deleted ≡ adds_of texts workers worker ++ deletes_of texts workers worker
  pub idle_after_deletes : IsIdle worker fronts.deleted
  pub meets_deletes : IsFrontOf worker fronts.deleted fronts.met_deleted
  pub goes_on_again : IsPrefix fronts.met_deleted fronts.queried
  pub queries : own worker fronts.queried ≡ calls_of_share texts workers worker
  pub idle_after_queries : IsIdle worker fronts.queried
  pub meets_queries : IsFrontOf worker fronts.queried fronts.met_queried
  pub ends : IsFrontOf worker fronts.met_queried history

-- after its adds each worker met what every other had seen at the end of its adds; and so after the deletes and after the queries
pub record HaveMet (texts : List (List ℕ)) (workers : ℕ) (history : List Event) (fronts : ℕ → Fronts) : Type 0 where
  pub keeps : (worker : ℕ) → worker < workers → KeepsToParts texts workers worker history (fronts worker)
  pub met_adds : (worker other : ℕ) → worker < workers → other < workers → IsPrefix (fronts other).added (fronts worker).met_added
  pub met_deletes : (worker other : ℕ) → worker < workers → other < workers → IsPrefix (fronts other).deleted (fronts worker).met_deleted
  pub met_queries : (worker other : ℕ) → worker < workers → other < workers → IsPrefix (fronts other).queried (fronts worker).met_queried

-- the worker's pass was asked these calls, one after another, and found memory for each; it has seen all its events. A call is asked,
-- and not made, where the history is spent
pub record HasAsked (limits : Limits) (history : List Event) (worker : ℕ) (calls : List Call) (replies : List Reply) : Type 0 where
  pub front : List Event
  pub seen : IsFrontOf worker front history
  pub run : Linear limits worker [] front calls replies
  pub memory : All (λ r. r ≢ reply.Memory) replies

-- the history of an engine to which so many workers put a load, each by the pass of its number: it is legal, each move in it has its
-- cause, no other pass has an event in it, the parts of the load follow each other, and each worker asked all its calls and found memory
-- for them
pub record IsLoaded (limits : Limits) (docs words seed workers : ℕ) (history : List Event) (replies : ℕ → List Reply) : Type 0 where
  pub some : 0 < workers
  pub legal : IsLegal limits history
  pub caused : MovesAreCaused history
  pub no_other : All (λ e. pass_of e < workers) history
  pub parts : HasParts (documents docs words seed) workers history
  pub asked : (worker : ℕ) → worker < workers → HasAsked limits history worker (jobs docs words seed workers worker) (replies worker)

-- an empty engine has room for a load of so many documents: a column for each; and it takes more events than any load makes
pub record HasRoomFor (limits : Limits) (docs : ℕ) : Type 0 where
  pub few : docs ≤ MOST_DOCS
  pub columns : docs ≤ limits.slices * limits.columns
  pub events : 2 ^ 62 ≤ limits.events

-- how many calls all workers make
abbrev pub calls_of_load : ℕ → ℕ → ℕ → ℕ → ℕ
calls_of_load docs words seed workers = count_all workers (jobs docs words seed workers)

-- an add and a delete are committed, and the find of a document's name finds this document alone
abbrev pub IsAnswered : Call → Reply → Type 0
IsAnswered (call.Add id text) given = (place : ℕ) × (given ≡ reply.Added place)
IsAnswered (call.Delete id) given = (place : ℕ) × (given ≡ reply.Deleted place)
IsAnswered (call.Find query) given = (id : ℕ) × (query ≡ name_of_document id) × (given ≡ reply.Found (id ∷ []))
IsAnswered _ given = ⊥

-- each of the calls is answered so, in order
abbrev pub AreAnswered : List Call → List Reply → Type 0
AreAnswered [] [] = Unit {0}
AreAnswered (asked ∷ calls) (given ∷ replies) = IsAnswered asked given × AreAnswered calls replies
AreAnswered [] (given ∷ replies) = ⊥
AreAnswered (asked ∷ calls) [] = ⊥

-- the live documents are those of the load that are not to be deleted, in any order, each with its text
pub record AreLeft (docs words seed : ℕ) (history : List Event) : Type 0 where
  pub numbers : IsPermutation (map (λ d. d.id) (live history)) (filter (λ id. not (is_deleted id)) (range_with_len 1 docs))
  pub texts : All (λ d. d.text ≡ document words seed (d.id - 1)) (live history)

-- the reply tells which numbers were found
abbrev pub TellsNumbers : Reply → Type 0
TellsNumbers given = (ids : List ℕ) × (given ≡ reply.Found ids)

-- a worker is answered as the summary tells: no add and no delete is refused, no find of a name misses, each query finds some
-- numbers or none, and these give the results that the summary has for the worker's share of the queries
pub record IsAnsweredAsTold (texts : List (List ℕ)) (workers worker : ℕ) (replies : List Reply) : Type 0 where
  pub to_adds : List Reply
  pub to_deletes : List Reply
  pub to_queries : List Reply
  pub whole : replies ≡ to_adds ++ to_deletes ++ to_queries
  pub added : AreAnswered (adds_of texts workers worker) to_adds
  pub deleted : AreAnswered (deletes_of texts workers worker) to_deletes
  pub found : All TellsNumbers to_queries
  pub results : map result_in to_queries ≡ map (λ item. item.1) (share (results_of texts) workers worker)
