-- What a load that one worker makes asks and is answered.
use Rattle.std.specs.Prelude.{ℕ, ◌+◌, ◌*◌, ◌/◌, ◌%◌, ◌==◌, List, [], ◌∷◌, ◌++◌, map, flat_map, if◌then◌else◌}
use Rattle.std.specs.List.{range_with_len}
use Rattle.funnel_model.specs.declared.call.Call.{Call}
use Rattle.funnel_model.specs.declared.call.Call.TheVariants as call
use Rattle.funnel_model.specs.declared.reply.Reply.{Reply}
use Rattle.funnel_model.specs.declared.reply.Reply.TheVariants as reply
use Rattle.load_gen.specs.declared.limits.TheConstants.{CHECKED_ONE_IN, DELETED_ONE_IN}
use Rattle.load_gen.specs.Documents.{documents}
use Rattle.load_gen.specs.Jobs.{add_and_check}
use Rattle.load_gen.specs.Queries.{queries}
use Rattle.load_gen.specs.Summary.{found, result_of}

-- the calls for a document of this number and text where one worker adds all: it is then the worker's document of this number
abbrev pub lone_add : ℕ × List ℕ → List Call
lone_add (id, text) = add_and_check id (id, text)

-- the delete with this number, from 1 on, where one worker makes all
abbrev pub lone_delete : ℕ → Call
lone_delete k = call.Delete (DELETED_ONE_IN * k)

-- the add of the document of this number is the commit of this number, and the find of its name finds this document alone
abbrev pub replies_to_add : ℕ → List Reply
replies_to_add id = reply.Added id ∷ (if id % CHECKED_ONE_IN == 0 then reply.Found (id ∷ []) ∷ [] else [])

-- the replies to the first part of a load of so many documents
abbrev pub replies_to_adds : ℕ → List Reply
replies_to_adds docs = flat_map replies_to_add (range_with_len 1 docs)

-- the replies to the second part: the deletes are the commits behind the adds
abbrev pub replies_to_deletes : ℕ → List Reply
replies_to_deletes docs = map reply.Deleted (range_with_len (docs + 1) (docs / DELETED_ONE_IN))

-- the replies to the third part: each query finds what the summary tells
abbrev pub replies_to_queries : List (List ℕ) → List Reply
replies_to_queries texts = map (λ query. reply.Found (found texts query)) queries

-- the replies to all that the one worker asks, in order
abbrev pub replies_to_jobs : ℕ → ℕ → ℕ → List Reply
replies_to_jobs docs words seed = replies_to_adds docs ++ replies_to_deletes docs ++ replies_to_queries (documents docs words seed)

-- the numbers that a reply tells were found
abbrev pub ids_in : Reply → List ℕ
ids_in (reply.Found ids) = ids
ids_in _ = []

-- and what the summary tells of them
abbrev pub result_in : Reply → ℕ × ℕ
result_in given = result_of (ids_in given)
