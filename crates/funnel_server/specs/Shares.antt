-- One part of a worker's share of a load, for the clauses of functions that are not public.
use Rattle.std.specs.Prelude.{ℕ, ◌≡◌, ◌≢◌, List, ◌∷◌, ◌++◌, length, map}
use Rattle.funnel_model.specs.declared.call.Call.{Call}
use Rattle.funnel_model.specs.declared.event.Event.{Event}
use Rattle.funnel_model.specs.declared.reply.Reply.{Reply}
use Rattle.funnel_model.specs.declared.reply.Reply.TheVariants as reply
use Rattle.line_proto.specs.Forms.{Asked}
use Rattle.line_proto.specs.Services.{AnswersAsked, Caller}
use Rattle.load_gen.specs.Jobs.{queries_of, share}
use Rattle.load_gen.specs.Queries.{queries}
use Rattle.load_laws.specs.Replies.{result_in}
use Rattle.funnel_server.specs.Loads.{AreAsked, StopsAfter}

-- what is asked is answered so, and not by a want of memory
pub record FindsMemory (caller : Caller) (before after : List Event) (asked : Asked) (given : Reply) : Type 0 where
  pub answers : AnswersAsked caller before after asked given
  pub found : given ≢ reply.Memory

-- the calls were asked, and memory was found for each; they have some replies
abbrev pub IsDone : Caller → List Event → List Event → List Call → Type 0
IsDone caller before after calls = (replies : List Reply) × AreAsked caller before after calls replies

-- the calls end early: the first ones were asked, and some are left
pub record EndsEarly (caller : Caller) (before after : List Event) (calls : List Call) : Type 0 where
  pub asked : List Call
  pub next : Call
  pub later : List Call
  pub calls_are : calls ≡ asked ++ next ∷ later
  pub stops : StopsAfter caller before after asked (next ∷ later)

-- the worker's queries were run, and their results stand at the places of its share
pub record HasResults (caller : Caller) (before after : List Event) (workers worker : ℕ) (results : List (ℕ × ℕ)) : Type 0 where
  pub replies : List Reply
  pub asked : AreAsked caller before after (queries_of workers worker) replies
  pub count : length results ≡ length queries
  pub results_are : map (λ item. item.1) (share results workers worker) ≡ map result_in replies
