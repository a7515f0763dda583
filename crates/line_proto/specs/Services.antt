-- How a service answers what it is asked.
use Rattle.std.specs.Prelude.{ℕ, ◌≤◌, ◌≡◌, ◌⊎◌, ⊤, List, length}
use Rattle.funnel_model.specs.declared.call.Call.{Call}
use Rattle.funnel_model.specs.declared.call.Call.TheVariants as call
use Rattle.funnel_model.specs.declared.config.Config.{Config}
use Rattle.funnel_model.specs.declared.event.Event.{Event}
use Rattle.funnel_model.specs.declared.expr.Expr.{Expr}
use Rattle.funnel_model.specs.declared.reply.Reply.{Reply}
use Rattle.funnel_model.specs.declared.reply.Reply.TheVariants as reply
use Rattle.funnel_model.specs.Expressions.{Tree, atom, tree_of}
use Rattle.funnel_model.specs.Legal.{Limits}
use Rattle.funnel_model.specs.Queries.{IsMalformed, IsQuery, IsTooDeep}
use Rattle.funnel_model.specs.Steps.{AddsNone, Step}
use Rattle.funnel_stats.specs.Tunings.{Tuned, Gives, Faulty, Wide, tuned}
use Rattle.line_proto.specs.Forms.{Asked, Calls, Searches, Tunes, Told, Ids, Amount, Last, First, Sought, ByQuery, ByWords}

-- who calls: a pass of an engine with these limits, which was opened with this configuration
pub record Caller : Type 0 where
  pub opening : Config
  pub limits : Limits
  pub pass : ℕ

-- a call wasn't taken: it was refused as spent or found no memory, and is not in the history
pub record IsNotTaken (caller : Caller) (before after : List Event) (given : Reply) : Type 0 where
  pub reply : (given ≡ reply.Spent) ⊎ (given ≡ reply.Memory)
  pub call : AddsNone caller.pass before after

-- the call is answered by a step from front to front; where the front has as many events as there may be, it isn't taken
pub record AnswersCall (caller : Caller) (before after : List Event) (asked : Call) (given : Reply) : Type 0 where
  pub step : Step caller.limits caller.pass before after asked given
  pub spent : caller.limits.events ≤ length before → IsNotTaken caller before after given

-- the call that tells so of the documents that an expression keeps
abbrev pub searched : Told → Expr → Call
searched Ids expr = call.Query expr
searched Amount expr = call.Count expr
searched (Last most) expr = call.Newest expr most
searched (First most) expr = call.Oldest expr most

-- what is sought is what an expression keeps of this tree: the one that the text is the query of, or the atom of the words
abbrev pub IsSought : Sought → Tree → Type 0
IsSought (ByQuery text) tree = IsQuery text tree
IsSought (ByWords text) tree = tree ≡ atom text

-- what is sought is what an expression keeps, and the search by that expression is answered as a call
pub record AnswersExpr (caller : Caller) (before after : List Event) (told : Told) (sought : Sought) (given : Reply) : Type 0 where
  pub expr : Expr
  pub reads : IsSought sought (tree_of expr)
  pub answers : AnswersCall caller before after (searched told expr) given

-- what is sought is what a text finds that is to be read as a boolean query, of which this holds
abbrev pub OfQuery : Sought → (List ℕ → Type 0) → Type 0
OfQuery (ByQuery text) Holds = Holds text
OfQuery (ByWords text) Holds = ⊥

-- a search is refused before anything is called: where its text is no query with the place at which it fails to be one, and for want of memory
abbrev pub IsUnread : Sought → Reply → Type 0
IsUnread sought (reply.Query at) = OfQuery sought (λ text. IsMalformed text at)
IsUnread sought (reply.Deep at) = OfQuery sought (λ text. IsTooDeep text at)
IsUnread sought reply.Memory = ⊤
IsUnread sought _ = ⊥

-- a search is answered as the call by its expression, or it is refused and there is no step
abbrev pub AnswersSearch : Caller → List Event → List Event → Told → Sought → Reply → Type 0
AnswersSearch caller before after told sought given = AnswersExpr caller before after told sought given ⊎ ((before ≡ after) × IsUnread sought given)

-- what comes of a text that gives no configuration, or one whose rows have no room, is refused so, before anything is called: by the number of its fault, or
-- by the words that it needs in a slice and those for which there is room; or for want of memory
abbrev pub RefusesTuning : Tuned → Reply → Type 0
RefusesTuning (Gives config) given = ⊥
RefusesTuning (Faulty fault) given = (given ≡ reply.Tuning fault) ⊎ (given ≡ reply.Memory)
RefusesTuning (Wide needed room) given = (given ≡ reply.Wide needed room) ⊎ (given ≡ reply.Memory)

-- what comes of a text is answered: a configuration as the call of the tuning by it, and else there is its refusal and no step
abbrev pub AnswersTuned : Caller → List Event → List Event → Tuned → Reply → Type 0
AnswersTuned caller before after (Gives config) given = AnswersCall caller before after (call.Tune config) given
AnswersTuned caller before after comes given = (before ≡ after) × RefusesTuning comes given

-- what is asked is answered; what comes of a tuning's text is what the opening configuration makes of it
abbrev pub AnswersAsked : Caller → List Event → List Event → Asked → Reply → Type 0
AnswersAsked caller before after (Calls asked) given = AnswersCall caller before after asked given
AnswersAsked caller before after (Searches told sought) given = AnswersSearch caller before after told sought given
AnswersAsked caller before after (Tunes text) given = AnswersTuned caller before after (tuned caller.opening text) given
