-- What a find looks for, and the turns of a search.
use Rattle.std.specs.Prelude.{◌≡◌, ◌⊎◌, ℕ, Bool, List, [], length, reverse, take, Result, Ok, Err}
use Rattle.commit_desk.specs.declared.answers.FindFault.TheVariants as find
use Rattle.commit_desk.specs.Judging.{answer_where}
use Rattle.commit_desk.specs.Scans.{keeps_text}
use Rattle.engine.specs.declared.search.Search.{Search}
use Rattle.engine.specs.declared.querying.SearchFault.{SearchFault}
use Rattle.engine.specs.declared.querying.SearchFault.TheVariants as fault
use Rattle.engine.specs.declared.querying.SomeFound.{SomeFound}
use Rattle.engine.specs.Finds.{EndedTurns, RefusedTurn}
use Rattle.engine.specs.Passes.{MakesCall, PassView}
use Rattle.funnel_model.specs.declared.event.Event.{Event}
use Rattle.funnel_model.specs.declared.expr.Expr.{Expr}
use Rattle.funnel_model.specs.declared.reply.Reply.{Reply}
use Rattle.funnel_model.specs.declared.reply.Reply.TheVariants as reply
use Rattle.funnel_model.specs.Expressions.{Tree, keeps, tree_of}
use Rattle.funnel_model.specs.Required.{AreRequired}
use Rattle.funnel_model.specs.Legal.{Limits}
use Rattle.funnel_model.specs.Queries.{IsMalformed, IsTooDeep}
use Rattle.funnel_model.specs.Searches.{Searches}
use Rattle.funnel_model.specs.WordExprs.{each_searched}
use Rattle.line_proto.specs.Forms.{Told, Ids, Amount, Last, First, Sought, ByQuery}
use Rattle.line_proto.specs.Services.{IsSought, OfQuery, searched}

-- what is asked of a document beside the required words
abbrev pub residue_of : Search → Searches (List (List ℕ))
residue_of search = each_searched search.residue.items

-- whether a text is one that the search keeps
abbrev pub is_kept_by : Search → List ℕ → Bool
is_kept_by search = keeps_text search.words (residue_of search)

-- the search is that of an expression: its words are those that the form of the expression requires, and it keeps the texts that the
-- expression keeps
pub record IsSearchOf (search : Search) (t : Tree) : Type 0 where
  pub required : AreRequired search.words t
  pub kept : (text : List ℕ) → is_kept_by search text ≡ keeps t text

-- a find of the empty query began and ended, and is answered by those documents that were live when it began and pass the test
pub record KeptTurns (limits : Limits) (pass : ℕ) (test : List ℕ → Bool) (before after : List Event) (ids : List ℕ) : Type 0 where
  pub turns : EndedTurns limits pass [] before after
  pub kept : ids ≡ answer_where turns.begun.earlier test

-- The turns of a search: one by what an expression keeps is answered by the documents that this keeps, or the desk refused it; a text that is
-- no query is refused, and nothing was done. Where there was no memory nothing was done, or the desk refused it, or it had begun.
abbrev pub SearchTurns : Limits → ℕ → Sought → List Event → List Event → Result (List ℕ) SearchFault → Type 0
SearchTurns limits pass sought before after (Ok ids) =
    (expr : Expr) × IsSought sought (tree_of expr) × KeptTurns limits pass (keeps (tree_of expr)) before after ids
SearchTurns limits pass sought before after (Err (fault.Spent events)) =
    (expr : Expr) × IsSought sought (tree_of expr) × RefusedTurn limits pass before after (find.Spent events)
SearchTurns limits pass sought before after (Err (fault.Syntax at)) = OfQuery sought (λ text. IsMalformed text at) × (before ≡ after)
SearchTurns limits pass sought before after (Err (fault.Deep at)) = OfQuery sought (λ text. IsTooDeep text at) × (before ≡ after)
SearchTurns limits pass sought before after (Err fault.Memory) =
    (before ≡ after) ⊎ (RefusedTurn limits pass before after find.Memory ⊎ EndedTurns limits pass [] before after)

-- those of a query
abbrev pub QueryTurns : Limits → ℕ → List ℕ → List Event → List Event → Result (List ℕ) SearchFault → Type 0
QueryTurns limits pass text before after answer = SearchTurns limits pass (ByQuery text) before after answer

-- and those of a search of whose numbers so much is told
abbrev pub ToldTurns : {A : Type 0} → (List ℕ → A) → Limits → ℕ → Sought → List Event → List Event → Result A SearchFault → Type 0
ToldTurns tells limits pass sought before after (Ok told) = (ids : List ℕ) × (told ≡ tells ids) × SearchTurns limits pass sought before after (Ok ids)
ToldTurns tells limits pass sought before after (Err fault) = SearchTurns limits pass sought before after (Err fault)

-- how many numbers there are, and the last so many, the newest first, or the first so many
abbrev pub last_of : ℕ → List ℕ → SomeFound
last_of most ids = record { count = length ids; ids = take most (reverse ids) }

abbrev pub first_of : ℕ → List ℕ → SomeFound
first_of most ids = record { count = length ids; ids = take most ids }

-- what is told of the numbers that a search finds
abbrev pub reply_told : Told → List ℕ → Reply
reply_told Ids ids = reply.Found ids
reply_told Amount ids = reply.Count (length ids)
reply_told (Last most) ids = reply.FoundSome (length ids) (take most (reverse ids))
reply_told (First most) ids = reply.FoundSome (length ids) (take most ids)

-- what is sought is what an expression keeps, and the pass made the call that tells so of it, to which this is the reply
abbrev pub MakesCallOf : Told → Limits → Sought → Reply → PassView → PassView → Type 0
MakesCallOf told limits sought given before after =
    (expr : Expr) × IsSought sought (tree_of expr) × MakesCall limits (searched told expr) given before after

-- A search that tells so is its call, or its text is refused and the pass is as it was. Without memory it is either.
abbrev pub MakesSearch : Told → Limits → Sought → Result (List ℕ) SearchFault → PassView → PassView → Type 0
MakesSearch told limits sought (Ok ids) before after = MakesCallOf told limits sought (reply_told told ids) before after
MakesSearch told limits sought (Err (fault.Spent events)) before after = MakesCallOf told limits sought reply.Spent before after
MakesSearch told limits sought (Err (fault.Syntax at)) before after = OfQuery sought (λ text. IsMalformed text at) × (after ≡ before)
MakesSearch told limits sought (Err (fault.Deep at)) before after = OfQuery sought (λ text. IsTooDeep text at) × (after ≡ before)
MakesSearch told limits sought (Err fault.Memory) before after = (after ≡ before) ⊎ MakesCallOf told limits sought reply.Memory before after

-- a query is the search that tells all numbers
abbrev pub MakesQuery : Limits → List ℕ → Result (List ℕ) SearchFault → PassView → PassView → Type 0
MakesQuery limits text answer before after = MakesSearch Ids limits (ByQuery text) answer before after

-- a search of whose numbers so much is told is its call, to which this is the reply, or refused
abbrev pub MakesTold : {A : Type 0} → Told → (A → Reply) → Limits → Sought → Result A SearchFault → PassView → PassView → Type 0
MakesTold told reply_of limits sought (Ok found) before after = MakesCallOf told limits sought (reply_of found) before after
MakesTold told reply_of limits sought (Err fault) before after = MakesSearch told limits sought (Err fault) before after

abbrev pub reply_to_some : SomeFound → Reply
reply_to_some found = reply.FoundSome found.count found.ids
