-- What each call of a set of shards does, and what it is answered.
use Rattle.std.specs.Prelude.{ℕ, ◌+◌, ◌^◌, ◌<◌, ◌≤◌, ◌≡◌, ◌⊎◌, false, List, [], ◌∷◌, ◌++◌, length, slice_index_or, Some, Result, Ok, Err}
use Rattle.bare_history.specs.Bare.{added, deleted}
use Rattle.commit_desk.specs.declared.answers.AddFault.{AddFault}
use Rattle.commit_desk.specs.declared.answers.AddFault.TheVariants as add
use Rattle.commit_desk.specs.declared.answers.DeleteFault.{DeleteFault}
use Rattle.commit_desk.specs.declared.answers.DeleteFault.TheVariants as delete
use Rattle.commit_desk.specs.declared.answers.FindFault.{FindFault}
use Rattle.commit_desk.specs.declared.answers.FindFault.TheVariants as find
use Rattle.engine.specs.Adds.{AddTurns}
use Rattle.engine.specs.declared.querying.SearchFault.{SearchFault}
use Rattle.engine.specs.declared.querying.SearchFault.TheVariants as search
use Rattle.engine.specs.Finds.{FindTurns}
use Rattle.engine.specs.Passes.{MakesCall}
use Rattle.engine.specs.Replies.{reply_of_add, reply_of_delete, reply_of_find}
use Rattle.engine.specs.Searches.{MakesQuery, QueryTurns}
use Rattle.engine.specs.Solos.{SoloState, sole_pass}
use Rattle.engine.specs.Turns.{DeleteTurn}
use Rattle.funnel_model.specs.declared.call.Call.TheVariants as call
use Rattle.funnel_model.specs.declared.event.Event.{Event}
use Rattle.funnel_model.specs.declared.expr.Expr.{Expr}
use Rattle.funnel_model.specs.Expressions.{answer_by, tree_of}
use Rattle.funnel_model.specs.History.{Document, answer, document_with, is_live, live_place}
use Rattle.funnel_model.specs.Queries.{IsMalformed, IsQuery, IsTooDeep}
use Rattle.shard_set.specs.Parts.{shard_of}
use Rattle.shard_set.specs.Sets.{SetState, StandsFor}

-- the shard made the call of this add, and was answered so
pub record AddsTo (id : ℕ) (text : List ℕ) (before after : SoloState) (answer : Result ℕ AddFault) : Type 0 where
  pub pool : after.pool ≡ before.pool
  pub call : MakesCall before.pool.limits (call.Add id text) (reply_of_add answer) (sole_pass before) (sole_pass after)
  pub turns : AddTurns before.pool.config before.pool.limits 0 id text before.history after.history answer

-- that of this delete
pub record DeletesFrom (id : ℕ) (before after : SoloState) (answer : Result ℕ DeleteFault) : Type 0 where
  pub pool : after.pool ≡ before.pool
  pub call : MakesCall before.pool.limits (call.Delete id) (reply_of_delete answer) (sole_pass before) (sole_pass after)
  pub turn : DeleteTurn before.pool.limits id answer (sole_pass before) (sole_pass after)

-- that of this find
pub record FindsIn (query : List ℕ) (before after : SoloState) (answer : Result (List ℕ) FindFault) : Type 0 where
  pub pool : after.pool ≡ before.pool
  pub call : MakesCall before.pool.limits (call.Find query) (reply_of_find answer) (sole_pass before) (sole_pass after)
  pub turns : FindTurns before.pool.limits 0 query before.history after.history answer

-- and that of this query
pub record SearchesIn (text : List ℕ) (before after : SoloState) (answer : Result (List ℕ) SearchFault) : Type 0 where
  pub pool : after.pool ≡ before.pool
  pub call : MakesQuery before.pool.limits text answer (sole_pass before) (sole_pass after)
  pub turns : QueryTurns before.pool.limits 0 text before.history after.history answer

-- of the shards this one made a call, and no other did anything
pub record AsksOne (Call : SoloState → SoloState → Type 0) (shard : ℕ) (before after : List SoloState) : Type 0 where
  pub in_range : shard < length before
  pub count : length after ≡ length before
  pub asked : (d : SoloState) → Call (slice_index_or before shard d) (slice_index_or after shard d)
  pub others : (k : ℕ) (d : SoloState) → (k ≡ shard → ⊥) → slice_index_or after k d ≡ slice_index_or before k d

-- each of them did so
pub record AsksEach (Call : SoloState → SoloState → Type 0) (before after : List SoloState) : Type 0 where
  pub count : length after ≡ length before
  pub asked : (k : ℕ) (d : SoloState) → k < length before → Call (slice_index_or before k d) (slice_index_or after k d)

-- the list has fewer members than may be
abbrev pub HasRoom : List Event → Type 0
HasRoom list = length list < 2 ^ 62

-- the list has so many members that no add and no delete is taken any more
pub record IsOver (list : List Event) (set : SetState) (commits : ℕ) : Type 0 where
  pub many : 2 ^ 62 ≤ length list
  pub count : commits ≡ length list

-- An add that found room in the list for its number was asked of the shard that its text goes to, and answered so there.
pub record AsksAdd (id : ℕ) (text : List ℕ) (list : List Event) (before after : SetState) (answer : Result ℕ AddFault) : Type 0 where
  pub room : HasRoom list
  pub absent : is_live id list ≡ false
  pub asks : AsksOne (λ s t. AddsTo id text s t answer) (shard_of (length before.shards) text) before.shards after.shards

-- The add comes to the end of the list, and is told its place there.
pub record IsAdded (id : ℕ) (text : List ℕ) (list : List Event) (before after : SetState) (place : ℕ) : Type 0 where
  pub own : ℕ
  pub asked : AsksAdd id text list before after (Ok own)
  pub place_is : place ≡ length list + 1
  pub stands : StandsFor after (list ++ added id text ∷ [])

-- It is refused, and the list stays: by the number's own place where it is live; by the shard as full or as spent; as spent where the list
-- has as many members as may be; and for want of memory, before the shard was asked or there.
abbrev pub RefusesAdd : ℕ → List ℕ → List Event → SetState → SetState → AddFault → Type 0
RefusesAdd id text list before after (add.Present place) = HasRoom list × (live_place id list ≡ Some place) × (after ≡ before)
RefusesAdd id text list before after (add.Full blocks) = AsksAdd id text list before after (Err (add.Full blocks))
RefusesAdd id text list before after (add.Spent events) =
    (IsOver list before events × (after ≡ before)) ⊎ ((2 ^ 62 ≤ events) × AsksAdd id text list before after (Err (add.Spent events)))
RefusesAdd id text list before after add.Memory =
    (HasRoom list × (is_live id list ≡ false) × (after.shards ≡ before.shards)) ⊎ AsksAdd id text list before after (Err add.Memory)

abbrev pub AnswersAdd : ℕ → List ℕ → List Event → SetState → SetState → Result ℕ AddFault → Type 0
AnswersAdd id text list before after (Ok place) = IsAdded id text list before after place
AnswersAdd id text list before after (Err fault) = StandsFor after list × RefusesAdd id text list before after fault

-- A delete of a live number was asked of its document's shard, and answered so there.
pub record AsksDelete (id : ℕ) (list : List Event) (before after : SetState) (answer : Result ℕ DeleteFault) : Type 0 where
  pub room : HasRoom list
  pub document : Document
  pub live : document_with id list ≡ Some document
  pub asks : AsksOne (λ s t. DeletesFrom id s t answer) (shard_of (length before.shards) document.text) before.shards after.shards

pub record IsDeleted (id : ℕ) (list : List Event) (before after : SetState) (place : ℕ) : Type 0 where
  pub own : ℕ
  pub asked : AsksDelete id list before after (Ok own)
  pub place_is : place ≡ length list + 1
  pub stands : StandsFor after (list ++ deleted id ∷ [])

abbrev pub RefusesDelete : ℕ → List Event → SetState → SetState → DeleteFault → Type 0
RefusesDelete id list before after delete.Absent = HasRoom list × (is_live id list ≡ false) × (after ≡ before)
RefusesDelete id list before after (delete.Spent events) =
    (IsOver list before events × (after ≡ before)) ⊎ ((2 ^ 62 ≤ events) × AsksDelete id list before after (Err (delete.Spent events)))

abbrev pub AnswersDelete : ℕ → List Event → SetState → SetState → Result ℕ DeleteFault → Type 0
AnswersDelete id list before after (Ok place) = IsDeleted id list before after place
AnswersDelete id list before after (Err fault) = StandsFor after list × RefusesDelete id list before after fault

-- some call of the kind was made, however it was answered, or nothing was done
abbrev pub AsksOrNot : {A : Type 0} → (SoloState → SoloState → A → Type 0) → SoloState → SoloState → Type 0
AsksOrNot {A} Call before after = (after ≡ before) ⊎ ((answer : A) × Call before after answer)

-- one of the shards was asked, and refused the call so
pub record OneRefuses {A F : Type 0} (Call : SoloState → SoloState → Result A F → Type 0) (before after : List SoloState) (fault : F) : Type 0 where
  pub shard : ℕ
  pub in_range : shard < length before
  pub refuses : (d : SoloState) → Call (slice_index_or before shard d) (slice_index_or after shard d) (Err fault)

-- A find is answered by what is live in the list, and was asked of each shard; or a shard refused it, and it was asked of some; or there was no
-- memory for the answer.
abbrev pub AnswersFind : List ℕ → List Event → SetState → SetState → Result (List ℕ) FindFault → Type 0
AnswersFind query list before after (Ok ids) =
    (ids ≡ answer list query) × AsksEach (λ s t. (own : List ℕ) × FindsIn query s t (Ok own)) before.shards after.shards
AnswersFind query list before after (Err (find.Spent events)) =
    AsksEach (AsksOrNot (FindsIn query)) before.shards after.shards × OneRefuses (FindsIn query) before.shards after.shards (find.Spent events) × (2 ^ 62 ≤ events)
AnswersFind query list before after (Err find.Memory) = AsksEach (AsksOrNot (FindsIn query)) before.shards after.shards

-- A query is answered by what its expression keeps; where its text is none, nothing was done.
abbrev pub AnswersQuery : List ℕ → List Event → SetState → SetState → Result (List ℕ) SearchFault → Type 0
AnswersQuery text list before after (Ok ids) =
    ((expr : Expr) × IsQuery text (tree_of expr) × (ids ≡ answer_by list (tree_of expr)))
    × AsksEach (λ s t. (own : List ℕ) × SearchesIn text s t (Ok own)) before.shards after.shards
AnswersQuery text list before after (Err (search.Syntax at)) = IsMalformed text at × (after.shards ≡ before.shards)
AnswersQuery text list before after (Err (search.Deep at)) = IsTooDeep text at × (after.shards ≡ before.shards)
AnswersQuery text list before after (Err (search.Spent events)) =
    AsksEach (AsksOrNot (SearchesIn text)) before.shards after.shards × OneRefuses (SearchesIn text) before.shards after.shards (search.Spent events) × (2 ^ 62 ≤ events)
AnswersQuery text list before after (Err search.Memory) = AsksEach (AsksOrNot (SearchesIn text)) before.shards after.shards
