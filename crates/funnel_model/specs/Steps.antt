-- What a call is answered, and the step from front to front that it makes. A front is the part of the history that a pass has seen.
use Rattle.std.specs.Prelude.{ℕ, ◌+◌, ◌<◌, ◌≤◌, ◌≡◌, ◌⊎◌, Bool, true, false, List, [], ◌∷◌, ◌++◌, length, nat_lt, Option, Some, None, reverse, take, if◌then◌else◌}
use Rattle.std.specs.Option.{option_map, option_map_or}
use mathlib.Core.List.{IsPrefix}
use Rattle.funnel_model.specs.declared.call.Call.{Call}
use Rattle.funnel_model.specs.declared.call.Call.TheVariants as call
use Rattle.funnel_model.specs.declared.call.TheConstants.{MOST_MOVES}
use Rattle.funnel_model.specs.declared.event.Event.{Event}
use Rattle.funnel_model.specs.declared.event.Event.TheVariants as event
use Rattle.funnel_model.specs.declared.reply.Reply.{Reply}
use Rattle.funnel_model.specs.declared.reply.Reply.TheVariants as reply
use Rattle.funnel_model.specs.declared.expr.Expr.{Expr}
use Rattle.funnel_model.specs.Blocks.{IsLowestGuard}
use Rattle.funnel_model.specs.Expressions.{answer_by, tree_of}
use Rattle.funnel_model.specs.History.{Document, base, place, commits_after, answer, document_with, is_live, live_place, moved_by, own, call_by}
use Rattle.funnel_model.specs.Legal.{Limits, IsIdle, IsLegal}
use Rattle.funnel_model.specs.Numbers.{AreStats}
use Rattle.funnel_model.specs.Slices.{IsRetired}
use Rattle.funnel_model.specs.Tunings.{tunings}

-- no slice is retired
abbrev pub NoneRetired : Limits → List Event → Type 0
NoneRetired limits history = (slice : ℕ) → slice < limits.slices → IsRetired limits.columns slice history → ⊥

-- the slice is the lowest that is retired, and the pass is the lowest that guards it
pub record IsLowestGuarded (limits : Limits) (history : List Event) (slice pass : ℕ) : Type 0 where
  pub in_range : slice < limits.slices
  pub retired : IsRetired limits.columns slice history
  pub lowest : (lower : ℕ) → lower < slice → IsRetired limits.columns lower history → ⊥
  pub number : ℕ
  pub guard : IsLowestGuard limits.columns history slice pass number

-- a recycle is refused so: no slice is retired, or the lowest that is retired is guarded by this pass and none below it
abbrev pub IsReplyToRecycle : Limits → List Event → Reply → Type 0
IsReplyToRecycle limits history reply.NothingRetired = NoneRetired limits history
IsReplyToRecycle limits history (reply.Guarded slice pass) = IsLowestGuarded limits history slice pass
IsReplyToRecycle limits history _ = ⊥

-- a call is refused so after these events: an add by the place of its number's add where it is live, and else by want of room; a put by
-- want of room; a delete by the number's absence; a recycle as above; no other call is refused
abbrev pub IsReplyToRefused : Limits → List Event → Call → Reply → Type 0
IsReplyToRefused limits history (call.Add id text) given = given ≡ option_map_or reply.Present (live_place id history) reply.Full
IsReplyToRefused limits history (call.Put id text) given = given ≡ reply.Full
IsReplyToRefused limits history (call.Delete id) given = given ≡ reply.Absent
IsReplyToRefused limits history call.Recycle given = IsReplyToRecycle limits history given
IsReplyToRefused limits history _ given = ⊥

-- what a get is told of the live document with its number, if there is one
abbrev pub text_told : Option Document → Reply
text_told (Some document) = reply.Text document.place document.text
text_told None = reply.Absent

-- the numbers of the engine are told so
abbrev pub IsReplyToStats : Limits → List Event → Reply → Type 0
IsReplyToStats limits history (reply.Stats stats) = AreStats limits history stats
IsReplyToStats limits history _ = ⊥

-- a call that only reads is answered so: commits that the journal no longer keeps are told as trimmed, with the number of those
abbrev pub IsReplyToRead : Limits → List Event → Call → Reply → Type 0
IsReplyToRead limits history call.Place given = given ≡ reply.Place (place history)
IsReplyToRead limits history (call.Journal from) given =
    given ≡ (if nat_lt from (base limits.commits history) then reply.Trimmed (base limits.commits history) else reply.Commits (commits_after history from))
IsReplyToRead limits history (call.Get id) given = given ≡ text_told (document_with id history)
IsReplyToRead limits history call.Stats given = IsReplyToStats limits history given
IsReplyToRead limits history _ given = ⊥

-- what an add is told that is done, at this place: whether its number was live
abbrev pub place_told : Bool → ℕ → Reply
place_told true place = reply.Replaced place
place_told false place = reply.Added place

-- the event, which comes after these, gives this reply; an event that answers no call gives none. A dropped add is told the place
-- of the add of its number, which is live
abbrev pub IsReply : Limits → List Event → Event → Reply → Type 0
IsReply limits history (event.Add pass id text slice column bits) given = given ≡ place_told (is_live id history) (place history + 1)
IsReply limits history (event.Drop pass id text slice column) given = option_map reply.Present (live_place id history) ≡ Some given
IsReply limits history (event.Del pass id) given = given ≡ reply.Deleted (place history + 1)
IsReply limits history (event.Find pass query) given = given ≡ reply.Found (answer history query)
IsReply limits history (event.Opened pass slice alone) given = (alone ≡ true) × (given ≡ reply.Recycled slice)
IsReply limits history (event.Tune pass config) given = given ≡ reply.Tuned (length (tunings history) + 1)
IsReply limits history (event.No pass asked) given = IsReplyToRefused limits history asked given
IsReply limits history (event.Read pass asked) given = IsReplyToRead limits history asked given
IsReply limits history _ given = ⊥

-- the event with this number gives this reply; the first event has number 1
pub record IsReplyAt (limits : Limits) (history : List Event) (number : ℕ) (given : Reply) : Type 0 where
  pub earlier : List Event
  pub event : Event
  pub later : List Event
  pub whole : history ≡ earlier ++ event ∷ later
  pub count : number ≡ length earlier + 1
  pub reply : IsReply limits earlier event given

-- the pass's last call in the history is this one, and this is the reply that its event gives
pub record AnswersLast (limits : Limits) (pass : ℕ) (history : List Event) (asked : Call) (given : Reply) : Type 0 where
  pub earlier : List Event
  pub event : Event
  pub later : List Event
  pub whole : history ≡ earlier ++ event ∷ later
  pub call : call_by pass event ≡ Some asked
  pub last : own pass later ≡ []
  pub reply : IsReply limits earlier event given

-- the pass's calls are those before and then this one
abbrev pub AddsCall : ℕ → List Event → List Event → Call → Type 0
AddsCall pass before after asked = own pass after ≡ own pass before ++ asked ∷ []

-- the pass has made no call in between
abbrev pub AddsNone : ℕ → List Event → List Event → Type 0
AddsNone pass before after = own pass after ≡ own pass before

-- the expression by which a call searches, if it does
abbrev pub expression_of : Call → Option Expr
expression_of (call.Query expr) = Some expr
expression_of (call.Count expr) = Some expr
expression_of (call.Newest expr most) = Some expr
expression_of (call.Oldest expr most) = Some expr
expression_of _ = None

-- what such a call is told of the numbers that its expression keeps, in the order of their adds: all of them, how many they are, or also
-- the last so many, the newest first, or the first so many
abbrev pub told_of : Call → List ℕ → Reply
told_of (call.Count expr) ids = reply.Count (length ids)
told_of (call.Newest expr most) ids = reply.FoundSome (length ids) (take most (reverse ids))
told_of (call.Oldest expr most) ids = reply.FoundSome (length ids) (take most ids)
told_of _ ids = reply.Found ids

-- for want of memory an add, a put or a tuning makes no call; a find, a journal or a get makes one or none, and so does a call that searches
-- by an expression, whose one is the find of the empty query; no other call wants memory
abbrev pub FindsNoMemory : ℕ → List Event → List Event → Call → Type 0
FindsNoMemory pass before after (call.Add id text) = AddsNone pass before after
FindsNoMemory pass before after (call.Put id text) = AddsNone pass before after
FindsNoMemory pass before after (call.Tune config) = AddsNone pass before after
FindsNoMemory pass before after (call.Find query) = AddsNone pass before after ⊎ AddsCall pass before after (call.Find query)
FindsNoMemory pass before after (call.Query expr) = AddsNone pass before after ⊎ AddsCall pass before after (call.Find [])
FindsNoMemory pass before after (call.Count expr) = AddsNone pass before after ⊎ AddsCall pass before after (call.Find [])
FindsNoMemory pass before after (call.Newest expr most) = AddsNone pass before after ⊎ AddsCall pass before after (call.Find [])
FindsNoMemory pass before after (call.Oldest expr most) = AddsNone pass before after ⊎ AddsCall pass before after (call.Find [])
FindsNoMemory pass before after (call.Get id) = AddsNone pass before after ⊎ AddsCall pass before after (call.Get id)
FindsNoMemory pass before after (call.Journal from) = AddsNone pass before after ⊎ AddsCall pass before after (call.Journal from)
FindsNoMemory pass before after _ = ⊥

-- the reply tells that a document took the place of a live one
abbrev pub is_replaced : Reply → Bool
is_replaced (reply.Replaced place) = true
is_replaced _ = false

-- the reply tells that a document was added, in the place of a live one or not
abbrev pub is_placed : Reply → Bool
is_placed (reply.Added place) = true
is_placed (reply.Replaced place) = true
is_placed _ = false

-- the call was made, and is answered as the history says; none that is made by this name replaces a document
pub record IsMade (limits : Limits) (pass : ℕ) (before after : List Event) (asked : Call) (given : Reply) : Type 0 where
  pub call : AddsCall pass before after asked
  pub answered : AnswersLast limits pass after asked given
  pub replaces_none : is_replaced given ≡ false

-- the call is a put that was done: the pass made the add of its number and text, its last call, which was answered so
pub record IsPut (limits : Limits) (pass : ℕ) (before after : List Event) (asked : Call) (given : Reply) : Type 0 where
  pub id : ℕ
  pub text : List ℕ
  pub put : asked ≡ call.Put id text
  pub answered : AnswersLast limits pass after (call.Add id text) given
  pub call : AddsCall pass before after (call.Add id text)
  pub placed : is_placed given ≡ true

-- no memory was found for the call
pub record LacksMemory (pass : ℕ) (before after : List Event) (asked : Call) (given : Reply) : Type 0 where
  pub reply : given ≡ reply.Memory
  pub call : FindsNoMemory pass before after asked

-- the history has so many events that no call is taken any more
pub record IsSpent (limits : Limits) (pass : ℕ) (before after : List Event) (given : Reply) : Type 0 where
  pub reply : given ≡ reply.Spent
  pub call : AddsNone pass before after
  pub many : limits.events ≤ length after

-- the call searches by an expression: the pass made the find of the empty query, its last call, and the reply tells of the documents live
-- before it that the expression keeps
pub record IsJudged (pass : ℕ) (before after : List Event) (asked : Call) (given : Reply) : Type 0 where
  pub expr : Expr
  pub query : expression_of asked ≡ Some expr
  pub call : AddsCall pass before after (call.Find [])
  pub earlier : List Event
  pub later : List Event
  pub whole : after ≡ earlier ++ event.Find pass [] ∷ later
  pub none_later : own pass later ≡ []
  pub reply : given ≡ told_of asked (answer_by earlier (tree_of expr))

-- how many columns a call takes at most to move documents there: an add or a put some, and another call none
abbrev pub most_moves : Call → ℕ
most_moves (call.Add id text) = MOST_MOVES
most_moves (call.Put id text) = MOST_MOVES
most_moves _ = 0

-- a call of a pass leads from the front before to the front after, and is answered by this reply
pub record Step (limits : Limits) (pass : ℕ) (before after : List Event) (asked : Call) (given : Reply) : Type 0 where
  pub grows : IsPrefix before after
  pub legal : IsLegal limits after
  pub idle_before : IsIdle pass before
  pub idle_after : IsIdle pass after
  pub few_moves : moved_by pass after ≤ moved_by pass before + most_moves asked
  pub outcome : IsMade limits pass before after asked given
      ⊎ LacksMemory pass before after asked given
      ⊎ IsSpent limits pass before after given
      ⊎ IsJudged pass before after asked given
      ⊎ IsPut limits pass before after asked given

-- calls lead from front to front, one step for each, and are answered by these replies in order
abbrev pub Linear : Limits → ℕ → List Event → List Event → List Call → List Reply → Type 0
Linear limits pass before after [] [] = before ≡ after
Linear limits pass before after (asked ∷ calls) (given ∷ replies) =
    (middle : List Event) × Step limits pass before middle asked given × Linear limits pass middle after calls replies
Linear limits pass before after [] (given ∷ replies) = ⊥
Linear limits pass before after (asked ∷ calls) [] = ⊥
