-- What a call of an engine with one pass adds to its adds and deletes, and by what it is answered.
use Rattle.std.specs.Prelude.{ℕ, ◌≡◌, false, List, [], ◌∷◌, ◌++◌, Some}
use Rattle.bare_history.specs.Bare.{added, bare, deleted}
use Rattle.funnel_model.specs.declared.call.Call.{Call}
use Rattle.funnel_model.specs.declared.call.Call.TheVariants as call
use Rattle.funnel_model.specs.declared.event.Event.{Event}
use Rattle.funnel_model.specs.declared.reply.Reply.{Reply}
use Rattle.funnel_model.specs.declared.reply.Reply.TheVariants as reply
use Rattle.funnel_model.specs.declared.expr.Expr.{Expr}
use Rattle.funnel_model.specs.Expressions.{answer_by, tree_of}
use Rattle.funnel_model.specs.History.{answer, is_live, live_place}
use Rattle.funnel_model.specs.Legal.{Limits}
use Rattle.funnel_model.specs.Steps.{Step}

-- the add or the delete that a call made that was answered so, if it made one
abbrev pub made_by : Call → Reply → List Event
made_by (call.Add id text) (reply.Added place) = added id text ∷ []
made_by (call.Put id text) (reply.Added place) = added id text ∷ []
made_by (call.Put id text) (reply.Replaced place) = added id text ∷ []
made_by (call.Delete id) (reply.Deleted place) = deleted id ∷ []
made_by asked given = []

-- in an engine of one pass a call adds the add or the delete that it made, and no other
abbrev pub LoneCallsMakeWhatTheyTell : Type 0
LoneCallsMakeWhatTheyTell = (limits : Limits) (before after : List Event) (asked : Call) (given : Reply) →
    limits.passes ≡ 1 → Step limits 0 before after asked given → bare after ≡ bare before ++ made_by asked given

-- Such a call is told of what was live before it: an add that its number is live, and where it was added; a delete that its number is not;
-- and a find and a query which numbers were kept.
pub record LoneCallsAreToldWhatWasLive : Type 0 where
  pub present : (limits : Limits) (before after : List Event) (id n : ℕ) (text : List ℕ) → limits.passes ≡ 1
      → Step limits 0 before after (call.Add id text) (reply.Present n) → live_place id before ≡ Some n
  pub absent : (limits : Limits) (before after : List Event) (id : ℕ) → limits.passes ≡ 1
      → Step limits 0 before after (call.Delete id) reply.Absent → is_live id before ≡ false
  pub found : (limits : Limits) (before after : List Event) (query ids : List ℕ) → limits.passes ≡ 1
      → Step limits 0 before after (call.Find query) (reply.Found ids) → ids ≡ answer before query
  pub kept : (limits : Limits) (before after : List Event) (expr : Expr) (ids : List ℕ) → limits.passes ≡ 1
      → Step limits 0 before after (call.Query expr) (reply.Found ids) → ids ≡ answer_by before (tree_of expr)
