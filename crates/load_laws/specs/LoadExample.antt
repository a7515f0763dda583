-- A load that fits a small engine, what it is answered, and the history that a pass makes of it alone.
use Rattle.std.specs.Prelude.{List, [], ◌∷◌}
use Rattle.funnel_model.specs.declared.call.Call.{Call}
use Rattle.funnel_model.specs.declared.call.Call.TheVariants as call
use Rattle.funnel_model.specs.declared.event.Event.{Event}
use Rattle.funnel_model.specs.declared.event.Event.TheVariants as event
use Rattle.funnel_model.specs.declared.reply.Reply.{Reply}
use Rattle.funnel_model.specs.declared.reply.Reply.TheVariants as reply

-- two documents are added, with a query without words after each; then the first is deleted
abbrev pub small_load : List Call
small_load = call.Add 9 [] ∷ call.Find [] ∷ call.Add 7 [] ∷ call.Find [] ∷ call.Delete 9 ∷ call.Find [] ∷ []

abbrev pub small_load_replies : List Reply
small_load_replies =
    reply.Added 1 ∷ reply.Found (9 ∷ []) ∷ reply.Added 2 ∷ reply.Found (9 ∷ 7 ∷ []) ∷ reply.Deleted 3 ∷ reply.Found (7 ∷ []) ∷ []

abbrev pub small_load_events : List Event
small_load_events =
    event.Take 0 0 0 ∷ event.Add 0 9 [] 0 0 [] ∷ event.Find 0 [] ∷ event.End 0
    ∷ event.Take 0 0 1 ∷ event.Add 0 7 [] 0 1 [] ∷ event.Find 0 [] ∷ event.End 0
    ∷ event.Del 0 9 ∷ event.Find 0 [] ∷ event.End 0 ∷ []
