-- Small engines and histories of them. Together the histories have each kind of event, and the refusals Present, Full, Absent and
-- Trimmed.
use Rattle.std.specs.Prelude.{◌≡◌, ◌⊎◌, true, false, List, [], ◌∷◌, ◌++◌, None}
use Rattle.funnel_model.specs.declared.call.Call.{Call}
use Rattle.funnel_model.specs.declared.call.Call.TheVariants as call
use Rattle.funnel_model.specs.declared.event.Event.{Event}
use Rattle.funnel_model.specs.declared.event.Event.TheVariants as event
use Rattle.funnel_model.specs.declared.reply.Reply.{Reply}
use Rattle.funnel_model.specs.declared.reply.Reply.TheVariants as reply
use Rattle.funnel_model.specs.Events.{call_of}
use Rattle.funnel_model.specs.Legal.{Limits}
use Rattle.funnel_model.specs.Steps.{IsReply}

-- one pass, and one slice of two columns
abbrev pub small : Limits
small = record { passes = 1; slices = 1; columns = 2; slice_words = 4; commits = 8; events = 64 }

-- document 9 is added
abbrev pub first_added : List Event
first_added = event.Take 0 0 0 ∷ event.Add 0 9 [] 0 0 [] ∷ []

-- documents 9 and 7 are added; 9 is refused, since it is there; a query without words finds both; 5 is refused, since no column is left
abbrev pub episode : List Event
episode =
    first_added ++ event.No 0 (call.Add 9 []) ∷ event.Take 0 0 1 ∷ event.Add 0 7 [] 0 1 []
    ∷ event.Find 0 [] ∷ event.End 0 ∷ event.No 0 (call.Add 5 []) ∷ []

-- the replies to the later events, where the history was these before; an event that answers no call has none
abbrev pub AreRepliesAfter : Limits → List Event → List Event → List Reply → Type 0
AreRepliesAfter limits before [] replies = replies ≡ []
AreRepliesAfter limits before (e ∷ later) replies =
    ((call_of e ≡ None) × AreRepliesAfter limits (before ++ e ∷ []) later replies)
    ⊎ ((given : Reply) × (rest : List Reply) × (replies ≡ given ∷ rest) × IsReply limits before e given
    × AreRepliesAfter limits (before ++ e ∷ []) later rest)

-- the replies to the calls of a history, in order
abbrev pub AreReplies : Limits → List Event → List Reply → Type 0
AreReplies limits history replies = AreRepliesAfter limits [] history replies

-- the calls of pass 0 that the episode answers
abbrev pub episode_calls : List Call
episode_calls = call.Add 9 [] ∷ call.Add 9 [] ∷ call.Add 7 [] ∷ call.Find [] ∷ call.Add 5 [] ∷ []

-- the replies to its calls, in order
abbrev pub episode_replies : List Reply
episode_replies = reply.Added 1 ∷ reply.Present 1 ∷ reply.Added 2 ∷ reply.Found (9 ∷ 7 ∷ []) ∷ reply.Full ∷ []

-- two passes, one slice of two columns, and a journal that keeps five commits
abbrev pub shared : Limits
shared = record { passes = 2; slices = 1; columns = 2; slice_words = 4; commits = 5; events = 64 }

-- documents 9 and 7 fill the slice; pass 1 begins a find, and both are deleted under its token, so that the slice retires
abbrev pub filling_and_deleting : List Event
filling_and_deleting =
    event.Take 0 0 0 ∷ event.Add 0 9 [] 0 0 [] ∷ event.Take 0 0 1 ∷ event.Add 0 7 [] 0 1 []
    ∷ event.Find 1 [] ∷ event.Del 0 9 ∷ event.Del 0 7 ∷ []

-- it is guarded, and 5 is refused; the find ends, and the slice is cleared, opened and used again for 5
abbrev pub reuse : List Event
reuse =
    filling_and_deleting ++ event.No 0 (call.Add 5 []) ∷ event.End 1
    ∷ event.Clear 0 0 ∷ event.Opened 0 0 false ∷ event.Take 0 0 0 ∷ event.Add 0 5 [] 0 0 []
    ∷ event.Find 0 [] ∷ event.End 0 ∷ event.Read 0 call.Place
    ∷ event.No 0 (call.Delete 9) ∷ event.No 0 (call.Add 5 []) ∷ []

-- the replies to its calls, in order
abbrev pub reuse_replies : List Reply
reuse_replies =
    reply.Added 1 ∷ reply.Added 2 ∷ reply.Found (9 ∷ 7 ∷ []) ∷ reply.Deleted 3 ∷ reply.Deleted 4 ∷ reply.Full ∷ reply.Added 5
    ∷ reply.Found (5 ∷ []) ∷ reply.Place 5 ∷ reply.Absent ∷ reply.Present 5 ∷ []

-- both passes take a column for the same number; pass 0 adds its document, and pass 1 drops its own
abbrev pub same_number : List Event
same_number = event.Take 0 0 0 ∷ event.Take 1 0 1 ∷ event.Add 0 4 [] 0 0 [] ∷ event.Drop 1 4 [] 0 1 ∷ []

-- the replies to its calls, in order
abbrev pub same_number_replies : List Reply
same_number_replies = reply.Added 1 ∷ reply.Present 1 ∷ []

-- both take a column, and pass 1 has added its document
abbrev pub later_added : List Event
later_added = event.Take 0 0 0 ∷ event.Take 1 0 1 ∷ event.Add 1 9 [] 0 1 [] ∷ []

-- one pass, one slice of four columns, and a journal that keeps one commit
abbrev pub forgetful : Limits
forgetful = record { passes = 1; slices = 1; columns = 4; slice_words = 4; commits = 1; events = 64 }

-- documents 1 and 2 are added and deleted, and 1 is added again
abbrev pub five_commits : List Event
five_commits =
    event.Take 0 0 0 ∷ event.Add 0 1 [] 0 0 [] ∷ event.Take 0 0 1 ∷ event.Add 0 2 [] 0 1 []
    ∷ event.Del 0 1 ∷ event.Del 0 2 ∷ event.Take 0 0 2 ∷ event.Add 0 1 [] 0 2 [] ∷ []

-- the journal is read below the one commit that it keeps, at it, and past it
abbrev pub trimmed : List Event
trimmed = five_commits ++ event.Read 0 (call.Journal 3) ∷ event.Read 0 (call.Journal 4) ∷ event.Read 0 (call.Journal 9) ∷ []

-- the replies to its calls, in order
abbrev pub trimmed_replies : List Reply
trimmed_replies =
    reply.Added 1 ∷ reply.Added 2 ∷ reply.Deleted 3 ∷ reply.Deleted 4 ∷ reply.Added 5
    ∷ reply.Trimmed 4 ∷ reply.Commits (record { add = true; id = 1 } ∷ []) ∷ reply.Commits [] ∷ []
