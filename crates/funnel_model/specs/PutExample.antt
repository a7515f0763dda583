-- A history of the small engine in which a document is put in the place of a live one, and what is read and refused after it.
use Rattle.std.specs.Prelude.{List, [], ◌∷◌, ◌++◌, codes}
use Rattle.funnel_model.specs.declared.call.Call.TheVariants as call
use Rattle.funnel_model.specs.declared.event.Event.{Event}
use Rattle.funnel_model.specs.declared.event.Event.TheVariants as event
use Rattle.funnel_model.specs.declared.reply.Reply.{Reply}
use Rattle.funnel_model.specs.declared.reply.Reply.TheVariants as reply
use Rattle.funnel_model.specs.declared.stats.Stats.{Stats}
use Rattle.funnel_model.specs.Example.{first_added}
use Rattle.funnel_model.specs.History.{Document}

-- the document of number 9 that was there, and the one that takes its place
abbrev pub old_document : Document
old_document = record { id = 9; text = []; place = 1 }

abbrev pub new_document : Document
new_document = record { id = 9; text = codes "b"; place = 2 }

-- it is put on the column that is left
abbrev pub replaced : List Event
replaced = first_added ++ event.Take 0 0 1 ∷ event.Add 0 9 (codes "b") 0 1 [] ∷ []

-- a find, and the texts of numbers 9 and 5
abbrev pub read_after : List Event
read_after = replaced ++ event.Find 0 [] ∷ event.End 0 ∷ event.Read 0 (call.Get 9) ∷ event.Read 0 (call.Get 5) ∷ []

-- the numbers of the engine then
abbrev pub numbers_after : Stats
numbers_after = record { documents = 1; place = 2; base = 0; columns = 2; free = 0; retired = 0; finds = 0 }

-- they are read, and another document, for which no column is left, is refused
abbrev pub refused_after : List Event
refused_after = read_after ++ event.Read 0 call.Stats ∷ event.No 0 (call.Put 9 []) ∷ []

-- the replies to its calls, in order
abbrev pub put_replies : List Reply
put_replies =
    reply.Added 1 ∷ reply.Replaced 2 ∷ reply.Found (9 ∷ []) ∷ reply.Text 2 (codes "b") ∷ reply.Absent ∷ reply.Stats numbers_after
    ∷ reply.Full ∷ []
