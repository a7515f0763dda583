-- Histories of the engine of two slices in which a document moves under an open find, a column is left void, and the document moves
-- again after it was deleted and added anew. And one of the engine of two passes in which documents may be moved out of a slice.
use Rattle.std.specs.Prelude.{true, List, [], ◌∷◌, ◌++◌, codes}
use Rattle.funnel_model.specs.declared.call.Call.TheVariants as call
use Rattle.funnel_model.specs.declared.event.Event.{Event}
use Rattle.funnel_model.specs.declared.event.Event.TheVariants as event
use Rattle.funnel_model.specs.declared.reply.Reply.{Reply}
use Rattle.funnel_model.specs.declared.reply.Reply.TheVariants as reply
use Rattle.funnel_model.specs.Example.{first_added}
use Rattle.funnel_model.specs.History.{Document}
use Rattle.funnel_model.specs.RecycleExample.{high_bit, low_bit}

-- the document that moves
abbrev pub cat : Document
cat = record { id = 9; text = codes "a cat"; place = 1 }

-- it is added in slice 0, pass 1 begins a find, and it moves to slice 1: slice 0 retires, and the find guards it
abbrev pub moved : List Event
moved =
    event.Take 0 0 0 ∷ event.Add 0 9 (codes "a cat") 0 0 (low_bit ∷ []) ∷ event.Find 1 (codes "A")
    ∷ event.Take 0 1 0 ∷ event.Move 0 9 1 0 (high_bit ∷ []) ∷ []

-- a recycle is refused; the find ends, and the next one finds the document too
abbrev pub found_again : List Event
found_again = moved ++ event.No 0 call.Recycle ∷ event.End 1 ∷ event.Find 0 (codes "cat") ∷ event.End 0 ∷ []

-- slice 0 is recycled, and its column is taken and left void, so that the slice retires again
abbrev pub voided : List Event
voided = found_again ++ event.Clear 0 0 ∷ event.Opened 0 0 true ∷ event.Take 0 0 0 ∷ event.Void 0 0 0 ∷ []

-- it is recycled once more; the document is deleted, and its number is added again there
abbrev pub added_again : List Event
added_again = voided ++ event.Clear 0 0 ∷ event.Opened 0 0 true ∷ event.Del 0 9 ∷ event.Take 0 0 0 ∷ event.Add 0 9 [] 0 0 [] ∷ []

-- the document that has the number then
abbrev pub new_cat : Document
new_cat = record { id = 9; text = []; place = 3 }

-- slice 1, whose document was deleted, is recycled, and the new document moves there
abbrev pub moved_again : List Event
moved_again = added_again ++ event.Clear 0 1 ∷ event.Opened 0 1 true ∷ event.Take 0 1 0 ∷ event.Move 0 9 1 0 [] ∷ []

-- the replies to its calls, in order; a move and a void have none
abbrev pub moved_again_replies : List Reply
moved_again_replies =
    reply.Added 1 ∷ reply.Found (9 ∷ []) ∷ reply.Guarded 0 1 ∷ reply.Found (9 ∷ []) ∷ reply.Recycled 0 ∷ reply.Recycled 0
    ∷ reply.Deleted 2 ∷ reply.Added 3 ∷ reply.Recycled 1 ∷ []

-- documents 9 and 7 fill a slice of two columns, and 9 is deleted
abbrev pub half_deleted : List Event
half_deleted = first_added ++ event.Take 0 0 1 ∷ event.Add 0 7 [] 0 1 [] ∷ event.Del 0 9 ∷ []
