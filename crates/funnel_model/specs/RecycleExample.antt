-- An engine of two slices, and a history of it with recycles, journals, texts and bits, in which both passes are inside calls at
-- once. It has the refusals NothingRetired and Guarded. Beside it stand histories whose engines are full (`held`,
-- `both_clearing`).
use Rattle.std.specs.Prelude.{ℕ, ◌^◌, true, false, List, [], ◌∷◌, ◌++◌, codes}
use Rattle.funnel_model.specs.declared.bit_list.Bit.{Bit}
use Rattle.funnel_model.specs.declared.call.Call.TheVariants as call
use Rattle.funnel_model.specs.declared.commit.Commit.{Commit}
use Rattle.funnel_model.specs.declared.event.Event.{Event}
use Rattle.funnel_model.specs.declared.event.Event.TheVariants as event
use Rattle.funnel_model.specs.declared.reply.Reply.{Reply}
use Rattle.funnel_model.specs.declared.reply.Reply.TheVariants as reply
use Rattle.funnel_model.specs.Legal.{Limits}

-- two passes, and two slices of one column and four words
abbrev pub paired : Limits
paired = record { passes = 2; slices = 2; columns = 1; slice_words = 4; commits = 8; events = 64 }

-- the one bit of the document in each slice
abbrev pub low_bit : Bit
low_bit = record { word = 1; bit = 0 }

abbrev pub high_bit : Bit
high_bit = record { word = 5; bit = 63 }

-- nothing is retired; then documents 9 and 7 fill the slices
abbrev pub slices_filled : List Event
slices_filled =
    event.No 0 call.Recycle ∷ event.Take 0 0 0 ∷ event.Add 0 9 (codes "a cat") 0 0 (low_bit ∷ [])
    ∷ event.Take 0 1 0 ∷ event.Add 0 7 (codes "Cat") 1 0 (high_bit ∷ []) ∷ []

-- pass 1 begins a find, and both documents are deleted under its token, which guards both slices
abbrev pub guarded : List Event
guarded = slices_filled ++ event.Find 1 (codes "A") ∷ event.Del 0 9 ∷ event.Del 0 7 ∷ []

-- row words that have the bits of both documents, and ones that have another bit in place of the second
abbrev pub covering : List ℕ
covering = 0 ∷ 1 ∷ 0 ∷ 0 ∷ 0 ∷ 2 ^ 63 ∷ 0 ∷ 0 ∷ []

abbrev pub not_covering : List ℕ
not_covering = 0 ∷ 1 ∷ 0 ∷ 0 ∷ 0 ∷ 1 ∷ 0 ∷ 0 ∷ []

-- ones that have the first bit alone, and the second alone
abbrev pub first_set : List ℕ
first_set = 0 ∷ 1 ∷ 0 ∷ 0 ∷ 0 ∷ 0 ∷ 0 ∷ 0 ∷ []

abbrev pub second_set : List ℕ
second_set = 0 ∷ 0 ∷ 0 ∷ 0 ∷ 0 ∷ 2 ^ 63 ∷ 0 ∷ 0 ∷ []

-- a recycle is refused, since both slices are guarded; then the find ends
abbrev pub unguarded : List Event
unguarded = guarded ++ event.No 0 call.Recycle ∷ event.End 1 ∷ []

-- slice 0 is cleared and opened by itself, and journals are read from the first, the second and after the last commit
abbrev pub recycled : List Event
recycled =
    unguarded ++ event.Clear 0 0 ∷ event.Opened 0 0 true
    ∷ event.Read 0 (call.Journal 0) ∷ event.Read 0 (call.Journal 1) ∷ event.Read 0 (call.Journal 4) ∷ []

-- pass 1 clears and opens slice 1, and pass 0 takes a column of slice 0 between
abbrev pub both_recycled : List Event
both_recycled = recycled ++ event.Clear 1 1 ∷ event.Take 0 0 0 ∷ event.Opened 1 1 true ∷ []

-- document 5 is added on that column
abbrev pub together : List Event
together = both_recycled ++ event.Add 0 5 [] 0 0 [] ∷ []

-- pass 0 has added a document in slice 0, and pass 1 has taken the column of slice 1
abbrev pub held : List Event
held = event.Take 0 0 0 ∷ event.Add 0 9 [] 0 0 [] ∷ event.Take 1 1 0 ∷ []

-- after the find has ended each pass clears one of the slices
abbrev pub both_clearing : List Event
both_clearing = unguarded ++ event.Clear 0 0 ∷ event.Clear 1 1 ∷ []

-- the commit of an add of this number
abbrev pub commit_of_add : ℕ → Commit
commit_of_add id = record { add = true; id = id }

-- the commit of a delete of this number
abbrev pub commit_of_delete : ℕ → Commit
commit_of_delete id = record { add = false; id = id }

-- the replies to the calls of `together`, in order
abbrev pub together_replies : List Reply
together_replies =
    reply.NothingRetired ∷ reply.Added 1 ∷ reply.Added 2 ∷ reply.Found (9 ∷ []) ∷ reply.Deleted 3 ∷ reply.Deleted 4
    ∷ reply.Guarded 0 1 ∷ reply.Recycled 0
    ∷ reply.Commits (commit_of_add 9 ∷ commit_of_add 7 ∷ commit_of_delete 9 ∷ commit_of_delete 7 ∷ [])
    ∷ reply.Commits (commit_of_add 7 ∷ commit_of_delete 9 ∷ commit_of_delete 7 ∷ []) ∷ reply.Commits []
    ∷ reply.Recycled 1 ∷ reply.Added 5 ∷ []
