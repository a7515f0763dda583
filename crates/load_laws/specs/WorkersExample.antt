-- A load of two documents that two workers make, and what they are answered.
use Rattle.std.specs.Prelude.{ℕ, ◌^◌, ◌==◌, List, [], ◌∷◌, codes, if◌then◌else◌}
use Rattle.funnel_model.specs.declared.event.Event.{Event}
use Rattle.funnel_model.specs.declared.event.Event.TheVariants as event
use Rattle.funnel_model.specs.declared.reply.Reply.{Reply}
use Rattle.funnel_model.specs.declared.reply.Reply.TheVariants as reply
use Rattle.funnel_model.specs.Legal.{Limits}
use Rattle.load_gen.specs.Documents.{document}

-- two passes, and one slice of two columns
abbrev pub two_passes : Limits
two_passes = record { passes = 2; slices = 1; columns = 2; slice_words = 4; commits = 2; events = 2 ^ 62 }

-- the second worker is the first to commit its document
abbrev pub both_added : List Event
both_added =
    event.Take 0 0 0 ∷ event.Take 1 0 1 ∷ event.Add 1 2 (document 1 0 1) 0 1 [] ∷ event.Add 0 1 (document 1 0 0) 0 0 [] ∷ []

-- the first two finds run at the same time
abbrev pub both_queried : List Event
both_queried =
    event.Find 0 (codes "w0") ∷ event.Find 1 (codes "w0 w1") ∷ event.End 0 ∷ event.End 1
    ∷ event.Find 0 (codes "w1") ∷ event.End 0 ∷ event.Find 0 (codes "w2") ∷ event.End 0 ∷ event.Find 0 (codes "w3") ∷ event.End 0
    ∷ event.Find 1 (codes "w1 w2") ∷ event.End 1 ∷ event.Find 1 (codes "w2 w3") ∷ event.End 1 ∷ event.Find 1 (codes "w3 w4") ∷ event.End 1 ∷ []

-- the first worker's replies, and the second's; of the documents only the first has one of the words, which is w1
abbrev pub first_replies : List Reply
first_replies = reply.Added 2 ∷ reply.Found [] ∷ reply.Found (1 ∷ []) ∷ reply.Found [] ∷ reply.Found [] ∷ []

abbrev pub second_replies : List Reply
second_replies = reply.Added 1 ∷ reply.Found [] ∷ reply.Found [] ∷ reply.Found [] ∷ reply.Found [] ∷ []

abbrev pub replies_to : ℕ → List Reply
replies_to worker = if worker == 0 then first_replies else second_replies
