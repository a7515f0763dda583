-- Histories of the engine of two slices, which is tuned twice.
use Rattle.std.specs.Prelude.{true, List, [], ◌∷◌, ◌++◌}
use Rattle.funnel_model.specs.declared.config.Config.{Config}
use Rattle.funnel_model.specs.declared.event.Event.{Event}
use Rattle.funnel_model.specs.declared.event.Event.TheVariants as event
use Rattle.funnel_model.specs.declared.reply.Reply.{Reply}
use Rattle.funnel_model.specs.declared.reply.Reply.TheVariants as reply

-- document 9 is added in slice 0, the engine is tuned, and 7 is added in slice 1; then 9 is deleted, so that slice 0 retires
abbrev pub tuned_once : Config → List Event
tuned_once second =
    event.Take 0 0 0 ∷ event.Add 0 9 [] 0 0 [] ∷ event.Tune 1 second ∷ event.Take 0 1 0 ∷ event.Add 0 7 [] 1 0 [] ∷ event.Del 0 9 ∷ []

-- pass 0 recycles slice 0, and while it clears it the engine is tuned again
abbrev pub tuned_twice : Config → Config → List Event
tuned_twice second third = tuned_once second ++ event.Clear 0 0 ∷ event.Tune 1 third ∷ event.Opened 0 0 true ∷ []

-- document 9 is added in slice 0 again, and deleted
abbrev pub used_again : Config → Config → List Event
used_again second third = tuned_twice second third ++ event.Take 0 0 0 ∷ event.Add 0 9 [] 0 0 [] ∷ event.Del 0 9 ∷ []

-- and slice 0 is cleared once more
abbrev pub cleared_again : Config → Config → List Event
cleared_again second third = used_again second third ++ event.Clear 0 0 ∷ []

-- the replies to the calls of `tuned_twice`, in order
abbrev pub tuned_replies : List Reply
tuned_replies = reply.Added 1 ∷ reply.Tuned 1 ∷ reply.Added 2 ∷ reply.Deleted 3 ∷ reply.Tuned 2 ∷ reply.Recycled 0 ∷ []
