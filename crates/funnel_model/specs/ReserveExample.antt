-- An engine of two slices of three columns, and histories that fill it and then delete some of the documents. And a history of the engine
-- of two passes that fills its slice without leaving a document there.
use Rattle.std.specs.Prelude.{List, [], ◌∷◌, ◌++◌}
use Rattle.funnel_model.specs.declared.event.Event.{Event}
use Rattle.funnel_model.specs.declared.event.Event.TheVariants as event
use Rattle.funnel_model.specs.Example.{first_added}
use Rattle.funnel_model.specs.Legal.{Limits}

-- one pass, and two slices of three columns
abbrev pub spacious : Limits
spacious = record { passes = 1; slices = 2; columns = 3; slice_words = 4; commits = 8; events = 64 }

-- documents 1 to 3 fill slice 0, and 4 to 6 fill slice 1
abbrev pub six_added : List Event
six_added =
    event.Take 0 0 0 ∷ event.Add 0 1 [] 0 0 [] ∷ event.Take 0 0 1 ∷ event.Add 0 2 [] 0 1 []
    ∷ event.Take 0 0 2 ∷ event.Add 0 3 [] 0 2 [] ∷ event.Take 0 1 0 ∷ event.Add 0 4 [] 1 0 []
    ∷ event.Take 0 1 1 ∷ event.Add 0 5 [] 1 1 [] ∷ event.Take 0 1 2 ∷ event.Add 0 6 [] 1 2 [] ∷ []

-- one document of each slice is deleted
abbrev pub evenly_deleted : List Event
evenly_deleted = six_added ++ event.Del 0 1 ∷ event.Del 0 4 ∷ []

-- and one more of slice 1
abbrev pub unevenly_deleted : List Event
unevenly_deleted = evenly_deleted ++ event.Del 0 5 ∷ []

-- document 9 is added in a slice of two columns, pass 1 takes the other column, and 9 is deleted
abbrev pub taken_beside : List Event
taken_beside = first_added ++ event.Take 1 0 1 ∷ event.Del 0 9 ∷ []
