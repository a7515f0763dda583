-- What the moves of seats make of their views.
use Rattle.std.specs.Prelude.{ℕ, ◌+◌, nat_lt, List, [], ◌∷◌, ◌++◌, length, if◌then◌else◌}
use Rattle.funnel_model.specs.declared.config.Config.{Config}
use Rattle.funnel_model.specs.declared.event.Event.{Event}
use Rattle.funnel_model.specs.Legal.{Limits}
use Rattle.slice_rule.specs.Numbers.{last_number}
use Rattle.slice_rule.specs.declared.view.Role.{Role}
use Rattle.slice_rule.specs.declared.view.Role.TheVariants as role
use Rattle.slice_rule.specs.declared.view.Fact.{Fact}
use Rattle.slice_rule.specs.declared.view.Fact.TheVariants as fact
use Rattle.slice_rule.specs.declared.view.View.{View}

-- a configuration of zeros: that of a seat that is spent, and of views and pools of which the configuration doesn't matter
abbrev pub no_config : Config
no_config = record { passes = 0; slices = 0; blocks = 0; max_rank = 0; commits = 0; reserve = 0; one_in = 0; snr = 0; documents = 0; tail = 0; max_rows = 0; private = 0; words = [] }

-- a seat that has seen nothing
abbrev pub view_at_start : Limits → Config → Role → View
view_at_start limits config role = record { limits = limits; config = config; role = role; front = []; met = []; asked = []; own = []; told = [] }

-- the first seat is the home, and no pass is numbered
abbrev pub home_at_start : Limits → Config → View
home_at_start limits config = view_at_start limits config (role.Home 0 0)

-- the role of the home after one more pass is numbered
abbrev pub numbered_role : Role → Role
numbered_role (role.Home numbered seats) = role.Home (numbered + 1) seats
numbered_role other = other

-- and after one more pass has its seat
abbrev pub seated_role : Role → Role
seated_role (role.Home numbered seats) = role.Home numbered (seats + 1)
seated_role other = other

-- the role of the pass that gets its seat next
abbrev pub new_role : Role → Role
new_role (role.Home numbered seats) = role.Pass seats
new_role other = role.Note

-- the home after one more pass is numbered
abbrev pub with_number : View → View
with_number v = record v { role = numbered_role v.role }

-- and after one more pass has its seat
abbrev pub with_seat : View → View
with_seat v = record v { role = seated_role v.role }

-- the seat of a new pass
abbrev pub new_pass_view : View → View
new_pass_view v = view_at_start v.limits v.config (new_role v.role)

-- what a seat can tell: what its pass asked, what it did itself, and what it was told
abbrev pub facts_of : Role → View → List Fact
facts_of (role.Pass pass) v = fact.Asked pass v.asked ∷ v.own ++ v.told
facts_of _ v = v.told

-- a note has the front of the seat that it is split from and all that the seat can tell, and no number
abbrev pub note_of : View → View
note_of v = record (view_at_start v.limits v.config role.Note) { front = v.front; told = facts_of v.role v }

-- a seat that a note told what it knows; the note's front waits
abbrev pub taken_in : View → View → View
taken_in v note = record v { met = note.front; told = note.told ++ v.told }

-- a seat that knows nothing any more
abbrev pub spent : View
spent = view_at_start (record { passes = 0; slices = 0; columns = 0; slice_words = 0; commits = 0; events = 0 }) no_config role.Spent

-- the longer of two lists
abbrev pub longer : List Event → List Event → List Event
longer xs ys = if nat_lt (length xs) (length ys) then ys else xs

-- a seat whose front is the longer of its own and of the one that waits
abbrev pub settled : View → View
settled v = record v { front = longer v.front v.met }

-- the pass asked the event
abbrev pub with_asked : View → Event → View
with_asked v e = record v { asked = v.asked ++ e ∷ [] }

-- the home appended the event
abbrev pub with_event : View → Event → View
with_event v e = record v { front = v.front ++ e ∷ [] }

-- the seat did something itself
abbrev pub with_own : View → Fact → View
with_own v f = record v { own = f ∷ v.own }

-- the number of the pass, where the seat is that of a pass; 0, and of no meaning, for the home, a note and a seat that is spent
abbrev pub pass_of_role : Role → ℕ
pass_of_role (role.Pass pass) = pass
pass_of_role _ = 0

-- the number of the last event that the seat's pass made and it has seen, where the seat is that of a pass
abbrev pub last_of : View → ℕ
last_of v = last_number (pass_of_role v.role) v.front
