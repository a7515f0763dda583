-- What a find makes of its candidates.
use Rattle.std.specs.Prelude.{ℕ, ◌+◌, ◌<◌, ◌≤◌, Bool, ◌&&◌, nat_lt, if◌then◌else◌, List, length, sum_by, Option, Some, None}
use Rattle.std.specs.List.{list_all, slice_range}
use Rattle.std.specs.Option.{option_and_then, option_map_or}
use Rattle.std.specs.Ordering.{nat_cmp, ordering_then}
use Rattle.std.specs.declared.cmp.Ordering.{Ordering}
use Rattle.document_store.specs.Documents.{Parts}
use Rattle.document_store.specs.Slots.{Table, slot_at}
use Rattle.document_store.specs.declared.column.Column.{Column}
use Rattle.document_store.specs.declared.column.Column.TheVariants as column
use Rattle.document_store.specs.declared.slots.Slot.{Slot}
use Rattle.funnel_model.specs.Words.{has_word}
use Rattle.document_store.specs.declared.resolving.TheConstants.{MOST_LOOK_UPS, MOST_LOOKED_FOR}

-- the place of the add, and the document's number; and the room that is left for more
pub record FoundState : Type 0 where
  pub found : List (ℕ × ℕ)
  pub room : ℕ

-- the place of the add, where the column's document was live in it as the event with this number came: an event before that put it there,
-- and none took it off before
abbrev pub place_if_live : Column → ℕ → Option ℕ
place_if_live (column.Live place since) number = if nat_lt since number then Some place else None
place_if_live (column.Over place since until) number = if nat_lt since number && nat_lt number until then Some place else None
place_if_live _ number = None

-- the text has each of the words
abbrev pub has_words : List (List ℕ) → List ℕ → Bool
has_words words text = list_all (has_word text) words

-- the pair of a column's document, where it was live in it as the event with this number came, and its text passes the test
abbrev pub kept_in : Slot → (List ℕ → Bool) → ℕ → Option (ℕ × ℕ)
kept_in slot test number =
    option_and_then
    (λ (place : ℕ). option_and_then (λ (doc : Parts). if test doc.text then Some (place, doc.id) else None) slot.doc)
    (place_if_live slot.column number)

-- the pair of a candidate's document, where it is kept
abbrev pub kept_at : Table → (List ℕ → Bool) → ℕ → ℕ × ℕ → Option (ℕ × ℕ)
kept_at table test number candidate = kept_in (slot_at table candidate.0 candidate.1) test number

-- how many words are looked for in a column: as many as in each document, where one was live in it as the event with this number came
abbrev pub looked_in : Slot → ℕ → ℕ → ℕ
looked_in slot cost number = option_map_or (λ (place : ℕ). option_map_or (λ (doc : Parts). cost) slot.doc 0) (place_if_live slot.column number) 0

-- and in a candidate's
abbrev pub looked_at : Table → ℕ → ℕ → ℕ × ℕ → ℕ
looked_at table cost number candidate = looked_in (slot_at table candidate.0 candidate.1) cost number

-- A turn of a find, from the candidate with this number up to another, where so many words are looked for in each. It comes one further at
-- least where there are more, and not past the last. It looks up no more than it may, and before its last candidate it hasn't looked for as
-- many words as end it; and where it ends before the last of all, it has looked up or looked for as many as that.
pub record EndsTurn (candidates : List (ℕ × ℕ)) (looked : ℕ × ℕ → ℕ) (from to : ℕ) : Type 0 where
  pub within : to ≤ length candidates
  pub onward : from ≤ to
  pub further : from < length candidates → from < to
  pub looked_up : to ≤ from + MOST_LOOK_UPS
  pub looked_before : (at : ℕ) → at < to → sum_by looked (slice_range candidates from at) < MOST_LOOKED_FOR
  pub over : to < length candidates → to < from + MOST_LOOK_UPS → MOST_LOOKED_FOR ≤ sum_by looked (slice_range candidates from to)

-- pairs in order of their first parts, and of their second parts where these are equal
abbrev pub pair_cmp : ℕ × ℕ → ℕ × ℕ → Ordering
pair_cmp x y = ordering_then (nat_cmp x.0 y.0) (nat_cmp x.1 y.1)
