-- How far the texts of an input were counted, for the clauses of functions that are not public.
use Rattle.std.specs.Prelude.{◌≡◌, ◌+◌, ◌<◌, ◌≤◌, ℕ, List, length}
use Rattle.std.specs.Io.KnownBytes.{IsAtEnd}
use Rattle.std.specs.List.{filter_map}
use Rattle.funnel_io.specs.Counts.{raised}
use Rattle.funnel_io.specs.LineReading.{ReaderState, HasGiven, KnowsEnd, most_lines}
use Rattle.funnel_io.specs.Streams.{Incoming, Takes}
use Rattle.line_proto.specs.Forms.{items_of}
use Rattle.fit.specs.Adds.{text_added, texts_added}
use Rattle.fit.specs.Steps.{HasCounted}
use Rattle.fit.specs.declared.ends.FitEnd.{FitEnd}
use Rattle.fit.specs.declared.ends.FitEnd.TheVariants as end_of

-- the texts of the add lines among these
abbrev pub texts_of : List (List ℕ) → List (List ℕ)
texts_of lines = filter_map text_added (items_of lines)

-- the lines that were given were counted, and no read failed
pub record HasSampled (limit may : ℕ) (reader : ReaderState) (tally : List (List ℕ × ℕ)) (documents words : ℕ) (before now : Incoming) : Type 0 where
  pub taken : List ℕ
  pub takes : Takes taken before now
  pub count : may + length taken ≡ limit
  pub given : List (List ℕ)
  pub has_given : HasGiven reader taken given
  pub knows_end : KnowsEnd reader now may
  pub counted : HasCounted (texts_of given) tally documents words
  pub few : documents + (most_lines reader.held reader.long + may) ≤ limit
  pub reads_stay : now.faults ≡ before.faults

-- the whole input was counted: this is its tally
pub record IsSampled (limit : ℕ) (before after : Incoming) (tally : List (List ℕ × ℕ)) (documents words : ℕ) : Type 0 where
  pub taken : List ℕ
  pub takes : Takes taken before after
  pub within : length taken < limit
  pub at_end : IsAtEnd after.left
  pub counted : HasCounted (texts_added taken) tally documents words
  pub reads_stay : after.faults ≡ before.faults

-- what an end before that says of the count of the bytes and of the faults
abbrev pub StopsAt : ℕ → FitEnd → ℕ → ℕ → ℕ → Type 0
StopsAt limit end_of.ReadFault count before after = (count < limit) × (after ≡ raised before)
StopsAt limit (end_of.ByteLimit told) count before after = (told ≡ limit) × (count ≡ limit) × (after ≡ before)
StopsAt limit end_of.Memory count before after = (count ≤ limit) × (after ≡ before)
StopsAt limit end_of.Done count before after = ⊥
StopsAt limit end_of.WriteFault count before after = ⊥
StopsAt limit (end_of.Misfit misfit) count before after = ⊥

-- the sample was not read to its end
pub record EndsSample (limit : ℕ) (before after : Incoming) (end : FitEnd) : Type 0 where
  pub taken : List ℕ
  pub takes : Takes taken before after
  pub stops : StopsAt limit end (length taken) before.faults after.faults
