-- How a fit ends, and what it takes and writes.
use Rattle.std.specs.Prelude.{◌≡◌, ◌<◌, ◌≤◌, ℕ, Bool, true, false, List, [], length, Ok}
use Rattle.std.specs.Io.KnownBytes.{IsAtEnd}
use Rattle.funnel_io.specs.Counts.{counted}
use Rattle.funnel_io.specs.Streams.{Incoming, Outgoing, Takes, Writes, WritesPart}
use Rattle.funnel_model.specs.Configuration.{IsValid}
use Rattle.funnel_model.specs.Sizes.{words_of_pool}
use Rattle.funnel_model.specs.declared.config.Config.{Config}
use Rattle.funnel_model.specs.declared.config.TheConstants.{MOST_DOCUMENTS, MOST_SLICES, MOST_ROW_WORDS}
use Rattle.funnel_stats.specs.Configurations.{configuration}
use Rattle.fit.specs.Adds.{texts_added}
use Rattle.fit.specs.Shapes.{IsBestRank, IsLeastRoom}
use Rattle.fit.specs.Texts.{text_of}
use Rattle.fit.specs.Fits.{IsFit}
use Rattle.fit.specs.declared.ends.FitEnd.{FitEnd}
use Rattle.fit.specs.declared.ends.FitEnd.TheVariants as end_of
use Rattle.fit.specs.declared.ends.Misfit.{Misfit}
use Rattle.fit.specs.declared.ends.Misfit.TheVariants as misfit

-- a configuration that is fitted to the texts, and can be used; its text is read as this configuration
pub record IsFitted (n : ℕ) (texts : List (List ℕ)) (config : Config) : Type 0 where
  pub fit : IsFit n texts config
  pub valid : IsValid config
  pub read_back : configuration (text_of config) ≡ Ok config

-- the texts can be the corpus of a configuration: there is one, and there are not too many
pub record CanBeCounted (texts : List (List ℕ)) : Type 0 where
  pub some : 1 ≤ length texts
  pub few : length texts ≤ MOST_DOCUMENTS

-- the documents need so many slices
pub record NeedsSlices (n slices : ℕ) : Type 0 where
  pub rank : ℕ
  pub best : IsBestRank n rank
  pub least : IsLeastRoom n rank slices

-- the configuration that is fitted to the texts needs so many words in its pool
pub record NeedsWords (n : ℕ) (texts : List (List ℕ)) (words : ℕ) : Type 0 where
  pub config : Config
  pub fit : IsFit n texts config
  pub slices : config.slices ≤ MOST_SLICES
  pub many : words ≡ words_of_pool config

-- the first cause for which no configuration fits, with the number that is needed and the greatest that may be
abbrev pub IsMisfit : ℕ → List (List ℕ) → Misfit → Type 0
IsMisfit n texts misfit.NoAdds = texts ≡ []
IsMisfit n texts (misfit.Adds adds most) = (adds ≡ length texts) × (most ≡ MOST_DOCUMENTS) × (most < adds)
IsMisfit n texts (misfit.Slices slices most) = CanBeCounted texts × NeedsSlices n slices × (most ≡ MOST_SLICES) × (most < slices)
IsMisfit n texts (misfit.Pool words most) = CanBeCounted texts × NeedsWords n texts words × (most ≡ MOST_ROW_WORDS) × (most < words)

-- the input and the output of a fit
pub record Sides : Type 0 where
  pub incoming : Incoming
  pub outgoing : Outgoing

-- What an end says of the bytes that were taken, and of what was written. The text of a configuration is written as a whole, or
-- cut where a write failed; otherwise nothing is.
abbrev pub EndsAfter : ℕ → ℕ → FitEnd → List ℕ → Sides → Sides → Type 0
EndsAfter n limit end_of.Done taken old new = (length taken < limit) × IsAtEnd new.incoming.left
    × ((config : Config) × IsFitted n (texts_added taken) config × Writes (text_of config) old.outgoing new.outgoing)
EndsAfter n limit end_of.WriteFault taken old new = (length taken < limit) × IsAtEnd new.incoming.left
    × ((config : Config) × IsFitted n (texts_added taken) config × WritesPart (text_of config) old.outgoing new.outgoing)
EndsAfter n limit (end_of.Misfit cause) taken old new = (length taken < limit) × IsAtEnd new.incoming.left
    × IsMisfit n (texts_added taken) cause × (new.outgoing.written ≡ old.outgoing.written)
EndsAfter n limit end_of.ReadFault taken old new = (length taken < limit) × (new.outgoing.written ≡ old.outgoing.written)
EndsAfter n limit (end_of.ByteLimit told) taken old new = (told ≡ limit) × (length taken ≡ limit) × (new.outgoing.written ≡ old.outgoing.written)
EndsAfter n limit end_of.Memory taken old new = (length taken ≤ limit) × (new.outgoing.written ≡ old.outgoing.written)

-- a read failed
abbrev pub is_read_fault : FitEnd → Bool
is_read_fault end_of.ReadFault = true
is_read_fault _ = false

-- a write failed
abbrev pub is_write_fault : FitEnd → Bool
is_write_fault end_of.WriteFault = true
is_write_fault _ = false

-- a fit that ends so came to write its configuration
abbrev pub comes_to_write : FitEnd → Bool
comes_to_write end_of.Done = true
comes_to_write end_of.WriteFault = true
comes_to_write _ = false

-- some bytes of the input were taken, and this came of them; the count of a fault rose by one where the fit ended for it
pub record Fits (n limit : ℕ) (old new : Sides) (end : FitEnd) : Type 0 where
  pub taken : List ℕ
  pub takes : Takes taken old.incoming new.incoming
  pub ends : EndsAfter n limit end taken old new
  pub reads : new.incoming.faults ≡ counted (is_read_fault end) old.incoming.faults
  pub writes : new.outgoing.faults ≡ counted (is_write_fault end) old.outgoing.faults
