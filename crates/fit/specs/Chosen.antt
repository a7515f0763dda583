-- What an input has as its configuration, or why it has none, for the clauses of functions that are not public.
use Rattle.std.specs.Prelude.{◌≡◌, ◌<◌, ◌≤◌, ⊤, ℕ, List, Option, length, string_bytes}
use Rattle.std.specs.Io.KnownBytes.{IsAtEnd}
use Rattle.funnel_io.specs.Counts.{raised}
use Rattle.funnel_io.specs.Streams.{Incoming, Takes}
use Rattle.fit.specs.Adds.{texts_added}
use Rattle.fit.specs.Ends.{IsFitted, IsMisfit}
use Rattle.fit.specs.Texts.{text_of}
use Rattle.fit.specs.declared.listing.Written.{Written}
use Rattle.fit.specs.declared.ends.FitEnd.{FitEnd}
use Rattle.fit.specs.declared.ends.FitEnd.TheVariants as end_of

-- no memory was found, or no configuration fits the texts
abbrev pub HasNoFit : ℕ → List (List ℕ) → FitEnd → Type 0
HasNoFit n texts end_of.Memory = ⊤
HasNoFit n texts (end_of.Misfit cause) = IsMisfit n texts cause
HasNoFit n texts end_of.Done = ⊥
HasNoFit n texts end_of.ReadFault = ⊥
HasNoFit n texts end_of.WriteFault = ⊥
HasNoFit n texts (end_of.ByteLimit told) = ⊥

-- the whole input was taken, and this is fitted to its add lines
pub record FitsInput (n limit : ℕ) (before after : Incoming) (written : Written) : Type 0 where
  pub taken : List ℕ
  pub takes : Takes taken before after
  pub within : length taken < limit
  pub at_end : IsAtEnd after.left
  pub fitted : IsFitted n (texts_added taken) written.config
  pub is_text : string_bytes written.text ≡ text_of written.config
  pub reads_stay : after.faults ≡ before.faults

-- what an end says of the bytes that were taken, where nothing is fitted to them
abbrev pub Without : ℕ → ℕ → FitEnd → List ℕ → Option (List ℕ) → ℕ → ℕ → Type 0
Without n limit (end_of.Misfit cause) taken left before after =
    (length taken < limit) × IsAtEnd left × IsMisfit n (texts_added taken) cause × (after ≡ before)
Without n limit end_of.ReadFault taken left before after = (length taken < limit) × (after ≡ raised before)
Without n limit (end_of.ByteLimit told) taken left before after = (told ≡ limit) × (length taken ≡ limit) × (after ≡ before)
Without n limit end_of.Memory taken left before after = (length taken ≤ limit) × (after ≡ before)
Without n limit end_of.Done taken left before after = ⊥
Without n limit end_of.WriteFault taken left before after = ⊥

-- nothing is fitted to the input
pub record EndsInput (n limit : ℕ) (before after : Incoming) (end : FitEnd) : Type 0 where
  pub taken : List ℕ
  pub takes : Takes taken before after
  pub without : Without n limit end taken after.left before.faults after.faults
