-- Configurations that are fitted to the texts of add lines.
use Rattle.std.specs.Prelude.{◌≡◌, ◌<◌, ◌^◌, ◌≤◌, ◌⊎◌, ℕ, List, Result, Ok, Err, length}
use Rattle.std.specs.Global.{Vec}
use Rattle.funnel_model.specs.declared.config.Config.{Config}
use Rattle.funnel_model.specs.declared.config.TheConstants.{MOST_COLUMNS}
use Rattle.fit.specs.declared.ends.Misfit.TheVariants as misfit
use Rattle.fit.specs.Adds.{texts_added}
use Rattle.fit.specs.Ends.{IsFitted, IsMisfit}
use Rattle.fit.specs.Texts.{text_of}
use Rattle.funnel_c.specs.declared.code.Code.{Code}
use Rattle.funnel_c.specs.declared.code.Code.TheVariants as code
use Rattle.funnel_c.specs.declared.index.Index.{Index}
use Rattle.funnel_c.specs.Calls.{Place}
use Rattle.funnel_c.specs.declared.fitting.Unfit.{Unfit}
use Rattle.funnel_c.specs.declared.fitting.Unfit.TheVariants as unfit

-- the bytes are those of a configuration for so many documents that is fitted to the texts that the lines add
pub record IsFittedText (documents : ℕ) (lines bytes : List ℕ) : Type 0 where
  pub config : Config
  pub fitted : IsFitted documents (texts_added lines) config
  pub text : bytes ≡ text_of config

-- why none is fitted to them
abbrev pub IsUnfit : ℕ → List ℕ → Unfit → Type 0
IsUnfit documents lines unfit.Documents = (documents ≡ 0) ⊎ (MOST_COLUMNS < documents)
IsUnfit documents lines (unfit.Misfit cause) = IsMisfit documents (texts_added lines) cause
IsUnfit documents lines unfit.TooLong = 2 ^ 40 ≤ length lines
IsUnfit documents lines unfit.Memory = Unit {0}

-- A fit tells how many bytes the configuration has, which are kept, or the number of why none is fitted.
abbrev pub code_of_fit : Result (Vec ℕ) Unfit → Code
code_of_fit (Ok bytes) = code.Done
code_of_fit (Err unfit.Memory) = code.Memory
code_of_fit (Err why) = code.Misfit

abbrev pub number_of_fit : Result (Vec ℕ) Unfit → ℕ → ℕ
number_of_fit (Ok bytes) old = length bytes.items
number_of_fit (Err (unfit.Misfit misfit.NoAdds)) old = 1
number_of_fit (Err (unfit.Misfit (misfit.Adds adds most))) old = 2
number_of_fit (Err (unfit.Misfit (misfit.Slices slices most))) old = 3
number_of_fit (Err (unfit.Misfit (misfit.Pool words most))) old = 4
number_of_fit (Err unfit.Documents) old = 5
number_of_fit (Err unfit.TooLong) old = 6
number_of_fit (Err unfit.Memory) old = old

abbrev pub bytes_of_fit : Result (Vec ℕ) Unfit → List ℕ → List ℕ
bytes_of_fit (Ok bytes) old = bytes.items
bytes_of_fit (Err why) old = old

-- what a fit came to: the bytes of a configuration, or why there is none
abbrev pub IsFit : ℕ → List ℕ → Result (Vec ℕ) Unfit → Type 0
IsFit documents lines (Ok bytes) = IsFittedText documents lines bytes.items
IsFit documents lines (Err why) = IsUnfit documents lines why

pub record FitsIndex (documents : ℕ) (lines : List ℕ) (before after : Index) (told : Code) (count : Place ℕ) : Type 0 where
  pub answer : Result (Vec ℕ) Unfit
  pub fitted : IsFit documents lines answer
  pub solo : after.solo ≡ before.solo
  pub ids : after.ids ≡ before.ids
  pub bytes : after.bytes.items ≡ bytes_of_fit answer before.bytes.items
  pub code_is : told ≡ code_of_fit answer
  pub number : count.after ≡ number_of_fit answer count.before
