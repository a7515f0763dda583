-- How the texts of a load lie in one text.
use Rattle.std.specs.Prelude.{ℕ, ◌≤◌, List, length}
use Rattle.std.specs.Str.{IsAscii}
use Rattle.funnel_model.specs.WordSets.{EndAt}
use Rattle.load_gen.specs.declared.limits.TheConstants.{MOST_DOCS}

-- the ends rise to the end of the text, whose characters have one byte each, and there are few enough of them
pub record AreStored (text ends : List ℕ) : Type 0 where
  pub within : EndAt 0 ends (length text)
  pub ascii : IsAscii text
  pub few : length ends ≤ MOST_DOCS
