-- What contracts see of plain words that are read.
use Rattle.std.specs.Prelude.{ℕ, List}

-- What `Image` is seen as: its words, and how many were read, up to the last value of the counter.
pub record ImageState : Type 0 where
  pub words : List ℕ
  pub reads : ℕ
