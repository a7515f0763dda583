-- What contracts see of a document, and when it has some words.
use Rattle.std.specs.Prelude.{ℕ, List, Contains}

-- its number, its text, and the text's words
pub record Parts : Type 0 where
  pub id : ℕ
  pub text : List ℕ
  pub words : List (List ℕ)

-- each of the words is in the set
abbrev pub HasEvery : List (List ℕ) → List (List ℕ) → Type 0
HasEvery set words = (word : List ℕ) → Contains words word → Contains set word
