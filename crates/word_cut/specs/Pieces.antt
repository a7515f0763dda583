-- The words of a text from a place on.
use Rattle.std.specs.Prelude.{ℕ, List, length, filter}
use Rattle.unicode_segmentation.specs.Segments.{segments_between, has_alphanumeric}
use Rattle.unicode_segmentation.specs.Word.{is_word_break}

-- the words that are cut from the text from this place on
abbrev pub words_from : List ℕ → ℕ → List (List ℕ)
words_from text from = filter has_alphanumeric (segments_between is_word_break text from (length text))
