-- The words of a text, and when a text meets a query.
use Rattle.std.specs.Prelude.{ℕ, ◌↔◌, Bool, List, map, chars, encode_utf8_all, Contains}
use Rattle.std.specs.List.{list_all, list_any}
use Rattle.std.specs.Cmp.Lexicographic.{slice_cmp}
use Rattle.std.specs.List.Sorted.{IsStrictlySortedBy}
use Rattle.std.specs.Ordering.{nat_cmp}
use Rattle.std.specs.Str.{bytes_eq}
use Rattle.unicode_segmentation.specs.Word.{words as unicode_words}
use Rattle.caseless.specs.Caseless.{default_case_fold}

-- a word under full default case folding
abbrev pub folded : List ℕ → List ℕ
folded word = encode_utf8_all (default_case_fold (chars word))

-- the words of a text by UAX 29, each folded, as they come in the text; as a set these are the text's words
abbrev pub words : List ℕ → List (List ℕ)
words text = map folded (unicode_words text)

-- the text has this word
abbrev pub has_word : List ℕ → List ℕ → Bool
has_word text word = list_any (bytes_eq word) (words text)

-- the text has every word of the query
abbrev pub meets : List ℕ → List ℕ → Bool
meets text query = list_all (has_word text) (words query)

-- words in byte order, each once
abbrev pub IsRising : List (List ℕ) → Type 0
IsRising = IsStrictlySortedBy (slice_cmp nat_cmp)

-- the words are those of the text, in any order and any number of times
abbrev pub AreWordsOf : List (List ℕ) → List ℕ → Type 0
AreWordsOf set text = (word : List ℕ) → Contains set word ↔ Contains (words text) word
