-- The documents that are generated.
use Rattle.std.specs.Prelude.{ℕ, ◌+◌, ◌*◌, List, ◌∷◌, ◌++◌, map, flat_map, codes, decimal}
use Rattle.std.specs.List.{range_with_len}
use Rattle.load_gen.specs.Generator.{state_after, next_words}

-- the word that no other document has
abbrev pub name_of_document : ℕ → List ℕ
name_of_document id = codes "u" ++ decimal id

-- the text of the document with this number: its name, and the words of so many draws from this state, each after one space
abbrev pub text_of_document : ℕ → ℕ → ℕ → List ℕ
text_of_document state words id = name_of_document id ++ flat_map (λ word. 32 ∷ word) (next_words state words)

-- the most bytes of a text with so many drawn words: its name has a letter and at most 7 digits, and each word a space, a letter and at most 4
abbrev pub longest_text : ℕ → ℕ
longest_text words = 8 + 6 * words

-- the text of document i, whose number is i + 1. Each document before it made as many draws
abbrev pub document : ℕ → ℕ → ℕ → List ℕ
document words seed i = text_of_document (state_after seed (i * words)) words (i + 1)

-- the texts of the documents, in order
abbrev pub documents : ℕ → ℕ → ℕ → List (List ℕ)
documents docs words seed = map (document words seed) (range_with_len 0 docs)
