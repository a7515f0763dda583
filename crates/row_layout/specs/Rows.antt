-- The rows of a word, and where they lie in a slice.
use Rattle.std.specs.Prelude.{◌≡◌, ℕ, ◌+◌, ◌*◌, ◌<◌, ◌≤◌, ◌⊎◌, List, map, flat_map, length, if◌then◌else◌}
use Rattle.std.specs.List.{range_with_len, position_or_len}
use Rattle.std.specs.Str.{bytes_eq}
use Rattle.funnel_model.specs.Treatment.{rank_of_row, row_count_of_class}
use Rattle.funnel_model.specs.Sizes.{class_of_word, has_private_row, private_words, shared_rows, width_of_rank, base_of_rank}
use Rattle.funnel_model.specs.declared.config.Config.{Config}
use Rattle.term_hash.specs.Hash.{row_number}
use Rattle.row_layout.specs.declared.row.Row.{Row}

-- private row i: the private rows stand first in a slice
abbrev pub private_row : Config → ℕ → Row
private_row config i = record { rank = 0; start = i * width_of_rank config 0; width = width_of_rank config 0 }

-- shared row x of a rank
abbrev pub shared_row : Config → ℕ → ℕ → Row
shared_row config rank x =
    record { rank = rank; start = base_of_rank config rank + x * width_of_rank config rank; width = width_of_rank config rank }

-- the place of a word among the words with a private row, which stand in byte order
unfoldable pub private_number : Config → List ℕ → ℕ
private_number config word = position_or_len (λ entry. bytes_eq entry.0 word) (private_words config)

-- the rank of row j of a word of class c
abbrev pub rank_in_class : Config → ℕ → ℕ → ℕ
rank_in_class config c j = rank_of_row c (row_count_of_class config.one_in config.snr c) config.max_rank j

-- row j of a word of class c that has shared rows: the shared row of its rank that the word's hash names
abbrev pub hashed_row : Config → List ℕ → ℕ → ℕ → Row
hashed_row config word c j =
    let rank = rank_in_class config c j in shared_row config rank (row_number word j (shared_rows config rank))

-- the rows of a word of class c that has shared rows
abbrev pub hashed_rows : Config → List ℕ → ℕ → List Row
hashed_rows config word c = map (hashed_row config word c) (range_with_len 0 (row_count_of_class config.one_in config.snr c))

-- how many rows a word has: its private row, or as many as its class has
unfoldable pub row_count_of_word : Config → List ℕ → ℕ
row_count_of_word config word =
    if has_private_row config word then 1 else row_count_of_class config.one_in config.snr (class_of_word config word)

-- row j of a word: its private row, or a shared one
unfoldable pub row_of_word : Config → List ℕ → ℕ → Row
row_of_word config word j =
    if has_private_row config word
    then private_row config (private_number config word)
    else hashed_row config word (class_of_word config word) j

-- the rows of a word
abbrev pub rows_of_word : Config → List ℕ → List Row
rows_of_word config word = map (row_of_word config word) (range_with_len 0 (row_count_of_word config word))

-- the rows of some words, word by word
abbrev pub rows_of_words : Config → List (List ℕ) → List Row
rows_of_words config words = flat_map (rows_of_word config) words

-- the row is one of the private rows
abbrev pub IsPrivateRow : Config → Row → Type 0
IsPrivateRow config row = (i : ℕ) × (i < length (private_words config)) × (row ≡ private_row config i)

-- the row is one of the shared rows
abbrev pub IsSharedRow : Config → Row → Type 0
IsSharedRow config row =
    (rank : ℕ) × (x : ℕ) × (rank ≤ config.max_rank) × (x < shared_rows config rank) × (row ≡ shared_row config rank x)

-- the row is one of those that the configuration lays out
abbrev pub IsRowOf : Config → Row → Type 0
IsRowOf config row = IsPrivateRow config row ⊎ IsSharedRow config row
