-- What a configuration gives each word, and how large the rows, a slice and the pool are.
use Rattle.std.specs.Prelude.{ℕ, ◌+◌, ◌-◌, ◌*◌, ◌^◌, Bool, false, not, nat_le, min, max, List, map, length, filter, sum_by, if◌then◌else◌}
use Rattle.std.specs.Option.{option_map_or}
use Rattle.std.specs.List.{range_with_len}
use Rattle.std.specs.Int.{div_ceil}
use Rattle.funnel_model.specs.Listed.{listed_count}
use Rattle.funnel_model.specs.Treatment.{class_of_count, row_count_of_class, rows_at_rank}
use Rattle.funnel_model.specs.declared.config.Config.{Config}

-- the class of a word: that of its count where it is listed, and else 15
unfoldable pub class_of_word : Config → List ℕ → ℕ
class_of_word config word = option_map_or (λ f. class_of_count f config.documents) (listed_count config.words word) 15

-- the rows of a listed word of class c: one private row up to the class `private`, and else the row count of its class
unfoldable pub rows_of_class : Config → ℕ → ℕ
rows_of_class config c = if nat_le c config.private then 1 else row_count_of_class config.one_in config.snr c

-- how many shared rows of rank r a word of class c has that has no private row
unfoldable pub ranked_rows : Config → ℕ → ℕ → ℕ
ranked_rows config c r = rows_at_rank c (row_count_of_class config.one_in config.snr c) config.max_rank r

-- whether a listed word has a private row: its class is at most `private`
abbrev pub is_private : Config → List ℕ × ℕ → Bool
is_private config entry = nat_le (class_of_count entry.1 config.documents) config.private

-- whether a word has a private row: it is listed, and its class is at most `private`
unfoldable pub has_private_row : Config → List ℕ → Bool
has_private_row config word = option_map_or (λ f. nat_le (class_of_count f config.documents) config.private) (listed_count config.words word) false

-- the listed words with a private row, and those with shared rows
unfoldable pub private_words : Config → List (List ℕ × ℕ)
private_words config = filter (is_private config) config.words

unfoldable pub shared_words : Config → List (List ℕ × ℕ)
shared_words config = filter (λ entry. not (is_private config entry)) config.words

-- how many documents the bits stand for that a listed word sets in its rows of rank r: in each row 2^r for each document that has
-- the word, and at most all
unfoldable pub bits_of_entry : Config → ℕ → List ℕ × ℕ → ℕ
bits_of_entry config r entry =
    min config.documents (entry.1 * 2 ^ r) * ranked_rows config (class_of_count entry.1 config.documents) r

-- the sum of these numbers over the listed words with shared rows
unfoldable pub bits_at_rank : Config → ℕ → ℕ
bits_at_rank config r = sum_by (bits_of_entry config r) (shared_words config)

-- the rows of rank r in which one bit in `one_in` is set, by the listed words and by each document's tail
unfoldable pub wanted_rows : Config → ℕ → ℕ
wanted_rows config r =
    div_ceil (config.one_in * bits_at_rank config r) config.documents
    + config.one_in * config.tail * 2 ^ r * ranked_rows config 15 r

-- the shared rows of rank r: as many as are wanted, but at least 1 and at most `max_rows`
unfoldable pub shared_rows : Config → ℕ → ℕ
shared_rows config r = max 1 (min config.max_rows (wanted_rows config r))

-- the words of a row of rank r in a slice
abbrev pub width_of_rank : Config → ℕ → ℕ
width_of_rank config r = 2 ^ (config.max_rank - r) * config.blocks

-- the words of a slice before its rows of rank r: those of the private rows, and of the shared rows of the ranks below
unfoldable pub base_of_rank : Config → ℕ → ℕ
base_of_rank config r =
    length (private_words config) * width_of_rank config 0
    + sum_by (λ below. shared_rows config below * width_of_rank config below) (range_with_len 0 r)

-- the words of all rows in a slice
abbrev pub words_of_slice : Config → ℕ
words_of_slice config = base_of_rank config (config.max_rank + 1)

-- the words of all rows in the pool
abbrev pub words_of_pool : Config → ℕ
words_of_pool config = config.slices * words_of_slice config

-- the columns of a slice, and of the pool
abbrev pub columns_of_slice : Config → ℕ
columns_of_slice config = 64 * 2 ^ config.max_rank * config.blocks

abbrev pub columns_of_pool : Config → ℕ
columns_of_pool config = config.slices * columns_of_slice config

-- the shared rows of each rank from 0 to 6: none above the highest
unfoldable pub row_table : Config → List ℕ
row_table config = map (λ r. if nat_le r config.max_rank then shared_rows config r else 0) (range_with_len 0 7)
