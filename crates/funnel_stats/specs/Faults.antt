-- The faults of an object, each by itself: the fault, where it applies.
use Rattle.std.specs.Prelude.{ℕ, ◌&&◌, Bool, not, false, List, nat_lt, nat_le, find, Option, Some, None, option_map, option_and_then, bytes_eq, if◌then◌else◌}
use Rattle.std.specs.List.{list_all}
use Rattle.std.specs.Option.{option_map_or}
use Rattle.funnel_model.specs.Sizes.{columns_of_pool, words_of_pool}
use Rattle.funnel_model.specs.Words.{words, has_word}
use Rattle.funnel_model.specs.declared.config.Config.{Config}
use Rattle.funnel_model.specs.declared.config.TheConstants.{MOST_COLUMNS, MOST_ROW_WORDS}
use Rattle.serde_json.specs.Data.{Data, Members}
use Rattle.funnel_stats.specs.Keys.{is_name}
use Rattle.funnel_stats.specs.Values.{whole_number, kept, quantity, misfit_of_value, value_at}
use Rattle.funnel_stats.specs.declared.key.Key.{Key}
use Rattle.funnel_stats.specs.declared.fault.ConfigFault.{ConfigFault}
use Rattle.funnel_stats.specs.declared.fault.ConfigFault.TheVariants.{UnknownKey, BadValue, NotWord, WordCount, TooManyColumns, PoolTooLarge}

-- the first name, in byte order, that none of the keys has
unfoldable pub unknown_key : List Key → List (List ℕ × Data) → Option ConfigFault
unknown_key known entries = option_map (λ entry. UnknownKey entry.0) (find (λ entry. not (is_name known entry.0)) entries)

-- the value of a key that is not of its kind or range
unfoldable pub bad_value : Members → Key → Option ConfigFault
bad_value object key = option_map (BadValue key) (option_and_then (λ value. misfit_of_value key (quantity key value)) (value_at object key))

-- the set of the words of the text is that text alone
unfoldable pub is_word : List ℕ → Bool
is_word text = has_word text text && list_all (bytes_eq text) (words text)

-- the first listed text, in byte order, that is not one folded word
unfoldable pub not_word : List (List ℕ × Data) → Option ConfigFault
not_word listed = option_map (λ entry. NotWord entry.0) (find (λ entry. not (is_word entry.0)) listed)

-- the value is a whole number from 1 to the number of documents
abbrev pub is_count : ℕ → Data → Bool
is_count documents value = option_map_or (λ count. nat_le 1 count && nat_le count documents) (whole_number value) false

-- the first listed word, in byte order, whose value is no such number
unfoldable pub word_count : ℕ → List (List ℕ × Data) → Option ConfigFault
word_count documents listed =
    option_map (λ entry. WordCount entry.0 (kept (whole_number entry.1))) (find (λ entry. not (is_count documents entry.1)) listed)

-- all slices together have too many columns
abbrev pub too_many_columns : Config → Option ConfigFault
too_many_columns config = if nat_lt MOST_COLUMNS (columns_of_pool config) then Some (TooManyColumns (columns_of_pool config)) else None

-- the rows of the pool have too many words
abbrev pub pool_too_large : Config → Option ConfigFault
pool_too_large config = if nat_lt MOST_ROW_WORDS (words_of_pool config) then Some (PoolTooLarge (words_of_pool config)) else None
