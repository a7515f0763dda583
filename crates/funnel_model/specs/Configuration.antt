-- When a configuration can be used. The limits are constants of the module `config`.
use Rattle.std.specs.Prelude.{◌≡◌, ℕ, ◌≤◌, List, length, All, Contains}
use Rattle.funnel_model.specs.Words.{words}
use Rattle.funnel_model.specs.Listed.{IsInByteOrder}
use Rattle.funnel_model.specs.Sizes.{columns_of_pool, words_of_pool}
use Rattle.funnel_model.specs.declared.config.Config.{Config}
use Rattle.funnel_model.specs.declared.config.TheConstants.{MOST_PASSES, MOST_SLICES, MOST_BLOCKS, MOST_RANK, MOST_COMMITS, MOST_RESERVE, LEAST_ONE_IN, MOST_ONE_IN, MOST_SNR, MOST_DOCUMENTS, MOST_TAIL, MOST_MAX_ROWS, MOST_PRIVATE, MOST_WORDS, MOST_COLUMNS, MOST_ROW_WORDS}

-- the set of the words of a text is that text alone
pub record IsWord (text : List ℕ) : Type 0 where
  pub one : Contains (words text) text
  pub only : All (λ word. word ≡ text) (words text)

-- n is from low to high
abbrev pub IsBetween : ℕ → ℕ → ℕ → Type 0
IsBetween low high n = (low ≤ n) × (n ≤ high)

-- not too many words are listed, each with a count from 1 to the number of documents
pub record CountsWords (config : Config) : Type 0 where
  pub few : length config.words ≤ MOST_WORDS
  pub counted : All (λ entry. IsBetween 1 config.documents entry.1) config.words

-- every number of the configuration is in its range
pub record IsInRange (config : Config) : Type 0 where
  pub passes : IsBetween 1 MOST_PASSES config.passes
  pub slices : IsBetween 1 MOST_SLICES config.slices
  pub blocks : IsBetween 1 MOST_BLOCKS config.blocks
  pub max_rank : config.max_rank ≤ MOST_RANK
  pub commits : IsBetween 1 MOST_COMMITS config.commits
  pub reserve : config.reserve ≤ MOST_RESERVE
  pub one_in : IsBetween LEAST_ONE_IN MOST_ONE_IN config.one_in
  pub snr : IsBetween 1 MOST_SNR config.snr
  pub documents : IsBetween 1 MOST_DOCUMENTS config.documents
  pub tail : config.tail ≤ MOST_TAIL
  pub max_rows : IsBetween 1 MOST_MAX_ROWS config.max_rows
  pub private : config.private ≤ MOST_PRIVATE
  pub words : CountsWords config

-- The configuration can be used: besides, each listed word is one folded word, no word is listed twice, and neither the
-- columns nor the row words of the pool are above their limits.
pub record IsValid (config : Config) : Type 0 where
  pub in_range : IsInRange config
  pub in_order : IsInByteOrder config.words
  pub folded : All (λ entry. IsWord entry.0) config.words
  pub few_columns : columns_of_pool config ≤ MOST_COLUMNS
  pub small_pool : words_of_pool config ≤ MOST_ROW_WORDS

-- the first configuration with the statistics of the second: all that a running engine can be given anew
abbrev pub with_statistics : Config → Config → Config
with_statistics opening statistics = record opening {
  one_in = statistics.one_in;
  snr = statistics.snr;
  documents = statistics.documents;
  tail = statistics.tail;
  max_rows = statistics.max_rows;
  private = statistics.private;
  words = statistics.words;
}

-- The configuration tunes an engine that was opened with the first: it has other statistics at most, its numbers are in their
-- ranges, each listed word is one folded word, and no word is listed twice. Its rows may have any number of words.
pub record IsTuning (opening config : Config) : Type 0 where
  pub kept : config ≡ with_statistics opening config
  pub in_range : IsInRange config
  pub in_order : IsInByteOrder config.words
  pub folded : All (λ entry. IsWord entry.0) config.words
