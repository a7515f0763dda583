-- Which pool it is, and where its words lie.
use Rattle.std.specs.Prelude.{◌≡◌, ℕ, ◌+◌, ◌*◌, ◌^◌, ◌<◌, List, drop}
use Rattle.atomic_table.specs.Seated.{TableId}
use Rattle.funnel_model.specs.declared.config.Config.{Config}
use Rattle.funnel_model.specs.Legal.{Limits}
use Rattle.funnel_model.specs.Sizes.{columns_of_slice}

-- a pool: its table of words, the sizes that it was made with, and the configuration that these are of
pub record PoolId : Type 0 where
  pub table : TableId
  pub limits : Limits
  pub config : Config

-- the sizes of an engine with this configuration whose slices have so many row words; from 2^62 events on it takes no call
abbrev pub limits_of : Config → ℕ → Limits
limits_of config slice_words = record {
  passes = config.passes;
  slices = config.slices;
  columns = columns_of_slice config;
  slice_words = slice_words;
  commits = config.commits;
  events = 2 ^ 62;
}

-- the word that counts the events that a pass asked: it stands after the count of events and the count of passes
abbrev pub ask_word : ℕ → ℕ
ask_word pass = 2 + pass

-- the first row word: it stands after the words of all passes
abbrev pub first_row : Limits → ℕ
first_row limits = 2 + limits.passes

-- the words of a pool
abbrev pub pool_words : Limits → ℕ
pool_words limits = first_row limits + limits.slices * limits.slice_words

-- the row words among the words of a pool
abbrev pub row_words : Limits → List ℕ → List ℕ
row_words limits words = drop (first_row limits) words

-- the pool's words lie in the table, and can be counted
pub record IsPool (row_base : ℕ) (pool : PoolId) : Type 0 where
  pub row : row_base ≡ first_row pool.limits
  pub words : pool.table.words ≡ pool_words pool.limits
  pub slots : pool.table.slots ≡ 0
  pub few : pool_words pool.limits < 2 ^ 32
