-- What a layout is, and what it keeps beside its configuration.
use Rattle.std.specs.Prelude.{◌≡◌, ℕ, ◌*◌, ◌<◌, ◌≤◌, List, [], map, slice_index, slice_index_or, if◌then◌else◌}
use Rattle.funnel_model.specs.Sizes.{class_of_word, has_private_row, shared_rows, base_of_rank, words_of_slice}
use Rattle.funnel_model.specs.Configuration.{IsInRange}
use Rattle.funnel_model.specs.declared.config.TheConstants.{MOST_ROW_WORDS}
use Rattle.funnel_model.specs.declared.config.Config.{Config}
use Rattle.funnel_model.specs.Treatment.{row_count_of_class}
use Rattle.row_layout.specs.Rows.{private_number, rank_in_class}
use Rattle.row_layout.specs.declared.class_table.ClassTable.{ClassTable}
use Rattle.row_layout.specs.declared.word_rows.WordRows.{WordRows}
use Rattle.row_layout.specs.declared.word_rows.WordRows.TheVariants.{Private, Shared}
use Rattle.row_layout.specs.declared.word_table.WordTable.{WordTable}
use Rattle.row_layout.specs.WordTables.{IsWordTable}

-- What a layout is seen as: its configuration, and for how many words each slice has room.
pub record LayoutId : Type 0 where
  pub config : Config
  pub room : ℕ

-- the layout of a configuration whose slices have room for its own rows, and no more
abbrev pub own_layout : Config → LayoutId
own_layout config = record { config = config; room = words_of_slice config }

-- the rows that a word has: its private row, or those of its class
unfoldable pub word_rows : Config → List ℕ → WordRows
word_rows config word =
    if has_private_row config word then Private (private_number config word) else Shared (class_of_word config word)

-- the row count of each class, and the rank of each of so many shared rows, which is none above the highest
pub record IsClassTable (config : Config) (table : ClassTable) : Type 0 where
  pub counts_are : (class : ℕ) → class ≤ 15 → slice_index table.counts class ≡ row_count_of_class config.one_in config.snr class
  pub ranks_are : (class j : ℕ) → class ≤ 15 → j < row_count_of_class config.one_in config.snr class →
      slice_index (slice_index_or table.ranks class []) j ≡ rank_in_class config class j
  pub ranks_low : (class j : ℕ) → class ≤ 15 → j < row_count_of_class config.one_in config.snr class →
      slice_index (slice_index_or table.ranks class []) j ≤ config.max_rank

-- the rows have room in a slice, and the pool is small enough; beside the configuration and the room stand the shared rows of each
-- rank, the start of each rank, the rows of each class, the rows of each listed word, and a table that finds these words
pub record IsLaidOut (config : Config) (room : ℕ) (rows bases : List ℕ) (classes : ClassTable) (listed : List WordRows) (table : WordTable) :
    Type 0 where
  pub in_range : IsInRange config
  pub fits : words_of_slice config ≤ room
  pub small_pool : config.slices * room ≤ MOST_ROW_WORDS
  pub rows_are : (rank : ℕ) → rank ≤ config.max_rank → slice_index rows rank ≡ shared_rows config rank
  pub bases_are : (rank : ℕ) → rank ≤ config.max_rank → slice_index bases rank ≡ base_of_rank config rank
  pub classes_are : IsClassTable config classes
  pub listed_are : listed ≡ map (λ entry. word_rows config entry.0) config.words
  pub table_is : IsWordTable config.words table
