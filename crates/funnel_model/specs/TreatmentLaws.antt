-- What the numbers of the treatment are, as laws over all counts and classes.
use Rattle.std.specs.Prelude.{◌≡◌, ℕ, ◌≤◌, List, Contains}
use Rattle.funnel_model.specs.Listed.{IsInByteOrder}
use Rattle.funnel_model.specs.Treatment.{IsClass, IsRowCount, class_of_count, row_count_of_class}
use Rattle.funnel_model.specs.Sizes.{class_of_word, rows_of_class}
use Rattle.funnel_model.specs.Configuration.{IsInRange}
use Rattle.funnel_model.specs.declared.config.Config.{Config}

-- `class_of_count` is the greatest class
abbrev pub ClassesAreGreatest : Type 0
ClassesAreGreatest = (f n : ℕ) → f ≤ n → IsClass f n (class_of_count f n)

-- `row_count_of_class` is the least number of rows that is enough
abbrev pub RowCountsAreLeast : Type 0
RowCountsAreLeast = (m snr c : ℕ) → 2 ≤ m → snr ≤ 1000 → c ≤ 15 → IsRowCount m snr c (row_count_of_class m snr c)

-- no word has more than 26 rows
abbrev pub RowCountsAreSmall : Type 0
RowCountsAreSmall = (m snr c : ℕ) → row_count_of_class m snr c ≤ 26

-- a listed word has the class of its count
abbrev pub ListedWordsHaveTheirClass : Type 0
ListedWordsHaveTheirClass =
    (config : Config) → IsInByteOrder config.words → (word : List ℕ) (f : ℕ) → Contains config.words (word, f)
    → class_of_word config word ≡ class_of_count f config.documents

-- any other word has class 15
abbrev pub UnlistedWordsHaveTheLastClass : Type 0
UnlistedWordsHaveTheLastClass =
    (config : Config) (word : List ℕ) → ((f : ℕ) → ¬ Contains config.words (word, f)) → class_of_word config word ≡ 15

-- of two words, the one that more documents hold has at most as many rows as the other
abbrev pub RarerWordsHaveMoreRows : Type 0
RarerWordsHaveMoreRows =
    (config : Config) → IsInRange config → (f g : ℕ) → f ≤ g → g ≤ config.documents
    → rows_of_class config (class_of_count g config.documents) ≤ rows_of_class config (class_of_count f config.documents)

-- no listed word has more rows than an unlisted one, which has the row count of class 15
abbrev pub UnlistedWordsHaveMostRows : Type 0
UnlistedWordsHaveMostRows =
    (config : Config) → IsInRange config → (c : ℕ) → c ≤ 15 → rows_of_class config c ≤ row_count_of_class config.one_in config.snr 15
