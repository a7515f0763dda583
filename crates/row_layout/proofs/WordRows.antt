-- The rows of a word, by whether it has a private row.
use Rattle.std.proofs.Common.{◌≡◌, ◌∙◌, ℕ, true, false, cond, List, [], ◌∷◌, map, refl, ap, ap₂}
use Rattle.funnel_model.specs.Sizes.{class_of_word, has_private_row}
use Rattle.funnel_model.specs.Treatment.{row_count_of_class}
use Rattle.funnel_model.specs.declared.config.Config.{Config}
use Rattle.std.specs.List.{range_with_len}
use Rattle.row_layout.specs.Rows.{private_row, hashed_row, hashed_rows, private_number, row_count_of_word, row_of_word, rows_of_word}
use Rattle.row_layout.specs.declared.row.Row.{Row}

-- a word with a private row has one row
pub row_count-private : (config : Config) (word : List ℕ) → has_private_row config word ≡ true → row_count_of_word config word ≡ 1
unfolding row_count_of_word
row_count-private config word has = ap (λ b. cond {A = ℕ} b 1 (row_count_of_class config.one_in config.snr (class_of_word config word))) has

-- any other word has the row count of its class
pub row_count-shared : (config : Config) (word : List ℕ) → has_private_row config word ≡ false → row_count_of_word config word ≡ row_count_of_class config.one_in config.snr (class_of_word config word)
unfolding row_count_of_word
row_count-shared config word has = ap (λ b. cond {A = ℕ} b 1 (row_count_of_class config.one_in config.snr (class_of_word config word))) has

-- the row of a word that has a private one
pub row_of_word-private : (config : Config) (word : List ℕ) (j : ℕ) → has_private_row config word ≡ true → row_of_word config word j ≡ private_row config (private_number config word)
unfolding row_of_word
row_of_word-private config word j has =
    ap (λ b. cond b (private_row config (private_number config word)) (hashed_row config word (class_of_word config word) j)) has

-- a row of any other word
pub row_of_word-shared : (config : Config) (word : List ℕ) (j : ℕ) → has_private_row config word ≡ false → row_of_word config word j ≡ hashed_row config word (class_of_word config word) j
unfolding row_of_word
row_of_word-shared config word j has =
    ap (λ b. cond b (private_row config (private_number config word)) (hashed_row config word (class_of_word config word) j)) has

-- the rows of a word that has a private one are that row
pub rows_of_word-private : (config : Config) (word : List ℕ) → has_private_row config word ≡ true → rows_of_word config word ≡ private_row config (private_number config word) ∷ []
rows_of_word-private config word has =
    ap (λ (n : ℕ). map (row_of_word config word) (range_with_len 0 n)) (row_count-private config word has)
    ∙ ap (λ (row : Row). row ∷ []) (row_of_word-private config word 0 has)

map_agree : (f g : ℕ → Row) (js : List ℕ) → ((j : ℕ) → f j ≡ g j) → map f js ≡ map g js
map_agree f g [] agree = refl
map_agree f g (j ∷ js) agree = ap₂ (λ (row : Row) (rows : List Row). row ∷ rows) (agree j) (map_agree f g js agree)

-- the rows of any other word are those of its class
pub rows_of_word-shared : (config : Config) (word : List ℕ) → has_private_row config word ≡ false → rows_of_word config word ≡ hashed_rows config word (class_of_word config word)
rows_of_word-shared config word has =
    let class = class_of_word config word in
    ap (λ (n : ℕ). map (row_of_word config word) (range_with_len 0 n)) (row_count-shared config word has)
    ∙ map_agree (row_of_word config word) (hashed_row config word class) (range_with_len 0 (row_count_of_class config.one_in config.snr class)) (λ j. row_of_word-shared config word j has)
