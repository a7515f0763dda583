-- The walk of a slice from its rows of the highest rank down, in terms of the pool's word at which the slice begins.
use Rattle.std.specs.Prelude.{◌≡◌, ℕ, ◌+◌, ◌-◌, ◌*◌, ◌/◌, ◌%◌, ◌^◌, ◌<◌, ◌≤◌, ◌++◌, Bool, true, List, [], ◌∷◌, All, count_by, filter, length, sum_by, slice_index, if◌then◌else◌, nat_eq, bit_and}
use Rattle.std.specs.List.{list_all, list_any, range_with_len}
use Rattle.std.specs.declared.option.Option.{Option}
use Rattle.std.specs.declared.option.Option.TheVariants.{Some}
use Rattle.funnel_model.specs.declared.bit_list.Bit.{Bit}
use Rattle.rank_matcher.specs.Appended.{candidates_of}
use Rattle.rank_matcher.specs.Reads.{columns_of_word, shown_reads}
use Rattle.rank_matcher.specs.declared.walk.Search.{Search}
use Rattle.row_layout.specs.DocumentBits.{bit_from}
use Rattle.row_layout.specs.Orders.{rows_below_rank, rows_from_rank}
use Rattle.row_layout.specs.declared.row.Row.{Row}
use Rattle.row_read.specs.Bits.{has_bit, is_set}

-- the words of the row in this slice may be read, and their numbers fit
pub record IsReadable (reach : ℕ → Type 0) (first : ℕ) (row : Row) : Type 0 where
  pub reaches : (word : ℕ) → word < row.width → reach (first + row.start + word)
  pub fits : first + row.start + row.width ≤ 2 ^ 32

-- the 64 columns of each of the words from `from` up to `to` of rank 0 have whole words in the row
pub record IsWhole (from to : ℕ) (row : Row) : Type 0 where
  pub begins : 2 ^ row.rank * (from / 2 ^ row.rank) ≡ from
  pub ends : 2 ^ row.rank * (to / 2 ^ row.rank) ≡ to
  pub within : to ≤ 2 ^ row.rank * row.width

-- whether the bit of a column is set in every one of these rows
abbrev pub has_all : List ℕ → ℕ → List Row → ℕ → Bool
has_all words first rows column = list_all (λ row. is_set words (bit_from first column row)) rows

-- whether a word has the bit of a column of its 64 or more
abbrev pub has_column : ℕ → ℕ → Bool
has_column word column = has_bit word (column % 64)

-- the test says of the columns from a up to b what reads of these rows told, must give and saw
pub record IsTestOf (told : Option (List ℕ)) (least seen : Bit → Type 0) (first : ℕ) (rows : List Row) (a b : ℕ) (test : ℕ → Bool) : Type 0 where
  pub told_is : (words : List ℕ) → told ≡ Some words → (column : ℕ) → a ≤ column → column < b → test column ≡ has_all words first rows column
  pub least_is : (column : ℕ) → a ≤ column → column < b → All (λ row. least (bit_from first column row)) rows → test column ≡ true
  pub seen_is : (column : ℕ) → a ≤ column → column < b → test column ≡ true → All (λ row. seen (bit_from first column row)) rows

-- the columns from a up to b that pass the test
abbrev pub passing : (ℕ → Bool) → ℕ → ℕ → List ℕ
passing test a b = filter test (range_with_len a (b - a))

-- the walk of the columns from a up to b came to its end, and appended the candidates that pass
pub record HasFound (told : Option (List ℕ)) (least seen : Bit → Type 0) (first : ℕ) (plan : List Row) (slice a b : ℕ) (old new : List (ℕ × ℕ)) : Type 0 where
  pub test : ℕ → Bool
  pub is_test : IsTestOf told least seen first plan a b test
  pub appended : new ≡ old ++ candidates_of slice (passing test a b)

-- it came to a column n at least, and appended a front of those that pass
pub record HasFoundPart (told : Option (List ℕ)) (least seen : Bit → Type 0) (first : ℕ) (plan : List Row) (slice a b : ℕ) (old new : List (ℕ × ℕ)) : Type 0 where
  pub n : ℕ
  pub from : a ≤ n
  pub to : n ≤ b
  pub test : ℕ → Bool
  pub is_test : IsTestOf told least seen first plan a n test
  pub front : List ℕ
  pub rest : List ℕ
  pub parts : passing test a n ≡ front ++ rest
  pub appended : new ≡ old ++ candidates_of slice front

-- how many words of these rows over the words from `from` up to `to` of rank 0 are read, after the rows before
abbrev pub reads_between : List ℕ → ℕ → List Row → List Row → ℕ → ℕ → ℕ
reads_between words first before [] from to = 0
reads_between words first before (row ∷ later) from to =
    count_by (λ word. list_any (has_all words first before) (columns_of_word row.rank word)) (range_with_len (from / 2 ^ row.rank) (to / 2 ^ row.rank - from / 2 ^ row.rank))
    + reads_between words first (before ++ row ∷ []) later from to

-- how many words they have there
abbrev pub words_between : List Row → ℕ → ℕ → ℕ
words_between rows from to = sum_by (λ row. to / 2 ^ row.rank - from / 2 ^ row.rank) rows

-- as many words were read, up to the counter's last value, as the walk of these rows reads after the rows before
pub record HasRead (told : Option (List ℕ)) (first : ℕ) (before rows : List Row) (from to old new : ℕ) : Type 0 where
  pub count : ℕ
  pub is : shown_reads new ≡ shown_reads (old + count)
  pub at_most : count ≤ words_between rows from to
  pub told_is : (words : List ℕ) → told ≡ Some words → count ≡ reads_between words first before rows from to

-- or fewer, where it stopped
pub record HasReadPart (told : Option (List ℕ)) (first : ℕ) (before rows : List Row) (from to old new : ℕ) : Type 0 where
  pub count : ℕ
  pub is : shown_reads new ≡ shown_reads (old + count)
  pub at_most : count ≤ words_between rows from to
  pub told_at_most : (words : List ℕ) → told ≡ Some words → count ≤ reads_between words first before rows from to

-- a bit of a row at a place: the place is a word of the row, with the first word of the slice added
abbrev pub bit_in : ℕ → ℕ → Row → Bit
bit_in place bit row = record { word = place + row.start; bit = bit }

-- whether a bit of the place is set in every one of these rows
abbrev pub all_have : List ℕ → ℕ → List Row → ℕ → Bool
all_have words place rows bit = list_all (λ row. is_set words (bit_in place bit row)) rows

-- how many of the rows' words at a place are read while bits are left
abbrev pub reads_left : List ℕ → ℕ → ℕ → List Row → ℕ
reads_left words place running [] = 0
reads_left words place running (row ∷ later) =
    let left = bit_and running (slice_index words (place + row.start)) in
    1 + (if nat_eq left 0 then 0 else reads_left words place left later)

-- as many words were read as the rows have at the place, while bits were left
pub record HasReadPlace (told : Option (List ℕ)) (place running : ℕ) (rows : List Row) (old new : ℕ) : Type 0 where
  pub count : ℕ
  pub is : shown_reads new ≡ shown_reads (old + count)
  pub at_most : count ≤ length rows
  pub told_is : (words : List ℕ) → told ≡ Some words → count ≡ reads_left words place running rows

-- A walk can begin at this rank, over the words from `from` up to `to` of rank 0: the numbers of its columns fit, the words of each
-- planned row may be read, and the rows below the rank have whole words for its columns.
pub record CanWalk (reach : ℕ → Type 0) (search : Search) (ranks from to : ℕ) : Type 0 where
  pub low : ranks ≤ 7
  pub span : from ≤ to
  pub few : 64 * to < 2 ^ 32
  pub readable : All (IsReadable reach search.first) search.plan.now
  pub whole : All (IsWhole from to) (rows_below_rank ranks search.plan.now)

-- the bits that are left say of the walk's columns what the rows from the rank on say
abbrev pub AreLeft : Option (List ℕ) → (Bit → Type 0) → (Bit → Type 0) → Search → ℕ → ℕ → ℕ → ℕ → Type 0
AreLeft told least seen search ranks from to running =
    IsTestOf told least seen search.first (rows_from_rank ranks search.plan.now) (64 * from) (64 * to) (has_column running)

-- the walk's columns were found
abbrev pub FindsAll : Option (List ℕ) → (Bit → Type 0) → (Bit → Type 0) → Search → ℕ → ℕ → List (ℕ × ℕ) → List (ℕ × ℕ) → Type 0
FindsAll told least seen search from to old new = HasFound told least seen search.first search.plan.now search.slice (64 * from) (64 * to) old new

-- or a beginning of them, wherever it stopped
abbrev pub FindsPart : Option (List ℕ) → (Bit → Type 0) → (Bit → Type 0) → Search → ℕ → ℕ → List (ℕ × ℕ) → List (ℕ × ℕ) → Type 0
FindsPart told least seen search from to old new = HasFoundPart told least seen search.first search.plan.now search.slice (64 * from) (64 * to) old new

-- as many words were read as the walk reads
abbrev pub ReadsAll : Option (List ℕ) → Search → ℕ → ℕ → ℕ → ℕ → ℕ → Type 0
ReadsAll told search ranks from to old new =
    HasRead told search.first (rows_from_rank ranks search.plan.now) (rows_below_rank ranks search.plan.now) from to old new

-- or fewer, wherever it stopped
abbrev pub ReadsPart : Option (List ℕ) → Search → ℕ → ℕ → ℕ → ℕ → ℕ → Type 0
ReadsPart told search ranks from to old new =
    HasReadPart told search.first (rows_from_rank ranks search.plan.now) (rows_below_rank ranks search.plan.now) from to old new
