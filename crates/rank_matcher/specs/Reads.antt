-- How many words a scan reads.
use Rattle.std.specs.Prelude.{◌≡◌, ℕ, ◌≤◌, ◌+◌, ◌-◌, ◌*◌, ◌^◌, Bool, min, List, [], ◌∷◌, ◌++◌, sum_by, count_by, IfSome, OnOk, Result}
use Rattle.std.specs.List.{list_any, range_with_len}
use Rattle.std.specs.declared.option.Option.{Option}
use Rattle.funnel_model.specs.declared.memory.Memory.{Memory}
use Rattle.row_layout.specs.Layouts.{LayoutId}
use Rattle.row_layout.specs.declared.row.Row.{Row}
use Rattle.rank_matcher.specs.Appended.{IsBeginning}
use Rattle.rank_matcher.specs.Hits.{hits, is_hit}

-- a number of reads as their counter shows it, which stays at its last value
abbrev pub shown_reads : ℕ → ℕ
shown_reads reads = min reads (2 ^ 64 - 1)

-- the columns that have a bit in a word of a row of this rank
abbrev pub columns_of_word : ℕ → ℕ → List ℕ
columns_of_word rank word = range_with_len (64 * 2 ^ rank * word) (64 * 2 ^ rank)

-- whether a word of a row of this rank is read: where one of its columns is a hit of the rows that are planned before it
abbrev pub is_read : LayoutId → List ℕ → List Row → ℕ → ℕ → ℕ → Bool
is_read layout words before slice rank word = list_any (is_hit layout words before slice) (columns_of_word rank word)

-- how many words of these rows are read, where others are planned before them
abbrev pub reads_after : LayoutId → List ℕ → List Row → List Row → ℕ → ℕ
reads_after layout words before [] slice = 0
reads_after layout words before (row ∷ later) slice =
    count_by (is_read layout words before slice row.rank) (range_with_len 0 row.width)
    + reads_after layout words (before ++ row ∷ []) later slice

-- how many words a scan reads, as pairs of a planned row and one of its words
abbrev pub reads_of_scan : LayoutId → List ℕ → List Row → ℕ → ℕ
reads_of_scan layout words plan slice = reads_after layout words [] plan slice

-- how many words the planned rows have
abbrev pub words_of_plan : List Row → ℕ
words_of_plan plan = sum_by (λ row. row.width) plan

-- At its end the scan has found exactly the hits in these words and read exactly what they take; wherever it stopped, a beginning of
-- them, and no more.
pub record ScansWords (layout : LayoutId) (words : List ℕ) (plan : List Row) (slice : ℕ) (answer : Result (Unit {0}) Memory) (columns : List ℕ) (old new : ℕ) : Type 0 where
  pub all : OnOk answer (columns ≡ hits layout words plan slice)
  pub part : IsBeginning columns (hits layout words plan slice)
  pub reads : OnOk answer (shown_reads new ≡ shown_reads (old + reads_of_scan layout words plan slice))
  pub few : shown_reads new ≤ old + reads_of_scan layout words plan slice

-- where the words are told, it scans these
abbrev pub ScansTold : Option (List ℕ) → LayoutId → List Row → ℕ → Result (Unit {0}) Memory → List ℕ → ℕ → ℕ → Type 0
ScansTold told layout plan slice answer columns old new = IfSome told (λ words. ScansWords layout words plan slice answer columns old new)
