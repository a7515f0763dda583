-- What is read of a search at a word of 64 columns, in terms of the pool's word at which the slice begins.
use Rattle.std.specs.Prelude.{◌≡◌, ℕ, ◌+◌, ◌*◌, ◌/◌, ◌^◌, ◌<◌, ◌≤◌, ◌||◌, Bool, true, false, not, List, All, map}
use Rattle.std.specs.List.{list_all, list_any}
use Rattle.std.specs.declared.option.Option.{Option}
use Rattle.std.specs.declared.option.Option.TheVariants.{Some}
use Rattle.funnel_model.specs.Searches.{Search, Searches, AreAlike, AreEachAlike, AreEachTold, AreToldWhileTheyMay, IsToldWhole, each_may, each_sure, may, sure}
use Rattle.funnel_model.specs.declared.bit_list.Bit.{Bit}
use Rattle.row_layout.specs.AtomReads.{AtomPlan, AtomRead, BitRead, Tells, WasReadAs, is_known, is_ruled_out, is_set_read, is_zero}
use Rattle.row_layout.specs.DocumentBits.{bit_from}
use Rattle.row_layout.specs.declared.row.Row.{Row}
use Rattle.row_read.specs.Bits.{has_bit, is_set}
use Rattle.rank_matcher.specs.Walk.{IsReadable}

-- a read of the bit may have been zero: the bit isn't one that each read has, and it is zero in the words that are told
pub record WasReadZero (told : Option (List ℕ)) (least : Bit → Type 0) (bit : Bit) : Type 0 where
  pub not_least : least bit → ⊥
  pub told_is : (words : List ℕ) → told ≡ Some words → is_set words bit ≡ false

-- a read of the bit was one: it was seen, and it is set in the words that are told
pub record WasReadSet (told : Option (List ℕ)) (seen : Bit → Type 0) (bit : Bit) : Type 0 where
  pub was_seen : seen bit
  pub told_is : (words : List ℕ) → told ≡ Some words → is_set words bit ≡ true

-- the word of the row that covers this word of rank 0 is one of the row's words, which may be read
pub record Covers (reach : ℕ → Type 0) (first word : ℕ) (row : Row) : Type 0 where
  pub low : row.rank ≤ 6
  pub inside : word / 2 ^ row.rank < row.width
  pub readable : IsReadable reach first row

-- so it is of each of these rows
abbrev pub CanRead : (ℕ → Type 0) → ℕ → ℕ → List Row → Type 0
CanRead reach first word rows = All (Covers reach first word) rows

-- of the column's bits in these rows it was read that each is set, or that one is zero
pub record HasReadRows (told : Option (List ℕ)) (least seen : Bit → Type 0) (first column : ℕ) (rows : List Row) (all_set : Bool) : Type 0 where
  pub bits : List (Row × BitRead)
  pub rows_are : map (λ b. b.0) bits ≡ rows
  pub tells : All (λ b. Tells (WasReadZero told least) (WasReadSet told seen) b.1 (bit_from first column b.0)) bits
  pub set : list_all (λ b. is_set_read b.1) bits ≡ all_set
  pub zero : list_any (λ b. is_zero b.1) bits ≡ not all_set

-- an atom was read so at the column
abbrev pub WasReadAt : Option (List ℕ) → (Bit → Type 0) → (Bit → Type 0) → ℕ → ℕ → AtomPlan → AtomRead → Type 0
WasReadAt told least seen first column = WasReadAs (WasReadZero told least) (WasReadSet told seen) (bit_from first column)

-- as much was read of an atom as counts: each planned bit as set, or one as zero
abbrev pub IsToldOf : AtomRead → Type 0
IsToldOf read = (is_ruled_out read || list_all (λ b. is_set_read b.1) read.bits) ≡ true

-- the search was read at the column, as much of it as counts, and by these reads it may or may not, and is sure or is not
pub record HasReadSearch (told : Option (List ℕ)) (least seen : Bit → Type 0) (first column : ℕ) (search : Search AtomPlan) (may_be sure_is : Bool) : Type 0 where
  pub read : Search AtomRead
  pub was_read : AreAlike (WasReadAt told least seen first column) search read
  pub whole : IsToldWhole IsToldOf is_ruled_out is_known read
  pub may_is : may is_ruled_out is_known read ≡ may_be
  pub sure_as : sure is_ruled_out is_known read ≡ sure_is

-- so it is of all of several searches
pub record HasReadAll (told : Option (List ℕ)) (least seen : Bit → Type 0) (first column : ℕ) (searches : Searches AtomPlan) (may_be sure_is : Bool) : Type 0 where
  pub reads : Searches AtomRead
  pub were_read : AreEachAlike (WasReadAt told least seen first column) searches reads
  pub whole : AreToldWhileTheyMay IsToldOf is_ruled_out is_known reads
  pub may_is : list_all (λ b. b) (each_may is_ruled_out is_known reads) ≡ may_be
  pub sure_as : list_all (λ b. b) (each_sure is_ruled_out is_known reads) ≡ sure_is

-- and of some of several
pub record HasReadSome (told : Option (List ℕ)) (least seen : Bit → Type 0) (first column : ℕ) (searches : Searches AtomPlan) (may_be sure_is : Bool) : Type 0 where
  pub reads : Searches AtomRead
  pub were_read : AreEachAlike (WasReadAt told least seen first column) searches reads
  pub whole : AreEachTold IsToldOf is_ruled_out is_known reads
  pub may_is : list_any (λ b. b) (each_may is_ruled_out is_known reads) ≡ may_be
  pub sure_as : list_any (λ b. b) (each_sure is_ruled_out is_known reads) ≡ sure_is

-- of the columns of a word that the mask has, so much is told of each: a relation between the column and its bits in the words of what
-- may be and of what is sure
abbrev pub ForEachBit : (ℕ → Bool → Bool → Type 0) → ℕ → ℕ → ℕ → ℕ → Type 0
ForEachBit IsTold word mask may_be sure_is =
    (bit : ℕ) → bit < 64 → has_bit mask bit ≡ true → IsTold (64 * word + bit) (has_bit may_be bit) (has_bit sure_is bit)

-- each bit of one word is one of the other
abbrev pub IsWithin : ℕ → ℕ → Type 0
IsWithin inner outer = (bit : ℕ) → bit < 64 → has_bit inner bit ≡ true → has_bit outer bit ≡ true
