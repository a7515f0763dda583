-- What is read of the bits of a column in some rows, row by row.
use Rattle.std.proofs.Common.{◌≡◌, ℕ, ◌+◌, ◌*◌, ◌/◌, ◌%◌, ◌^◌, ◌<◌, ◌&&◌, ◌||◌, ◌++◌, Bool, true, false, not, List, [], ◌∷◌, map, refl, sym, ap, ap₂, ◌∙◌, arith}
use Rattle.std.specs.Prelude.{IfSome, IsBitSet, slice_index}
use Rattle.std.specs.List.{All, list_all, list_any}
use Rattle.std.specs.declared.option.Option.{Option}
use Rattle.std.proofs.lemmas.Bool.{false≢true}
use Rattle.std.proofs.lemmas.List.{map-append}
use Rattle.std.proofs.lemmas.List.Elements.{All-cons, All-nil, All-weaker}
use Rattle.std.proofs.lemmas.List.Folds.{list_all-append, list_any-append}
use Rattle.std.proofs.lemmas.Nat.{mod-mul-add, pow_pos}
use Rattle.std.proofs.Math.Nat.{div-add-mod, mod-lt}
use Rattle.funnel_model.specs.declared.bit_list.Bit.{Bit}
use Rattle.row_layout.specs.AtomReads.{BitRead, unread, as_zero, as_set, Tells, is_set_read, is_zero}
use Rattle.row_layout.specs.DocumentBits.{bit_from}
use Rattle.row_layout.specs.declared.row.Row.{Row}
use Rattle.row_read.specs.Bits.{has_bit}
use Rattle.rank_matcher.proofs.Bits.{set-from_test, test-from_set}
use Rattle.rank_matcher.proofs.ColumnTests.{word-of_column}
use Rattle.rank_matcher.proofs.Intersections.{All-joined, when_told}
use Rattle.rank_matcher.specs.Evaluation.{HasReadRows, WasReadSet, WasReadZero}

-- what a read of one bit tells
abbrev read_as : Bool → BitRead
read_as true = as_set
read_as false = as_zero

set-read : (one : Bool) → is_set_read (read_as one) ≡ one
set-read true = refl
set-read false = refl

zero-read : (one : Bool) → is_zero (read_as one) ≡ not one
zero-read true = refl
zero-read false = refl

tells-read : (IsZero IsSet : Bit → Type 0) (bit : Bit) (one : Bool) → (one ≡ true → IsSet bit) → (one ≡ false → IsZero bit) → Tells IsZero IsSet (read_as one) bit
tells-read IsZero IsSet bit true set zero = set refl
tells-read IsZero IsSet bit false set zero = zero refl

-- what is told stays told where more was seen
pub tells-later : (told : Option (List ℕ)) (least seen after : Bit → Type 0) → ((bit : Bit) → seen bit → after bit) → (read : BitRead) (bit : Bit) →
    Tells (WasReadZero told least) (WasReadSet told seen) read bit → Tells (WasReadZero told least) (WasReadSet told after) read bit
tells-later told least seen after more unread bit tells = tt
tells-later told least seen after more as_zero bit tells = tells
tells-later told least seen after more as_set bit tells = record { was_seen = more bit tells.was_seen; told_is = tells.told_is }

and-true : (b : Bool) → (b && true) ≡ b
and-true true = refl
and-true false = refl

or-none : (b : Bool) → (b || false) ≡ b
or-none true = refl
or-none false = refl

not-and : (a b : Bool) → (not a || not b) ≡ not (a && b)
not-and true b = refl
not-and false b = refl

module _ (told : Option (List ℕ)) (least : Bit → Type 0) (first column : ℕ) where
  abbrev Told : (Bit → Type 0) → (Row × BitRead) → Type 0
  Told seen b = Tells (WasReadZero told least) (WasReadSet told seen) b.1 (bit_from first column b.0)

  -- before any row
  pub rows-none : (seen : Bit → Type 0) → HasReadRows told least seen first column [] true
  rows-none seen = record { bits = []; rows_are = refl; tells = All-nil (Told seen); set = refl; zero = refl }

  -- one row more, whose bit was read
  pub rows-next : (seen after : Bit → Type 0) → ((bit : Bit) → seen bit → after bit) → (rows : List Row) (row : Row) (all one : Bool) →
      HasReadRows told least seen first column rows all → (one ≡ true → WasReadSet told after (bit_from first column row)) →
      (one ≡ false → WasReadZero told least (bit_from first column row)) → HasReadRows told least after first column (rows ++ row ∷ []) (all && one)
  rows-next seen after more rows row all one read set zero = record {
    bits = read.bits ++ (row, read_as one) ∷ [];
    rows_are = map-append (λ b. b.0) read.bits ((row, read_as one) ∷ []) ∙ ap (λ (rs : List Row). rs ++ row ∷ []) read.rows_are;
    tells = All-joined (Told after) read.bits ((row, read_as one) ∷ [])
        (All-weaker (Told seen) (Told after) (λ b. tells-later told least seen after more b.1 (bit_from first column b.0)) read.bits read.tells)
        (All-cons (Told after) (row, read_as one) [] (tells-read (WasReadZero told least) (WasReadSet told after) (bit_from first column row) one set zero) (All-nil (Told after)));
    set = list_all-append (λ b. is_set_read b.1) read.bits ((row, read_as one) ∷ [])
        ∙ ap₂ (λ a b. a && b) read.set (and-true (is_set_read (read_as one)) ∙ set-read one);
    zero = list_any-append (λ b. is_zero b.1) read.bits ((row, read_as one) ∷ [])
        ∙ ap₂ (λ a b. a || b) read.zero (or-none (is_zero (read_as one)) ∙ zero-read one) ∙ not-and all one;
  }

  abbrev pub unread_rows : List Row → List (Row × BitRead)
  unread_rows [] = []
  unread_rows (row ∷ rows) = (row, unread) ∷ unread_rows rows

  pub unread-rows : (rows : List Row) → map (λ b. b.0) (unread_rows rows) ≡ rows
  unread-rows [] = refl
  unread-rows (row ∷ rows) = ap (λ (rs : List Row). row ∷ rs) (unread-rows rows)

  pub unread-tells : (seen : Bit → Type 0) (rows : List Row) → All (Told seen) (unread_rows rows)
  unread-tells seen [] = All-nil (Told seen)
  unread-tells seen (row ∷ rows) = All-cons (Told seen) (row, unread) (unread_rows rows) tt (unread-tells seen rows)

  -- rows that weren't read, where one before them was read as zero
  pub rows-unread : (seen : Bit → Type 0) (rows later : List Row) → HasReadRows told least seen first column rows false → HasReadRows told least seen first column (rows ++ later) false
  rows-unread seen rows later read = record {
    bits = read.bits ++ unread_rows later;
    rows_are = map-append (λ b. b.0) read.bits (unread_rows later) ∙ ap₂ (λ (a b : List Row). a ++ b) read.rows_are (unread-rows later);
    tells = All-joined (Told seen) read.bits (unread_rows later) read.tells (unread-tells seen later);
    set = list_all-append (λ b. is_set_read b.1) read.bits (unread_rows later) ∙ ap (λ a. a && list_all (λ b. is_set_read b.1) (unread_rows later)) read.set;
    zero = list_any-append (λ b. is_zero b.1) read.bits (unread_rows later) ∙ ap (λ a. a || list_any (λ b. is_zero b.1) (unread_rows later)) read.zero;
  }

-- the word of a row that covers a word of rank 0 has the bits of its columns
pub covering : (first word bit : ℕ) (row : Row) → bit < 64 → bit_from first (64 * word + bit) row ≡ record { word = first + row.start + word / 2 ^ row.rank; bit = bit }
covering first word bit row few =
    let p = 2 ^ row.rank in
    let q = word / p in
    let some : 0 < p = pow_pos row.rank in
    let parts : p * q + word % p ≡ word = div-add-mod word p in
    let below : word % p < p = mod-lt word some in
    let next : p * (q + 1) ≡ p * q + p = omega arith in
    let at : (64 * word + bit) / (64 * p) ≡ q = word-of_column row.rank q (64 * word + bit) (omega (arith, parts)) (omega (arith, parts, below, next, few)) in
    let place : (64 * word + bit) % 64 ≡ bit = ap (λ n. n % 64) (let e : 64 * word + bit ≡ word * 64 + bit = omega arith in e) ∙ mod-mul-add word 64 bit few in
    ap₂ (λ (w b : ℕ). record { word = first + row.start + w; bit = b }) at place

-- what the value of a word that was read tells of a bit
pub value-set : (told : Option (List ℕ)) (seen : Bit → Type 0) (w value bit : ℕ) → has_bit value bit ≡ true →
    (IsBitSet value bit → seen (record { word = w; bit = bit })) → IfSome told (λ words. value ≡ slice_index words w) → WasReadSet told seen (record { word = w; bit = bit })
value-set told seen w value bit is was is_word = record {
  was_seen = was (set-from_test value bit is);
  told_is = λ words same. ap (λ n. has_bit n bit) (sym (when_told (λ (ws : List ℕ). value ≡ slice_index ws w) told words same is_word)) ∙ is;
}

pub value-zero : (told : Option (List ℕ)) (least : Bit → Type 0) (w value bit : ℕ) → has_bit value bit ≡ false →
    (least (record { word = w; bit = bit }) → IsBitSet value bit) → IfSome told (λ words. value ≡ slice_index words w) → WasReadZero told least (record { word = w; bit = bit })
value-zero told least w value bit is must is_word = record {
  not_least = λ has. false≢true (sym is ∙ test-from_set value bit (must has));
  told_is = λ words same. ap (λ n. has_bit n bit) (sym (when_told (λ (ws : List ℕ). value ≡ slice_index ws w) told words same is_word)) ∙ is;
}
