-- Tests of columns, as what reads of rows told, must give and saw.
use Rattle.std.proofs.Common.{◌≡◌, ℕ, ◌+◌, ◌-◌, ◌*◌, ◌/◌, ◌%◌, ◌^◌, ◌<◌, ◌≤◌, ⊎_elim, List, ◌++◌, [], ◌∷◌, Bool, true, false, ◌&&◌, get_or, ap, sym, subst, ◌∙◌, refl, arith}
use Rattle.std.specs.List.{All, list_all}
use Rattle.std.specs.declared.option.Option.{Option}
use Rattle.std.specs.declared.option.Option.TheVariants.{Some}
use Rattle.std.proofs.lemmas.Bool.{cases_lt}
use Rattle.std.proofs.lemmas.List.Elements.{All-head, All-nil, All-tail}
use Rattle.std.proofs.lemmas.List.Folds.{list_all-append}
use Rattle.std.proofs.lemmas.Nat.{div-mul-add, pow_pos}
use Rattle.funnel_model.specs.declared.bit_list.Bit.{Bit}
use Rattle.rank_matcher.specs.Walk.{IsTestOf, all_have, bit_in, has_all, has_column}
use Rattle.rank_matcher.proofs.Bits.{has_bit-ones, has_bit-zero}
use Rattle.rank_matcher.proofs.Intersections.{All-joined, All-split, HasLeast, IsLeft, WasSeen}
use Rattle.rank_matcher.proofs.Passing.{joined, joined-before, joined-from}
use Rattle.row_layout.specs.DocumentBits.{bit_from}
use Rattle.row_layout.specs.declared.row.Row.{Row}
use Rattle.row_read.specs.Bits.{has_bit, is_set}

-- no column is tested
pub test-none : (told : Option (List ℕ)) (least seen : Bit → Type 0) (first : ℕ) (rows : List Row) (a : ℕ) → IsTestOf told least seen first rows a a (λ _. false)
test-none told least seen first rows a = record {
  told_is = λ words is column from to. absurd (omega (arith, from, to));
  least_is = λ column from to. absurd (omega (arith, from, to));
  seen_is = λ column from to. absurd (omega (arith, from, to));
}

-- more was seen meanwhile, and fewer columns are asked for
pub test-later : (told : Option (List ℕ)) (least seen after : Bit → Type 0) → ((bit : Bit) → seen bit → after bit) → (first : ℕ) (rows : List Row) (a b c d : ℕ) (test : ℕ → Bool) → a ≤ c → d ≤ b
    → IsTestOf told least seen first rows a b test → IsTestOf told least after first rows c d test
test-later told least seen after stays first rows a b c d test low high is = record {
  told_is = λ words told_is column from to. is.told_is words told_is column (omega (arith, low, from)) (omega (arith, high, to));
  least_is = λ column from to. is.least_is column (omega (arith, low, from)) (omega (arith, high, to));
  seen_is = λ column from to passes k row inside. stays (bit_from first column (get_or rows k row)) (is.seen_is column (omega (arith, low, from)) (omega (arith, high, to)) passes k row inside);
}

-- the tests of two ranges, one after the other
pub test-joined : (told : Option (List ℕ)) (least seen after : Bit → Type 0) → ((bit : Bit) → seen bit → after bit) → (first : ℕ) (rows : List Row) (a b c : ℕ) (test next : ℕ → Bool)
    → IsTestOf told least seen first rows a b test → IsTestOf told least after first rows b c next → IsTestOf told least after first rows a c (joined b test next)
test-joined told least seen after stays first rows a b c test next is then = record {
  told_is = λ words told_is column from to.
      ⊎_elim
      (λ (before : column < b). joined-before b test next column before ∙ is.told_is words told_is column from before)
      (λ (high : b ≤ column). joined-from b test next column high ∙ then.told_is words told_is column high to)
      (cases_lt column b);
  least_is = λ column from to all.
      ⊎_elim
      (λ (before : column < b). joined-before b test next column before ∙ is.least_is column from before all)
      (λ (high : b ≤ column). joined-from b test next column high ∙ then.least_is column high to all)
      (cases_lt column b);
  seen_is = λ column from to passes k row inside.
      ⊎_elim
      (λ (before : column < b). stays (bit_from first column (get_or rows k row)) (is.seen_is column from before (sym (joined-before b test next column before) ∙ passes) k row inside))
      (λ (high : b ≤ column). then.seen_is column high to (sym (joined-from b test next column high) ∙ passes) k row inside)
      (cases_lt column b);
}

-- where no bit is left of some rows, no column passes them and others
pub test-zero : (told : Option (List ℕ)) (least seen : Bit → Type 0) (first : ℕ) (rows later : List Row) (a b left : ℕ) → left ≡ 0
    → IsTestOf told least seen first rows a b (has_column left) → IsTestOf told least seen first (rows ++ later) a b (λ _. false)
test-zero told least seen first rows later a b left zero is = record {
  told_is = λ words told_is column from to.
      ap (λ t. t && has_all words first later column) (sym (none column) ∙ is.told_is words told_is column from to)
      ∙ sym (list_all-append (λ row. is_set words (bit_from first column row)) rows later);
  least_is = λ column from to all.
      sym (none column) ∙ is.least_is column from to ((All-split (λ row. least (bit_from first column row)) rows later all).0);
  seen_is = λ column from to passes. absurd (let e : false ≡ true = passes in cc);
}
  where
    none : (column : ℕ) → has_column left column ≡ false
    none column = ap (λ n. has_bit n (column % 64)) zero ∙ has_bit-zero (column % 64)

-- the word of ones passes every column where there are no rows
pub test-ones : (told : Option (List ℕ)) (least seen : Bit → Type 0) (first a b : ℕ) → IsTestOf told least seen first [] a b (has_column (2 ^ 64 - 1))
test-ones told least seen first a b = record {
  told_is = λ words told_is column from to. has_bit-ones (column % 64) (omega arith);
  least_is = λ column from to all. has_bit-ones (column % 64) (omega arith);
  seen_is = λ column from to passes. All-nil (λ row. seen (bit_from first column row));
}

-- the columns of a word of this rank stand in that word
pub word-of_column : (rank word column : ℕ) → 64 * (2 ^ rank * word) ≤ column → column < 64 * (2 ^ rank * (word + 1)) → column / (64 * 2 ^ rank) ≡ word
word-of_column rank word column from to =
    let some : 0 < 64 * 2 ^ rank = omega (arith, pow_pos rank) in
    let low : word * (64 * 2 ^ rank) ≤ column = omega (arith, from) in
    let high : column < (word + 1) * (64 * 2 ^ rank) = omega (arith, to) in
    quotient column (64 * 2 ^ rank) word some low high
  where
    quotient : (n d q : ℕ) → 0 < d → q * d ≤ n → n < (q + 1) * d → n / d ≡ q
    quotient n d q some low high =
        let parts : n ≡ q * d + (n - q * d) = omega (arith, low) in
        ap (λ m. m / d) parts ∙ div-mul-add q d (n - q * d) (omega (arith, low, high))

pub bit-in_word : (first rank word column : ℕ) → 64 * (2 ^ rank * word) ≤ column → column < 64 * (2 ^ rank * (word + 1)) → (row : Row) → row.rank ≡ rank
    → bit_from first column row ≡ bit_in (first + word) (column % 64) row
bit-in_word first rank word column from to row is =
    let at : ℕ → Bit = λ n. record { word = n; bit = column % 64 } in
    let same : first + row.start + column / (64 * 2 ^ row.rank) ≡ first + word + row.start = omega (arith, ap (λ r. column / (64 * 2 ^ r)) is, word-of_column rank word column from to) in
    ap at same

all_same : {A : Type 0} (p q : A → Bool) (xs : List A) → All (λ x. p x ≡ q x) xs → list_all p xs ≡ list_all q xs
all_same p q [] same = refl
all_same p q (x ∷ xs) same =
    ap (λ b. b && list_all p xs) (All-head (λ y. p y ≡ q y) x xs same) ∙ ap (λ b. q x && b) (all_same p q xs (All-tail (λ y. p y ≡ q y) x xs same))

-- whether rows of a rank have a column is whether they have its bit at the column's word
pub all_have-column : (words : List ℕ) (first rank word column : ℕ) → 64 * (2 ^ rank * word) ≤ column → column < 64 * (2 ^ rank * (word + 1)) → (rows : List Row) → All (λ row. row.rank ≡ rank) rows
    → has_all words first rows column ≡ all_have words (first + word) rows (column % 64)
all_have-column words first rank word column from to rows ranks =
    all_same (λ row. is_set words (bit_from first column row)) (λ row. is_set words (bit_in (first + word) (column % 64) row)) rows
    (λ k row inside. ap (is_set words) (bit-in_word first rank word column from to (get_or rows k row) (ranks k row inside)))

-- the bits that are left of more rows, which are of one rank
pub test-more : (told : Option (List ℕ)) (least seen after : Bit → Type 0) → ((bit : Bit) → seen bit → after bit) → (first rank word running left : ℕ) (rows planned : List Row) → All (λ row. row.rank ≡ rank) planned
    → IsTestOf told least seen first rows (64 * (2 ^ rank * word)) (64 * (2 ^ rank * (word + 1))) (has_column running)
    → ((words : List ℕ) → told ≡ Some words → IsLeft words (first + word) running planned left) → HasLeast least (first + word) running planned left
    → ((bit : ℕ) → has_bit left bit ≡ true → has_bit running bit ≡ true) → WasSeen after (first + word) planned left
    → IsTestOf told least after first (rows ++ planned) (64 * (2 ^ rank * word)) (64 * (2 ^ rank * (word + 1))) (has_column left)
test-more told least seen after stays first rank word running left rows planned ranks is told_left has_least runs was_seen = record {
  told_is = λ words told_is column from to.
      told_left words told_is (column % 64)
      ∙ ap (λ b. b && all_have words (first + word) planned (column % 64)) (is.told_is words told_is column from to)
      ∙ ap (λ b. has_all words first rows column && b) (sym (all_have-column words first rank word column from to planned ranks))
      ∙ sym (list_all-append (λ row. is_set words (bit_from first column row)) rows planned);
  least_is = λ column from to all.
      let two = All-split (λ row. least (bit_from first column row)) rows planned all in
      has_least (column % 64) (is.least_is column from to two.0)
      (λ k row inside. subst least (bit-in_word first rank word column from to (get_or planned k row) (ranks k row inside)) (two.1 k row inside));
  seen_is = λ column from to passes.
      All-joined (λ row. after (bit_from first column row)) rows planned
      (λ k row inside. stays (bit_from first column (get_or rows k row)) (is.seen_is column from to (runs (column % 64) passes) k row inside))
      (λ k row inside. subst after (sym (bit-in_word first rank word column from to (get_or planned k row) (ranks k row inside))) (was_seen (column % 64) passes k row inside));
}
