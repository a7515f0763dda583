-- How many words a walk reads.
use Rattle.std.proofs.Common.{◌≡◌, ℕ, ◌+◌, ◌-◌, ◌*◌, ◌/◌, ◌%◌, ◌^◌, ◌<◌, ◌≤◌, ⊎_elim, List, ◌++◌, [], ◌∷◌, Bool, true, false, ◌&&◌, cond, eqb, zero, suc, get_or, length, ap, sym, ◌∙◌, refl, append_assoc, arith}
use Rattle.std.specs.Prelude.{bit_and, count_by, slice_index}
use Rattle.std.specs.List.{All, list_any, range_with_len}
use Rattle.std.proofs.Math.Pow.{shr_mono}
use Rattle.std.proofs.lemmas.Bool.{cases_eq}
use Rattle.std.proofs.lemmas.Bool.Decides.{nat_tests}
use Rattle.std.proofs.lemmas.List.{append-nil}
use Rattle.std.proofs.lemmas.List.Elements.{All-head, All-tail}
use Rattle.std.proofs.lemmas.List.Folds.{list_all-append, list_any_at, list_any_none}
use Rattle.std.proofs.lemmas.List.FromFn.{get_or-range_with_len, length-range_with_len}
use Rattle.std.proofs.lemmas.List.Sums.{sum_by-append, sum_by-cons}
use Rattle.std.proofs.lemmas.Nat.{and_le_l, div-mul-add, mul-le, pow_pos}
use Rattle.rank_matcher.specs.Reads.{columns_of_word}
use Rattle.rank_matcher.specs.Walk.{IsWhole, bit_in, has_all, has_column, reads_between, reads_left, words_between}
use Rattle.rank_matcher.proofs.Bits.{has_bit-and, has_bit-zero}
use Rattle.rank_matcher.proofs.Blocks.{range_split}
use Rattle.rank_matcher.proofs.ColumnTests.{bit-in_word}
use Rattle.rank_matcher.proofs.Intersections.{and_true}
use Rattle.rank_matcher.proofs.SetBits.{some_bit}
use Rattle.row_layout.specs.DocumentBits.{bit_from}
use Rattle.row_layout.specs.declared.row.Row.{Row}
use Rattle.row_read.specs.Bits.{has_bit, is_set}

-- the words of one row more
words-cons : (row : Row) (rows : List Row) (a b : ℕ) → words_between (row ∷ rows) a b ≡ b / 2 ^ row.rank - a / 2 ^ row.rank + words_between rows a b
words-cons row rows a b = sum_by-cons (λ (r : Row). b / 2 ^ r.rank - a / 2 ^ r.rank) row rows

-- two ranges of words, one after the other
range-joined : (k a b c : ℕ) → a ≤ b → b ≤ c
    → range_with_len (a / 2 ^ k) (c / 2 ^ k - a / 2 ^ k) ≡ range_with_len (a / 2 ^ k) (b / 2 ^ k - a / 2 ^ k) ++ range_with_len (b / 2 ^ k) (c / 2 ^ k - b / 2 ^ k)
range-joined k a b c low high =
    let d : ℕ = 2 ^ k in
    let p : a / d ≤ b / d = shr_mono k low in
    let q : b / d ≤ c / d = shr_mono k high in
    let n : c / d - a / d ≡ b / d - a / d + (c / d - b / d) = omega (arith, p, q) in
    let next : a / d + (b / d - a / d) ≡ b / d = omega (arith, p) in
    ap (range_with_len (a / d)) n ∙ range_split (a / d) (b / d - a / d) (c / d - b / d) ∙ ap (λ k. range_with_len (a / d) (b / d - a / d) ++ range_with_len k (c / d - b / d)) next

-- the reads over two ranges
pub reads-split : (words : List ℕ) (first : ℕ) (before rows : List Row) (a b c : ℕ) → a ≤ b → b ≤ c → reads_between words first before rows a c ≡ reads_between words first before rows a b + reads_between words first before rows b c
reads-split words first before [] a b c low high = refl
reads-split words first before (row ∷ later) a b c low high =
    let p : ℕ → Bool = λ word. list_any (has_all words first before) (columns_of_word row.rank word) in
    let d : ℕ = 2 ^ row.rank in
    let here = ap (count_by p) (range-joined row.rank a b c low high) ∙ sum_by-append (λ word. cond (p word) 1 0) (range_with_len (a / d) (b / d - a / d)) (range_with_len (b / d) (c / d - b / d)) in
    omega (arith, here, reads-split words first (before ++ row ∷ []) later a b c low high)

pub words-split : (rows : List Row) (a b c : ℕ) → a ≤ b → b ≤ c → words_between rows a c ≡ words_between rows a b + words_between rows b c
words-split [] a b c low high = refl
words-split (row ∷ later) a b c low high =
    let p : a / 2 ^ row.rank ≤ b / 2 ^ row.rank = shr_mono row.rank low in
    let q : b / 2 ^ row.rank ≤ c / 2 ^ row.rank = shr_mono row.rank high in
    omega (arith, p, q, words-split later a b c low high, words-cons row later a c, words-cons row later a b, words-cons row later b c)

pub words-append : (rows later : List Row) (a b : ℕ) → words_between (rows ++ later) a b ≡ words_between rows a b + words_between later a b
words-append rows later a b = sum_by-append (λ (r : Row). b / 2 ^ r.rank - a / 2 ^ r.rank) rows later

-- none of no words
pub reads-none : (words : List ℕ) (first : ℕ) (before rows : List Row) (a : ℕ) → reads_between words first before rows a a ≡ 0
reads-none words first before [] a = refl
reads-none words first before (row ∷ later) a =
    let p : ℕ → Bool = λ word. list_any (has_all words first before) (columns_of_word row.rank word) in
    let e : a / 2 ^ row.rank - a / 2 ^ row.rank ≡ 0 = omega arith in
    let here = ap (λ n. count_by p (range_with_len (a / 2 ^ row.rank) n)) e in
    omega (arith, here, reads-none words first (before ++ row ∷ []) later a)

pub words-none : (rows : List Row) (a : ℕ) → words_between rows a a ≡ 0
words-none [] a = refl
words-none (row ∷ later) a = omega (arith, words-none later a, words-cons row later a a)

-- the reads of rows and of others after them
pub reads-append : (words : List ℕ) (first : ℕ) (before rows later : List Row) (a b : ℕ)
    → reads_between words first before (rows ++ later) a b ≡ reads_between words first before rows a b + reads_between words first (before ++ rows) later a b
reads-append words first before [] later a b = ap (λ (xs : List Row). reads_between words first xs later a b) (sym (append-nil before)) ∙ (let e : reads_between words first (before ++ []) later a b ≡ 0 + reads_between words first (before ++ []) later a b = omega arith in e)
reads-append words first before (row ∷ rows) later a b =
    let rest = reads-append words first (before ++ row ∷ []) rows later a b
    ∙ ap (λ (xs : List Row). reads_between words first (before ++ row ∷ []) rows a b + reads_between words first xs later a b) (append_assoc before (row ∷ []) rows) in
    omega (arith, rest)

-- no column of the range passes
abbrev pub NonePasses : List ℕ → ℕ → List Row → ℕ → ℕ → Type 0
NonePasses words first rows a b = (column : ℕ) → 64 * a ≤ column → column < 64 * b → has_all words first rows column ≡ false

none-more : (words : List ℕ) (first : ℕ) (rows : List Row) (row : Row) (a b : ℕ) → NonePasses words first rows a b → NonePasses words first (rows ++ row ∷ []) a b
none-more words first rows row a b none column from to =
    list_all-append (λ r. is_set words (bit_from first column r)) rows (row ∷ [])
    ∙ ap (λ t. t && has_all words first (row ∷ []) column) (none column from to)

-- no number of a range passes
count-none : (p : ℕ → Bool) (a n : ℕ) → ((k : ℕ) → a ≤ k → k < a + n → p k ≡ false) → count_by p (range_with_len a n) ≡ 0
count-none p a zero none = refl
count-none p a (suc n) none =
    let here : cond (p a) 1 0 ≡ 0 = ap (λ (b : Bool). cond {A = ℕ} b 1 0) (none a (omega arith) (omega arith)) in
    omega (arith, here, sum_by-cons (λ k. cond (p k) 1 0) a (range_with_len (a + 1) n), count-none p (a + 1) n (λ k low high. none k (omega (arith, low)) (omega (arith, high))))

-- where no column passes the rows before, no word is read
pub reads-where_none : (words : List ℕ) (first : ℕ) (before rows : List Row) (a b : ℕ) → NonePasses words first before a b → All (IsWhole a b) rows → reads_between words first before rows a b ≡ 0
reads-where_none words first before [] a b none whole = refl
reads-where_none words first before (row ∷ later) a b none whole =
    let p : ℕ → Bool = λ word. list_any (has_all words first before) (columns_of_word row.rank word) in
    let d : ℕ = 2 ^ row.rank in
    let is = All-head (IsWhole a b) row later whole in
    let some : 0 < d = pow_pos row.rank in
    let here : count_by p (range_with_len (a / d) (b / d - a / d)) ≡ 0 =
    count-none p (a / d) (b / d - a / d)
    (λ word low high.
    let below : word + 1 ≤ b / d = omega (arith, low, high) in
    list_any_none (has_all words first before) (columns_of_word row.rank word)
    (λ k other inside.
    let within : k < 64 * d = omega (arith, inside, length-range_with_len (64 * d * word) (64 * d)) in
    let at : get_or (columns_of_word row.rank word) k other ≡ 64 * d * word + k = get_or-range_with_len (64 * d * word) (64 * d) k other within in
    ap (has_all words first before) at
    ∙ none (64 * d * word + k)
    (omega (arith, is.begins, mul-le d (a / d) d word (omega arith) low))
    (omega (arith, within, is.ends, mul-le d (word + 1) d (b / d) (omega arith) below)))) in
    omega (arith, here, reads-where_none words first (before ++ row ∷ []) later a b (none-more words first before row a b none) (All-tail (IsWhole a b) row later whole))

-- bits in common with others are no more
left-small : (running read : ℕ) → running < 2 ^ 64 → bit_and running read < 2 ^ 64
left-small running read small = omega (arith, and_le_l running read)

-- a column of the word passes where the word has a bit left
some-passes : (words : List ℕ) (first rank word running : ℕ) (before : List Row) → 0 < running → running < 2 ^ 64
    → ((column : ℕ) → 64 * (2 ^ rank * word) ≤ column → column < 64 * (2 ^ rank * (word + 1)) → has_column running column ≡ has_all words first before column)
    → list_any (has_all words first before) (columns_of_word rank word) ≡ true
some-passes words first rank word running before some small is =
    let bit = some_bit running some small in
    let d : ℕ = 2 ^ rank in
    let start : ℕ = 64 * d * word in
    let many : 0 < d = pow_pos rank in
    let within : bit.0 < 64 * d = omega (arith, bit.1, mul-le 64 1 64 d (omega arith) (omega arith)) in
    let inside : bit.0 < length (columns_of_word rank word) = omega (arith, within, length-range_with_len start (64 * d)) in
    let at : get_or (columns_of_word rank word) bit.0 0 ≡ start + bit.0 = get_or-range_with_len start (64 * d) bit.0 0 within in
    let column_bit : (start + bit.0) % 64 ≡ bit.0 = omega (arith, bit.1) in
    list_any_at (has_all words first before) (columns_of_word rank word) bit.0 0 inside
    (ap (has_all words first before) at ∙ sym (is (start + bit.0) (omega arith) (omega (arith, within))) ∙ ap (has_bit running) column_bit ∙ bit.2)

-- a power of two by a lower one
pub whole_of_rank : (rank word : ℕ) → 2 ^ rank * word / 2 ^ rank ≡ word
whole_of_rank rank word =
    let some : 0 < 2 ^ rank = pow_pos rank in
    let e : 2 ^ rank * word ≡ word * 2 ^ rank + 0 = omega arith in
    ap (λ n. n / 2 ^ rank) e ∙ div-mul-add word (2 ^ rank) 0 some

-- the only word of a row of this rank in its own range
own_word : (rank word : ℕ) → range_with_len (2 ^ rank * word / 2 ^ rank) (2 ^ rank * (word + 1) / 2 ^ rank - 2 ^ rank * word / 2 ^ rank) ≡ word ∷ []
own_word rank word =
    let e : word + 1 - word ≡ 1 = omega arith in
    ap (λ n. range_with_len n (2 ^ rank * (word + 1) / 2 ^ rank - n)) (whole_of_rank rank word)
    ∙ ap (λ n. range_with_len word (n - word)) (whole_of_rank rank (word + 1))
    ∙ ap (range_with_len word) e

pub words-of_level : (rank word : ℕ) (rows : List Row) → All (λ row. row.rank ≡ rank) rows → words_between rows (2 ^ rank * word) (2 ^ rank * (word + 1)) ≡ length rows
words-of_level rank word [] ranks = refl
words-of_level rank word (row ∷ later) ranks =
    let is = All-head (λ (r : Row). r.rank ≡ rank) row later ranks in
    let here : 2 ^ rank * (word + 1) / 2 ^ row.rank - 2 ^ rank * word / 2 ^ row.rank ≡ 1 =
    ap (λ r. 2 ^ rank * (word + 1) / 2 ^ r - 2 ^ rank * word / 2 ^ r) is ∙ ap (λ n. n - 2 ^ rank * word / 2 ^ rank) (whole_of_rank rank (word + 1)) ∙ ap (λ n. word + 1 - n) (whole_of_rank rank word)
    ∙ (let e : word + 1 - word ≡ 1 = omega arith in e) in
    omega (arith, here, words-cons row later (2 ^ rank * word) (2 ^ rank * (word + 1)), words-of_level rank word later (All-tail (λ (r : Row). r.rank ≡ rank) row later ranks))

-- the reads of rows of one rank at one word are those of the bits that are left
pub reads-of_level : (words : List ℕ) (first rank word running : ℕ) (before rows : List Row) → All (λ row. row.rank ≡ rank) rows → All (IsWhole (2 ^ rank * word) (2 ^ rank * (word + 1))) rows → 0 < running → running < 2 ^ 64
    → ((column : ℕ) → 64 * (2 ^ rank * word) ≤ column → column < 64 * (2 ^ rank * (word + 1)) → has_column running column ≡ has_all words first before column)
    → reads_between words first before rows (2 ^ rank * word) (2 ^ rank * (word + 1)) ≡ reads_left words (first + word) running rows
reads-of_level words first rank word running before [] ranks whole some small is = refl
reads-of_level words first rank word running before (row ∷ later) ranks whole some small is =
    let a : ℕ = 2 ^ rank * word in
    let b : ℕ = 2 ^ rank * (word + 1) in
    let own = All-head (λ (r : Row). r.rank ≡ rank) row later ranks in
    let left : ℕ = bit_and running (slice_index words (first + word + row.start)) in
    let here : count_by (λ w. list_any (has_all words first before) (columns_of_word row.rank w)) (range_with_len (a / 2 ^ row.rank) (b / 2 ^ row.rank - a / 2 ^ row.rank)) ≡ 1 =
    ap (λ r. count_by (λ w. list_any (has_all words first before) (columns_of_word r w)) (range_with_len (a / 2 ^ r) (b / 2 ^ r - a / 2 ^ r))) own
    ∙ ap (count_by (λ w. list_any (has_all words first before) (columns_of_word rank w))) (own_word rank word)
    ∙ sum_by-cons (λ w. cond (list_any (has_all words first before) (columns_of_word rank w)) 1 0) word []
    ∙ ap (λ t. cond {A = ℕ} t 1 0 + 0) (some-passes words first rank word running before some small is) in
    let next : (column : ℕ) → 64 * a ≤ column → column < 64 * b → has_column left column ≡ has_all words first (before ++ row ∷ []) column =
    λ column from to.
    has_bit-and running (slice_index words (first + word + row.start)) (column % 64)
    ∙ ap (λ t. t && is_set words (bit_in (first + word) (column % 64) row)) (is column from to)
    ∙ ap (λ t. has_all words first before column && is_set words t) (sym (bit-in_word first rank word column from to row own))
    ∙ ap (λ t. has_all words first before column && t) (sym (and_true (is_set words (bit_from first column row))))
    ∙ sym (list_all-append (λ r. is_set words (bit_from first column r)) before (row ∷ [])) in
    let ranks' = All-tail (λ (r : Row). r.rank ≡ rank) row later ranks in
    let whole' = All-tail (IsWhole a b) row later whole in
    let rest : reads_between words first (before ++ row ∷ []) later a b ≡ cond (eqb left 0) 0 (reads_left words (first + word) left later) =
    ⊎_elim
    (λ (zero_left : left ≡ 0).
    let t : eqb left 0 ≡ true = grind (arith, nat_tests) in
    reads-where_none words first (before ++ row ∷ []) later a b
    (λ column from to. sym (next column from to) ∙ ap (λ n. has_bit n (column % 64)) zero_left ∙ has_bit-zero (column % 64)) whole'
    ∙ sym (ap (λ c. cond c 0 (reads_left words (first + word) left later)) t))
    (λ (more : left ≡ 0 → ⊥).
    let t : eqb left 0 ≡ false = grind (arith, nat_tests) in
    reads-of_level words first rank word left (before ++ row ∷ []) later ranks' whole' (omega arith) (left-small running (slice_index words (first + word + row.start)) small) next
    ∙ sym (ap (λ c. cond c 0 (reads_left words (first + word) left later)) t))
    (cases_eq left 0) in
    omega (arith, here, rest)
