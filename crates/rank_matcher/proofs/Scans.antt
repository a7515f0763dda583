-- What a scan of a whole slice has found and read.
use Rattle.std.proofs.Common.{◌≡◌, ℕ, ◌+◌, ◌-◌, ◌*◌, ◌/◌, ◌^◌, ◌<◌, ◌≤◌, List, ◌++◌, [], ◌∷◌, Bool, true, false, Contains, ap, sym, subst, ◌∙◌, refl, append_assoc, arith}
use Rattle.std.specs.Prelude.{count_by, filter, leb, ltb}
use Rattle.std.specs.List.{All, list_any, range_with_len}
use Rattle.std.specs.List.Sorted.{IsStrictlySortedBy}
use Rattle.std.specs.Ordering.{nat_cmp}
use Rattle.std.specs.declared.option.Option.{Option}
use Rattle.std.specs.declared.option.Option.TheVariants.{Some}
use Rattle.std.proofs.lemmas.Bool.Decides.{nat_tests}
use Rattle.std.proofs.lemmas.List.Elements.{All-head, All-tail}
use Rattle.std.proofs.lemmas.List.Sums.{sum_by-cons}
use Rattle.std.proofs.lemmas.Nat.{div-mul-add, pow-add, pow_pos}
use Rattle.funnel_model.specs.Legal.{IsInSlice}
use Rattle.funnel_model.specs.Sizes.{columns_of_slice, words_of_slice}
use Rattle.funnel_model.specs.declared.bit_list.Bit.{Bit}
use Rattle.funnel_model.specs.declared.config.Config.{Config}
use Rattle.rank_matcher.specs.Appended.{IsBeginning, appended, candidates_of}
use Rattle.rank_matcher.specs.Hits.{hits, is_hit}
use Rattle.rank_matcher.specs.Reads.{columns_of_word, reads_after, words_of_plan}
use Rattle.rank_matcher.specs.Walk.{HasFound, HasFoundPart, IsReadable, IsWhole, passing, reads_between, words_between}
use Rattle.rank_matcher.proofs.Passing.{appended-is, passing-same, passing-split}
use Rattle.rank_matcher.proofs.Ranges.{front-all, front-rising, passing-all, passing-contains, passing-rising}
use Rattle.row_layout.specs.DocumentBits.{bit_of_row, slice_start}
use Rattle.row_layout.specs.Layouts.{LayoutId}
use Rattle.row_layout.specs.Orders.{rows_below_rank, rows_from_rank}
use Rattle.row_layout.specs.declared.row.Row.{Row}
use Rattle.row_layout.proofs.Spans.{IsSpan, rows_more}

-- a slice has 64 columns for each word of rank 0
pub words-of_slice : (config : Config) → 64 * (columns_of_slice config / 64) ≡ columns_of_slice config
words-of_slice config = omega arith

-- the words of rank 0 that a slice has
pub words-of_rank0 : (config : Config) → columns_of_slice config / 64 ≡ 2 ^ config.max_rank * config.blocks
words-of_rank0 config = omega arith

-- it has no word before the slice, and as many words in the slice as it has
pub record SpansSlice (config : Config) (row : Row) : Type 0 where
  pub none : 0 / 2 ^ row.rank ≡ 0
  pub width : columns_of_slice config / 64 / 2 ^ row.rank ≡ row.width

pub over-of_row : (config : Config) (row : Row) → IsSpan config row → SpansSlice config row
over-of_row config row span =
    let p : ℕ = 2 ^ row.rank in
    let q : ℕ = 2 ^ (config.max_rank - row.rank) in
    let to : ℕ = columns_of_slice config / 64 in
    let some : 0 < p = pow_pos row.rank in
    let n : row.rank + (config.max_rank - row.rank) ≡ config.max_rank = omega (arith, span.rank) in
    let power : 2 ^ config.max_rank ≡ p * q = ap (λ k. 2 ^ k) (sym n) ∙ pow-add 2 row.rank (config.max_rank - row.rank) in
    let is : to ≡ q * config.blocks * p + 0 = words-of_rank0 config ∙ ap (λ k. k * config.blocks) power ∙ (let e : p * q * config.blocks ≡ q * config.blocks * p + 0 = omega arith in e) in
    record {
      none = (let e : 0 ≡ 0 * p + 0 = omega arith in ap (λ k. k / p) e) ∙ div-mul-add 0 p 0 some;
      width = ap (λ k. k / p) is ∙ div-mul-add (q * config.blocks) p 0 some ∙ sym span.width;
    }

-- a row of a configuration is whole over its slice
pub whole-of_row : (config : Config) (row : Row) → IsSpan config row → IsWhole 0 (columns_of_slice config / 64) row
whole-of_row config row span =
    let p : ℕ = 2 ^ row.rank in
    let q : ℕ = 2 ^ (config.max_rank - row.rank) in
    let to : ℕ = columns_of_slice config / 64 in
    let over = over-of_row config row span in
    let n : row.rank + (config.max_rank - row.rank) ≡ config.max_rank = omega (arith, span.rank) in
    let power : 2 ^ config.max_rank ≡ p * q = ap (λ k. 2 ^ k) (sym n) ∙ pow-add 2 row.rank (config.max_rank - row.rank) in
    let wide : p * row.width ≡ to = ap (λ k. p * k) span.width ∙ (let e : p * (q * config.blocks) ≡ p * q * config.blocks = omega arith in e) ∙ ap (λ k. k * config.blocks) (sym power) ∙ sym (words-of_rank0 config) in
    record {
      begins = ap (λ k. p * k) over.none ∙ (let e : p * 0 ≡ 0 = omega arith in e);
      ends = ap (λ k. p * k) over.width ∙ wide;
      within = omega (arith, wide);
    }

-- the reads of a walk over the whole slice are those of a scan
pub reads-of_slice : (layout : LayoutId) (words : List ℕ) (slice : ℕ) (before rows : List Row) → All (SpansSlice layout.config) rows
    → reads_between words (slice_start layout.room slice) before rows 0 (columns_of_slice layout.config / 64) ≡ reads_after layout words before rows slice
reads-of_slice layout words slice before [] over = refl
reads-of_slice layout words slice before (row ∷ later) over =
    let config = layout.config in
    let is = All-head (SpansSlice config) row later over in
    let p : ℕ → Bool = λ word. list_any (is_hit layout words before slice) (columns_of_word row.rank word) in
    let width : columns_of_slice config / 64 / 2 ^ row.rank - 0 ≡ row.width = omega (arith, is.width) in
    let here = ap (λ n. count_by p (range_with_len n (columns_of_slice config / 64 / 2 ^ row.rank - n))) is.none ∙ ap (λ n. count_by p (range_with_len 0 n)) width in
    omega (arith, here, reads-of_slice layout words slice (before ++ row ∷ []) later (All-tail (SpansSlice config) row later over))

pub words-of_slice_rows : (config : Config) (rows : List Row) → All (SpansSlice config) rows → words_between rows 0 (columns_of_slice config / 64) ≡ words_of_plan rows
words-of_slice_rows config [] over = refl
words-of_slice_rows config (row ∷ later) over =
    let is = All-head (SpansSlice config) row later over in
    omega (
      arith,
      is.none,
      is.width,
      sum_by-cons (λ (r : Row). columns_of_slice config / 64 / 2 ^ r.rank - 0 / 2 ^ r.rank) row later,
      sum_by-cons (λ (r : Row). r.width) row later,
      words-of_slice_rows config later (All-tail (SpansSlice config) row later over),
    )

-- every rank is below 7, so that there are no rows from it on, and all below it
pub none_from_rank : (rows : List Row) → All (λ row. row.rank ≤ 6) rows → rows_from_rank 7 rows ≡ []
none_from_rank [] low = refl
none_from_rank (row ∷ rows) low =
    let is = All-head (λ (r : Row). r.rank ≤ 6) row rows low in
    let t : leb 7 row.rank ≡ false = grind (arith, nat_tests) in
    rw t (none_from_rank rows (All-tail (λ (r : Row). r.rank ≤ 6) row rows low))

pub all_below_rank : (rows : List Row) → All (λ row. row.rank ≤ 6) rows → rows_below_rank 7 rows ≡ rows
all_below_rank [] low = refl
all_below_rank (row ∷ rows) low =
    let is = All-head (λ (r : Row). r.rank ≤ 6) row rows low in
    let t : ltb row.rank 7 ≡ true = grind (arith, nat_tests) in
    rw t (ap (λ (xs : List Row). row ∷ xs) (all_below_rank rows (All-tail (λ (r : Row). r.rank ≤ 6) row rows low)))

-- the words of a row of a configuration may be read
pub readable-row : (layout : LayoutId) (reach : ℕ → Type 0) (slice first : ℕ) → words_of_slice layout.config ≤ layout.room → layout.config.slices * layout.room ≤ 33554432
    → slice < layout.config.slices → first ≡ slice_start layout.room slice → ((word : ℕ) → IsInSlice layout.room slice word → reach word)
    → (row : Row) → IsSpan layout.config row → IsReadable reach first row
readable-row layout reach slice first room small in_pool is can row span =
    let within = rows_more slice layout.config.slices layout.room in_pool in
    record {
      reaches = λ word low. can (first + row.start + word) (record { from = omega (arith, is); to = omega (arith, is, low, span.within, room) });
      fits = omega (arith, is, within, small, span.within, room);
    }

-- what a scan that came to its end, or stopped, has found
module _ (told : Option (List ℕ)) (least seen : Bit → Type 0) (layout : LayoutId) (plan : List Row) (slice : ℕ) (old new : List (ℕ × ℕ)) where
  abbrev pub Part : Type 0
  Part = HasFoundPart told least seen (slice_start layout.room slice) plan slice 0 (columns_of_slice layout.config) old new

  abbrev pub Whole : Type 0
  Whole = HasFound told least seen (slice_start layout.room slice) plan slice 0 (columns_of_slice layout.config) old new

  pub part-appends : Part → new ≡ old ++ candidates_of slice (appended old new)
  part-appends f = f.appended ∙ ap (λ (xs : List ℕ). old ++ candidates_of slice xs) (sym (appended-is slice old new f.front f.appended))

  pub part-in_slice : Part → All (λ column. column < columns_of_slice layout.config) (appended old new)
  part-in_slice f =
      let P = λ (column : ℕ). column < columns_of_slice layout.config in
      subst (All P) (sym (appended-is slice old new f.front f.appended))
      (front-all P f.front f.rest (subst (All P) f.parts (passing-all f.test P 0 (f.n - 0) (λ k low passes. omega (arith, low, f.to)))))

  pub part-seen : Part → All (λ column. All (λ row. seen (bit_of_row layout.room slice column row)) plan) (appended old new)
  part-seen f =
      let P = λ (column : ℕ). All (λ row. seen (bit_of_row layout.room slice column row)) plan in
      subst (All P) (sym (appended-is slice old new f.front f.appended))
      (front-all P f.front f.rest (subst (All P) f.parts (passing-all f.test P 0 (f.n - 0) (λ k low passes. f.is_test.seen_is k (omega arith) (omega (arith, low)) passes))))

  pub part-rising : Part → IsStrictlySortedBy nat_cmp (appended old new)
  part-rising f =
      subst (IsStrictlySortedBy nat_cmp) (sym (appended-is slice old new f.front f.appended))
      (front-rising f.front f.rest (subst (IsStrictlySortedBy nat_cmp) f.parts (passing-rising f.test (f.n - 0))))

  -- the columns that pass up to n begin the hits
  pub part-of_hits : (words : List ℕ) → told ≡ Some words → Part → IsBeginning (appended old new) (hits layout words plan slice)
  unfolding hits
  part-of_hits words is f =
      let hit = is_hit layout words plan slice in
      let rest = passing hit f.n (columns_of_slice layout.config) in
      let whole : passing hit 0 (columns_of_slice layout.config) ≡ (f.front ++ f.rest) ++ rest =
      passing-split hit 0 f.n (columns_of_slice layout.config) (omega arith) f.to
      ∙ ap (λ (xs : List ℕ). xs ++ rest) (passing-same hit f.test 0 f.n (λ column from to. sym (f.is_test.told_is words is column from to)) ∙ f.parts) in
      subst (λ (xs : List ℕ). IsBeginning xs (hits layout words plan slice)) (sym (appended-is slice old new f.front f.appended))
      (f.rest ++ rest, ap (λ n. filter hit (range_with_len 0 n)) (let e : columns_of_slice layout.config ≡ columns_of_slice layout.config - 0 = omega arith in e) ∙ whole ∙ append_assoc f.front f.rest rest)

  pub all-hits : (words : List ℕ) → told ≡ Some words → Whole → appended old new ≡ hits layout words plan slice
  unfolding hits
  all-hits words is f =
      appended-is slice old new (passing f.test 0 (columns_of_slice layout.config)) f.appended
      ∙ passing-same f.test (is_hit layout words plan slice) 0 (columns_of_slice layout.config) (f.is_test.told_is words is)
      ∙ ap (λ n. filter (is_hit layout words plan slice) (range_with_len 0 n)) (let e : columns_of_slice layout.config - 0 ≡ columns_of_slice layout.config = omega arith in e)

  pub all-covered : Whole → (column : ℕ) → column < columns_of_slice layout.config → All (λ row. least (bit_of_row layout.room slice column row)) plan → Contains (appended old new) column
  all-covered f column low all =
      subst (λ (xs : List ℕ). Contains xs column) (sym (appended-is slice old new (passing f.test 0 (columns_of_slice layout.config)) f.appended))
      (passing-contains f.test (columns_of_slice layout.config - 0) column (omega (arith, low)) (f.is_test.least_is column (omega arith) low all))
