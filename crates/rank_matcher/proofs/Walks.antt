-- What a walk has found and read, part by part.
use Rattle.std.proofs.Common.{◌≡◌, ℕ, ◌+◌, ◌-◌, ◌*◌, ◌/◌, ◌%◌, ◌^◌, ◌<◌, ◌≤◌, List, ◌++◌, [], ◌∷◌, Bool, true, false, eqb, leb, ltb, get_or, length, ap, sym, subst, ◌∙◌, refl, append_assoc, arith}
use Rattle.std.specs.Prelude.{◌↔◌, IfSome, OnOk, Result, Ok, Err, filter}
use Rattle.std.specs.List.{All, range_with_len}
use Rattle.std.specs.declared.option.Option.{Option}
use Rattle.std.proofs.lemmas.Bool.Decides.{nat_tests}
use Rattle.std.proofs.lemmas.List.{append-nil}
use Rattle.std.proofs.lemmas.List.Elements.{All-filter, filter_passes}
use Rattle.std.proofs.lemmas.Nat.{div-mul-add, mul-le, pow-add, pow_pos}
use Rattle.funnel_model.specs.declared.bit_list.Bit.{Bit}
use Rattle.rank_matcher.specs.Appended.{candidates_of}
use Rattle.rank_matcher.specs.Walk.{bit_in, HasFound, HasFoundPart, HasRead, HasReadPart, HasReadPlace, IsReadable, IsTestOf, IsWhole, has_column, passing}
use Rattle.rank_matcher.proofs.Bits.{has_bit-zero}
use Rattle.rank_matcher.proofs.ColumnTests.{test-joined, test-later, test-more, test-none, test-zero}
use Rattle.rank_matcher.proofs.Intersections.{All-split, HasLeast, IsLeft, WasSeen, when_told}
use Rattle.rank_matcher.proofs.Passing.{candidates-append, joined, passing-joined, passing-none}
use Rattle.rank_matcher.proofs.ReadCounts.{reads-append, reads-none, reads-of_level, reads-split, reads-where_none, words-append, words-of_level, words-split}
use Rattle.row_layout.specs.DocumentBits.{bit_from}
use Rattle.row_layout.specs.Orders.{IsInPlanOrder, rows_below_rank, rows_from_rank, rows_of_rank}
use Rattle.row_layout.proofs.Ranked.{below_rank-parts, from_rank-parts}
use Rattle.row_layout.specs.declared.row.Row.{Row}
use Rattle.row_read.specs.Bits.{has_bit}

-- the rows of a rank have it
pub ranks-of_rank : (rank : ℕ) (rows : List Row) → All (λ row. row.rank ≡ rank) (rows_of_rank rank rows)
ranks-of_rank rank rows k d inside =
    let passes : eqb (get_or (rows_of_rank rank rows) k d).rank rank ≡ true = filter_passes (λ (row : Row). eqb row.rank rank) rows k d inside in
    grind (arith, nat_tests)

pub ranks-below : (rank : ℕ) (rows : List Row) → All (λ row. row.rank < rank) (rows_below_rank rank rows)
ranks-below rank rows k d inside =
    let passes : ltb (get_or (rows_below_rank rank rows) k d).rank rank ≡ true = filter_passes (λ (row : Row). ltb row.rank rank) rows k d inside in
    grind (arith, nat_tests)

-- a row that is whole over some words is whole over the words of one of a higher rank among them
pub whole-step : (from to rank word : ℕ) (row : Row) → IsWhole from to row → row.rank ≤ rank → 2 ^ rank * (word + 1) ≤ to → IsWhole (2 ^ rank * word) (2 ^ rank * (word + 1)) row
whole-step from to rank word row is low high = record {
  begins = part word;
  ends = part (word + 1);
  within = omega (arith, high, is.within);
}
  where
    part : (w : ℕ) → 2 ^ row.rank * (2 ^ rank * w / 2 ^ row.rank) ≡ 2 ^ rank * w
    part w =
        let p : ℕ = 2 ^ row.rank in
        let q : ℕ = 2 ^ (rank - row.rank) in
        let n : row.rank + (rank - row.rank) ≡ rank = omega (arith, low) in
        let whole : 2 ^ rank ≡ p * q = ap (λ k. 2 ^ k) (sym n) ∙ pow-add 2 row.rank (rank - row.rank) in
        let e : 2 ^ rank * w ≡ q * w * p + 0 = ap (λ k. k * w) whole ∙ (let f : p * q * w ≡ q * w * p + 0 = omega arith in f) in
        let d : 2 ^ rank * w / p ≡ q * w = ap (λ k. k / p) e ∙ div-mul-add (q * w) p 0 (pow_pos row.rank) in
        ap (λ k. p * k) d ∙ (let f : p * (q * w) ≡ q * w * p + 0 = omega arith in f) ∙ sym e

-- where rows of a rank are whole, the words begin and end with words of that rank
pub record IsLevel (from to rank : ℕ) : Type 0 where
  pub begins : 2 ^ rank * (from / 2 ^ rank) ≡ from
  pub ends : 2 ^ rank * (to / 2 ^ rank) ≡ to

pub level-is : (from to rank : ℕ) (rows : List Row) → 0 < length rows → All (λ row. row.rank ≡ rank) rows → All (IsWhole from to) rows → IsLevel from to rank
level-is from to rank rows some ranks whole =
    let row : Row = record { rank = 0; start = 0; width = 0 } in
    let first : Row = get_or rows 0 row in
    let is = whole 0 row some in
    let same = ranks 0 row some in
    record {
      begins = ap (λ r. 2 ^ r * (from / 2 ^ r)) (sym same) ∙ is.begins;
      ends = ap (λ r. 2 ^ r * (to / 2 ^ r)) (sym same) ∙ is.ends;
    }

-- a word of the level lies in the row
pub word-within : (from to rank word : ℕ) (row : Row) → IsWhole from to row → row.rank ≡ rank → 2 ^ rank * (word + 1) ≤ to → word < row.width
word-within from to rank word row is same high =
    let below : 2 ^ rank * (word + 1) ≤ 2 ^ rank * row.width = omega (arith, high, is.within, ap (λ r. 2 ^ r * row.width) same) in
    cancel (2 ^ rank) word row.width (pow_pos rank) below
  where
    cancel : (p w n : ℕ) → 0 < p → p * (w + 1) ≤ p * n → w < n
    cancel p w n some below = grind (arith, mul-le p n p w)

no_filter : (xs : List ℕ) → filter (λ (x : ℕ). false) xs ≡ []
no_filter [] = refl
no_filter (x ∷ xs) = no_filter xs

module _ (told : Option (List ℕ)) (least : Bit → Type 0) (first : ℕ) (plan : List Row) (slice : ℕ) where
  -- nothing is found in no columns
  pub found-none : (seen : Bit → Type 0) (a : ℕ) (old : List (ℕ × ℕ)) → HasFound told least seen first plan slice a a old old
  found-none seen a old = record {
    test = λ _. false;
    is_test = test-none told least seen first plan a;
    appended = sym (append-nil old) ∙ ap (λ xs. old ++ candidates_of slice xs) (sym (passing-none (λ _. false) a));
  }

  -- what is found in two ranges
  pub found-joined : (seen after : Bit → Type 0) → ((bit : Bit) → seen bit → after bit) → (a b c : ℕ) (old mid new : List (ℕ × ℕ)) → a ≤ b → b ≤ c
      → HasFound told least seen first plan slice a b old mid → HasFound told least after first plan slice b c mid new → HasFound told least after first plan slice a c old new
  found-joined seen after stays a b c old mid new low high is then = record {
    test = joined b is.test then.test;
    is_test = test-joined told least seen after stays first plan a b c is.test then.test is.is_test then.is_test;
    appended =
        candidates-append slice old mid new (passing is.test a b) (passing then.test b c) is.appended then.appended
        ∙ ap (λ xs. old ++ candidates_of slice xs) (sym (passing-joined is.test then.test a b c low high));
  }

  pub part-joined : (seen after : Bit → Type 0) → ((bit : Bit) → seen bit → after bit) → (a b c d : ℕ) (old mid new : List (ℕ × ℕ)) → a ≤ b → c ≤ d
      → HasFound told least seen first plan slice a b old mid → HasFoundPart told least after first plan slice b c mid new → HasFoundPart told least after first plan slice a d old new
  part-joined seen after stays a b c d old mid new low high is then = record {
    n = then.n;
    from = omega (arith, low, then.from);
    to = omega (arith, high, then.to);
    test = joined b is.test then.test;
    is_test = test-joined told least seen after stays first plan a b then.n is.test then.test is.is_test then.is_test;
    front = passing is.test a b ++ then.front;
    rest = then.rest;
    parts =
        passing-joined is.test then.test a b then.n low then.from
        ∙ ap (λ (xs : List ℕ). passing is.test a b ++ xs) then.parts
        ∙ sym (append_assoc (passing is.test a b) then.front then.rest);
    appended = candidates-append slice old mid new (passing is.test a b) then.front is.appended then.appended;
  }

  -- the whole is a part
  pub part-from_found : (seen : Bit → Type 0) (a b : ℕ) (old new : List (ℕ × ℕ)) → a ≤ b → HasFound told least seen first plan slice a b old new → HasFoundPart told least seen first plan slice a b old new
  part-from_found seen a b old new low is = record {
    n = b;
    from = low;
    to = omega arith;
    test = is.test;
    is_test = is.is_test;
    front = passing is.test a b;
    rest = [];
    parts = sym (append-nil (passing is.test a b));
    appended = is.appended;
  }

  -- where no bit is left of some of the rows, there is nothing to find
  pub found-zero : (seen : Bit → Type 0) (rows later : List Row) → plan ≡ rows ++ later → (a b left : ℕ) (old : List (ℕ × ℕ)) → left ≡ 0
      → IsTestOf told least seen first rows a b (has_column left) → HasFound told least seen first plan slice a b old old
  found-zero seen rows later parts a b left old zero is = record {
    test = λ _. false;
    is_test = subst (λ (xs : List Row). IsTestOf told least seen first xs a b (λ _. false)) (sym parts) (test-zero told least seen first rows later a b left zero is);
    appended = sym (append-nil old) ∙ ap (λ xs. old ++ candidates_of slice xs) (sym (no_filter (range_with_len a (b - a))));
  }

-- no words are read of no words
pub read-none : (told : Option (List ℕ)) (first : ℕ) (before rows : List Row) (a reads : ℕ) → HasRead told first before rows a a reads reads
read-none told first before rows a reads = record {
  count = 0;
  is = omega arith;
  at_most = omega arith;
  told_is = λ words is. sym (reads-none words first before rows a);
}

pub read-joined : (told : Option (List ℕ)) (first : ℕ) (before rows : List Row) (a b c old mid new : ℕ) → a ≤ b → b ≤ c
    → HasRead told first before rows a b old mid → HasRead told first before rows b c mid new → HasRead told first before rows a c old new
read-joined told first before rows a b c old mid new low high is then = record {
  count = is.count + then.count;
  is = omega (arith, is.is, then.is);
  at_most = omega (arith, is.at_most, then.at_most, words-split rows a b c low high);
  told_is = λ words told_is. omega (arith, is.told_is words told_is, then.told_is words told_is, reads-split words first before rows a b c low high);
}

pub read-part_joined : (told : Option (List ℕ)) (first : ℕ) (before rows : List Row) (a b c d old mid new : ℕ) → a ≤ b → b ≤ c → c ≤ d
    → HasRead told first before rows a b old mid → HasReadPart told first before rows b c mid new → HasReadPart told first before rows a d old new
read-part_joined told first before rows a b c d old mid new low high end is then = record {
  count = is.count + then.count;
  is = omega (arith, is.is, then.is);
  at_most = omega (arith, is.at_most, then.at_most, words-split rows a b c low high, words-split rows a c d (omega arith) end);
  told_at_most = λ words told_is.
      omega (arith, is.told_is words told_is, then.told_at_most words told_is, reads-split words first before rows a b c low high, reads-split words first before rows a c d (omega arith) end);
}

pub part-from_read : (told : Option (List ℕ)) (first : ℕ) (before rows : List Row) (a b old new : ℕ) → HasRead told first before rows a b old new → HasReadPart told first before rows a b old new
part-from_read told first before rows a b old new is = record {
  count = is.count;
  is = is.is;
  at_most = is.at_most;
  told_at_most = λ words told_is. omega (arith, is.told_is words told_is);
}

-- the reads of the rows of a rank at one word, with those of the rows below it there
module _ (told : Option (List ℕ)) (least seen : Bit → Type 0) (first rank word running : ℕ) (before planned later : List Row) (ranks : All (λ row. row.rank ≡ rank) planned)
    (whole : All (IsWhole (2 ^ rank * word) (2 ^ rank * (word + 1))) planned) (some : 0 < running) (small : running < 2 ^ 64)
    (is : IsTestOf told least seen first before (64 * (2 ^ rank * word)) (64 * (2 ^ rank * (word + 1))) (has_column running)) where
  pub read-level : (old mid new : ℕ) → HasReadPlace told (first + word) running planned old mid → HasRead told first (before ++ planned) later (2 ^ rank * word) (2 ^ rank * (word + 1)) mid new
      → HasRead told first before (planned ++ later) (2 ^ rank * word) (2 ^ rank * (word + 1)) old new
  read-level old mid new here below = record {
    count = here.count + below.count;
    is = omega (arith, here.is, below.is);
    at_most = omega (arith, here.at_most, below.at_most, words-of_level rank word planned ranks, words-append planned later (2 ^ rank * word) (2 ^ rank * (word + 1)));
    told_is = λ words told_is.
        omega (
          arith,
          here.told_is words told_is,
          below.told_is words told_is,
          reads-append words first before planned later (2 ^ rank * word) (2 ^ rank * (word + 1)),
          reads-of_level words first rank word running before planned ranks whole some small (is.told_is words told_is),
        );
  }

  pub read-level_part : (old mid new : ℕ) → HasReadPlace told (first + word) running planned old mid → HasReadPart told first (before ++ planned) later (2 ^ rank * word) (2 ^ rank * (word + 1)) mid new
      → HasReadPart told first before (planned ++ later) (2 ^ rank * word) (2 ^ rank * (word + 1)) old new
  read-level_part old mid new here below = record {
    count = here.count + below.count;
    is = omega (arith, here.is, below.is);
    at_most = omega (arith, here.at_most, below.at_most, words-of_level rank word planned ranks, words-append planned later (2 ^ rank * word) (2 ^ rank * (word + 1)));
    told_at_most = λ words told_is.
        omega (
          arith,
          here.told_is words told_is,
          below.told_at_most words told_is,
          reads-append words first before planned later (2 ^ rank * word) (2 ^ rank * (word + 1)),
          reads-of_level words first rank word running before planned ranks whole some small (is.told_is words told_is),
        );
  }

  pub read-level_zero : (after : Bit → Type 0) (left old new : ℕ) → left ≡ 0 → All (IsWhole (2 ^ rank * word) (2 ^ rank * (word + 1))) later
      → IsTestOf told least after first (before ++ planned) (64 * (2 ^ rank * word)) (64 * (2 ^ rank * (word + 1))) (has_column left)
      → HasReadPlace told (first + word) running planned old new → HasRead told first before (planned ++ later) (2 ^ rank * word) (2 ^ rank * (word + 1)) old new
  read-level_zero after left old new zero later_whole none here =
      read-level old new new here
      (record {
        count = 0;
        is = omega arith;
        at_most = omega arith;
        told_is = λ words told_is.
            sym (reads-where_none words first (before ++ planned) later (2 ^ rank * word) (2 ^ rank * (word + 1))
            (λ column from to. sym (none.told_is words told_is column from to) ∙ ap (λ n. has_bit n (column % 64)) zero ∙ has_bit-zero (column % 64)) later_whole);
      })

-- one turn of the loop over the words of a rank
pub record IsTurn (plan planned : List Row) (ranks rank from to word : ℕ) : Type 0 where
  pub of_rank : All (λ row. row.rank ≡ rank) planned
  pub whole : All (IsWhole from to) planned
  pub own : All (IsWhole (2 ^ rank * word) (2 ^ rank * (word + 1))) planned
  pub later : All (IsWhole (2 ^ rank * word) (2 ^ rank * (word + 1))) (rows_below_rank rank plan)
  pub low : from ≤ 2 ^ rank * word
  pub high : 2 ^ rank * (word + 1) ≤ to
  pub before_is : rows_from_rank rank plan ≡ rows_from_rank ranks plan ++ planned
  pub below_is : rows_below_rank ranks plan ≡ planned ++ rows_below_rank rank plan

pub turn-is : (plan planned : List Row) (ranks rank from to word : ℕ) → ranks ≡ rank + 1 → IsInPlanOrder plan → planned ≡ rows_of_rank rank plan → 0 < length planned
    → All (IsWhole from to) (rows_below_rank ranks plan) → from / 2 ^ rank ≤ word → word < to / 2 ^ rank → IsTurn plan planned ranks rank from to word
turn-is plan planned ranks rank from to word next order planned_is some whole begins ends =
    let level = rows_of_rank rank plan in
    let below : rows_below_rank ranks plan ≡ level ++ rows_below_rank rank plan = ap (λ r. rows_below_rank r plan) next ∙ below_rank-parts rank plan order in
    let before : rows_from_rank rank plan ≡ rows_from_rank ranks plan ++ level = from_rank-parts rank plan order ∙ ap (λ r. rows_from_rank r plan ++ level) (sym next) in
    let two = All-split (IsWhole from to) level (rows_below_rank rank plan) (subst (All (IsWhole from to)) below whole) in
    let of_rank = ranks-of_rank rank plan in
    let is = level-is from to rank level (omega (arith, some, ap (λ (xs : List Row). length xs) planned_is)) of_rank two.0 in
    let p : 0 < 2 ^ rank = pow_pos rank in
    let low : from ≤ 2 ^ rank * word = omega (arith, is.begins, mul-le (2 ^ rank) (from / 2 ^ rank) (2 ^ rank) word (omega arith) begins) in
    let high : 2 ^ rank * (word + 1) ≤ to = omega (arith, is.ends, mul-le (2 ^ rank) (word + 1) (2 ^ rank) (to / 2 ^ rank) (omega arith) (omega (arith, ends))) in
    subst (λ (xs : List Row). IsTurn plan xs ranks rank from to word) (sym planned_is)
    (record {
      of_rank = of_rank;
      whole = two.0;
      own = λ k d inside. whole-step from to rank word (get_or level k d) (two.0 k d inside) (omega (arith, of_rank k d inside)) high;
      later = λ k d inside. whole-step from to rank word (get_or (rows_below_rank rank plan) k d) (two.1 k d inside) (omega (arith, ranks-below rank plan k d inside)) high;
      low = low;
      high = high;
      before_is = before;
      below_is = below;
    })

-- a shift of a word is a product, where it fits
pub shifted : (rank word : ℕ) → 2 ^ rank * word < 2 ^ 32 → word * 2 ^ rank % 2 ^ 32 ≡ 2 ^ rank * word
shifted rank word small = omega (arith, small)

-- the rows from rank 0 on are all of them, and there are none below it
pub from_rank-zero : (rows : List Row) → rows_from_rank 0 rows ≡ rows
from_rank-zero [] = refl
from_rank-zero (row ∷ rows) =
    let t : leb 0 row.rank ≡ true = grind (arith, nat_tests) in rw t (ap (λ (xs : List Row). row ∷ xs) (from_rank-zero rows))

pub below_rank-zero : (rows : List Row) → rows_below_rank 0 rows ≡ []
below_rank-zero [] = refl
below_rank-zero (row ∷ rows) = let t : ltb row.rank 0 ≡ false = grind (arith, nat_tests) in rw t (below_rank-zero rows)

-- what holds of what an answer gives
pub on_ok : {A E : Type 0} {P Q : Type 0} (r : Result A E) → (P → Q) → OnOk r P → OnOk r Q
on_ok (Ok a) f p = f p
on_ok (Err e) f p = tt

pub on_any : {A E : Type 0} {P : Type 0} (r : Result A E) → P → OnOk r P
on_any (Ok a) p = p
on_any (Err e) p = tt

-- told, and sure to be read, as at another time
module _ (told now : Option (List ℕ)) (same : now ≡ told) (least now_least : Bit → Type 0) (stays : (bit : Bit) → least bit ↔ now_least bit) where
  pub test-from : (seen : Bit → Type 0) (first : ℕ) (rows : List Row) (a b : ℕ) (test : ℕ → Bool) → IsTestOf now now_least seen first rows a b test → IsTestOf told least seen first rows a b test
  test-from seen first rows a b test is = record {
    told_is = λ words told_is. is.told_is words (same ∙ told_is);
    least_is = λ column from to all. is.least_is column from to (λ k row inside. (stays (bit_from first column (get_or rows k row))).0 (all k row inside));
    seen_is = is.seen_is;
  }

  pub test-to : (seen : Bit → Type 0) (first : ℕ) (rows : List Row) (a b : ℕ) (test : ℕ → Bool) → IsTestOf told least seen first rows a b test → IsTestOf now now_least seen first rows a b test
  test-to seen first rows a b test is = record {
    told_is = λ words told_is. is.told_is words (sym same ∙ told_is);
    least_is = λ column from to all. is.least_is column from to (λ k row inside. (stays (bit_from first column (get_or rows k row))).1 (all k row inside));
    seen_is = is.seen_is;
  }

  pub found-from : (seen : Bit → Type 0) (first : ℕ) (plan : List Row) (slice a b : ℕ) (old new : List (ℕ × ℕ)) → HasFound now now_least seen first plan slice a b old new → HasFound told least seen first plan slice a b old new
  found-from seen first plan slice a b old new is = record { test = is.test; is_test = test-from seen first plan a b is.test is.is_test; appended = is.appended }

  pub part-from : (seen : Bit → Type 0) (first : ℕ) (plan : List Row) (slice a b : ℕ) (old new : List (ℕ × ℕ)) → HasFoundPart now now_least seen first plan slice a b old new → HasFoundPart told least seen first plan slice a b old new
  part-from seen first plan slice a b old new is = record {
    n = is.n;
    from = is.from;
    to = is.to;
    test = is.test;
    is_test = test-from seen first plan a is.n is.test is.is_test;
    front = is.front;
    rest = is.rest;
    parts = is.parts;
    appended = is.appended;
  }

  -- the bits that are left over a word of the rank are of its rows too
  pub left-test : (before seen after : Bit → Type 0) → ((bit : Bit) → before bit → seen bit) → ((bit : Bit) → seen bit → after bit) → (first running left : ℕ) (plan planned : List Row) (ranks rank from to word : ℕ)
      → IsTurn plan planned ranks rank from to word → IsTestOf told least before first (rows_from_rank ranks plan) (64 * from) (64 * to) (has_column running)
      → IfSome now (λ words. IsLeft words (first + word) running planned left) → HasLeast now_least (first + word) running planned left
      → ((bit : ℕ) → has_bit left bit ≡ true → has_bit running bit ≡ true) → WasSeen after (first + word) planned left
      → IsTestOf told least after first (rows_from_rank rank plan) (64 * (2 ^ rank * word)) (64 * (2 ^ rank * (word + 1))) (has_column left)
  left-test before seen after stay go first running left plan planned ranks rank from to word turn is told_left has_least runs was_seen =
      let over = 64 * (2 ^ rank * word) in
      let end = 64 * (2 ^ rank * (word + 1)) in
      subst (λ (xs : List Row). IsTestOf told least after first xs over end (has_column left)) (sym turn.before_is)
      (test-more told least seen after go first rank word running left (rows_from_rank ranks plan) planned turn.of_rank
      (test-later told least before seen stay first (rows_from_rank ranks plan) (64 * from) (64 * to) over end (has_column running) (omega (arith, turn.low)) (omega (arith, turn.high)) is)
      (λ words told_is. when_told (λ ws. IsLeft ws (first + word) running planned left) now words (same ∙ told_is) told_left)
      (λ bit has all. has_least bit has (λ k row inside. (stays (bit_in (first + word) bit (get_or planned k row))).0 (all k row inside)))
      runs was_seen)

-- what holds of all planned rows holds of those of a rank
pub all-of_rank : (P : Row → Type 0) (rank : ℕ) (plan planned : List Row) → planned ≡ rows_of_rank rank plan → All P plan → All P planned
all-of_rank P rank plan planned is all = subst (All P) (sym is) (All-filter (λ (row : Row). eqb row.rank rank) P plan all)

-- the place of a word of the level is readable in each row of the rank
pub record IsPlace (reach : ℕ → Type 0) (place : ℕ) (row : Row) : Type 0 where
  pub reaches : reach (place + row.start)
  pub fits : place + row.start < 2 ^ 32

pub place-is : (reach : ℕ → Type 0) (first : ℕ) (plan planned : List Row) (ranks rank from to word : ℕ) → planned ≡ rows_of_rank rank plan → All (IsReadable reach first) plan
    → IsTurn plan planned ranks rank from to word → All (IsPlace reach (first + word)) planned
place-is reach first plan planned ranks rank from to word is readable turn k d inside =
    let row : Row = get_or planned k d in
    let can : IsReadable reach first row = all-of_rank (IsReadable reach first) rank plan planned is readable k d inside in
    let within : word < row.width = word-within from to rank word row (turn.whole k d inside) (turn.of_rank k d inside) turn.high in
    let same : first + row.start + word ≡ first + word + row.start = omega arith in
    record { reaches = subst reach same (can.reaches word within); fits = omega (arith, can.fits, within) }

-- the reads of one turn
module _ (told : Option (List ℕ)) (least seen : Bit → Type 0) (first running : ℕ) (plan planned : List Row) (ranks rank from to word : ℕ) (turn : IsTurn plan planned ranks rank from to word)
    (some : 0 < running) (small : running < 2 ^ 64) (is : IsTestOf told least seen first (rows_from_rank ranks plan) (64 * from) (64 * to) (has_column running)) where
  here_is : IsTestOf told least seen first (rows_from_rank ranks plan) (64 * (2 ^ rank * word)) (64 * (2 ^ rank * (word + 1))) (has_column running)
  here_is =
      test-later told least seen seen (λ bit has. has) first (rows_from_rank ranks plan) (64 * from) (64 * to) (64 * (2 ^ rank * word)) (64 * (2 ^ rank * (word + 1))) (has_column running)
      (omega (arith, turn.low)) (omega (arith, turn.high)) is

  pub turn-read : (old mid new : ℕ) → HasReadPlace told (first + word) running planned old mid
      → HasRead told first (rows_from_rank rank plan) (rows_below_rank rank plan) (2 ^ rank * word) (2 ^ rank * (word + 1)) mid new
      → HasRead told first (rows_from_rank ranks plan) (rows_below_rank ranks plan) (2 ^ rank * word) (2 ^ rank * (word + 1)) old new
  turn-read old mid new here below =
      subst (λ (xs : List Row). HasRead told first (rows_from_rank ranks plan) xs (2 ^ rank * word) (2 ^ rank * (word + 1)) old new) (sym turn.below_is)
      (read-level told least seen first rank word running (rows_from_rank ranks plan) planned (rows_below_rank rank plan) turn.of_rank turn.own some small here_is old mid new here
      (subst (λ (xs : List Row). HasRead told first xs (rows_below_rank rank plan) (2 ^ rank * word) (2 ^ rank * (word + 1)) mid new) turn.before_is below))

  pub turn-read_part : (old mid new : ℕ) → HasReadPlace told (first + word) running planned old mid
      → HasReadPart told first (rows_from_rank rank plan) (rows_below_rank rank plan) (2 ^ rank * word) (2 ^ rank * (word + 1)) mid new
      → HasReadPart told first (rows_from_rank ranks plan) (rows_below_rank ranks plan) (2 ^ rank * word) (2 ^ rank * (word + 1)) old new
  turn-read_part old mid new here below =
      subst (λ (xs : List Row). HasReadPart told first (rows_from_rank ranks plan) xs (2 ^ rank * word) (2 ^ rank * (word + 1)) old new) (sym turn.below_is)
      (read-level_part told least seen first rank word running (rows_from_rank ranks plan) planned (rows_below_rank rank plan) turn.of_rank turn.own some small here_is old mid new here
      (subst (λ (xs : List Row). HasReadPart told first xs (rows_below_rank rank plan) (2 ^ rank * word) (2 ^ rank * (word + 1)) mid new) turn.before_is below))

  pub turn-read_zero : (after : Bit → Type 0) (left old new : ℕ) → left ≡ 0
      → IsTestOf told least after first (rows_from_rank rank plan) (64 * (2 ^ rank * word)) (64 * (2 ^ rank * (word + 1))) (has_column left)
      → HasReadPlace told (first + word) running planned old new
      → HasRead told first (rows_from_rank ranks plan) (rows_below_rank ranks plan) (2 ^ rank * word) (2 ^ rank * (word + 1)) old new
  turn-read_zero after left old new zero none here =
      subst (λ (xs : List Row). HasRead told first (rows_from_rank ranks plan) xs (2 ^ rank * word) (2 ^ rank * (word + 1)) old new) (sym turn.below_is)
      (read-level_zero told least seen first rank word running (rows_from_rank ranks plan) planned (rows_below_rank rank plan) turn.of_rank turn.own some small here_is after left old new zero turn.later
      (subst (λ (xs : List Row). IsTestOf told least after first xs (64 * (2 ^ rank * word)) (64 * (2 ^ rank * (word + 1))) (has_column left)) turn.before_is none) here)
