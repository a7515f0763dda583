-- Counting the rows of a rank, row by row.
use Rattle.std.proofs.Common.{◌≡◌, ℕ, ◌+◌, ◌*◌, ◌^◌, ◌%◌, ◌<◌, ◌≤◌, ◌≢◌, Bool, true, false, cond, eqb, List, length, get_or, set, ap, sym, subst, ◌∙◌, ⊎_elim, arith, get_or-set_same, get_or-set_other}
use Rattle.std.specs.Prelude.{count_by, min}
use Rattle.std.specs.List.{range_with_len}
use Rattle.std.proofs.Math.Nat.{min-le_left}
use Rattle.std.proofs.lemmas.Nat.{mul-le, shl_whole}
use Rattle.std.proofs.lemmas.List.FromFn.{length-range_with_len}
use Rattle.std.proofs.lemmas.List.Sums.{count_by-le-length}
use Rattle.std.proofs.lemmas.Bool.{eq-eqb, ne_eqb, cases_eq}
use Rattle.funnel_model.specs.Treatment.{rank_of_row, rows_at_rank}
use Rattle.funnel_model.proofs.Ranges.{count_by-range_more}

-- how many of the first j of k rows have rank r
abbrev pub rows_so_far : ℕ → ℕ → ℕ → ℕ → ℕ → ℕ
rows_so_far c k max_rank r j = count_by (λ i. eqb (rank_of_row c k max_rank i) r) (range_with_len 0 j)

pub rows_so_far-small : (c k max_rank r j : ℕ) → rows_so_far c k max_rank r j ≤ j
rows_so_far-small c k max_rank r j =
    let p : ℕ → Bool = λ i. eqb (rank_of_row c k max_rank i) r in
    omega (arith, count_by-le-length p (range_with_len 0 j), length-range_with_len 0 j)

-- a row that has the rank counts, and one that hasn't doesn't
pub rows_so_far-yes : (c k max_rank r j : ℕ) → eqb (rank_of_row c k max_rank j) r ≡ true → rows_so_far c k max_rank r (j + 1) ≡ rows_so_far c k max_rank r j + 1
rows_so_far-yes c k max_rank r j e =
    let more = count_by-range_more (λ i. eqb (rank_of_row c k max_rank i) r) j in
    let one : ◌≡◌ {A = ℕ} (cond (eqb (rank_of_row c k max_rank j) r) 1 0) 1 = ap (λ b. cond {A = ℕ} b 1 0) e in
    omega (arith, more, one)

pub rows_so_far-no : (c k max_rank r j : ℕ) → eqb (rank_of_row c k max_rank j) r ≡ false → rows_so_far c k max_rank r (j + 1) ≡ rows_so_far c k max_rank r j
rows_so_far-no c k max_rank r j e =
    let more = count_by-range_more (λ i. eqb (rank_of_row c k max_rank i) r) j in
    let none : ◌≡◌ {A = ℕ} (cond (eqb (rank_of_row c k max_rank j) r) 1 0) 0 = ap (λ b. cond {A = ℕ} b 1 0) e in
    omega (arith, more, none)

-- at most 2^32 bits in each of at most 26 rows
pub few_bits : (documents bits n : ℕ) → documents ≤ 2 ^ 32 → n ≤ 26 → min documents bits * n ≤ 2 ^ 37
few_bits documents bits n small few =
    let a : min documents bits ≤ 2 ^ 32 = omega (arith, min-le_left documents bits) in
    omega (arith, mul-le (min documents bits) n (2 ^ 32) 26 a few)

-- a count shifted by a rank loses no bit
pub shifted : (count rank : ℕ) → count ≤ 2 ^ 32 → rank ≤ 6 → count * 2 ^ rank % 18446744073709551616 ≡ count * 2 ^ rank
shifted count rank small low = shl_whole count 33 rank 64 (omega arith) (omega arith)

times_more : (m n : ℕ) → m * (n + 1) ≡ m * n + m
times_more m n = omega arith

-- one more row adds its bits at its rank, and nowhere else
pub bits_more : (old bits : List ℕ) (c k max_rank j rank documents count added : ℕ) → rank ≡ rank_of_row c k max_rank j → rank < length bits → added ≡ min documents (count * 2 ^ rank)
    → ((r : ℕ) → r < 7 → get_or bits r 0 ≡ get_or old r 0 + min documents (count * 2 ^ r) * rows_so_far c k max_rank r j)
    → (r : ℕ) → r < 7 → get_or (set bits rank (get_or bits rank 0 + added)) r 0 ≡ get_or old r 0 + min documents (count * 2 ^ r) * rows_so_far c k max_rank r (j + 1)
bits_more old bits c k max_rank j rank documents count added is within adds before r low =
    ⊎_elim
    (λ (same : r ≡ rank).
    let n : ℕ = rows_so_far c k max_rank r j in
    let m : ℕ = min documents (count * 2 ^ r) in
    let written : get_or (set bits rank (get_or bits rank 0 + added)) r 0 ≡ get_or bits r 0 + added =
    subst (λ x. get_or (set bits rank (get_or bits rank 0 + added)) x 0 ≡ get_or bits x 0 + added) (sym same) (get_or-set_same bits rank _ 0 within) in
    let more : rows_so_far c k max_rank r (j + 1) ≡ rows_so_far c k max_rank r j + 1 = rows_so_far-yes c k max_rank r j (eq-eqb _ _ (sym is ∙ sym same)) in
    let amount : added ≡ min documents (count * 2 ^ r) = adds ∙ ap (λ x. min documents (count * 2 ^ x)) (sym same) in
    let product : min documents (count * 2 ^ r) * rows_so_far c k max_rank r (j + 1) ≡ min documents (count * 2 ^ r) * rows_so_far c k max_rank r j + min documents (count * 2 ^ r) =
    ap (λ x. min documents (count * 2 ^ r) * x) more ∙ times_more (min documents (count * 2 ^ r)) (rows_so_far c k max_rank r j) in
    omega (arith, written, before r low, amount, product))
    (λ (other : r ≢ rank).
    let kept : get_or (set bits rank (get_or bits rank 0 + added)) r 0 ≡ get_or bits r 0 = get_or-set_other bits rank r _ 0 other in
    let same : rows_so_far c k max_rank r (j + 1) ≡ rows_so_far c k max_rank r j = rows_so_far-no c k max_rank r j (ne_eqb (rank_of_row c k max_rank j) r (λ e. other (sym e ∙ sym is))) in
    kept ∙ before r low ∙ ap (λ x. get_or old r 0 + min documents (count * 2 ^ r) * x) (sym same))
    (cases_eq r rank)

-- all rows were counted
pub rows_are : (c k k' max_rank r j : ℕ) → j ≡ k → k ≡ k' → rows_so_far c k max_rank r j ≡ rows_at_rank c k' max_rank r
rows_are c k k' max_rank r j all is = ap (λ n. rows_so_far c k max_rank r n) all ∙ ap (λ n. rows_at_rank c n max_rank r) is
