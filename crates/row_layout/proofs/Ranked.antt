-- The rows of a plan, rank by rank.
use Rattle.std.proofs.Common.{◌≡◌, ℕ, ◌+◌, ◌-◌, ◌<◌, ◌≤◌, ⊎_elim, zero, suc, List, [], ◌∷◌, ◌++◌, Bool, true, false, cond, eqb, leb, ltb, length, take, drop, append_assoc, length-append, ap, sym, ◌∙◌, refl, get_or, arith}
use Rattle.std.proofs.Math.Seq.{drop-append_seam, take-append_seam}
use Rattle.std.proofs.lemmas.List.Elements.{All-from_recursion}
use Rattle.std.specs.List.{AllByRecursion, filter}
use Rattle.std.specs.List.Sorted.{IsPartitionedBy, IsPartitionPoint, IsStrictlySortedBy}
use Rattle.std.specs.declared.cmp.Ordering.TheVariants.{Less}
use Rattle.std.proofs.lemmas.Bool.{cases_lt}
use Rattle.std.proofs.lemmas.Bool.Decides.{nat_tests}
use Rattle.row_layout.specs.Orders.{IsInPlanOrder, plan_cmp, rows_below_rank, rows_from_rank, rows_of_rank}
use Rattle.row_layout.specs.declared.row.Row.{Row}

-- a row that comes later has no higher rank
not_above : (a b : Row) → plan_cmp a b ≡ Less → b.rank ≤ a.rank
not_above a b less = grind (arith, nat_tests)

none_later : (rank : ℕ) (p : ℕ → Bool) → ((k : ℕ) → k ≤ rank → p k ≡ false) → (x : Row) → x.rank ≤ rank → (xs : List Row) → AllByRecursion (λ y. plan_cmp x y ≡ Less) xs → filter (λ (row : Row). p row.rank) xs ≡ []
none_later rank p fails x low [] all = refl
none_later rank p fails x low (y ∷ ys) all =
    ap (λ (b : Bool). cond b (y ∷ filter (λ (row : Row). p row.rank) ys) (filter (λ (row : Row). p row.rank) ys)) (fails y.rank (omega (arith, not_above x y all.0)))
    ∙ none_later rank p fails x low ys all.1

-- the rows from a rank on are those above it, and then its own
pub from_rank-parts : (rank : ℕ) (rows : List Row) → IsInPlanOrder rows → rows_from_rank rank rows ≡ rows_from_rank (rank + 1) rows ++ rows_of_rank rank rows
unfolding IsStrictlySortedBy
from_rank-parts rank [] order = refl
from_rank-parts rank (x ∷ xs) order =
    let rest = from_rank-parts rank xs order.1 in
    ⊎_elim
    (λ (low : x.rank < rank).
    let p : leb rank x.rank ≡ false = grind (arith, nat_tests) in
    let q : leb (rank + 1) x.rank ≡ false = grind (arith, nat_tests) in
    let r : eqb x.rank rank ≡ false = grind (arith, nat_tests) in
    rw (p, q, r) rest)
    (λ (high : rank ≤ x.rank).
    let p : leb rank x.rank ≡ true = grind (arith, nat_tests) in
    ⊎_elim
    (λ (above : rank < x.rank).
    let q : leb (rank + 1) x.rank ≡ true = grind (arith, nat_tests) in
    let r : eqb x.rank rank ≡ false = grind (arith, nat_tests) in
    rw (p, q, r) (ap (λ (ys : List Row). x ∷ ys) rest))
    (λ (same : x.rank ≤ rank).
    let q : leb (rank + 1) x.rank ≡ false = grind (arith, nat_tests) in
    let r : eqb x.rank rank ≡ true = grind (arith, nat_tests) in
    let none : rows_from_rank (rank + 1) xs ≡ [] = none_later rank (λ k. leb (rank + 1) k) (λ k low. grind (arith, nat_tests)) x same xs order.0 in
    rw (p, q, r) (ap (λ (ys : List Row). x ∷ ys) rest ∙ ap (λ (ys : List Row). x ∷ (ys ++ rows_of_rank rank xs)) none ∙ ap (λ (ys : List Row). ys ++ (x ∷ rows_of_rank rank xs)) (sym none)))
    (cases_lt rank x.rank))
    (cases_lt x.rank rank)

-- the rows up to a rank are its own, and then those below it
pub below_rank-parts : (rank : ℕ) (rows : List Row) → IsInPlanOrder rows → rows_below_rank (rank + 1) rows ≡ rows_of_rank rank rows ++ rows_below_rank rank rows
unfolding IsStrictlySortedBy
below_rank-parts rank [] order = refl
below_rank-parts rank (x ∷ xs) order =
    let rest = below_rank-parts rank xs order.1 in
    ⊎_elim
    (λ (low : x.rank < rank).
    let p : ltb x.rank rank ≡ true = grind (arith, nat_tests) in
    let q : ltb x.rank (rank + 1) ≡ true = grind (arith, nat_tests) in
    let r : eqb x.rank rank ≡ false = grind (arith, nat_tests) in
    let none : rows_of_rank rank xs ≡ [] = none_later x.rank (λ k. eqb k rank) (λ k less. grind (arith, nat_tests)) x (omega arith) xs order.0 in
    rw (p, q, r) (ap (λ (ys : List Row). x ∷ ys) (rest ∙ ap (λ (ys : List Row). ys ++ rows_below_rank rank xs) none) ∙ ap (λ (ys : List Row). ys ++ (x ∷ rows_below_rank rank xs)) (sym none)))
    (λ (high : rank ≤ x.rank).
    let p : ltb x.rank rank ≡ false = grind (arith, nat_tests) in
    ⊎_elim
    (λ (above : rank < x.rank).
    let q : ltb x.rank (rank + 1) ≡ false = grind (arith, nat_tests) in
    let r : eqb x.rank rank ≡ false = grind (arith, nat_tests) in
    rw (p, q, r) rest)
    (λ (same : x.rank ≤ rank).
    let q : ltb x.rank (rank + 1) ≡ true = grind (arith, nat_tests) in
    let r : eqb x.rank rank ≡ true = grind (arith, nat_tests) in
    rw (p, q, r) (ap (λ (ys : List Row). x ∷ ys) rest))
    (cases_lt rank x.rank))
    (cases_lt x.rank rank)

-- a plan is its rows from a rank on, and then those below it
pub plan-parts : (rank : ℕ) (rows : List Row) → IsInPlanOrder rows → rows ≡ rows_from_rank rank rows ++ rows_below_rank rank rows
unfolding IsStrictlySortedBy
plan-parts rank [] order = refl
plan-parts rank (x ∷ xs) order =
    let rest = plan-parts rank xs order.1 in
    ⊎_elim
    (λ (low : x.rank < rank).
    let p : leb rank x.rank ≡ false = grind (arith, nat_tests) in
    let q : ltb x.rank rank ≡ true = grind (arith, nat_tests) in
    let none : rows_from_rank rank xs ≡ [] = none_later x.rank (λ k. leb rank k) (λ k less. grind (arith, nat_tests)) x (omega arith) xs order.0 in
    rw (p, q) (ap (λ (ys : List Row). x ∷ ys) (rest ∙ ap (λ (ys : List Row). ys ++ rows_below_rank rank xs) none) ∙ ap (λ (ys : List Row). ys ++ (x ∷ rows_below_rank rank xs)) (sym none)))
    (λ (high : rank ≤ x.rank).
    let p : leb rank x.rank ≡ true = grind (arith, nat_tests) in
    let q : ltb x.rank rank ≡ false = grind (arith, nat_tests) in
    rw (p, q) (ap (λ (ys : List Row). x ∷ ys) rest))
    (cases_lt x.rank rank)

-- the rows from a rank on stand first, so that a test of the rank parts a plan
pub plan-partitioned : (rank : ℕ) (rows : List Row) → IsInPlanOrder rows → IsPartitionedBy (λ (row : Row). leb rank row.rank) rows
unfolding IsStrictlySortedBy
plan-partitioned rank [] order i j d low inside passes = absurd (omega (arith, inside))
plan-partitioned rank (x ∷ xs) order zero zero d low inside passes = passes
plan-partitioned rank (x ∷ xs) order zero (suc j) d low inside passes =
    let less : plan_cmp x (get_or xs j d) ≡ Less = All-from_recursion (λ y. plan_cmp x y ≡ Less) xs order.0 j d (omega (arith, inside)) in
    let no : (get_or xs j d).rank ≤ x.rank = not_above x (get_or xs j d) less in
    grind (arith, nat_tests)
plan-partitioned rank (x ∷ xs) order (suc i) zero d low inside passes = absurd (omega (arith, low))
plan-partitioned rank (x ∷ xs) order (suc i) (suc j) d low inside passes = plan-partitioned rank xs order.1 i j d (omega (arith, low)) (omega (arith, inside)) passes

-- where a test parts a list, as many pass as stand before the point
pub passing-before_point : {A : Type 0} (p : A → Bool) (xs : List A) (i : ℕ) → i ≤ length xs → IsPartitionPoint (λ x. p x ≡ true) (λ x. p x ≡ false) xs i → length (filter p xs) ≡ i
passing-before_point p [] i within point = omega (arith, within)
passing-before_point {A} p (x ∷ xs) zero within point =
    let here : p x ≡ false = point.1 0 x (omega arith) (omega arith) in
    ap (λ (b : Bool). length (cond b (x ∷ filter p xs) (filter p xs))) here
    ∙ passing-before_point p xs zero (omega arith) (λ k d low high. absurd (omega (arith, high)), λ k d low high. point.1 (suc k) d (omega arith) (omega (arith, high)))
passing-before_point {A} p (x ∷ xs) (suc i) within point =
    let here : p x ≡ true = point.0 0 x (omega arith) (omega arith) in
    let rest = passing-before_point p xs i (omega (arith, within)) (λ k d low high. point.0 (suc k) d (omega arith) (omega (arith, high)), λ k d low high. point.1 (suc k) d (omega (arith, low)) (omega (arith, high))) in
    ap (λ (b : Bool). length (cond b (x ∷ filter p xs) (filter p xs))) here ∙ ap suc rest

-- the part of a plan between the rows above a rank and those below it
pub of_rank-is_part : (rank : ℕ) (rows : List Row) → IsInPlanOrder rows
    → take (length (rows_from_rank rank rows) - length (rows_from_rank (rank + 1) rows)) (drop (length (rows_from_rank (rank + 1) rows)) rows) ≡ rows_of_rank rank rows
of_rank-is_part rank rows order =
    let above : List Row = rows_from_rank (rank + 1) rows in
    let here : List Row = rows_of_rank rank rows in
    let below : List Row = rows_below_rank rank rows in
    let whole : rows ≡ above ++ (here ++ below) = plan-parts rank rows order ∙ ap (λ (xs : List Row). xs ++ below) (from_rank-parts rank rows order) ∙ append_assoc above here below in
    let dropped : drop (length above) rows ≡ here ++ below = ap (drop (length above)) whole ∙ drop-append_seam above (here ++ below) in
    let many : length (rows_from_rank rank rows) - length above ≡ length here = omega (arith, ap (λ (xs : List Row). length xs) (from_rank-parts rank rows order), length-append above here) in
    ap (λ n. take n (drop (length above) rows)) many ∙ ap (take (length here)) dropped ∙ take-append_seam here below

-- how many rows have a rank of at least this one, and of at least the next
pub counts-rise : (rank : ℕ) (rows : List Row) → IsInPlanOrder rows → length (rows_from_rank (rank + 1) rows) ≤ length (rows_from_rank rank rows)
counts-rise rank rows order =
    omega (arith, ap (λ (xs : List Row). length xs) (from_rank-parts rank rows order), length-append (rows_from_rank (rank + 1) rows) (rows_of_rank rank rows))

pub counts-within : (rank : ℕ) (rows : List Row) → IsInPlanOrder rows → length (rows_from_rank rank rows) ≤ length rows
counts-within rank rows order =
    omega (arith, ap (λ (xs : List Row). length xs) (plan-parts rank rows order), length-append (rows_from_rank rank rows) (rows_below_rank rank rows))
