-- Rows of a configuration stand one after the other in a slice.
use Rattle.std.proofs.Common.{◌≡◌, ℕ, ◌+◌, ◌-◌, ◌*◌, ◌/◌, ◌^◌, ◌<◌, ◌≤◌, ◌⊎◌, ⊎_elim, inl, inr, true, cond, leb, length, get_or, ap, sym, subst, ◌∙◌, refl, arith}
use Rattle.std.proofs.Math.Nat.{one-le-pow, pow-le-pow_right}
use Rattle.std.proofs.lemmas.Bool.{cases_lt}
use Rattle.std.proofs.lemmas.Bool.Decides.{nat_tests}
use Rattle.std.proofs.lemmas.List.FromFn.{get_or-map-range_with_len}
use Rattle.std.proofs.lemmas.Nat.{mul-le, pow-add, div_below, pow_pos}
use Rattle.funnel_model.specs.Configuration.{IsInRange}
use Rattle.funnel_model.specs.Sizes.{private_words, shared_rows, width_of_rank, base_of_rank, row_table, words_of_slice, columns_of_slice}
use Rattle.funnel_model.specs.declared.config.Config.{Config}
use Rattle.funnel_model.proofs.SizesLemmas.{base_of_rank-zero, base_of_rank-more, base_of_rank-rises}
use Rattle.row_layout.specs.Rows.{private_row, shared_row, IsPrivateRow, IsSharedRow, IsRowOf}
use Rattle.row_layout.specs.declared.row.Row.{Row}

-- one more row of a width
pub rows_more : (x y w : ℕ) → x < y → x * w + w ≤ y * w
rows_more x y w less = omega (arith, mul-le (x + 1) w y w (let h : x + 1 ≤ y = omega arith in h) (omega arith))

-- two rows of a width are the same or stand apart
numbers_apart : (base w x y : ℕ) → 1 ≤ w → base + x * w ≤ base + y * w → (x ≡ y) ⊎ (base + x * w + w ≤ base + y * w)
numbers_apart base w x y wide below =
    ⊎_elim
    (λ (less : x < y). inr (let h : base + x * w + w ≤ base + y * w = omega (arith, rows_more x y w less) in h))
    (λ (more : y ≤ x).
    ⊎_elim
    (λ (less : y < x). absurd (omega (arith, rows_more y x w less)))
    (λ (same : x ≤ y). inl (let h : x ≡ y = omega arith in h))
    (cases_lt y x))
    (cases_lt x y)

pub width-positive : (config : Config) → IsInRange config → (r : ℕ) → 1 ≤ width_of_rank config r
width-positive config range r =
    omega (arith, mul-le 1 1 (2 ^ (config.max_rank - r)) config.blocks (one-le-pow (config.max_rank - r) 2 (omega arith)) range.blocks.0)

pub width-small : (config : Config) → IsInRange config → (r : ℕ) → width_of_rank config r ≤ 4096
width-small config range r =
    let two : 0 < 2 = omega arith in
    let p : 2 ^ (config.max_rank - r) ≤ 2 ^ 6 = pow-le-pow_right two (let s : config.max_rank - r ≤ 6 = omega (arith, range.max_rank) in s) in
    omega (arith, mul-le (2 ^ (config.max_rank - r)) config.blocks 64 64 (omega arith) range.blocks.1)

-- a private row ends before rank 0
pub private-ends : (config : Config) (i : ℕ) → i < length (private_words config) → i * width_of_rank config 0 + width_of_rank config 0 ≤ base_of_rank config 0
private-ends config i few = omega (arith, rows_more i (length (private_words config)) (width_of_rank config 0) few, base_of_rank-zero config)

-- a shared row ends before the next rank
pub shared-ends : (config : Config) (r x : ℕ) → x < shared_rows config r → base_of_rank config r + x * width_of_rank config r + width_of_rank config r ≤ base_of_rank config (r + 1)
shared-ends config r x few = omega (arith, rows_more x (shared_rows config r) (width_of_rank config r) few, base_of_rank-more config r)

-- the rows of a rank stand before those of a higher one
pub base-below : (config : Config) (r s : ℕ) → r ≤ s → base_of_rank config r ≤ base_of_rank config s
base-below config r s low =
    let e : r + (s - r) ≡ s = omega arith in
    subst (λ k. base_of_rank config r ≤ base_of_rank config k) e (base_of_rank-rises config r (s - r))

-- what a row of a configuration is
pub record IsSpan (config : Config) (row : Row) : Type 0 where
  pub rank : row.rank ≤ config.max_rank
  pub width : row.width ≡ width_of_rank config row.rank
  pub within : row.start + row.width ≤ words_of_slice config

private_span : (config : Config) (i : ℕ) → i < length (private_words config) → IsSpan config (private_row config i)
private_span config i few = record {
  rank = omega arith;
  width = refl;
  within = omega (arith, private-ends config i few, base-below config 0 (config.max_rank + 1) (omega arith));
}

shared_span : (config : Config) (r x : ℕ) → r ≤ config.max_rank → x < shared_rows config r → IsSpan config (shared_row config r x)
shared_span config r x low few = record {
  rank = low;
  width = refl;
  within = omega (arith, shared-ends config r x few, base-below config (r + 1) (config.max_rank + 1) (omega arith));
}

pub row-span : (config : Config) (row : Row) → IsRowOf config row → IsSpan config row
row-span config row laid =
    ⊎_elim
    (λ (p : IsPrivateRow config row). subst (IsSpan config) (sym p.2) (private_span config p.0 p.1))
    (λ (s : IsSharedRow config row). subst (IsSpan config) (sym s.4) (shared_span config s.0 s.1 s.2 s.3))
    laid

-- the two rows are the same, or the first ends before the second starts
abbrev pub SameOrBefore : Row → Row → Type 0
SameOrBefore a b = (a ≡ b) ⊎ (a.start + a.width ≤ b.start)

private_private : (config : Config) → IsInRange config → (i k : ℕ) → i * width_of_rank config 0 ≤ k * width_of_rank config 0 → SameOrBefore (private_row config i) (private_row config k)
private_private config range i k below =
    ⊎_elim
    (λ (same : i ≡ k). inl (ap (private_row config) same))
    (λ (before : 0 + i * width_of_rank config 0 + width_of_rank config 0 ≤ 0 + k * width_of_rank config 0). inr (let h : i * width_of_rank config 0 + width_of_rank config 0 ≤ k * width_of_rank config 0 = omega arith in h))
    (numbers_apart 0 (width_of_rank config 0) i k (width-positive config range 0) (omega arith))

private_shared : (config : Config) (i r x : ℕ) → i < length (private_words config) → SameOrBefore (private_row config i) (shared_row config r x)
private_shared config i r x few = inr (let h : i * width_of_rank config 0 + width_of_rank config 0 ≤ base_of_rank config r + x * width_of_rank config r = omega (arith, private-ends config i few, base-below config 0 r (omega arith)) in h)

shared_private : (config : Config) → IsInRange config → (r x i : ℕ) → i < length (private_words config) → base_of_rank config r + x * width_of_rank config r ≤ i * width_of_rank config 0 → SameOrBefore (shared_row config r x) (private_row config i)
shared_private config range r x i few below = absurd (omega (arith, private-ends config i few, base-below config 0 r (omega arith), width-positive config range 0))

shared_shared : (config : Config) → IsInRange config → (r x s y : ℕ) → x < shared_rows config r → y < shared_rows config s → base_of_rank config r + x * width_of_rank config r ≤ base_of_rank config s + y * width_of_rank config s → SameOrBefore (shared_row config r x) (shared_row config s y)
shared_shared config range r x s y few few' below =
    ⊎_elim
    (λ (less : r < s). inr (let h : base_of_rank config r + x * width_of_rank config r + width_of_rank config r ≤ base_of_rank config s + y * width_of_rank config s = omega (arith, shared-ends config r x few, base-below config (r + 1) s (omega arith)) in h))
    (λ (more : s ≤ r).
    ⊎_elim
    (λ (less : s < r). absurd (omega (arith, shared-ends config s y few', base-below config (s + 1) r (omega arith), width-positive config range s)))
    (λ (low : r ≤ s).
    let same : s ≡ r = omega arith in
    let at_rank : base_of_rank config r + x * width_of_rank config r ≤ base_of_rank config r + y * width_of_rank config r =
    subst (λ k. base_of_rank config r + x * width_of_rank config r ≤ base_of_rank config k + y * width_of_rank config k) same below in
    subst (λ k. SameOrBefore (shared_row config r x) (shared_row config k y)) (sym same)
    (⊎_elim
    (λ (number : x ≡ y). inl (ap (shared_row config r) number))
    (λ (before : base_of_rank config r + x * width_of_rank config r + width_of_rank config r ≤ base_of_rank config r + y * width_of_rank config r). inr before)
    (numbers_apart (base_of_rank config r) (width_of_rank config r) x y (width-positive config range r) at_rank)))
    (cases_lt s r))
    (cases_lt r s)

-- a row that starts no later than another is that row, or ends before it starts
pub rows_apart : (config : Config) → IsInRange config → (a b : Row) → IsRowOf config a → IsRowOf config b → a.start ≤ b.start → SameOrBefore a b
rows_apart config range a b laid laid' below =
    ⊎_elim
    (λ (p : IsPrivateRow config a).
    ⊎_elim
    (λ (q : IsPrivateRow config b).
    subst (λ row. SameOrBefore row b) (sym p.2) (subst (SameOrBefore (private_row config p.0)) (sym q.2)
    (private_private config range p.0 q.0 (starts a b (private_row config p.0) (private_row config q.0) p.2 q.2 below))))
    (λ (t : IsSharedRow config b).
    subst (λ row. SameOrBefore row b) (sym p.2) (subst (SameOrBefore (private_row config p.0)) (sym t.4)
    (private_shared config p.0 t.0 t.1 p.1)))
    laid')
    (λ (s : IsSharedRow config a).
    ⊎_elim
    (λ (q : IsPrivateRow config b).
    subst (λ row. SameOrBefore row b) (sym s.4) (subst (SameOrBefore (shared_row config s.0 s.1)) (sym q.2)
    (shared_private config range s.0 s.1 q.0 q.1 (starts a b (shared_row config s.0 s.1) (private_row config q.0) s.4 q.2 below))))
    (λ (t : IsSharedRow config b).
    subst (λ row. SameOrBefore row b) (sym s.4) (subst (SameOrBefore (shared_row config s.0 s.1)) (sym t.4)
    (shared_shared config range s.0 s.1 t.0 t.1 s.3 t.3 (starts a b (shared_row config s.0 s.1) (shared_row config t.0 t.1) s.4 t.4 below))))
    laid')
    laid
  where
    starts : (a b c d : Row) → a ≡ c → b ≡ d → a.start ≤ b.start → c.start ≤ d.start
    starts a b c d e f below = subst (λ row. row.start ≤ d.start) e (subst (λ row. a.start ≤ row.start) f below)

-- two rows with one start are one row
pub same_row : (config : Config) → IsInRange config → (a b : Row) → IsRowOf config a → IsRowOf config b → a.start ≡ b.start → a ≡ b
same_row config range a b laid laid' same =
    ⊎_elim
    (λ (e : a ≡ b). e)
    (λ (before : a.start + a.width ≤ b.start). let span = row-span config a laid in absurd (omega (arith, span.width, width-positive config range a.rank)))
    (rows_apart config range a b laid laid' (omega arith))

-- how far into a row of a rank a column stands
pub offset-below : (config : Config) (r column : ℕ) → r ≤ config.max_rank → column < columns_of_slice config → column / (64 * 2 ^ r) < width_of_rank config r
offset-below config r column low few =
    let e : config.max_rank - r + r ≡ config.max_rank = omega arith in
    let power : 2 ^ (config.max_rank - r) * 2 ^ r ≡ 2 ^ config.max_rank = sym (pow-add 2 (config.max_rank - r) r) ∙ ap (λ k. 2 ^ k) e in
    div_below column (64 * 2 ^ r) (width_of_rank config r) (omega (arith, pow_pos r))
    (subst (λ n. column < n) (sym (regroup (2 ^ (config.max_rank - r)) config.blocks (2 ^ r) (2 ^ config.max_rank) power)) few)
  where
    regroup : (p b q m : ℕ) → p * q ≡ m → p * b * (64 * q) ≡ 64 * m * b
    regroup p b q m e = let h : p * b * (64 * q) ≡ 64 * (p * q) * b = omega arith in h ∙ ap (λ n. 64 * n * b) e

-- the words of a slice are few, and so is every place in it
pub room-small : (config : Config) (room : ℕ) → IsInRange config → config.slices * room ≤ 33554432 → room ≤ 33554432
room-small config room range small = omega (arith, mul-le 1 room config.slices room range.slices.0 (omega arith))

pub slice-small : (config : Config) (room : ℕ) → IsInRange config → words_of_slice config ≤ room → config.slices * room ≤ 33554432 → words_of_slice config ≤ 33554432
slice-small config room range fits small = omega (arith, fits, room-small config room range small)

pub private-fits : (config : Config) → words_of_slice config ≤ 33554432 → (i : ℕ) → i < length (private_words config) → i * width_of_rank config 0 < 2 ^ 32
private-fits config small i few =
    omega (arith, private-ends config i few, base-below config 0 (config.max_rank + 1) (omega arith), small)

pub shared-fits : (config : Config) → words_of_slice config ≤ 33554432 → (r x : ℕ) → r ≤ config.max_rank → x < shared_rows config r → base_of_rank config r + x * width_of_rank config r < 2 ^ 32
shared-fits config small r x low few =
    omega (arith, shared-ends config r x few, base-below config (r + 1) (config.max_rank + 1) (omega arith), small)

-- the table of sizes has the shared rows of each rank
pub row_table-at : (config : Config) → IsInRange config → (rank : ℕ) → rank ≤ config.max_rank → get_or (row_table config) rank 0 ≡ shared_rows config rank
unfolding row_table
row_table-at config range rank low =
    let test : leb rank config.max_rank ≡ true = grind (arith, nat_tests) in
    get_or-map-range_with_len (λ r. cond {A = ℕ} (leb r config.max_rank) (shared_rows config r) 0) 0 7 rank rank 0 (omega (arith, range.max_rank)) (omega arith)
    ∙ ap (λ b. cond {A = ℕ} b (shared_rows config rank) 0) test
