-- Where the rows of a rank begin.
use Rattle.std.proofs.Common.{◌≡◌, ℕ, zero, suc, ◌+◌, ◌-◌, ◌*◌, ◌≤◌, length, ap, sym, subst, ◌∙◌, arith}
use Rattle.std.specs.List.{range_with_len, sum_by}
use Rattle.std.proofs.Math.Nat.{le-mul_of_pos_right}
use Rattle.funnel_model.specs.Sizes.{shared_rows, width_of_rank, private_words, base_of_rank, words_of_slice, words_of_pool}
use Rattle.funnel_model.specs.declared.config.Config.{Config}
use Rattle.funnel_model.proofs.Ranges.{sum_by-range_more}

-- rank 0 begins after the private rows
pub base_of_rank-zero : (config : Config) → base_of_rank config 0 ≡ length (private_words config) * width_of_rank config 0
unfolding base_of_rank
base_of_rank-zero config = omega arith

-- a rank begins after the rows of the one below
pub base_of_rank-more : (config : Config) (r : ℕ) → base_of_rank config (r + 1) ≡ base_of_rank config r + shared_rows config r * width_of_rank config r
unfolding base_of_rank
base_of_rank-more config r =
    let more = sum_by-range_more (λ below. shared_rows config below * width_of_rank config below) r in
    let e : length (private_words config) * width_of_rank config 0 + sum_by (λ below. shared_rows config below * width_of_rank config below) (range_with_len 0 (r + 1))
    ≡ length (private_words config) * width_of_rank config 0 + (sum_by (λ below. shared_rows config below * width_of_rank config below) (range_with_len 0 r) + shared_rows config r * width_of_rank config r) =
    ap (λ n. length (private_words config) * width_of_rank config 0 + n) more in
    e ∙ regrouped (length (private_words config) * width_of_rank config 0) _ _
  where
    regrouped : (a b c : ℕ) → a + (b + c) ≡ a + b + c
    regrouped a b c = omega arith

-- a rank begins no earlier than the ranks below it
pub base_of_rank-rises : (config : Config) (r n : ℕ) → base_of_rank config r ≤ base_of_rank config (r + n)
base_of_rank-rises config r zero = let e : r + 0 ≡ r = omega arith in subst (λ k. base_of_rank config r ≤ base_of_rank config k) (sym e) (omega arith)
base_of_rank-rises config r (suc n) =
    let e : r + suc n ≡ r + n + 1 = omega arith in
    subst (λ k. base_of_rank config r ≤ base_of_rank config k) (sym e)
    (let before = base_of_rank-rises config r n in omega (arith, before, base_of_rank-more config (r + n)))

-- the rows of a rank end within the slice
pub rows_end_within_slice : (config : Config) (r : ℕ) → r ≤ config.max_rank → base_of_rank config r + shared_rows config r * width_of_rank config r ≤ words_of_slice config
rows_end_within_slice config r low =
    let e : r + 1 + (config.max_rank - r) ≡ config.max_rank + 1 = omega arith in
    let h = base_of_rank-rises config (r + 1) (config.max_rank - r) in
    let last : base_of_rank config (r + 1) ≤ base_of_rank config (config.max_rank + 1) = subst (λ k. base_of_rank config (r + 1) ≤ base_of_rank config k) e h in
    omega (arith, base_of_rank-more config r)

-- a rank has at least one shared row
pub shared_rows-positive : (config : Config) (r : ℕ) → 1 ≤ shared_rows config r
unfolding shared_rows
shared_rows-positive config r = omega arith

-- a slice's words are words of the pool
pub slice_within_pool : (config : Config) → 1 ≤ config.slices → words_of_slice config ≤ words_of_pool config
slice_within_pool config some = omega (arith, le-mul_of_pos_right (words_of_slice config) some)
