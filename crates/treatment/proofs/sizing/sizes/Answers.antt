use Rattle.std.proofs.Common.{rules, ◌≡◌, ◌≢◌, ℕ, zero, suc, ◌+◌, ◌*◌, ◌^◌, ◌<◌, ◌≤◌, true, false, cond, leb, length, get_or, set, replicate, refl, ap, sym, subst, ◌∙◌, ⊎_elim, get_or-set_same, get_or-set_other, arith}
use Rattle.std.proofs.lemmas.List.{length-set}
use Rattle.std.proofs.lemmas.Nat.{mul-le}
use Rattle.std.proofs.lemmas.Bool.{cases_lt, cases_eq}
use Rattle.std.proofs.lemmas.Bool.Decides.{nat_tests}
use Rattle.std.proofs.lemmas.List.FromFn.{fill_by_all}
use Rattle.funnel_model.specs.Sizes.{shared_rows, row_table}
use Rattle.funnel_model.proofs.SizesLemmas.{base_of_rank-zero, base_of_rank-more}
use Rattle.treatment.proofs.Passes.{private_words_small}
use Rattle.treatment.proofs.sizing.sizes.Goals as goal

zeros : (n r : ℕ) → ◌≡◌ {A = ℕ} (get_or (replicate n 0) r 0) 0
zeros zero r = refl
zeros (suc n) zero = refl
zeros (suc n) (suc r) = zeros n r

-- the words of the private rows
private_is : (from private width words base : ℕ) → from ≡ private → width ≡ words → base ≡ private * words → from * width ≡ base
private_is from private width words base e f g = ap (λ x. x * width) e ∙ ap (λ x. private * x) f ∙ sym g

-- one more rank
rank_is : (done base rows' rows width words more : ℕ) → done ≡ base → rows' ≡ rows → width ≡ words → more ≡ base + rows * words → done + rows' * width ≡ more
rank_is done base rows' rows width words more e f g h =
    ap (λ x. x + rows' * width) e ∙ ap (λ x. base + x * width) f ∙ ap (λ x. base + rows * x) g ∙ sym h

rank_small : (rows width : ℕ) → rows ≤ 2 ^ 20 → width ≤ 2 ^ 12 → rows * width ≤ 2 ^ 32
rank_small rows width few narrow = omega (arith, mul-le rows width (2 ^ 20) (2 ^ 12) few narrow)

private_small : (private width : ℕ) → private ≤ 65536 → width ≤ 2 ^ 12 → private * width ≤ 2 ^ 28
private_small private width few narrow = omega (arith, mul-le private width 65536 (2 ^ 12) few narrow)

chosen : (r most x : ℕ) → r ≤ most → x ≡ cond (leb r most) x 0
chosen r most x low = let e : leb r most ≡ true = grind (arith, nat_tests) in sym (ap (λ b. cond b x 0) e)

above : (r most x : ℕ) → most < r → ◌≡◌ {A = ℕ} 0 (cond (leb r most) x 0)
above r most x high = let e : leb r most ≡ false = grind (arith, nat_tests) in sym (ap (λ b. cond b x 0) e)

pub loop-rank-init : goal.loop-rank-init
loop-rank-init c = record {
  slice_words =
      private_is _ _ _ _ _ (c.from.ensures ∙ c.demand_of-demand.ensures.private) c.width.ensures.value (base_of_rank-zero c.args.config.now);
  small =
      let few : c.from.result ≤ 65536 = omega (arith, c.from.ensures, c.demand_of-demand.ensures.private, private_words_small c.args.config.now c.requires) in
      omega (arith, private_small c.from.result c.width.result few c.width.ensures.bound);
  seven = refl;
  done = λ r low. absurd (omega arith);
  left = λ r _. zeros 7 r;
}

pub overflow_add-slice_words : goal.overflow_add-slice_words
overflow_add-slice_words c =
    let few : c.from-in-loop-rank.result ≤ 2 ^ 20 = omega (arith, c.from-in-loop-rank.ensures, c.rows_of_rank-count.ensures.bound) in
    let small = rank_small c.from-in-loop-rank.result c.width-in-loop-rank.result few c.width-in-loop-rank.ensures.bound in
    let sum : c.loop-rank.slice_words + c.from-in-loop-rank.result * c.width-in-loop-rank.result < 2 ^ 64 = omega (arith, c.loop-rank.invariant.small, c.requires.max_rank) in
    search rules

pub loop-rank-preserved : goal.loop-rank-preserved
loop-rank-preserved c = record {
  slice_words =
      rank_is _ _ _ _ _ _ _ c.loop-rank.invariant.slice_words (c.from-in-loop-rank.ensures ∙ c.rows_of_rank-count.ensures.value) c.width-in-loop-rank.ensures.value
      (base_of_rank-more c.args.config.now c.loop-rank.rank);
  small =
      let few : c.from-in-loop-rank.result ≤ 2 ^ 20 = omega (arith, c.from-in-loop-rank.ensures, c.rows_of_rank-count.ensures.bound) in
      let small = rank_small c.from-in-loop-rank.result c.width-in-loop-rank.result few c.width-in-loop-rank.ensures.bound in
      omega (arith, c.loop-rank.invariant.small);
  seven = length-set c.loop-rank.rows c.loop-rank.rank _ ∙ c.loop-rank.invariant.seven;
  done = λ r low.
      ⊎_elim
      (λ (same : r ≡ c.loop-rank.rank).
      let within : c.loop-rank.rank < length c.loop-rank.rows = omega (arith, c.requires.max_rank) in
      subst (λ k. get_or (set c.loop-rank.rows c.loop-rank.rank c.rows_of_rank-count.result) k 0 ≡ shared_rows c.args.config.now k) (sym same)
      (get_or-set_same c.loop-rank.rows c.loop-rank.rank _ 0 within ∙ c.rows_of_rank-count.ensures.value))
      (λ (other : r ≢ c.loop-rank.rank).
      let below : r < c.loop-rank.rank = omega arith in
      get_or-set_other c.loop-rank.rows c.loop-rank.rank r _ 0 other ∙ c.loop-rank.invariant.done r below)
      (cases_eq r c.loop-rank.rank);
  left = λ r high.
      let other : r ≢ c.loop-rank.rank = omega arith in
      let above : c.loop-rank.rank ≤ r = omega arith in
      get_or-set_other c.loop-rank.rows c.loop-rank.rank r _ 0 other ∙ c.loop-rank.invariant.left r above;
}

pub overflow_mul-result : goal.overflow_mul-result
overflow_mul-result c =
    let few : c.from-2.result ≤ 1024 = omega (arith, c.from-2.ensures, c.requires.slices.1) in
    let small : c.loop-rank.slice_words ≤ 2 ^ 36 = omega (arith, c.loop-rank.invariant.small, c.requires.max_rank) in
    let product = mul-le c.from-2.result c.loop-rank.slice_words 1024 (2 ^ 36) few small in
    let fits : c.from-2.result * c.loop-rank.slice_words < 2 ^ 64 = omega arith in
    search rules

pub returns-clause-rows : goal.returns-clause-rows
unfolding row_table
returns-clause-rows c =
    let config = c.args.config.now in
    let all : c.loop-rank.rank ≡ config.max_rank + 1 = omega arith in
    fill_by_all (λ r. cond (leb r config.max_rank) (shared_rows config r) 0) c.loop-rank.rows 7 0 c.loop-rank.invariant.seven (λ r low.
    ⊎_elim
    (λ (high : config.max_rank < r). c.loop-rank.invariant.left r (omega arith) ∙ above r config.max_rank (shared_rows config r) high)
    (λ (within : r ≤ config.max_rank). c.loop-rank.invariant.done r (omega arith) ∙ chosen r config.max_rank (shared_rows config r) within)
    (cases_lt config.max_rank r))
