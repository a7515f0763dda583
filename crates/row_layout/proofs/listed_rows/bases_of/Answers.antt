use Rattle.std.proofs.Common.{rules, ◌≡◌, ◌≢◌, ℕ, ◌+◌, ◌*◌, ◌^◌, ◌<◌, ◌≤◌, List, length, get_or, set, refl, ap, sym, subst, ◌∙◌, ⊎_elim, get_or-set_same, get_or-set_other, arith}
use Rattle.std.proofs.lemmas.Bool.{cases_eq}
use Rattle.std.proofs.lemmas.List.{length-set}
use Rattle.funnel_model.specs.Sizes.{base_of_rank, shared_rows, width_of_rank}
use Rattle.funnel_model.proofs.SizesLemmas.{base_of_rank-zero, base_of_rank-more}
use Rattle.row_layout.proofs.Spans.{base-below, row_table-at}
use Rattle.row_layout.proofs.listed_rows.bases_of.Goals as goal

-- the words of rows that are as many and as wide
same_words : (n m v w : ℕ) → n ≡ m → v ≡ w → n * v ≡ m * w
same_words n m v w e f = ap (λ k. k * v) e ∙ ap (λ k. m * k) f

pub overflow_mul-base : goal.overflow_mul-base
overflow_mul-base c =
    let config = c.args.config.now in
    let is : c.args.sizes.now.private * c.width_of.result ≡ base_of_rank config 0 = same_words _ _ _ _ c.requires.private c.width_of.ensures.value ∙ sym (base_of_rank-zero config) in
    let fits : c.args.sizes.now.private * c.width_of.result < 2 ^ 32 = omega (arith, is, base-below config 0 (config.max_rank + 1) (omega arith), c.requires.small) in
    search rules

pub loop-rank-init : goal.loop-rank-init
loop-rank-init c = record {
  base = same_words _ _ _ _ c.requires.private c.width_of.ensures.value ∙ sym (base_of_rank-zero c.args.config.now);
  seven = refl;
  done = λ r low. absurd (omega arith);
}

pub overflow_mul-base-in-loop-rank : goal.overflow_mul-base-in-loop-rank
overflow_mul-base-in-loop-rank c =
    let config = c.args.config.now in
    let rank = c.loop-rank.rank in
    let low : rank ≤ config.max_rank = omega arith in
    let count : get_or c.args.sizes.now.rows rank 0 ≡ shared_rows config rank = ap (λ (rows : List ℕ). get_or rows rank 0) c.requires.rows ∙ row_table-at config c.requires.in_range rank low in
    let is : get_or c.args.sizes.now.rows rank 0 * c.width_of-in-loop-rank.result ≡ shared_rows config rank * width_of_rank config rank = same_words _ _ _ _ count c.width_of-in-loop-rank.ensures.value in
    let fits : get_or c.args.sizes.now.rows rank 0 * c.width_of-in-loop-rank.result < 2 ^ 32 =
    omega (arith, is, base_of_rank-more config rank, base-below config (rank + 1) (config.max_rank + 1) (omega arith), c.requires.small) in
    search rules

pub overflow_add-base : goal.overflow_add-base
overflow_add-base c =
    let config = c.args.config.now in
    let rank = c.loop-rank.rank in
    let low : rank ≤ config.max_rank = omega arith in
    let count : get_or c.args.sizes.now.rows rank 0 ≡ shared_rows config rank = ap (λ (rows : List ℕ). get_or rows rank 0) c.requires.rows ∙ row_table-at config c.requires.in_range rank low in
    let is : get_or c.args.sizes.now.rows rank 0 * c.width_of-in-loop-rank.result ≡ shared_rows config rank * width_of_rank config rank = same_words _ _ _ _ count c.width_of-in-loop-rank.ensures.value in
    let fits : c.loop-rank.base + get_or c.args.sizes.now.rows rank 0 * c.width_of-in-loop-rank.result < 2 ^ 32 =
    omega (arith, is, c.loop-rank.invariant.base, base_of_rank-more config rank, base-below config (rank + 1) (config.max_rank + 1) (omega arith), c.requires.small) in
    search rules

pub loop-rank-preserved : goal.loop-rank-preserved
loop-rank-preserved c =
    let config = c.args.config.now in
    let rank = c.loop-rank.rank in
    let low : rank ≤ config.max_rank = omega arith in
    let count : get_or c.args.sizes.now.rows rank 0 ≡ shared_rows config rank = ap (λ (rows : List ℕ). get_or rows rank 0) c.requires.rows ∙ row_table-at config c.requires.in_range rank low in
    let is : get_or c.args.sizes.now.rows rank 0 * c.width_of-in-loop-rank.result ≡ shared_rows config rank * width_of_rank config rank = same_words _ _ _ _ count c.width_of-in-loop-rank.ensures.value in
    record {
      base = omega (arith, is, c.loop-rank.invariant.base, base_of_rank-more config rank);
      seven = length-set c.loop-rank.bases rank _ ∙ c.loop-rank.invariant.seven;
      done = λ r below.
          ⊎_elim
          (λ (same : r ≡ rank).
          let within : rank < length c.loop-rank.bases = omega (arith, c.requires.in_range.max_rank, c.loop-rank.invariant.seven) in
          subst (λ k. get_or (set c.loop-rank.bases rank c.loop-rank.base) k 0 ≡ base_of_rank config k) (sym same)
          (get_or-set_same c.loop-rank.bases rank _ 0 within ∙ c.loop-rank.invariant.base))
          (λ (other : r ≢ rank). get_or-set_other c.loop-rank.bases rank r _ 0 other ∙ c.loop-rank.invariant.done r (omega arith))
          (cases_eq r rank);
    }
