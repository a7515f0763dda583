-- How large the rows of a pool are.
use Rattle.std.proofs.Common.{◌≡◌, ℕ, ◌-◌, ◌*◌, ◌^◌, ◌≤◌, ap, sym, ◌∙◌, subst, arith}
use Rattle.std.proofs.lemmas.Nat.{mul-le, pow_pos}
use Rattle.funnel_model.specs.Configuration.{IsInRange}
use Rattle.funnel_model.specs.Legal.{Limits}
use Rattle.funnel_model.specs.Sizes.{shared_rows, width_of_rank, words_of_slice}
use Rattle.funnel_model.specs.declared.config.Config.{Config}
use Rattle.funnel_model.specs.declared.config.TheConstants.{MOST_ROW_WORDS}
use Rattle.funnel_model.proofs.SizesLemmas.{rows_end_within_slice, shared_rows-positive}
use Rattle.slice_recycler.specs.Cleared.{IsRoomOf}
use Rattle.slice_rule.specs.Pools.{PoolId}
use Rattle.engine.specs.Engines.{IsOfConfig}

-- a pool has row words, since each of its slices has those of a shared row of rank 0
pub some_words : (config : Config) → IsInRange config → 1 ≤ config.slices * words_of_slice config
some_words config is =
    let wide : 1 * 1 ≤ 2 ^ (config.max_rank - 0) * config.blocks = mul-le 1 1 (2 ^ (config.max_rank - 0)) config.blocks (pow_pos (config.max_rank - 0)) is.blocks.0 in
    let width : 1 ≤ width_of_rank config 0 = omega (arith, wide) in
    let row : 1 * 1 ≤ shared_rows config 0 * width_of_rank config 0 = mul-le 1 1 (shared_rows config 0) (width_of_rank config 0) (shared_rows-positive config 0) width in
    let words : 1 ≤ words_of_slice config = omega (arith, row, rows_end_within_slice config 0 (omega arith)) in
    let product : 1 * 1 ≤ config.slices * words_of_slice config = mul-le 1 1 config.slices (words_of_slice config) is.slices.0 words in
    omega (arith, product)

-- each of its slices has room for so many
module _ (pool : PoolId) (room : ℕ) (of_config : IsOfConfig pool) (is : room ≡ pool.limits.slice_words) where
  pub room_fits : pool.config.slices * room ≤ MOST_ROW_WORDS
  room_fits = subst (λ n. pool.config.slices * n ≤ MOST_ROW_WORDS) (sym (is ∙ ap (λ (l : Limits). l.slice_words) of_config.limits)) of_config.valid.small_pool

  pub is_room_of : IsRoomOf room pool
  is_room_of = record { words = is; small = subst (λ n. n * room ≤ MOST_ROW_WORDS) (sym (ap (λ (l : Limits). l.slices) of_config.limits)) room_fits }
