-- What a tuning leaves as it was.
use Rattle.std.proofs.Common.{◌≡◌, ◌*◌, ◌≤◌, ap, sym, subst}
use Rattle.std.proofs.Math.Nat.{le_trans, mul-le-mul_left}
use Rattle.funnel_model.specs.Configuration.{IsTuning, IsValid}
use Rattle.funnel_model.specs.Sizes.{columns_of_pool, words_of_pool, words_of_slice}
use Rattle.funnel_model.specs.declared.config.Config.{Config}
use Rattle.funnel_model.specs.declared.config.TheConstants.{MOST_COLUMNS}

-- a tuning has as many columns
pub columns_of_tuning : (opening config : Config) → IsTuning opening config → columns_of_pool config ≡ columns_of_pool opening
columns_of_tuning opening config tuning = ap columns_of_pool tuning.kept

-- one whose slices need no more words than before is valid
pub tuning_is_valid : (opening config : Config) → IsValid opening → IsTuning opening config → words_of_slice config ≤ words_of_slice opening → IsValid config
tuning_is_valid opening config valid tuning narrow =
    let slices : config.slices ≡ opening.slices = ap (λ (c : Config). c.slices) tuning.kept in
    let words : words_of_pool config ≤ words_of_pool opening =
    subst (λ n. n * words_of_slice config ≤ words_of_pool opening) (sym slices) (mul-le-mul_left opening.slices narrow) in record {
      in_range = tuning.in_range;
      in_order = tuning.in_order;
      folded = tuning.folded;
      few_columns = subst (λ n. n ≤ MOST_COLUMNS) (sym (columns_of_tuning opening config tuning)) valid.few_columns;
      small_pool = le_trans words valid.small_pool;
    }
