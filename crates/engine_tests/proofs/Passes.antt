-- A configuration without listed words is valid.
use Rattle.std.proofs.Common.{◌≡◌, ℕ, ◌≤◌, List, [], length, ap, sym, ◌∙◌, subst, arith}
use Rattle.std.proofs.lemmas.List.Elements.{All-nil}
use Rattle.std.specs.List.{All}
use Rattle.std.specs.List.Sorted.{IsStrictlySortedBy}
use Rattle.funnel_model.specs.Configuration.{IsBetween, IsInRange, IsTuning, IsValid, IsWord, with_statistics}
use Rattle.funnel_model.specs.declared.config.Config.{Config}
use Rattle.funnel_model.specs.Listed.{IsInByteOrder}
use Rattle.funnel_model.specs.Sizes.{columns_of_pool, words_of_pool}

no_words-in_order : IsInByteOrder []
unfolding IsStrictlySortedBy
no_words-in_order = tt

pub valid-no_words : (config : Config) → IsInRange config → config.words ≡ [] → columns_of_pool config ≤ 4194304 → words_of_pool config ≤ 33554432 → IsValid config
valid-no_words config in_range none columns words = record {
  in_range = in_range;
  in_order = subst IsInByteOrder (sym none) no_words-in_order;
  folded = subst (All (λ (entry : List ℕ × ℕ). IsWord entry.0)) (sym none) (All-nil (λ (entry : List ℕ × ℕ). IsWord entry.0));
  few_columns = columns;
  small_pool = words;
}

-- and it tunes an engine that has its other values, but for a shorter tail
pub tuning-no_words : (opening config : Config) → config ≡ record opening { tail = config.tail; words = config.words } → IsInRange opening → config.tail ≤ 100000 → config.words ≡ [] →
    IsTuning opening config
tuning-no_words opening config kept is tail none = record {
  kept = kept ∙ ap (λ (k : Config). with_statistics opening k) (sym kept);
  in_range = subst IsInRange (sym kept) (record {
    passes = is.passes;
    slices = is.slices;
    blocks = is.blocks;
    max_rank = is.max_rank;
    commits = is.commits;
    reserve = is.reserve;
    one_in = is.one_in;
    snr = is.snr;
    documents = is.documents;
    tail = tail;
    max_rows = is.max_rows;
    private = is.private;
    words = record {
      few = subst (λ (ws : List (List ℕ × ℕ)). length ws ≤ 65536) (sym none) (let none_few : 0 ≤ 65536 = omega arith in none_few);
      counted = subst (All (λ (entry : List ℕ × ℕ). IsBetween 1 opening.documents entry.1)) (sym none) (All-nil (λ (entry : List ℕ × ℕ). IsBetween 1 opening.documents entry.1));
    };
  });
  in_order = subst IsInByteOrder (sym none) no_words-in_order;
  folded = subst (All (λ (entry : List ℕ × ℕ). IsWord entry.0)) (sym none) (All-nil (λ (entry : List ℕ × ℕ). IsWord entry.0));
}
