-- One more class has the ranks of its rows.
use Rattle.std.proofs.Common.{◌≡◌, ◌≢◌, ◌+◌, ◌<◌, ◌≤◌, ℕ, List, [], length, get_or, set, arith, ◌∙◌, sym, subst, ⊎_elim, get_or-set_other, get_or-set_same}
use Rattle.std.proofs.lemmas.Bool.{cases_eq}
use Rattle.std.proofs.lemmas.List.{length-set}
use Rattle.funnel_model.specs.Treatment.{row_count_of_class}
use Rattle.row_layout.specs.Rows.{rank_in_class}
use Rattle.row_layout.proofs.class_table.ranks_of.Goals as goal

-- what holds of each class below this one and of this one holds of each below the next
one_more : (P : ℕ → List ℕ → Type 0) (table : List (List ℕ)) (class : ℕ) (ranks : List ℕ) → class < length table →
    ((k : ℕ) → k < class → P k (get_or table k [])) → P class ranks → (k : ℕ) → k < class + 1 → P k (get_or (set table class ranks) k [])
one_more P table class ranks inside before at k below =
    ⊎_elim
    (λ (same : k ≡ class). subst (λ i. P i (get_or (set table class ranks) i [])) (sym same) (subst (P class) (sym (get_or-set_same table class ranks [] inside)) at))
    (λ (other : k ≢ class). subst (P k) (sym (get_or-set_other table class k ranks [] other)) (before k (omega arith)))
    (cases_eq k class)

pub loop-class-preserved : goal.loop-class-preserved
loop-class-preserved c =
    let config = c.args.config.now in
    let lt : c.loop-class.class < length c.loop-class.ranks = omega (arith, c.loop-class.invariant.all) in
    record {
      all = length-set c.loop-class.ranks c.loop-class.class _ ∙ c.loop-class.invariant.all;
      ranks = λ k j below has.
          one_more (λ i ranks. (j : ℕ) → j < row_count_of_class config.one_in config.snr i → get_or ranks j 0 ≡ rank_in_class config i j)
          c.loop-class.ranks c.loop-class.class c.ranks_in_class.result lt (λ i less row in'. c.loop-class.invariant.ranks i row less in')
          c.ranks_in_class.ensures.ranks k below j has;
      low = λ k j below has.
          one_more (λ i ranks. (j : ℕ) → j < row_count_of_class config.one_in config.snr i → get_or ranks j 0 ≤ config.max_rank)
          c.loop-class.ranks c.loop-class.class c.ranks_in_class.result lt (λ i less row in'. c.loop-class.invariant.low i row less in')
          c.ranks_in_class.ensures.low k below j has;
    }
