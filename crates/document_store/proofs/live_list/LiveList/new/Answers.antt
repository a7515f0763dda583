use Rattle.std.proofs.Common.{◌≡◌, ℕ, ◌*◌, ◌<◌, ◌≤◌, ◌^◌, sym, subst, arith}
use Rattle.std.proofs.lemmas.Nat.{pow_pos}
use Rattle.document_store.specs.Trees.{none}
use Rattle.document_store.proofs.ColumnLemmas.{new-empty, new-keeps}
use Rattle.document_store.proofs.live_list.LiveList.new.Goals as goal

some : (n : ℕ) → (k : ℕ) × (n ≡ 2 ^ k) → 0 < n
some n power = subst (λ m. 0 < m) (sym power.1) (pow_pos power.0)

few : (slices columns : ℕ) → slices * columns < 2 ^ 32 → slices * columns ≤ none
few slices columns less = omega (arith, less)

pub invariant_of-result : goal.invariant_of-result
invariant_of-result c =
    new-keeps c.args.slices c.args.columns c.next_power_of_two-buckets.result c.in_ok-vec.field-0.items c.in_ok-vec-2.field-0.items
    (some c.next_power_of_two-buckets.result c.next_power_of_two-buckets.ensures.power) (few c.args.slices c.args.columns c.requires)
    (c.in_ok-vec.ensures.items_if_clones_equal (λ y e. e)) (c.in_ok-vec-2.ensures.items_if_clones_equal (λ y e. e))

pub returns-clause-empty : goal.returns-clause-empty
returns-clause-empty c =
    new-empty c.args.slices c.args.columns c.next_power_of_two-buckets.result c.in_ok-vec.field-0.items c.in_ok-vec-2.field-0.items
    (some c.next_power_of_two-buckets.result c.next_power_of_two-buckets.ensures.power) (few c.args.slices c.args.columns c.requires)
    (c.in_ok-vec.ensures.items_if_clones_equal (λ y e. e)) (c.in_ok-vec-2.ensures.items_if_clones_equal (λ y e. e))
