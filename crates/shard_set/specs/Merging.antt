-- The answers of several shards, in the order of the places.
use Rattle.std.specs.Prelude.{ℕ, ◌≡◌, List, map, nat_eq, Option}
use Rattle.std.specs.List.Sorted.{IsPermutation, IsSorted}
use Rattle.std.specs.Map.{lookup}
use Rattle.std.specs.Option.{option_map}
use Rattle.document_store.specs.Finding.{pair_cmp}
use Rattle.shard_set.specs.declared.home.Home.{Home}

-- the number with the place of its document, where it has one
abbrev pub placed : List (ℕ × Home) → ℕ → Option (ℕ × ℕ)
placed homes id = option_map (λ h. (h.place, id)) (lookup (nat_eq id) homes)

-- the numbers of these pairs, in the order of their places
pub record IsInOrder (found : List (ℕ × ℕ)) (ids : List ℕ) : Type 0 where
  pub sorted : List (ℕ × ℕ)
  pub same : IsPermutation found sorted
  pub rising : IsSorted pair_cmp sorted
  pub numbers : ids ≡ map (λ (f : ℕ × ℕ). f.1) sorted
