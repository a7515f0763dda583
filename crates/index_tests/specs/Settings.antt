-- Configurations and listed words of the tests.
use Rattle.std.specs.Prelude.{◌≡◌, ℕ, ◌≤◌, List, All, length}
use Rattle.funnel_model.specs.Configuration.{IsBetween}
use Rattle.funnel_model.specs.declared.config.Config.{Config}

-- the words are not too many for a configuration, and each is in at least one and at most so many documents
pub record CanBeListed (documents : ℕ) (words : List (List ℕ × ℕ)) : Type 0 where
  pub few : length words ≤ 65536
  pub counts : All (λ entry. IsBetween 1 documents entry.1) words

-- two slices of one block, with rows up to this rank
pub record HasTwoSlices (max_rank : ℕ) (config : Config) : Type 0 where
  pub slices : config.slices ≡ 2
  pub blocks : config.blocks ≡ 1
  pub rank : config.max_rank ≡ max_rank
