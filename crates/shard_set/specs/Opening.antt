-- What a set's shards are opened as, and what is left of them.
use Rattle.std.specs.Prelude.{◌≡◌, [], length}
use Rattle.engine.specs.Engines.{ClosedState}
use Rattle.engine.specs.Solos.{SoloState, with_one_pass}
use Rattle.funnel_model.specs.declared.config.Config.{Config}
use Rattle.funnel_model.specs.History.{MovesAreCaused, base, commits_after}
use Rattle.funnel_model.specs.Legal.{IsLegal}
use Rattle.funnel_model.specs.Sizes.{words_of_slice}
use Rattle.row_layout.specs.Sound.{IsSound}
use Rattle.slice_rule.specs.Pools.{limits_of}

-- the shard is an empty engine of one pass with this configuration
pub record IsOpened (config : Config) (shard : SoloState) : Type 0 where
  pub config_is : shard.pool.config ≡ with_one_pass config
  pub limits : shard.pool.limits ≡ limits_of (with_one_pass config) (words_of_slice config)
  pub empty : shard.history ≡ []

-- this is left of the shard: its history, which is legal, the last commits of it, and how many events it has
pub record IsLeftOf (shard : SoloState) (left : ClosedState) : Type 0 where
  pub history : left.history ≡ shard.history
  pub legal : IsLegal shard.pool.limits left.history
  pub sound : IsSound shard.pool.config left.history
  pub caused : MovesAreCaused left.history
  pub base_is : left.base ≡ base shard.pool.limits.commits left.history
  pub commits : left.commits ≡ commits_after left.history (base shard.pool.limits.commits left.history)
  pub events : left.events ≡ length left.history
