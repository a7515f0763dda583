-- What is known of an engine that was opened over a blank.
use Rattle.std.proofs.Common.{◌≡◌, List, map, sym, ap, ◌∙◌}
use Rattle.std.specs.List.{range_with_len}
use Rattle.funnel_model.specs.declared.config.Config.{Config}
use Rattle.funnel_model.specs.Legal.{Limits}
use Rattle.engine.specs.Passes.{PassView, new_pass}
use Rattle.slice_rule.specs.Pools.{PoolId}
use Rattle.funnel.specs.Runs.{limits_by}
use Rattle.funnel.specs.Serving.{new_passes}

module _ (pool blank : PoolId) (config : Config) (over : pool ≡ blank) where
  pub opened_limits : blank.limits ≡ limits_by config → pool.limits ≡ limits_by config
  opened_limits limits = ap (λ (p : PoolId). p.limits) over ∙ limits

  module _ (made : blank.config ≡ config) where
    pub opened_config : pool.config ≡ config
    opened_config = ap (λ (p : PoolId). p.config) over ∙ made

    pub opened_counted : blank.limits ≡ limits_by config → pool.limits.passes ≡ pool.config.passes
    opened_counted limits = ap (λ (l : Limits). l.passes) (opened_limits limits) ∙ sym (ap (λ (k : Config). k.passes) opened_config)

    pub opened_passes : (passes : List PassView) → passes ≡ map new_pass (range_with_len 0 config.passes) → passes ≡ new_passes 0 pool.config.passes
    opened_passes passes are = are ∙ ap (λ (k : Config). new_passes 0 k.passes) (sym opened_config)
