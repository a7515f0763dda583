use Rattle.std.proofs.Common.{ap, ◌∙◌, subst}
use Rattle.slice_rule.specs.Pools.{PoolId}
use Rattle.commit_desk_tests.specs.Tested.{IsLayoutOfPool}
use Rattle.commit_desk_tests.proofs.setting.run_named.Goals as goal

pub invariant_of-setting : goal.invariant_of-setting
invariant_of-setting g c = record {
  of_name = c.requires.named;
  desk_of_name = c.requires.desk ∙ c.requires.named;
  laid = subst (IsLayoutOfPool c.args.layout) c.requires.named c.requires.laid;
  base_is = c.requires.base ∙ ap (λ (p : PoolId). p.config) c.requires.named;
  in_range = c.requires.in_range;
}
