use Rattle.std.proofs.Common.{ap, sym, ◌∙◌}
use Rattle.slice_rule.specs.Pools.{PoolId}
use Rattle.engine_tests.proofs.retuning.open_and_tune.Goals as goal

pub tails-requires-clause-opening : goal.tails-requires-clause-opening
tails-requires-clause-opening g c = sym (ap (λ (p : PoolId). p.config) c.requires.named) ∙ c.requires.made_with
