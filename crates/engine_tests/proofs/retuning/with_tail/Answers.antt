use Rattle.std.proofs.Common.{sym, subst}
use Rattle.funnel_model.specs.Configuration.{IsTuning}
use Rattle.funnel_model.specs.declared.config.Config.{Config}
use Rattle.engine_tests.proofs.retuning.with_tail.Goals as goal

pub invariant_of-statistics : goal.invariant_of-statistics
invariant_of-statistics g c = subst (λ (k : Config). IsTuning k c.by_tail-config.result) (sym c.requires.opening) c.by_tail-config.ensures
