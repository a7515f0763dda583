-- One configuration more.
use Rattle.std.proofs.Common.{arith, subst, sym}
use Rattle.std.proofs.lemmas.List.Elements.{All-push}
use Rattle.std.specs.List.{All}
use Rattle.funnel_model.specs.Configuration.{IsValid}
use Rattle.shard_set_tests.proofs.setting.alike.Goals as goal

pub loop-preserved : goal.loop-preserved
loop-preserved c = record {
  count = omega (arith, c.loop.invariant.count, c.in-Ok.ensures.len);
  valid = subst (All IsValid) (sym c.in-Ok.ensures.items) (All-push IsValid c.loop.configs.items c.in_ok-config.config c.loop.invariant.valid c.in_ok-config.ensures.valid);
}
