-- the configurations so far
use Rattle.std.proofs.Common.{◌≡◌, vec_len}
use Rattle.std.specs.List.{All}
use Rattle.funnel_model.specs.Configuration.{IsValid}
use Rattle.shard_set_tests.proofs.setting.alike.Given as goal

abbrev pub invariant-loop : goal.invariant-loop
invariant-loop l = record {
  count : vec_len l.configs ≡ l.counter;
  valid : All IsValid l.configs.items;
}
