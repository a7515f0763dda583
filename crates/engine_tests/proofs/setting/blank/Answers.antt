use Rattle.std.proofs.Common.{◌≤◌, rules}
use Rattle.engine_tests.proofs.Passes.{valid-no_words}
use Rattle.funnel_model.specs.Sizes.{columns_of_pool, words_of_pool}
use Rattle.engine_tests.proofs.setting.blank.Goals as goal

pub new-requires : goal.new-requires
new-requires c =
    let columns : columns_of_pool c.args.config.now ≤ 4194304 = search rules in
    let words : words_of_pool c.args.config.now ≤ 33554432 = search rules in
    record { valid = valid-no_words c.args.config.now c.requires.in_range c.requires.no_words columns words }
