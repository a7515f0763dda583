use Rattle.std.proofs.Common.{false, arith}
use Rattle.std.proofs.lemmas.Grind.{common_steps}
use Rattle.std.proofs.lemmas.List.Folds.{length-flat_map-take}
use Rattle.line_proto.specs.Texts.{signed}
use Rattle.line_proto.proofs.reply.push_signed.Goals as goal

pub returns-in_err-push_commit-clause-full : goal.returns-in_err-push_commit-clause-full
returns-in_err-push_commit-clause-full c =
    let fits = length-flat_map-take signed c.args.commits.now c.loop-commit.commit-index (record { add = false; id = 0 }) c.loop-commit-test.true in
    grind (arith, common_steps)
