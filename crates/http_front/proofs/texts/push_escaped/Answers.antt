use Rattle.std.proofs.Common.{arith}
use Rattle.std.proofs.lemmas.Grind.{common_steps}
use Rattle.std.proofs.lemmas.List.Folds.{length-flat_map-take}
use Rattle.json.specs.Print.{escape_byte}
use Rattle.http_front.proofs.texts.push_escaped.Goals as goal

pub returns-in_err-push_byte-clause-full : goal.returns-in_err-push_byte-clause-full
returns-in_err-push_byte-clause-full c =
    let fits = length-flat_map-take escape_byte c.args.text.now c.loop-byte.byte-index 0 c.loop-byte-test.true in
    grind (arith, common_steps)
