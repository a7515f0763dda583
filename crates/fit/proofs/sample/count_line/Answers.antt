use Rattle.std.proofs.Common.{◌≤◌, length, arith}
use Rattle.fit.proofs.Sampling.{text-short}
use Rattle.fit.proofs.sample.count_line.Goals as goal

pub count_text-requires-clause-short : goal.count_text-requires-clause-short
count_text-requires-clause-short c =
    let short : length c.in-Some-Add.text.now ≤ length c.args.line.now = text-short c.args.line.now c.in-Some-Add.text.now _ (rw c.in-Some-Add.field-0-is at c.in-Some-Add.ensures) in
    omega (arith, c.requires.short)
