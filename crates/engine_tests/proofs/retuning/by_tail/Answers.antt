use Rattle.std.proofs.Common.{refl, arith}
use Rattle.engine_tests.proofs.Passes.{tuning-no_words}
use Rattle.engine_tests.proofs.retuning.by_tail.Goals as goal

pub returns : goal.returns
returns c =
    tuning-no_words c.args.opening.now (record c.args.opening.now { tail = c.args.tail; words = c.no_words.result }) refl c.requires.in_range (omega (arith, c.requires.tail)) c.no_words.ensures
