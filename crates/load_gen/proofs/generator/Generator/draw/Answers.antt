-- The number of a draw has at most 4 digits.
use Rattle.std.proofs.Common.{◌≤◌, decimal, length, subst, sym}
use Rattle.load_gen.proofs.Texts.{drawn_short}
use Rattle.load_gen.proofs.generator.Generator.draw.Goals as goal

pub returns-clause-short : goal.returns-clause-short
returns-clause-short c = subst (λ n. length (decimal n) ≤ 4) (sym c.number_of.ensures) (drawn_short _)
