use Rattle.std.proofs.Common.{◌∙◌, sym, arith}
use Rattle.bool_query.proofs.Lexing.{left-at_end, left-ended, left-longer}
use Rattle.bool_query.proofs.parse.atom_end.Goals as goal

pub returns-after-loop-end : goal.returns-after-loop-end
returns-after-loop-end c =
    omega (arith, c.loop-end.invariant.1, left-at_end c.args.bytes.now c.loop-end.end c.loop-end-test.false)

pub returns-else-not-ends_atom : goal.returns-else-not-ends_atom
returns-else-not-ends_atom c =
    omega (
      arith,
      c.loop-end.invariant.1,
      left-ended c.args.bytes.now c.loop-end.end c.loop-end-test.true (sym c.ends_atom.ensures ∙ c.if-not-ends_atom.false),
    )

pub loop-end-preserved : goal.loop-end-preserved
loop-end-preserved c =
    let longer = left-longer c.args.bytes.now c.loop-end.end c.loop-end-test.true (sym c.ends_atom.ensures ∙ c.if-not-ends_atom.true) in
    (omega arith, omega (arith, c.loop-end.invariant.1, longer))
