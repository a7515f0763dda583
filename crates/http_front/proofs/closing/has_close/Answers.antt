use Rattle.std.proofs.Common.{sym, ◌∙◌, arith}
use Rattle.http_front.proofs.OptionLaws.{at_comma, elsewhere}
use Rattle.http_front.proofs.closing.has_close.Goals.{then-value-at-eq44+else-is_close, else-value-at-eq44}
use Rattle.http_front.proofs.closing.has_close.Goals as goal

pub loop-at-preserved : goal.loop-at-preserved
loop-at-preserved c =
    elim c.if-value-at-eq44.branch [
      | then-value-at-eq44+else-is_close w ↦
          rw w.start-is (omega arith, at_comma c.args.value.now c.loop-at.start c.loop-at.at c.loop-at.invariant.0 c.loop-at-test.true w.if-value-at-eq44.true (sym w.is_close.ensures ∙ w.if-is_close.false) c.loop-at.invariant.1)
      | else-value-at-eq44 w ↦
          rw w.start-is (omega (arith, c.loop-at.invariant.0), elsewhere c.args.value.now c.loop-at.start c.loop-at.at c.loop-at.invariant.0 c.loop-at-test.true w.if-value-at-eq44.false c.loop-at.invariant.1)
    ]
