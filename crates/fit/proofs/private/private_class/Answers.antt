use Rattle.std.proofs.Common.{◌<◌, arith, map}
use Rattle.fit.proofs.Privates.{below, more_than_two}
use Rattle.fit.specs.Privates.{count_up_to}
use Rattle.fit.specs.Steps.{ranked}
use Rattle.fit.proofs.private.private_class.Goals as goal

pub loop-last-preserved : goal.loop-last-preserved
loop-last-preserved c =
    let words = map ranked c.args.first.now in
    let last = c.loop-last.last in
    let many : 512 < count_up_to c.args.documents last words = omega (arith, c.count_up_to.ensures, c.loop-last-test.true) in
    record {
      low = omega (arith, more_than_two c.args.documents last words c.loop-last.invariant.low many);
      high = omega (arith, c.loop-last.invariant.high);
      none_above = λ other high few.
          omega (arith, below c.args.documents last other words many few (c.loop-last.invariant.none_above other high few));
    }

pub returns : goal.returns
returns c = record {
  low = c.loop-last.invariant.low;
  high = c.loop-last.invariant.high;
  few = omega (arith, c.count_up_to.ensures, c.loop-last-test.false);
  greatest = c.loop-last.invariant.none_above;
}
