-- The walk begins at the worker's first place, goes on by one document, and ends behind the list.
use Rattle.std.proofs.Common.{◌+◌, ◌<◌, ◌≤◌, [], length, refl, ◌∙◌, arith}
use Rattle.std.proofs.Math.Nat.{add-mod_right, mod-eq_of_lt}
use Rattle.funnel_server.proofs.Asked.{under_way-begin, under_way-end, under_way-more}
use Rattle.funnel_server.proofs.ShareCalls.{deletes_left-begin, deletes_left-end, deletes_left-next}
use Rattle.funnel_server.proofs.share.delete_share.Goals as goal

pub loop-i-init : goal.loop-i-init
loop-i-init g c = record {
  caller = refl;
  falls = mod-eq_of_lt c.requires.one_of_them;
  so_far = ([], under_way-begin _ _ _ _ (deletes_left-begin c.args.load.now c.args.workers c.args.worker c.requires.one_of_them));
}

pub loop-i-preserved : goal.loop-i-preserved
loop-i-preserved g c =
    let within : c.loop-i.i < length c.args.load.now = omega arith in
    record {
      caller = c.delete_where_due.ensures.caller ∙ c.loop-i.invariant.caller;
      falls = add-mod_right c.loop-i.i c.args.workers ∙ c.loop-i.invariant.falls;
      so_far = (
        _,
        under_way-more _ _ _ _ _ _ _ _ _ _ _ c.loop-i.invariant.caller c.loop-i.invariant.so_far.1
            (deletes_left-next c.args.load.now c.args.workers c.args.worker c.loop-i.i c.requires.one_of_them c.loop-i.invariant.falls within)
            c.delete_where_due.ensures.done.1,
      );
    }

pub returns-clause-done : goal.returns-clause-done
returns-clause-done g c =
    let behind : length c.args.load.now ≤ c.loop-i.i = omega arith in
    (_, under_way-end _ _ _ _ _ _ c.loop-i.invariant.so_far.1 (deletes_left-end c.args.load.now c.args.workers c.args.worker c.loop-i.i behind))

pub returns-2-clause-done : goal.returns-2-clause-done
returns-2-clause-done g c =
    let within : c.loop-i.i < length c.args.load.now = omega arith in
    let behind : length c.args.load.now ≤ c.loop-i.i + c.args.workers = omega arith in (
      _,
      under_way-end _ _ _ _ _ _
          (under_way-more _ _ _ _ _ _ _ _ _ _ _ c.loop-i.invariant.caller c.loop-i.invariant.so_far.1
          (deletes_left-next c.args.load.now c.args.workers c.args.worker c.loop-i.i c.requires.one_of_them c.loop-i.invariant.falls within)
          c.delete_where_due.ensures.done.1)
          (deletes_left-end c.args.load.now c.args.workers c.args.worker (c.loop-i.i + c.args.workers) behind),
    )
