-- The walk begins at the worker's first place, goes on by one document, and ends behind the list.
use Rattle.std.proofs.Common.{◌+◌, ◌≤◌, [], length, refl, sym, ap, subst, ◌∙◌, arith}
use Rattle.std.proofs.Math.Nat.{add-mod_right, mod-eq_of_lt}
use Rattle.load_gen.specs.Jobs.{adds_of}
use Rattle.funnel_server.specs.Shares.{IsDone}
use Rattle.funnel_server.proofs.Asked.{on_err, under_way-begin, under_way-end, under_way-more, under_way-stop}
use Rattle.funnel_server.proofs.ShareCalls.{adds_left-begin, adds_left-end, adds_left-next}
use Rattle.funnel_server.proofs.share.add_share.Goals as goal
use Rattle.funnel_server.proofs.share.add_share.Goals.{else-loop-i-test, then-loop-i-test+in_ok-add_document+else-i-step-i-end}

pub loop-i-init : goal.loop-i-init
loop-i-init g c = record {
  caller = refl;
  falls = mod-eq_of_lt c.requires.one_of_them;
  count = omega arith;
  so_far = ([], under_way-begin _ _ _ _ (adds_left-begin c.args.load.now c.args.workers c.args.worker c.requires.one_of_them));
}

pub returns-in_err-add_document-clause-stopped : goal.returns-in_err-add_document-clause-stopped
returns-in_err-add_document-clause-stopped g c =
    on_err c.from_residual.result
    (under_way-stop _ _ _ _ _ _ _ _ _ _ c.loop-i.invariant.caller c.loop-i.invariant.so_far.1
    (adds_left-next c.args.load.now c.args.workers c.args.worker c.loop-i.i c.loop-i.n (c.from.result + 1) c.text.result.now c.requires.one_of_them
    c.loop-i.invariant.falls c.text.ensures (ap (λ n. n + 1) c.from.ensures))
    c.in_err-add_document.ensures.stopped)

pub loop-i-preserved : goal.loop-i-preserved
loop-i-preserved g c = record {
  caller = c.add_document.ensures.caller ∙ c.loop-i.invariant.caller;
  falls = add-mod_right c.loop-i.i c.args.workers ∙ c.loop-i.invariant.falls;
  count = omega arith;
  so_far = (
    _,
    under_way-more _ _ _ _ _ _ _ _ _ _ _ c.loop-i.invariant.caller c.loop-i.invariant.so_far.1
        (adds_left-next c.args.load.now c.args.workers c.args.worker c.loop-i.i c.loop-i.n (c.from.result + 1) c.text.result.now c.requires.one_of_them
        c.loop-i.invariant.falls c.text.ensures (ap (λ n. n + 1) c.from.ensures))
        c.in_ok-add_document.ensures.done.1,
  );
}

pub returns-clause-done : goal.returns-clause-done
returns-clause-done g c =
    let caller = g.S.Service.caller c.args.service.now in
    let before = g.S.Service.front c.args.service.now in
    let texts = c.args.load.now in
    let workers = c.args.workers in
    let worker = c.args.worker in
    elim c.loop-i-test.branch [
      | else-loop-i-test w ↦
          let behind : length texts ≤ c.loop-i.i = omega arith in
          subst (λ service. IsDone caller before (g.S.Service.front service) (adds_of texts workers worker)) (sym w.service-is)
          (_, under_way-end _ _ _ _ _ _ c.loop-i.invariant.so_far.1 (adds_left-end texts workers worker c.loop-i.i c.loop-i.n behind))
      | then-loop-i-test+in_ok-add_document+else-i-step-i-end w ↦
          let behind : length texts ≤ c.loop-i.i + workers = omega arith in
          subst (λ service. IsDone caller before (g.S.Service.front service) (adds_of texts workers worker)) (sym w.service-is) (
            _,
            under_way-end _ _ _ _ _ _
                (under_way-more _ _ _ _ _ _ _ _ _ _ _ c.loop-i.invariant.caller c.loop-i.invariant.so_far.1
                (adds_left-next texts workers worker c.loop-i.i c.loop-i.n (w.from.result + 1) w.text.result.now c.requires.one_of_them
                c.loop-i.invariant.falls w.text.ensures (ap (λ n. n + 1) w.from.ensures))
                w.in_ok-add_document.ensures.done.1)
                (adds_left-end texts workers worker (c.loop-i.i + workers) (c.loop-i.n + 1) behind),
          )
    ]
