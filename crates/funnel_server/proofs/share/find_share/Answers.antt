-- The walk begins at the worker's first place, goes on by one query, and ends behind the list.
use Rattle.std.proofs.Common.{◌+◌, ◌≤◌, refl, ◌∙◌, arith}
use Rattle.std.proofs.Math.Nat.{add-mod_right, mod-eq_of_lt}
use Rattle.funnel_server.proofs.Asked.{asked-one, on_err, stopped-one, under_way-stop}
use Rattle.funnel_server.proofs.ShareCalls.{queries_left-next}
use Rattle.funnel_server.proofs.ShareResults.{found-begin, found-end, found-next}
use Rattle.funnel_server.proofs.share.find_share.Goals as goal

pub loop-j-init : goal.loop-j-init
loop-j-init g c = record {
  caller = refl;
  falls = mod-eq_of_lt c.requires.one_of_them;
  found = found-begin _ _ _ _ _ c.requires.one_of_them (omega arith);
}

pub returns-in_err-reply-clause-stopped : goal.returns-in_err-reply-clause-stopped
returns-in_err-reply-clause-stopped g c =
    on_err c.from_residual.result
    (under_way-stop _ _ _ _ _ _ _ _ _ _ c.loop-j.invariant.caller c.loop-j.invariant.found.so_far
    (queries_left-next c.args.workers c.args.worker c.loop-j.j c.query-query.result.now c.requires.one_of_them c.loop-j.invariant.falls c.query-query.ensures)
    (stopped-one _ _ _ _ (c.in_err-reply.ensures.refused)))

pub loop-j-preserved : goal.loop-j-preserved
loop-j-preserved g c = record {
  caller = c.ask.ensures.caller ∙ c.loop-j.invariant.caller;
  falls = add-mod_right c.loop-j.j c.args.workers ∙ c.loop-j.invariant.falls;
  found =
      found-next _ _ _ _ _ _ _ _ _ _ _ _ c.loop-j.invariant.caller c.requires.one_of_them c.loop-j.invariant.falls c.query-query.ensures c.loop-j-test.true
      c.loop-j.invariant.found (asked-one _ _ _ _ _ c.in_ok-reply.ensures.answered) c.query_result.ensures;
}

pub returns-clause-found : goal.returns-clause-found
returns-clause-found g c =
    let behind : 8 ≤ c.loop-j.j = omega arith in
    found-end _ _ _ _ _ _ _ behind c.loop-j.invariant.found

pub returns-in_ok-reply-clause-found : goal.returns-in_ok-reply-clause-found
returns-in_ok-reply-clause-found g c =
    let behind : 8 ≤ c.loop-j.j + c.args.workers = omega arith in
    found-end _ _ _ _ _ _ _ behind
    (found-next _ _ _ _ _ _ _ _ _ _ _ _ c.loop-j.invariant.caller c.requires.one_of_them c.loop-j.invariant.falls c.query-query.ensures c.loop-j-test.true
    c.loop-j.invariant.found (asked-one _ _ _ _ _ c.in_ok-reply.ensures.answered) c.query_result.ensures)
