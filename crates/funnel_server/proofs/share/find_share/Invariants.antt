-- the queries of the share so far are run, and their results stand at their places
use Rattle.std.proofs.Common.{◌≡◌, ◌%◌}
use Rattle.funnel_server.proofs.ShareResults.{AreFound}
use Rattle.funnel_server.proofs.share.find_share.Given as goal

abbrev pub invariant-loop-j : goal.invariant-loop-j
invariant-loop-j g l = record {
  caller : g.S.Service.caller l.service ≡ g.S.Service.caller l.fn.service;
  falls : l.j % l.workers ≡ l.worker;
  found : AreFound (g.S.Service.caller l.fn.service) (g.S.Service.front l.fn.service) (g.S.Service.front l.service) l.workers l.worker l.j l.results;
}
