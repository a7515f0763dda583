-- the documents of the share so far are added and looked for, and the later ones are left
use Rattle.std.proofs.Common.{◌≡◌, ◌≤◌, ◌%◌, List}
use Rattle.funnel_model.specs.declared.reply.Reply.{Reply}
use Rattle.load_gen.specs.Jobs.{adds_of}
use Rattle.funnel_server.proofs.Asked.{AreUnderWay}
use Rattle.funnel_server.proofs.ShareCalls.{adds_left}
use Rattle.funnel_server.proofs.share.add_share.Given as goal

abbrev pub invariant-loop-i : goal.invariant-loop-i
invariant-loop-i g l = record {
  caller : g.S.Service.caller l.service ≡ g.S.Service.caller l.fn.service;
  falls : l.i % l.workers ≡ l.worker;
  count : l.n ≤ l.i;
  so_far : (replies : List Reply) × AreUnderWay (g.S.Service.caller l.fn.service) (g.S.Service.front l.fn.service) (g.S.Service.front l.service)
      (adds_of l.load l.workers l.worker) (adds_left l.load l.workers l.worker l.i l.n) replies;
}
