-- those documents of the share so far that are to be deleted are, and the later ones are left
use Rattle.std.proofs.Common.{◌≡◌, ◌%◌, List}
use Rattle.funnel_model.specs.declared.reply.Reply.{Reply}
use Rattle.load_gen.specs.Jobs.{deletes_of}
use Rattle.funnel_server.proofs.Asked.{AreUnderWay}
use Rattle.funnel_server.proofs.ShareCalls.{deletes_left}
use Rattle.funnel_server.proofs.share.delete_share.Given as goal

abbrev pub invariant-loop-i : goal.invariant-loop-i
invariant-loop-i g l = record {
  caller : g.S.Service.caller l.service ≡ g.S.Service.caller l.fn.service;
  falls : l.i % l.workers ≡ l.worker;
  so_far : (replies : List Reply) × AreUnderWay (g.S.Service.caller l.fn.service) (g.S.Service.front l.fn.service) (g.S.Service.front l.service)
      (deletes_of l.load l.workers l.worker) (deletes_left l.load l.workers l.worker l.i) replies;
}
