-- The delete, where it is made.
use Rattle.std.proofs.Common.{[], ◌∷◌, sym, subst}
use Rattle.funnel_model.specs.declared.call.Call.TheVariants as call
use Rattle.funnel_server.specs.Shares.{IsDone}
use Rattle.funnel_server.proofs.ShareCalls.{due}
use Rattle.funnel_server.proofs.share.delete_where_due.Goals as goal

pub returns-then-number-eq0-clause-done : goal.returns-then-number-eq0-clause-done
returns-then-number-eq0-clause-done g c =
    let caller = g.S.Service.caller c.args.service.now in
    let before = g.S.Service.front c.args.service.now in
    let after = g.S.Service.front c.delete.new.service in
    let done : IsDone caller before after (call.Delete c.args.number ∷ []) =
    subst (λ id. IsDone caller before after (call.Delete id ∷ [])) c.from.ensures c.delete.ensures.done in
    subst (IsDone caller before after) (sym (due c.args.number c.if-number-eq0.true)) done
