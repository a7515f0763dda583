-- The add, and the find where it is made.
use Rattle.std.proofs.Common.{[], ◌∷◌, ◌∙◌, subst, sym}
use Rattle.funnel_model.specs.declared.call.Call.TheVariants as call
use Rattle.load_gen.specs.Documents.{name_of_document}
use Rattle.funnel_server.specs.Loads.{AreAsked}
use Rattle.funnel_server.specs.Shares.{EndsEarly, IsDone}
use Rattle.funnel_server.proofs.Asked.{asked-one, done-append, on_err, stopped-first, stopped-later, stopped-none, stopped-one}
use Rattle.funnel_server.proofs.ShareCalls.{checked, unchecked}
use Rattle.funnel_server.proofs.share.add_document.Goals as goal

pub returns-in_err-ask-clause-stopped : goal.returns-in_err-ask-clause-stopped
returns-in_err-ask-clause-stopped g c = on_err c.from_residual.result (stopped-first _ _ _ _ _ (stopped-one _ _ _ _ (c.in_err-ask.ensures.refused)))

pub returns-in_err-write_name-clause-stopped : goal.returns-in_err-write_name-clause-stopped
returns-in_err-write_name-clause-stopped g c =
    let caller = g.S.Service.caller c.args.service.now in
    let before = g.S.Service.front c.args.service.now in
    let after = g.S.Service.front c.ask.new.service in
    on_err c.from_residual-in_err-write_name.result
    (subst (EndsEarly caller before after) (sym (checked c.args.n c.args.id c.args.text.now c.if-n-eq0.true))
    (stopped-later caller before after after (call.Add c.args.id c.args.text.now ∷ []) (call.Find (name_of_document c.args.id) ∷ []) (_, asked-one _ _ _ _ _ c.in_ok-ask.ensures.answered)
    (stopped-none caller before after (call.Add c.args.id c.args.text.now) c.in_ok-ask.field-0 (name_of_document c.args.id) [] (asked-one _ _ _ _ _ c.in_ok-ask.ensures.answered))))

pub returns-in_err-ask-2-clause-stopped : goal.returns-in_err-ask-2-clause-stopped
returns-in_err-ask-2-clause-stopped g c =
    let caller = g.S.Service.caller c.args.service.now in
    let before = g.S.Service.front c.args.service.now in
    let middle = g.S.Service.front c.ask.new.service in
    let after = g.S.Service.front c.ask-then-n-eq0.new.service in
    let stopped = subst (λ k. EndsEarly k middle after (call.Find c.as_str-query.result.now ∷ [])) c.ask.ensures.caller (stopped-one _ _ _ _ (c.in_err-ask-2.ensures.refused)) in
    on_err c.from_residual-in_err-ask-2.result
    (subst (EndsEarly caller before after) (sym (checked c.args.n c.args.id c.args.text.now c.if-n-eq0.true))
    (stopped-later caller before middle after (call.Add c.args.id c.args.text.now ∷ []) (call.Find (name_of_document c.args.id) ∷ []) (_, asked-one _ _ _ _ _ c.in_ok-ask.ensures.answered)
    (subst (λ query. EndsEarly caller middle after (call.Find query ∷ [])) (c.as_str-query.ensures.value ∙ c.in_ok-write_name.ensures) stopped)))

pub returns-in_ok-ask-2-clause-done : goal.returns-in_ok-ask-2-clause-done
returns-in_ok-ask-2-clause-done g c =
    let caller = g.S.Service.caller c.args.service.now in
    let before = g.S.Service.front c.args.service.now in
    let middle = g.S.Service.front c.ask.new.service in
    let after = g.S.Service.front c.ask-then-n-eq0.new.service in
    let asked = subst (λ k. AreAsked k middle after (call.Find c.as_str-query.result.now ∷ []) (c.in_ok-ask-2.field-0 ∷ [])) c.ask.ensures.caller (asked-one _ _ _ _ _ c.in_ok-ask-2.ensures.answered) in
    subst (IsDone caller before after) (sym (checked c.args.n c.args.id c.args.text.now c.if-n-eq0.true))
    (done-append caller before middle after (call.Add c.args.id c.args.text.now ∷ []) (call.Find (name_of_document c.args.id) ∷ []) (_, asked-one _ _ _ _ _ c.in_ok-ask.ensures.answered)
    (subst (λ query. IsDone caller middle after (call.Find query ∷ [])) (c.as_str-query.ensures.value ∙ c.in_ok-write_name.ensures) (_, asked)))

pub returns-else-n-eq0-clause-done : goal.returns-else-n-eq0-clause-done
returns-else-n-eq0-clause-done g c =
    let caller = g.S.Service.caller c.args.service.now in
    let before = g.S.Service.front c.args.service.now in
    let after = g.S.Service.front c.ask.new.service in
    subst (IsDone caller before after) (sym (unchecked c.args.n c.args.id c.args.text.now c.if-n-eq0.false)) (_, asked-one _ _ _ _ _ c.in_ok-ask.ensures.answered)
