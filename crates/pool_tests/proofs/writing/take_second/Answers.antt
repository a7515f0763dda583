use Rattle.std.proofs.Common.{◌≡◌, List, [], ◌∷◌, sym, ◌∙◌, subst}
use Rattle.funnel_model.specs.declared.event.Event.{Event}
use Rattle.funnel_model.specs.declared.event.Event.TheVariants as event
use Rattle.funnel_model.specs.Legal.{IsAllowed, IsLegal}
use Rattle.pool_tests.proofs.Histories.{second_take}
use Rattle.pool_tests.proofs.writing.take_second.Goals as goal

pub make_event-requires-clause-allowed : goal.make_event-requires-clause-allowed
make_event-requires-clause-allowed c =
    let limits = c.args.pool.now.limits in
    let history : c.catch_up.new.home.history ≡ event.Take 0 0 0 ∷ [] = c.catch_up.ensures.home.history ∙ c.requires.home.1 in
    let legal = subst (IsLegal limits) history c.catch_up.ensures.legal in
    subst (λ (h : List Event). IsAllowed limits h (event.Take 1 0 1)) (sym history)
    (second_take limits legal c.requires.sizes.0 c.requires.sizes.1 c.requires.sizes.2)
