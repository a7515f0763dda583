use Rattle.std.proofs.Common.{ℕ, List, sym, ◌∙◌, subst}
use Rattle.funnel_model.specs.declared.event.Event.{Event}
use Rattle.funnel_model.specs.History.{IsFrontOf, MovesAreCaused}
use Rattle.funnel_model.specs.Legal.{IsLegal}
use Rattle.row_layout.specs.Sound.{IsSound}
use Rattle.slice_rule.specs.Pools.{PoolId}
use Rattle.engine.specs.Engines.{EndsIn}
use Rattle.engine.specs.Passes.{view_of}
use Rattle.engine.proofs.Ends.{ends_in}
use Rattle.engine.proofs.Soles.{sole_front}
use Rattle.engine.proofs.solo.Solo.close.Goals as goal

-- its pass has seen the whole history
pub returns-clause-history : goal.returns-clause-history
returns-clause-history c =
    let is = c.self.invariant in
    let seat = c.self.inside.seat in
    let pool = c.self.inside.pool in
    let desk = c.self.inside.lone.desk in
    let parts = c.into_parts-home.ensures in
    let legal = subst (λ (p : PoolId). IsLegal p.limits desk.history) is.at parts.legal in
    let ends = subst (λ (h : List Event). EndsIn h (view_of seat)) parts.history
    (ends_in c.into_parts-home.result.0.history seat is.between.rests.seated.none_outstanding c.end_pass.ensures.pass) in
    rw (← c.self.view_is)
    (c.close-ended.ensures.history ∙ c.end_pass.ensures.history ∙ parts.history
    ∙ sole_front pool.limits is.one_pass seat.front desk.history legal (subst (λ (n : ℕ). IsFrontOf n seat.front desk.history) is.number ends))

pub returns-clause-sound : goal.returns-clause-sound
returns-clause-sound c =
    let is = c.self.invariant in
    let parts = c.into_parts-home.ensures in
    rw (← c.self.view_is)
    (subst (λ (h : List Event). IsSound c.self.inside.pool.config h) (sym (c.close-ended.ensures.history ∙ c.end_pass.ensures.history ∙ parts.history))
    (subst (λ (p : PoolId). IsSound p.config c.self.inside.lone.desk.history) is.at parts.sound))

pub returns-clause-caused : goal.returns-clause-caused
returns-clause-caused c =
    let parts = c.into_parts-home.ensures in
    subst (λ (h : List Event). MovesAreCaused h) (sym (c.close-ended.ensures.history ∙ c.end_pass.ensures.history ∙ parts.history)) parts.caused
