use Rattle.std.proofs.Common.{List, sym, ◌∙◌, subst}
use Rattle.std.specs.List.{All}
use Rattle.funnel_model.specs.declared.event.Event.{Event}
use Rattle.funnel_model.specs.History.{MovesAreCaused}
use Rattle.row_layout.specs.Sound.{IsSound}
use Rattle.slice_rule.specs.Pools.{PoolId}
use Rattle.engine.specs.Engines.{EndsIn}
use Rattle.engine.proofs.Ends.{has_calls}
use Rattle.engine.proofs.engine.Engine.close.Goals as goal

pub returns-clause-sound : goal.returns-clause-sound
returns-clause-sound g c =
    let named = c.into_inner-desk.result in
    let parts = c.into_parts-home.ensures in
    subst (λ (h : List Event). IsSound g.N.PoolName.pool.config h) (sym (c.close-ended.ensures.history ∙ c.end_passes.ensures.history ∙ parts.history))
    (subst (λ (p : PoolId). IsSound p.config named.desk.history) named.of_pool parts.sound)

pub returns-clause-caused : goal.returns-clause-caused
returns-clause-caused g c =
    let parts = c.into_parts-home.ensures in
    subst (λ (h : List Event). MovesAreCaused h) (sym (c.close-ended.ensures.history ∙ c.end_passes.ensures.history ∙ parts.history)) parts.caused

pub returns-clause-passes : goal.returns-clause-passes
returns-clause-passes g c =
    subst (λ (h : List Event). All (EndsIn h) c.args.passes.items) (sym (c.close-ended.ensures.history ∙ c.end_passes.ensures.history)) c.end_passes.ensures.passes

pub returns-clause-calls : goal.returns-clause-calls
returns-clause-calls g c =
    has_calls c.close-ended.result.history c.args.passes.items
    (subst (λ (h : List Event). All (EndsIn h) c.args.passes.items) (sym (c.close-ended.ensures.history ∙ c.end_passes.ensures.history)) c.end_passes.ensures.passes)
