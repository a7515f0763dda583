use Rattle.std.proofs.Common.{◌≡◌, ◌∙◌, [], Result, Ok, MatchResult, ap, subst}
use Rattle.funnel_model.specs.declared.config.Config.{Config}
use Rattle.funnel_model.specs.Configuration.{IsInRange, IsTuning}
use Rattle.funnel_model.specs.Legal.{Limits}
use Rattle.funnel_model.specs.Sizes.{words_of_slice}
use Rattle.funnel_stats.specs.declared.fault.ConfigFault.{ConfigFault}
use Rattle.funnel_stats.specs.Reading.{IsFaultOfBytes}
use Rattle.funnel_stats.proofs.TuningLemmas.{tuning-afresh}
use Rattle.slice_rule.specs.Pools.{PoolId}
use Rattle.engine.proofs.TuneCalls.{base_in_range, base_kept, if_ok-weaker, tunes_by_base}
use Rattle.engine.proofs.engine_pool.EnginePool.read_tuning.Goals as goal

pub returns-clause-read : goal.returns-clause-read
returns-clause-read c =
    let opening = c.args.self.now.config in
    let is : c.self.inside.base ≡ record opening { words = [] } = c.self.invariant.based ∙ ap (λ (p : PoolId). record p.config { words = [] }) c.self.view_is in
    subst (λ (answer : Result Config ConfigFault). MatchResult c.read_tuning.result (λ config. answer ≡ Ok config) (λ fault. IsFaultOfBytes fault answer))
    (tuning-afresh opening c.self.inside.base c.args.text.now (base_kept opening c.self.inside.base is)) c.read_tuning.ensures.answer

pub returns-clause-tunes : goal.returns-clause-tunes
returns-clause-tunes c =
    let opening = c.args.self.now.config in
    let is : c.self.inside.base ≡ record opening { words = [] } = c.self.invariant.based ∙ ap (λ (p : PoolId). record p.config { words = [] }) c.self.view_is in
    let range = subst (λ (p : PoolId). IsInRange p.config) c.self.view_is c.self.invariant.of_config.valid.in_range in
    if_ok-weaker c.read_tuning.result (IsTuning c.self.inside.base) (IsTuning opening) (tunes_by_base opening c.self.inside.base is)
    (c.read_tuning.ensures.tuning (base_in_range opening c.self.inside.base is range))

pub returns-clause-room : goal.returns-clause-room
returns-clause-room c =
    subst (λ (p : PoolId). p.limits.slice_words ≡ words_of_slice p.config) c.self.view_is (ap (λ (l : Limits). l.slice_words) c.self.invariant.of_config.limits)
