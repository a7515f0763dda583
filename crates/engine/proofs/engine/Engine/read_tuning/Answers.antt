use Rattle.std.proofs.Common.{◌≡◌, Ok, IfOk, MatchResult, subst}
use Rattle.funnel_model.specs.Configuration.{IsTuning}
use Rattle.funnel_model.specs.Sizes.{words_of_slice}
use Rattle.funnel_stats.specs.Reading.{IsFaultOfBytes}
use Rattle.funnel_stats.specs.Tunings.{tuning}
use Rattle.slice_rule.specs.Pools.{PoolId}
use Rattle.engine.proofs.engine.Engine.read_tuning.Goals as goal

pub returns-clause-read : goal.returns-clause-read
returns-clause-read g c =
    let text = c.args.text.now in
    subst (λ (p : PoolId). MatchResult c.read_tuning.result (λ config. tuning p.config text ≡ Ok config) (λ fault. IsFaultOfBytes fault (tuning p.config text))) c.self.invariant c.read_tuning.ensures.read

pub returns-clause-tunes : goal.returns-clause-tunes
returns-clause-tunes g c = subst (λ (p : PoolId). IfOk c.read_tuning.result (IsTuning p.config)) c.self.invariant c.read_tuning.ensures.tunes

pub returns-clause-room : goal.returns-clause-room
returns-clause-room g c = subst (λ (p : PoolId). p.limits.slice_words ≡ words_of_slice p.config) c.self.invariant c.read_tuning.ensures.room
