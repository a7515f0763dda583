use Rattle.std.proofs.Common.{sym, subst}
use Rattle.commit_desk.proofs.CallEnds.{rests_tune}
use Rattle.commit_desk.specs.Layouts.{TunesWith}
use Rattle.slice_rule.specs.Pools.{PoolId}
use Rattle.engine.proofs.engine.Engine.tune_turn.Goals as goal

pub tune-requires-clause-tunes : goal.tune-requires-clause-tunes
tune-requires-clause-tunes g c =
    subst (λ (p : PoolId). TunesWith p c.args.config.now c.args.layout.now) (sym c.deref_mut.result.now.of_pool) c.requires.tunes

pub returns-clause-rests : goal.returns-clause-rests
returns-clause-rests g c =
    let rests = c.requires.rests in
    let did = c.tune.ensures in
    rests_tune g.N.PoolName.pool c.deref_mut.result.now.desk c.tune.new.self c.args.pass.now c.tune.new.seat rests.seated.same did.none_outstanding rests.idle c.args.config.now c.tune.result did.events
