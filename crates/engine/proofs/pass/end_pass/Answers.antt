use Rattle.engine.proofs.Ends.{can_end, ends_in}
use Rattle.engine.proofs.pass.end_pass.Goals as goal

pub end_pass-requires-clause-seated : goal.end_pass-requires-clause-seated
end_pass-requires-clause-seated g c = can_end c.args.pool.now g.N.PoolName.pool c.pass.inside.seat c.requires.named c.pass.invariant.between.rests

pub returns-clause-pass : goal.returns-clause-pass
returns-clause-pass g c =
    let history = c.args.home.now.history in
    rw (← c.pass.view_is) (ends_in history c.pass.inside.seat c.pass.invariant.between.rests.seated.none_outstanding c.end_pass.ensures.pass)
