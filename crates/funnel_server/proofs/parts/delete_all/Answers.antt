-- Each worker ended its deletes.
use Rattle.std.proofs.Common.{slice_index_or, subst}
use Rattle.load_gen.specs.Jobs.{deletes_of}
use Rattle.funnel_server.specs.Parts.{EndsDeletes, LoaderState}
use Rattle.funnel_server.proofs.parts.delete_all.Goals as goal

pub returns-clause-each : goal.returns-clause-each
returns-clause-each g c k d below =
    let calls = deletes_of c.args.load.now c.args.workers k in
    let changes = (c.for_each_mut.ensures k d below).1 in
    subst (EndsDeletes g.N.PoolName.pool.config g.N.PoolName.pool.limits calls (slice_index_or c.args.loaders.now k d)) changes.left
    (subst (λ (before : LoaderState). EndsDeletes g.N.PoolName.pool.config g.N.PoolName.pool.limits calls before changes.after_call.now) changes.argument_is changes.call)
