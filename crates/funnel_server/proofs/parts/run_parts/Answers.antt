use Rattle.std.proofs.Common.{inl, inr}
use Rattle.load_gen.specs.Jobs.{adds_of}
use Rattle.funnel_server.proofs.LoadWorkers.{ends_early, when_err}
use Rattle.funnel_server.proofs.Puts.{early_in_queries, put, workers_at_end, workers_met}
use Rattle.funnel_server.proofs.parts.run_parts.Goals as goal

pub returns-in_err-add_all-clause-put : goal.returns-in_err-add_all-clause-put
returns-in_err-add_all-clause-put g c =
    when_err c.from_residual.result _ _ c.from_residual.ensures.0
    (inr (inl (ends_early g.N.PoolName.pool.config g.N.PoolName.pool.limits c.args.workers (adds_of c.args.load.now c.args.workers) c.args.loaders.now c.add_all.new.loaders c.requires.workers
    c.in_err-add_all.ensures.count c.in_err-add_all.ensures.each c.in_err-add_all.ensures.stopped)))

pub returns-in_err-find_all-clause-workers : goal.returns-in_err-find_all-clause-workers
returns-in_err-find_all-clause-workers g c =
    workers_at_end g.N.PoolName.pool.config g.N.PoolName.pool.limits c.args.load.now c.args.workers c.args.loaders.now c.add_all.new.loaders c.meet_all.new.loaders c.delete_all.new.loaders
    c.meet_all-2.new.loaders c.requires.workers
    (record { count = c.in_ok-add_all.ensures.count; each = c.in_ok-add_all.ensures.each; none = c.in_ok-add_all.ensures.stopped }) c.meet_all.ensures
    c.delete_all.ensures.count c.delete_all.ensures.each c.meet_all-2.ensures c.find_all.new.loaders c.find_all.ensures.count c.find_all.ensures.each

pub returns-in_err-find_all-clause-put : goal.returns-in_err-find_all-clause-put
returns-in_err-find_all-clause-put g c =
    when_err c.from_residual-in_err-find_all.result _ _ c.from_residual-in_err-find_all.ensures.0
    (inr (inr (early_in_queries g.N.PoolName.pool.config g.N.PoolName.pool.limits c.args.load.now c.args.workers c.args.loaders.now c.add_all.new.loaders c.meet_all.new.loaders c.delete_all.new.loaders
    c.meet_all-2.new.loaders c.requires.workers
    (record { count = c.in_ok-add_all.ensures.count; each = c.in_ok-add_all.ensures.each; none = c.in_ok-add_all.ensures.stopped }) c.meet_all.ensures
    c.delete_all.ensures.count c.delete_all.ensures.each c.meet_all-2.ensures c.find_all.new.loaders c.requires.some
    c.in_err-find_all.ensures.count c.in_err-find_all.ensures.each c.in_err-find_all.ensures.stopped)))

pub returns-clause-workers : goal.returns-clause-workers
returns-clause-workers g c =
    workers_met g.N.PoolName.pool.config g.N.PoolName.pool.limits c.args.load.now c.args.workers c.args.loaders.now c.add_all.new.loaders c.meet_all.new.loaders c.delete_all.new.loaders
    c.meet_all-2.new.loaders c.requires.workers
    (record { count = c.in_ok-add_all.ensures.count; each = c.in_ok-add_all.ensures.each; none = c.in_ok-add_all.ensures.stopped }) c.meet_all.ensures
    c.delete_all.ensures.count c.delete_all.ensures.each c.meet_all-2.ensures c.find_all.new.loaders c.meet_all-3.new.loaders
    (record { count = c.in_ok-find_all.ensures.count; each = c.in_ok-find_all.ensures.each; none = c.in_ok-find_all.ensures.stopped }) c.meet_all-3.ensures

pub returns-clause-put : goal.returns-clause-put
returns-clause-put g c =
    put g.N.PoolName.pool.config g.N.PoolName.pool.limits c.args.load.now c.args.workers c.args.loaders.now c.add_all.new.loaders c.meet_all.new.loaders c.delete_all.new.loaders
    c.meet_all-2.new.loaders c.requires.workers
    (record { count = c.in_ok-add_all.ensures.count; each = c.in_ok-add_all.ensures.each; none = c.in_ok-add_all.ensures.stopped }) c.meet_all.ensures
    c.delete_all.ensures.count c.delete_all.ensures.each c.meet_all-2.ensures c.find_all.new.loaders c.meet_all-3.new.loaders
    (record { count = c.in_ok-find_all.ensures.count; each = c.in_ok-find_all.ensures.each; none = c.in_ok-find_all.ensures.stopped }) c.meet_all-3.ensures
    c.results_of.result c.requires.some (record { count = c.results_of.ensures.count; each = c.results_of.ensures.each })
