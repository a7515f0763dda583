use Rattle.std.proofs.Common.{◌≤◌, refl, sym, rules}
use Rattle.funnel.proofs.Alone.{have_run}
use Rattle.funnel.proofs.Endings.{keeps_last}
use Rattle.funnel.proofs.Opened.{opened_config, opened_limits}
use Rattle.funnel.proofs.Turns.{runs_by, runs_nowhere}
use Rattle.funnel.specs.declared.ends.Why.TheVariants as why_of
use Rattle.funnel.proofs.running.run.Goals as goal

pub returns-in_default-clause-in_turns : goal.returns-in_default-clause-in_turns
returns-in_default-clause-in_turns g c = runs_nowhere g.S.Source.read_gives g.K.Sink.write_gives (c.args.input.now, c.args.output.now) why_of.Memory why_of.Memory refl (λ is. cc)

pub returns-clause-in_turns : goal.returns-clause-in_turns
returns-clause-in_turns g c = runs_by g.S.Source.read_gives g.K.Sink.write_gives (c.args.input.now, c.args.output.now) _ c.serve-end.result.0 c.from.result c.from.ensures c.serve-end.ensures.in_turns

pub returns-clause-ran : goal.returns-clause-ran
returns-clause-ran g c =
    let pool = g.N.PoolName.pool in
    let limits_are = opened_limits pool c.args.blank c.args.config.now (sym c.requires.blank.named) c.requires.blank.limits in
    let config_is = opened_config pool c.args.blank c.args.config.now (sym c.requires.blank.named) c.requires.blank.made_with in
    let some : 1 ≤ pool.limits.passes = search rules in
    have_run pool c.args.config.now c.serve-end.result.1.items _ _ _ _ c.serve-end.result.0 c.from.result c.close.result
    limits_are config_is some c.serve-end.ensures.served c.from.ensures c.close.ensures.legal c.close.ensures.caused c.close.ensures.sound c.close.ensures.passes

pub returns-clause-kept : goal.returns-clause-kept
returns-clause-kept g c =
    let pool = g.N.PoolName.pool in
    let limits_are = opened_limits pool c.args.blank c.args.config.now (sym c.requires.blank.named) c.requires.blank.limits in
    keeps_last pool c.args.config.now c.close.result limits_are c.close.ensures.base c.close.ensures.commits c.close.ensures.events
