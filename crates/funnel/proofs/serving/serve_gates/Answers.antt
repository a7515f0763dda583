use Rattle.std.proofs.Common.{rules, ◌≤◌, length, arith, sym, ◌∙◌, subst}
use Rattle.std.proofs.lemmas.List.{length-map}
use Rattle.funnel_model.specs.declared.config.Config.{Config}
use Rattle.funnel_server.specs.Gates.{gate_state}
use Rattle.funnel.specs.Workers.{HaveWorkedInTurns}
use Rattle.funnel.proofs.Endings.{keeps_last, not_begun}
use Rattle.funnel.proofs.Opened.{opened_config, opened_counted, opened_limits}
use Rattle.funnel.proofs.ServeRuns.{has_served, worked_count}
use Rattle.funnel.specs.declared.ends.Why.TheVariants as why_of
use Rattle.funnel.proofs.serving.serve_gates.Goals as goal

pub returns-in-Ok-ran-clause-ends : goal.returns-in-Ok-ran-clause-ends
returns-in-Ok-ran-clause-ends g c =
    let pool = g.N.PoolName.pool in
    let worked : HaveWorkedInTurns g.G.Gate g.G.Conn.Source g.G.Conn.Sink g.N.PoolName.pool c.args.serve c.args.gates.items c.answer_all-ran.result.1.items c.in-Ok-ran.why c.answer_all-ran.result.2.items = search rules in
    let limits_are = opened_limits pool c.args.blank c.args.config.now (sym c.requires.blank.named) c.requires.blank.limits in
    let config_is = opened_config pool c.args.blank c.args.config.now (sym c.requires.blank.named) c.requires.blank.made_with in
    let counted = opened_counted pool c.args.blank c.args.config.now (sym c.requires.blank.named) c.requires.blank.made_with c.requires.blank.limits in
    let enough = subst (λ (k : Config). length c.args.gates.items ≤ k.passes) (sym (opened_config pool c.args.blank c.args.config.now (sym c.requires.blank.named) c.requires.blank.made_with)) c.requires.enough in
    has_served g.G.Gate g.G.Conn.Source g.G.Conn.Sink pool c.args.config.now c.args.serve c.args.gates.items c.answer_all-ran.result.1.items c.in-Ok-ran.why c.answer_all-ran.result.2.items
    c.close.result limits_are config_is counted
    (omega (arith, enough, length-map c.args.gates.items (gate_state g.G.Gate g.G.Conn.Source g.G.Conn.Sink)))
    worked c.close.ensures.legal c.close.ensures.caused c.close.ensures.sound c.close.ensures.passes

pub returns-in-Ok-ran-clause-kept : goal.returns-in-Ok-ran-clause-kept
returns-in-Ok-ran-clause-kept g c =
    let pool = g.N.PoolName.pool in
    let limits_are = opened_limits pool c.args.blank c.args.config.now (sym c.requires.blank.named) c.requires.blank.limits in
    keeps_last pool c.args.config.now c.close.result limits_are c.close.ensures.base c.close.ensures.commits c.close.ensures.events

pub returns-in-Ok-ran-clause-count : goal.returns-in-Ok-ran-clause-count
returns-in-Ok-ran-clause-count g c =
    let worked : HaveWorkedInTurns g.G.Gate g.G.Conn.Source g.G.Conn.Sink g.N.PoolName.pool c.args.serve c.args.gates.items c.answer_all-ran.result.1.items c.in-Ok-ran.why c.answer_all-ran.result.2.items = search rules in
    let state = gate_state g.G.Gate g.G.Conn.Source g.G.Conn.Sink in
    sym (length-map c.answer_all-ran.result.1.items state)
    ∙ worked_count g.N.PoolName.pool c.args.serve _ _ c.in-Ok-ran.why c.answer_all-ran.result.2.items worked.worked
    ∙ length-map c.args.gates.items state

pub returns-in-Err-clause-ends : goal.returns-in-Err-clause-ends
returns-in-Err-clause-ends g c =
    let gates = c.args.gates.items in
    rw c.unopened-in-Err.ensures
    (not_begun g.G.Gate g.G.Conn.Source g.G.Conn.Sink c.args.config.now c.args.serve gates gates c.answer_all-ran.result.1.items (why_of.NoThread c.in-Err.field-0.worker)
    (search rules) (search rules))
