use Rattle.std.proofs.Common.{sym, subst}
use Rattle.funnel_model.specs.declared.reply.Reply.{Reply}
use Rattle.funnel_stats.specs.Tunings.{tuned}
use Rattle.line_proto.specs.Services.{AnswersTuned}
use Rattle.engine.specs.Clients.{caller_of}
use Rattle.engine.proofs.TuneCalls.{given_text, refused_text}
use Rattle.engine.proofs.client.Client.tune.Goals as goal

pub returns-in-Ok-clause-answers : goal.returns-in-Ok-clause-answers
returns-in-Ok-clause-answers g c =
    let pool = g.N.PoolName.pool in
    let pass = c.self.inside.pass in
    let next = c.retune.new.pass in
    let text = c.args.text.now in
    let did = c.retune.ensures in
    rw (← c.self.view_is)
    (subst (λ (given : Reply). AnswersTuned (caller_of pool.config pool.limits pass) pass.front next.front (tuned pool.config text) given) (sym c.reply_to_tune.ensures)
    (given_text pool.config pool.limits pass next c.in-Ok.config text c.in-Ok.ensures.read c.read_tuning.ensures.room c.retune.result did.call did.turn))

pub returns-in-Err-clause-answers : goal.returns-in-Err-clause-answers
returns-in-Err-clause-answers g c =
    let pool = g.N.PoolName.pool in
    let pass = c.self.inside.pass in
    let text = c.args.text.now in
    rw (← c.self.view_is)
    (subst (λ (given : Reply). AnswersTuned (caller_of pool.config pool.limits pass) pass.front pass.front (tuned pool.config text) given) (sym c.reply_to_tuning_fault.ensures)
    (refused_text pool.config pool.limits pass.number pass.front c.number.ensures.idle c.number.ensures.legal text c.in-Err.fault c.in-Err.ensures.read))
