use Rattle.std.proofs.Common.{◌∙◌, subst, inr}
use Rattle.std.proofs.lemmas.Result.{err_from_is_err_and}
use Rattle.engine.proofs.Answered.{found_words}
use Rattle.engine.proofs.Finds.{dropped_step, ended_turns, found_step, found_turns, refused_step}
use Rattle.funnel_model.specs.Legal.{IsIdle}
use Rattle.engine.proofs.engine_pool.EnginePool.find.Goals as goal

pub returns-in_err-begun-clause-call : goal.returns-in_err-begun-clause-call
returns-in_err-begun-clause-call g c =
    let p = err_from_is_err_and c.from_residual.result c.from_residual.ensures.1 in
    let limits = c.args.self.now.limits in
    let query = c.args.query.now in
    let seat = c.args.pass.now in
    let next = c.begin_words.new.pass in
    let did = c.in_err-begun.ensures in
    rw (p.1, p.2)
    (record {
      step = refused_step limits seat.number query seat.front next.front c.requires.rests.idle did.legal (subst (λ n. IsIdle n next.front) did.number did.rests.idle) c.in_err-begun.field-0.0 did.turns;
      number = did.number;
    })

pub returns-clause-call : goal.returns-clause-call
returns-clause-call g c =
    let limits = c.args.self.now.limits in
    let seat = c.args.pass.now in
    let query = c.args.query.now in
    let middle = c.begin_words.new.pass in
    let end = c.finish.new.pass in
    let began = c.in_ok-begun.ensures in
    let did = c.in-Ok.ensures in
    let number = did.number ∙ began.number in
    record {
      step = found_step limits seat.number query seat.front end.front c.requires.rests.idle did.legal (subst (λ n. IsIdle n end.front) number did.rests.idle) c.in-Ok.ids
          (found_turns limits seat.number query seat.front middle began.number began.turns end.front did.ended c.in-Ok.ids
          (found_words c.args.self.now c.begin_words.new.pass c.in_ok-begun.begun.token c.in_ok-begun.begun.search c.begin_words.new.layouts.entries.items began.begun c.in-Ok.ids did.found));
      number = number;
    }

pub returns-clause-turns : goal.returns-clause-turns
returns-clause-turns g c =
    let limits = c.args.self.now.limits in
    let seat = c.args.pass.now in
    let query = c.args.query.now in
    let after = c.finish.new.pass.front in
    let began = c.in_ok-begun.ensures in
    let did = c.in-Ok.ensures in
    (found_turns limits seat.number query seat.front c.begin_words.new.pass began.number began.turns after did.ended c.in-Ok.ids
    (found_words c.args.self.now c.begin_words.new.pass c.in_ok-begun.begun.token c.in_ok-begun.begun.search c.begin_words.new.layouts.entries.items began.begun c.in-Ok.ids did.found))

pub returns-in_default-clause-call : goal.returns-in_default-clause-call
returns-in_default-clause-call g c =
    let limits = c.args.self.now.limits in
    let seat = c.args.pass.now in
    let query = c.args.query.now in
    let end = c.finish.new.pass in
    let began = c.in_ok-begun.ensures in
    let did = c.finish.ensures in
    let number = did.number ∙ began.number in
    record {
      step = dropped_step limits seat.number query seat.front end.front c.requires.rests.idle did.legal (subst (λ n. IsIdle n end.front) number did.rests.idle)
          (ended_turns limits seat.number query seat.front c.begin_words.new.pass began.number began.turns end.front did.ended);
      number = number;
    }

pub returns-in_default-clause-turns : goal.returns-in_default-clause-turns
returns-in_default-clause-turns g c =
    let limits = c.args.self.now.limits in
    let seat = c.args.pass.now in
    let query = c.args.query.now in
    let after = c.finish.new.pass.front in
    let began = c.in_ok-begun.ensures in
    (inr (ended_turns limits seat.number query seat.front c.begin_words.new.pass began.number began.turns after c.finish.ensures.ended))
