use Rattle.commit_desk.proofs.CallEnds.{is_to_do}
use Rattle.commit_desk.specs.declared.answers.Taken.TheVariants as taken
use Rattle.commit_desk_tests.proofs.setting.Setting.claim_for.Goals as goal

pub invariant_of-result : goal.invariant_of-result
invariant_of-result g c =
    let seat = c.caller.invariant in
    let doc = c.draft.inside.doc in
    let took = c.in-Claim.ensures in
    is_to_do g.N.PoolName.pool c.self.inside.desk c.take.new.self c.caller.inside.seat c.take.new.seat seat.seated.same took.none_outstanding seat.idle c.self.invariant.desk_of_name c.self.inside.desk.events_limit c.args.replaces doc.id doc.text
    (taken.Claim c.in-Claim.claim c.in-Claim.layout) took.answer.answers took.handed.prepared took.events

pub invariant_of-result-in-Refused : goal.invariant_of-result-in-Refused
invariant_of-result-in-Refused g c =
    let seat = c.caller.invariant in
    let doc = c.draft.inside.doc in
    let took = c.in-Refused.ensures in
    is_to_do g.N.PoolName.pool c.self.inside.desk c.take.new.self c.caller.inside.seat c.take.new.seat seat.seated.same took.none_outstanding seat.idle c.self.invariant.desk_of_name c.self.inside.desk.events_limit c.args.replaces doc.id doc.text
    (taken.Refused c.in-Refused.fault) took.answer.answers took.handed.prepared took.events

pub invariant_of-reusing : goal.invariant_of-reusing
invariant_of-reusing g c =
    let seat = c.caller.invariant in
    let doc = c.draft.inside.doc in
    let took = c.in-Clear.ensures in
    is_to_do g.N.PoolName.pool c.self.inside.desk c.take.new.self c.caller.inside.seat c.take.new.seat seat.seated.same took.none_outstanding seat.idle c.self.invariant.desk_of_name c.self.inside.desk.events_limit c.args.replaces doc.id doc.text
    (taken.Clear c.in-Clear.to_clear c.in-Clear.layout) took.answer.answers took.handed.prepared took.events
