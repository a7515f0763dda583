use Rattle.std.proofs.Common.{◌++◌, ◌∙◌, subst}
use Rattle.funnel_model.specs.Legal.{IsLegal}
use Rattle.slice_rule.specs.Pools.{PoolId}
use Rattle.slice_rule.specs.Views.{longer}
use Rattle.engine.proofs.Ends.{meets_no_call, meets_others, rests_met, same_number}
use Rattle.engine.proofs.engine.Engine.meet.Goals as goal

pub returns-clause-seen : goal.returns-clause-seen
returns-clause-seen g c =
    let seat = c.pass.inside.seat in
    let note = c.note.inside.note in
    let met = c.join.ensures in
    rw (← c.pass.view_is)
    (meets_others seat c.join.new.seat (longer seat.front note.front) (note.facts ++ seat.told) met.seat (met.none_since c.pass.invariant.between.rests.seated.none_outstanding))

pub returns-clause-pass : goal.returns-clause-pass
returns-clause-pass g c =
    let seat = c.pass.inside.seat in
    let next = c.join.new.seat in
    let note = c.note.inside.note in
    let met = c.join.ensures in
    rw (← c.pass.view_is)
    (record {
      calls = meets_no_call seat next (longer seat.front note.front) (note.facts ++ seat.told) met.seat (met.none_since c.pass.invariant.between.rests.seated.none_outstanding);
      legal = subst (λ (p : PoolId). IsLegal p.limits next.front) (c.shared.ensures ∙ c.self.invariant) met.legal;
      number = same_number seat next (longer seat.front note.front) (note.facts ++ seat.told) met.seat (met.none_since c.pass.invariant.between.rests.seated.none_outstanding);
    })

pub invariant_of-pass : goal.invariant_of-pass
invariant_of-pass g c =
    let seat = c.pass.inside.seat in
    let note = c.note.inside.note in
    let met = c.join.ensures in
    record {
      between = record {
        rests = rests_met seat c.join.new.seat (longer seat.front note.front) (note.facts ++ seat.told) met.seat (met.none_since c.pass.invariant.between.rests.seated.none_outstanding) g.N.PoolName.pool c.pass.invariant.between.rests met.own met.asked;
        none = c.pass.invariant.between.none;
        room = c.pass.invariant.between.room;
      };
      dropped = c.pass.invariant.dropped;
    }
