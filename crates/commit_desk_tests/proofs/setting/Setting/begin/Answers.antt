use Rattle.std.proofs.Common.{[], Ok, sym, ◌∙◌, subst}
use Rattle.commit_desk.proofs.CallEnds.{finds_or_rests}
use Rattle.slice_rule.specs.Pools.{PoolId}
use Rattle.slice_rule.specs.Seats.{IsSeated}
use Rattle.commit_desk_tests.proofs.Scans.{left, popped}
use Rattle.commit_desk_tests.proofs.setting.Setting.begin.Goals as goal

pub invariant_of-result : goal.invariant_of-result
invariant_of-result g c =
    let name = g.N.PoolName.pool in
    let seat = c.caller.invariant in
    let begun = c.in_ok-token.ensures in
    let token = c.in_ok-token.token in
    record {
      finding = finds_or_rests name c.self.inside.desk c.open_find.new.self c.caller.inside.seat c.open_find.new.seat seat.seated.same c.open_find.ensures.none_outstanding seat.idle []
          (Ok token) begun.token begun.events;
      of_token = begun.layouts.among c.in-Some.entry
          (popped c.open_find.new.layouts.entries.items c.pop.new.self.items c.pop.result c.in-Some.entry c.pop.ensures.items c.in-Some.is);
      others = λ other has. begun.layouts.among other (left c.open_find.new.layouts.entries.items c.pop.new.self.items c.pop.result other c.pop.ensures.items has);
    }

pub end_find-requires-clause-seat : goal.end_find-requires-clause-seat
end_find-requires-clause-seat g c =
    let name = g.N.PoolName.pool in
    let seat = c.caller.invariant in
    let begun = c.in_ok-token.ensures in
    let found = finds_or_rests name c.self.inside.desk c.open_find.new.self c.caller.inside.seat c.open_find.new.seat seat.seated.same c.open_find.ensures.none_outstanding seat.idle []
    (Ok c.in_ok-token.token) begun.token begun.events in
    subst (λ (p : PoolId). IsSeated p c.open_find.new.seat) (sym (begun.events.pool ∙ c.self.invariant.desk_of_name)) found.seated
