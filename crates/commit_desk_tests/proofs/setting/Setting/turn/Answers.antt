use Rattle.std.proofs.Common.{sym, subst, ◌∙◌}
use Rattle.commit_desk.specs.Passes.{IsFinding}
use Rattle.commit_desk.specs.Scans.{AreOfToken}
use Rattle.slice_rule.specs.Pools.{PoolId}
use Rattle.commit_desk_tests.proofs.setting.Setting.turn.Goals as goal

pub resolve_part-from-requires-clause-finding : goal.resolve_part-from-requires-clause-finding
resolve_part-from-requires-clause-finding g c =
    let at = c.looking.inside in
    subst (λ (p : PoolId). IsFinding p at.token at.seat) (sym c.self.invariant.desk_of_name) c.looking.invariant.all.finding

pub resolve_part-from-requires-clause-of_token : goal.resolve_part-from-requires-clause-of_token
resolve_part-from-requires-clause-of_token g c =
    let at = c.looking.inside in
    subst (λ (p : PoolId). AreOfToken p.limits.columns at.token at.columns) (sym c.self.invariant.desk_of_name) c.looking.invariant.of_token

pub invariant_of-next : goal.invariant_of-next
invariant_of-next g c =
    let at = c.looking.inside in
    let did = c.resolve_part-from.ensures in
    let next = c.resolve_part-from.new.seat in
    let is = c.looking.invariant in
    record {
      all = record {
        finding = subst (λ (p : PoolId). IsFinding p at.token next) (did.events.pool ∙ c.self.invariant.desk_of_name) did.finding;
        of_token = is.all.of_token;
        others = is.all.others;
      };
      of_token = is.of_token;
      can = record { within = (did.found is.all.finding.holds.begun).turn.2.within; room = did.enough };
    }
