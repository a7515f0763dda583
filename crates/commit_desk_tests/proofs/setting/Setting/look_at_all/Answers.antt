use Rattle.std.proofs.Common.{refl, sym, subst, arith}
use Rattle.commit_desk.specs.Scans.{AreOfToken}
use Rattle.commit_desk_tests.proofs.Scans.{columns_of_token}
use Rattle.funnel_model.specs.Sizes.{columns_of_slice}
use Rattle.commit_desk_tests.proofs.setting.Setting.look_at_all.Goals as goal

pub invariant_of-result : goal.invariant_of-result
invariant_of-result g c =
    let pool = g.N.PoolName.pool in
    let token = c.finding.inside.token in
    let layout = c.self.inside.layout in
    let made = c.in-Ok.ensures in
    let is = c.finding.invariant in
    let all = columns_of_token layout pool token c.in-Some.slice (columns_of_slice layout.config) c.self.invariant.laid refl (is.of_token c.in-Some.slice c.in-Some.ensures.in_set) in
    record {
      all = is;
      of_token = subst (AreOfToken pool.limits.columns token) (sym made.columns) all;
      can = record { within = omega arith; room = omega (arith, made.room) };
    }
