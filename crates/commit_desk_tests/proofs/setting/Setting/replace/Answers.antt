use Rattle.std.proofs.Common.{sym, subst, ◌∙◌}
use Rattle.commit_desk.specs.Passes.{HasWritten}
use Rattle.slice_rule.specs.Pools.{PoolId}
use Rattle.commit_desk_tests.proofs.setting.Setting.replace.Goals as goal

pub put-put-requires : goal.put-put-requires
put-put-requires g c =
    let is = c.self.invariant in
    let written = c.written.inside in
    record {
      pool = is.of_name ∙ sym is.desk_of_name;
      written = subst (λ (p : PoolId). HasWritten p written.claim written.doc.words written.bits.bits written.seat) (sym is.desk_of_name) c.written.invariant;
    }
