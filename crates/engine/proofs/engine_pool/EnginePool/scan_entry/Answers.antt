use Rattle.std.proofs.Common.{sym, subst, ◌∙◌}
use Rattle.engine.specs.Scans.{IsPlannedFor}
use Rattle.engine.proofs.Scans.{readable_by}
use Rattle.row_layout.specs.Layouts.{LayoutId}
use Rattle.engine.proofs.engine_pool.EnginePool.scan_entry.Goals as goal

pub new-rows-requires : goal.new-rows-requires
new-rows-requires g c =
    let finding = c.requires.can.finding in
    record { can_read = record { same = finding.seated.same ∙ sym c.self.view_is; holds = finding.holds; none_outstanding = finding.seated.none_outstanding } }

pub scan_slices-requires-clause-scan : goal.scan_slices-requires-clause-scan
scan_slices-requires-clause-scan g c =
    let made = c.new-rows.ensures in (
      c.args.search.now,
      record {
        readable = readable_by c.args.self.now c.args.entry.now c.args.pass.now c.args.token.now c.new-rows.result c.requires.can made.can_read (made.pool ∙ c.self.view_is) made.token;
        is_planned = subst (λ (l : LayoutId). IsPlannedFor l.config c.args.search.now c.in_ok-planned.planned) c.layout.ensures c.in_ok-planned.ensures;
      },
    )
