use Rattle.std.proofs.Common.{◌≡◌, ◌*◌, ◌∙◌, sym, ap₂, subst}
use Rattle.funnel_model.specs.declared.stats.Stats.{Stats}
use Rattle.funnel_model.specs.Numbers.{AreStats, IsFinding}
use Rattle.funnel_model.specs.Reserve.{IsCount}
use Rattle.funnel_model.specs.Slices.{IsRetired}
use Rattle.commit_desk.specs.Desks.{DeskState}
use Rattle.commit_desk.proofs.Inside.{desk_of}
use Rattle.commit_desk.proofs.Journals.{base-journal}
use Rattle.commit_desk.proofs.StatCounts.{finds_kept, free_kept, retired_kept}
use Rattle.commit_desk.proofs.desk.Desk.stats.Goals as goal

-- the numbers of a desk are those of the same desk
as_seen : (d e : DeskState) (stats : Stats) → d ≡ e → AreStats d.pool.limits d.history stats → AreStats e.pool.limits e.history stats
as_seen d e stats same are = subst (λ (x : DeskState). AreStats x.pool.limits x.history stats) same are

pub returns : goal.returns
returns c =
    let i = c.self.inside in
    let kept = c.self.invariant.desk.kept in
    let limits = i.home.pool.limits in
    let history = i.home.history in
    as_seen (desk_of i) c.args.self.now _ c.self.view_is
    (record {
      documents_are = c.documents.ensures ∙ kept.journal_is.documents_are;
      place_is = c.place.ensures ∙ kept.journal_is.place_is;
      base_is = c.base.ensures ∙ base-journal limits.commits history i.journal kept.journal_is;
      columns_are = ap₂ (λ n m. n * m) kept.slices_are kept.columns_are;
      free_are = c.free.ensures ∙ free_kept limits history c.self.invariant.whole i.tokens i.stages kept.legal kept.recorded kept.staged;
      retired_are = subst (IsCount limits.slices (λ slice. IsRetired limits.columns slice history)) (sym c.retired.ensures)
          (retired_kept limits history c.self.invariant.whole i.tokens i.stages kept.legal kept.recorded kept.staged);
      finds_are = subst (IsCount limits.passes (IsFinding history)) (sym c.count.ensures) (finds_kept limits history i.tokens kept.tokens_are);
    })
