use Rattle.std.proofs.Common.{◌≡◌, ◌↔◌, ◌<◌, ℕ, Contains, sym, ap, subst}
use Rattle.funnel_model.specs.Legal.{Limits}
use Rattle.funnel_model.specs.Slices.{IsInUse}
use Rattle.funnel_model.specs.Sizes.{words_of_slice}
use Rattle.commit_desk.specs.Desks.{DeskState}
use Rattle.commit_desk.specs.FindLayouts.{AreFindLayouts}
use Rattle.commit_desk.proofs.LayoutsKept.{find_layouts, ok_then}
use Rattle.commit_desk.proofs.StageFacts.{used_slices}
use Rattle.commit_desk.proofs.desk.Desk.share_layouts.Goals as goal

pub returns-clause-shared : goal.returns-clause-shared
returns-clause-shared c =
    let i = c.self.inside in
    let kept = c.self.invariant.desk.kept in
    let limits = i.home.pool.limits in
    let rows : limits.slice_words ≡ words_of_slice i.home.pool.config = ap (λ (l : Limits). l.slice_words) c.self.invariant.desk.sizes in
    let used : (slice : ℕ) → Contains c.in_use-slices.result slice ↔ ((slice < limits.slices) × IsInUse limits.columns slice i.home.history) =
    used_slices limits i.home.history c.self.invariant.whole i.tokens i.stages c.in_use-slices.result kept.legal kept.recorded kept.staged c.in_use-slices.ensures in
    ok_then c.share_out.result
    (λ shared token same.
    let same_then : (slice : ℕ) → Contains token.slices slice ↔ ((slice < limits.slices) × IsInUse limits.columns slice i.home.history) =
    subst (λ (d : DeskState). (slice : ℕ) → Contains token.slices slice ↔ ((slice < d.pool.limits.slices) × IsInUse d.pool.limits.columns slice d.history)) (sym c.self.view_is) same in
    subst (λ (d : DeskState). AreFindLayouts d.pool d.history token c.share_out.new.layouts.entries.items) c.self.view_is
    (find_layouts i.home.pool i.home.history i.layouts kept.layouts_are rows token c.in_use-slices.result
    (λ slice. (λ has. (used slice).1 ((same_then slice).0 has), λ has. (same_then slice).1 ((used slice).0 has))) c.share_out.new.layouts.entries.items shared
    (λ slice has. ((used slice).0 has).0)))
    c.share_out.ensures.shared
