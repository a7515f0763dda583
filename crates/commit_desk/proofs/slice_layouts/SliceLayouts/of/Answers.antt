use Rattle.std.proofs.Common.{IfOk, subst}
use Rattle.row_layout.specs.Layouts.{LayoutId}
use Rattle.commit_desk.specs.Layouts.{IsLaidBy, LayoutsState}
use Rattle.commit_desk.proofs.EntriesKept.{entry_at, state}
use Rattle.commit_desk.proofs.LayoutsKept.{ok_follows}
use Rattle.commit_desk.proofs.slice_layouts.SliceLayouts.of.Goals as goal

pub returns : goal.returns
returns c =
    let i = c.self.inside in
    let at = c.index_of-index in
    let entry = c.index.result.now in
    let of_slice = entry_at (state i.treatments.items i.next i.tunings) c.args.self.now c.self.view_is c.args.slice at.result at.ensures.in_range at.ensures.has entry c.index.ensures in
    subst (λ (k : LayoutsState). IfOk c.share.result (λ layout. IsLaidBy k c.args.slice layout)) c.self.view_is
    (ok_follows c.share.result (λ (layout : LayoutId) same. (entry, of_slice, same)) c.share.ensures)
