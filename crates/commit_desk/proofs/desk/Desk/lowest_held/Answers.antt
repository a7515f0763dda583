use Rattle.std.proofs.Common.{◌≡◌, ◌+◌, ◌<◌, false, sym, ap, ◌∙◌, subst, arith}
use Rattle.document_store.proofs.SlotLemmas.{column_is_over}
use Rattle.funnel_model.specs.Legal.{IsLegal}
use Rattle.funnel_model.specs.Slices.{is_clearing}
use Rattle.commit_desk.specs.Desks.{DeskState}
use Rattle.document_store.specs.Slots.{slot_at}
use Rattle.commit_desk.proofs.HeldColumns.{NoneHeldBelow, none_held-next, none_held-over, retired_unless_held}
use Rattle.commit_desk.proofs.Keeping.{column-left, over-left, same-column}
use Rattle.commit_desk.proofs.RecordFacts.{is_column}
use Rattle.commit_desk.proofs.desk.Desk.lowest_held.Goals as goal

pub loop-column-init : goal.loop-column-init
loop-column-init c =
    let i = c.self.inside in
    let kept = c.self.invariant.desk.kept in
    subst (λ (d : DeskState). NoneHeldBelow d.history c.args.slice c.first_over-column.result) c.self.view_is
    (none_held-over i.home.pool.limits i.home.history c.self.invariant.whole c.args.slice c.first_over-column.result kept.legal kept.recorded
    (subst (λ (d : DeskState). is_clearing c.args.slice d.history ≡ false) (sym c.self.view_is) c.requires.not_clearing)
    (λ at in' below.
    sym (over-left (slot_at c.self.invariant.whole c.args.slice at) (slot_at i.records c.args.slice at) (c.self.invariant.left.each c.args.slice at in'))
    ∙ column_is_over i.records c.args.slice c.first_over-column.result at c.first_over-column.ensures (column-left c.self.invariant.whole i.records c.args.slice at c.self.invariant.left in') below))

pub loop-column-preserved : goal.loop-column-preserved
loop-column-preserved c =
    let i = c.self.inside in
    let kept = c.self.invariant.desk.kept in
    let slice = c.args.slice in
    let column = c.loop-column.column in
    let below = c.loop-column-test.true in
    let columns_are = kept.columns_are in
    let of_slice = subst (λ (d : DeskState). slice < d.pool.limits.slices) (sym c.self.view_is) c.requires.in_range in
    let here = is_column i.home.pool.limits i.home.history c.self.invariant.whole kept.legal kept.recorded slice column of_slice (omega arith) in
    let same = same-column c.self.invariant.whole i.records slice column c.self.invariant.left here in
    subst (λ (d : DeskState). NoneHeldBelow d.history slice (column + 1)) c.self.view_is
    (none_held-next i.home.pool.limits i.home.history c.self.invariant.whole slice column kept.legal kept.recorded
    (subst (λ (d : DeskState). slice < d.pool.limits.slices) (sym c.self.view_is) c.requires.in_range) (omega arith)
    (subst (λ (d : DeskState). is_clearing c.args.slice d.history ≡ false) (sym c.self.view_is) c.requires.not_clearing)
    (λ added since is. c.in_default.not-Live added since (c.state.ensures.state ∙ same ∙ is))
    (λ pass is. c.in_default.not-Pending pass (c.state.ensures.state ∙ same ∙ is))
    (subst (λ (d : DeskState). NoneHeldBelow d.history slice column) (sym c.self.view_is) c.loop-column.invariant))

pub unreachable-requires : goal.unreachable-requires
unreachable-requires c =
    let i = c.self.inside in
    let kept = c.self.invariant.desk.kept in
    let slice = c.args.slice in
    let column = c.loop-column.column in
    let columns : i.columns ≡ c.args.self.now.pool.limits.columns = kept.columns_are ∙ ap (λ (d : DeskState). d.pool.limits.columns) c.self.view_is in
    let end = c.loop-column.auto.column-end in
    let done = c.loop-column-test.false in
    c.requires.not_retired
    (retired_unless_held c.args.self.now.pool.limits c.args.self.now.pool.limits.columns slice c.args.self.now.history
    (subst (λ (d : DeskState). IsLegal d.pool.limits d.history) c.self.view_is kept.legal) c.requires.filled c.requires.not_clearing
    (λ lower low. c.loop-column.invariant lower (omega (arith, low, columns, end, done))))
