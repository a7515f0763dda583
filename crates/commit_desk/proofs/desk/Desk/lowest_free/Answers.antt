use Rattle.std.proofs.Common.{◌≡◌, ℕ, sym, ap, ◌∙◌, arith}
use Rattle.std.proofs.lemmas.Bool.{false≢true}
use Rattle.funnel_model.specs.History.{Document}
use Rattle.document_store.proofs.SlotLemmas.{column_is_over}
use Rattle.commit_desk.specs.Desks.{DeskState}
use Rattle.commit_desk.specs.Moving.{IsFreeToMove}
use Rattle.commit_desk.proofs.Inside.{books_of}
use Rattle.document_store.specs.Slots.{slot_at}
use Rattle.commit_desk.proofs.Keeping.{column-left, over-left}
use Rattle.commit_desk.proofs.LiveLooks.{none_live_over, none_next}
use Rattle.commit_desk.proofs.desk.Desk.lowest_free.Goals as goal

pub loop-column-init : goal.loop-column-init
loop-column-init c lower d since below free =
    let i = c.self.inside in
    none_live_over c.args.self.now i.home i.events_limit (books_of i c.self.invariant.whole) c.self.invariant.desk c.self.view_is c.args.slice lower (λ at.
    sym (over-left (slot_at c.self.invariant.whole c.args.slice lower) (slot_at i.records c.args.slice lower) (c.self.invariant.left.each c.args.slice lower at))
    ∙ column_is_over i.records c.args.slice c.first_over-column.result lower c.first_over-column.ensures (column-left c.self.invariant.whole i.records c.args.slice lower c.self.invariant.left at) below) d since free.live

pub loop-column-preserved : goal.loop-column-preserved
loop-column-preserved c lower d since in' free =
    let limits = c.args.self.now.pool.limits in
    let looks = c.args.looks.now in
    let history = c.args.self.now.history in
    none_next (λ k. (d : Document) × (since : ℕ) × IsFreeToMove limits looks history c.args.slice k d since) c.loop-column.column
    (λ k below is. c.loop-column.invariant k is.0 is.1 below is.2)
    (λ is. false≢true (sym c.if-is_free_to_move.false ∙ c.is_free_to_move.ensures.1 is))
    lower in' (d, since, free)

pub returns : goal.returns
returns c column d since free =
    let kept = c.self.invariant.desk.kept in
    let columns : c.self.inside.columns ≡ c.args.self.now.pool.limits.columns = kept.columns_are ∙ ap (λ (d : DeskState). d.pool.limits.columns) c.self.view_is in
    let end = c.loop-column.auto.column-end in
    let done = c.loop-column-test.false in
    let in' = free.in_range in
    c.loop-column.invariant column d since (omega (arith, columns, end, done, in')) free
