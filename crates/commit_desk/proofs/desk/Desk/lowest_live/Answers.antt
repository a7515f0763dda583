use Rattle.std.proofs.Common.{◌≡◌, ℕ, ◌<◌, sym, ap, ◌∙◌, arith}
use Rattle.funnel_model.specs.History.{Document}
use Rattle.funnel_model.specs.Slices.{IsInState, Live}
use Rattle.document_store.proofs.SlotLemmas.{column_is_over}
use Rattle.commit_desk.specs.Desks.{DeskState}
use Rattle.commit_desk.proofs.Inside.{books_of, desk_of}
use Rattle.commit_desk.proofs.KeepingDesks.{column-seen}
use Rattle.document_store.specs.Slots.{Table, slot_at}
use Rattle.commit_desk.specs.Kept.{IsDesk}
use Rattle.commit_desk.specs.Leaving.{IsLeftOf}
use Rattle.commit_desk.specs.declared.desk.Desk.TheInside.{Inside}
use Rattle.commit_desk.proofs.Keeping.{column-left, over-left, same-column}
use Rattle.commit_desk.proofs.LiveLooks.{live_found, none_live, none_live_over, none_next}
use Rattle.commit_desk.proofs.desk.Desk.lowest_live.Goals as goal

-- a column of the engine is recorded with the same state
same_state : (i : Inside) (whole : Table) (now : DeskState) → IsDesk i.home.pool i.events_limit i.home.history (books_of i whole) → IsLeftOf whole i.records → desk_of i ≡ now → (slice column : ℕ) →
    slice < now.pool.limits.slices → column < i.columns → (slot_at i.records slice column).column ≡ (slot_at whole slice column).column
same_state i whole now desk left view slice column of_slice of_column =
    let columns : i.columns ≡ now.pool.limits.columns = desk.kept.columns_are ∙ ap (λ (d : DeskState). d.pool.limits.columns) view in
    same-column whole i.records slice column left (column-seen now i.home i.events_limit (books_of i whole) desk view slice column of_slice (omega (arith, columns, of_column)))

pub loop-column-init : goal.loop-column-init
loop-column-init c lower d since below lives =
    let i = c.self.inside in
    none_live_over c.args.self.now i.home i.events_limit (books_of i c.self.invariant.whole) c.self.invariant.desk c.self.view_is c.args.slice lower (λ at.
    sym (over-left (slot_at c.self.invariant.whole c.args.slice lower) (slot_at i.records c.args.slice lower) (c.self.invariant.left.each c.args.slice lower at))
    ∙ column_is_over i.records c.args.slice c.first_over-column.result lower c.first_over-column.ensures (column-left c.self.invariant.whole i.records c.args.slice lower c.self.invariant.left at) below) d since lives

pub loop-column-preserved : goal.loop-column-preserved
loop-column-preserved c lower d since in' lives =
    let i = c.self.inside in
    let same = same_state c.self.inside c.self.invariant.whole c.args.self.now c.self.invariant.desk c.self.invariant.left c.self.view_is c.args.slice c.loop-column.column c.requires c.loop-column-test.true in
    none_next (λ k. (d : Document) × (since : ℕ) × IsInState c.args.self.now.history c.args.slice k (Live d since)) c.loop-column.column
    (λ k below has. c.loop-column.invariant k has.0 has.1 below has.2)
    (λ has. none_live c.args.self.now i.home i.events_limit (books_of i c.self.invariant.whole) c.self.invariant.desk c.self.view_is c.args.slice c.loop-column.column c.state.result (c.state.ensures.state ∙ same)
    c.in_default.not-Live has.0 has.1 has.2)
    lower in' (d, since, lives)

pub returns : goal.returns
returns c has =
    let kept = c.self.invariant.desk.kept in
    let columns : c.self.inside.columns ≡ c.args.self.now.pool.limits.columns = kept.columns_are ∙ ap (λ (d : DeskState). d.pool.limits.columns) c.self.view_is in
    let end = c.loop-column.auto.column-end in
    let done = c.loop-column-test.false in
    let in' = has.3 in
    c.loop-column.invariant has.0 has.1 has.2 (omega (arith, columns, end, done, in')) has.4

pub returns-in-Live : goal.returns-in-Live
returns-in-Live c =
    let i = c.self.inside in
    let column = c.loop-column.column in
    let kept = c.self.invariant.desk.kept in
    let columns : i.columns ≡ c.args.self.now.pool.limits.columns = kept.columns_are ∙ ap (λ (d : DeskState). d.pool.limits.columns) c.self.view_is in
    let below = c.loop-column-test.true in
    let within : column < c.args.self.now.pool.limits.columns = omega (arith, columns, below) in
    let same = same_state i c.self.invariant.whole c.args.self.now c.self.invariant.desk c.self.invariant.left c.self.view_is c.args.slice column c.requires below in
    let found = live_found c.args.self.now i.home i.events_limit (books_of i c.self.invariant.whole) c.self.invariant.desk c.self.view_is c.args.slice column c.in-Live.place c.in-Live.since c.requires within (c.in-Live.ensures.state ∙ same) in
    record { in_range = within; live = (found.0, c.in-Live.since, found.1); lowest = λ lower other at low lives. c.loop-column.invariant lower other at low lives }
