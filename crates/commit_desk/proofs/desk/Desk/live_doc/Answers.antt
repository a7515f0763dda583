use Rattle.std.proofs.Common.{◌≡◌, None, Some, sym, ◌∙◌, subst}
use Rattle.funnel_model.specs.History.{document_with}
use Rattle.commit_desk.specs.Desks.{DeskState}
use Rattle.commit_desk.specs.Records.{IsEntry}
use Rattle.commit_desk.proofs.Keeping.{column-left, same-column}
use Rattle.commit_desk.proofs.KeepingDesks.{same-doc}
use Rattle.commit_desk.proofs.RecordFacts.{entry_document, no_document_without}
use Rattle.commit_desk.proofs.desk.Desk.live_doc.Goals as goal

-- a number that the live list lacks is not live
pub returns-in_err-slice : goal.returns-in_err-slice
returns-in_err-slice c =
    let i = c.self.inside in
    let kept = c.self.invariant.desk.kept in
    rw (c.from_residual.ensures)
    (subst (λ (d : DeskState). document_with c.args.id d.history ≡ None) c.self.view_is
    (no_document_without i.home.pool.limits i.home.history c.self.invariant.whole kept.legal kept.recorded i.live kept.listed c.args.id (sym c.get.ensures.column ∙ c.in_err-slice.was)))

-- and one that it has is live in its column
abbrev entry_now : (c : goal.In_ok-slice) → IsEntry c.self.invariant.whole c.args.id c.in_ok-slice.slice c.in_ok-slice.column
entry_now c = c.self.invariant.desk.kept.listed.listed c.args.id c.in_ok-slice.slice c.in_ok-slice.column (sym c.get.ensures.column ∙ c.in_ok-slice.was)

pub state-requires : goal.state-requires
state-requires c = column-left c.self.invariant.whole c.self.inside.records c.in_ok-slice.slice c.in_ok-slice.column c.self.invariant.left (entry_now c).in_table

pub unreachable-requires : goal.unreachable-requires
unreachable-requires c =
    let e = entry_now c.before.before in c.in_default.not-Live e.live.added e.live.since (c.state.ensures.state ∙ same-column c.self.invariant.whole c.self.inside.records c.in_ok-slice.slice c.in_ok-slice.column c.self.invariant.left e.in_table ∙ e.live.column)

pub returns : goal.returns
returns c =
    let i = c.self.inside in
    let kept = c.self.invariant.desk.kept in
    let e = entry_now c.before.before.before.before in
    let column = sym (same-column c.self.invariant.whole c.self.inside.records c.in_ok-slice.slice c.in_ok-slice.column c.self.invariant.left e.in_table) ∙ sym c.in-Live.ensures.state in
    let doc = sym (same-doc c.self.invariant.whole c.self.inside.records c.in_ok-slice.slice c.in_ok-slice.column e.live.added e.live.since c.self.invariant.left e.in_table e.live.column) ∙ sym c.in-Some.ensures.doc in
    subst (λ (d : DeskState). document_with c.args.id d.history ≡ Some (record { id = c.args.id; text = c.in-Some.doc.now.text; place = c.in-Live.place })) c.self.view_is
    (entry_document i.home.pool.limits i.home.history c.self.invariant.whole kept.legal kept.recorded i.live kept.listed c.args.id c.in_ok-slice.slice c.in_ok-slice.column c.in-Live.place c.in-Live.since c.in-Some.doc.now
    (sym c.get.ensures.column ∙ c.in_ok-slice.was) column doc)
