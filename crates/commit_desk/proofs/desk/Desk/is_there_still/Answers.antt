use Rattle.std.proofs.Common.{◌≡◌, ℕ, Some, sym, ap, ◌∙◌}
use Rattle.std.proofs.lemmas.Bool.{false≢true, eq-eqb, eqb-true}
use Rattle.document_store.specs.Entries.{column_of as entry_of}
use Rattle.document_store.specs.Slots.{slot_at}
use Rattle.document_store.specs.declared.column.Column.TheVariants as became
use Rattle.document_store.specs.declared.slots.Slot.{Slot}
use Rattle.commit_desk.specs.Moving.{IsThereStill}
use Rattle.commit_desk.proofs.Inside.{books_of}
use Rattle.commit_desk.proofs.Keeping.{column-left, same-column}
use Rattle.commit_desk.proofs.RecordFacts.{entry_place}
use Rattle.commit_desk.proofs.StillThere.{IsKeptThere, kept_there, same_column, since_in, there_by}
use Rattle.commit_desk.proofs.desk.Desk.is_there_still.Goals as goal
use Rattle.commit_desk.proofs.desk.Desk.is_there_still.Goals.{After-get, After-state, In-Some, then-slice-look-via-then-slice-look, then-slice-look-via-else-slice-look+then-column-look}

kept : (c : After-get) → IsThereStill c.args.self.now.history c.args.look.now → IsKeptThere c.args.self.now c.self.inside.home c.self.inside.events_limit (books_of c.self.inside c.self.invariant.whole) c.self.invariant.desk c.self.view_is c.args.look.now
kept c there =
    let i = c.self.inside in
    kept_there c.args.self.now i.home i.events_limit (books_of i c.self.invariant.whole) c.self.invariant.desk c.self.view_is c.args.look.now there

at : (c : In-Some) → IsThereStill c.args.self.now.history c.args.look.now → ◌≡◌ {A = ℕ × ℕ} (c.in-Some.slice, c.in-Some.column) (c.args.look.now.slice, c.args.look.now.column)
at c there =
    same_column (c.in-Some.slice, c.in-Some.column) (c.args.look.now.slice, c.args.look.now.column)
    (c.in-Some.ensures.column ∙ ap (entry_of c.self.inside.live) c.id.ensures ∙ (kept c.before there).entry)

pub returns-in_default : goal.returns-in_default
returns-in_default c = (
  λ none. absurd (false≢true none),
  λ there. absurd (c.in_default.not-Some (c.args.look.now.slice, c.args.look.now.column) (c.get.ensures.column ∙ ap (entry_of c.self.inside.live) c.id.ensures ∙ (kept c.before there).entry)),
)

pub returns-then-slice-look : goal.returns-then-slice-look
returns-then-slice-look c = (
  λ none. absurd (false≢true none),
  λ there. elim c.then-slice-look.branch [
    | then-slice-look-via-then-slice-look w ↦ absurd (w.if-slice-look.true (ap (λ (p : ℕ × ℕ). p.0) (at c.before there)))
    | then-slice-look-via-else-slice-look+then-column-look w ↦ absurd (w.if-column-look.true (ap (λ (p : ℕ × ℕ). p.1) (at c.before there)))
  ],
)

pub state-requires : goal.state-requires
state-requires c =
    let i = c.self.inside in
    let kept = c.self.invariant.desk.kept in
    column-left c.self.invariant.whole c.self.inside.records c.in-Some.slice c.in-Some.column c.self.invariant.left
    (entry_place i.home.pool.limits i.home.history c.self.invariant.whole kept.legal kept.recorded i.live kept.listed c.id.result c.in-Some.slice c.in-Some.column (sym c.in-Some.ensures.column)).in_table

-- the column is one of the records, and is recorded with the same state
same_state : (c : After-state) → (slot_at c.self.inside.records c.in-Some.slice c.in-Some.column).column ≡ (slot_at c.self.invariant.whole c.in-Some.slice c.in-Some.column).column
same_state c =
    let i = c.self.inside in
    let kept = c.self.invariant.desk.kept in
    same-column c.self.invariant.whole c.self.inside.records c.in-Some.slice c.in-Some.column c.self.invariant.left
    (entry_place i.home.pool.limits i.home.history c.self.invariant.whole kept.legal kept.recorded i.live kept.listed c.id.result c.in-Some.slice c.in-Some.column (sym c.in-Some.ensures.column)).in_table

-- the column is that of the look
same_slot : (c : After-state) → slot_at c.self.invariant.whole c.in-Some.slice c.in-Some.column ≡ slot_at c.self.invariant.whole c.args.look.now.slice c.args.look.now.column
same_slot c =
    ap (λ s. slot_at c.self.invariant.whole s c.in-Some.column) c.if-slice-look.false ∙ ap (λ k. slot_at c.self.invariant.whole c.args.look.now.slice k) c.if-column-look.false

pub returns-in-Live : goal.returns-in-Live
returns-in-Live c =
    let i = c.self.inside in
    let look = c.args.look.now in
    let column : (slot_at c.self.invariant.whole look.slice look.column).column ≡ became.Live c.in-Live.place c.in-Live.since =
    ap (λ (s : Slot). s.column) (sym (same_slot c.before)) ∙ sym (same_state c.before) ∙ sym c.in-Live.ensures.state in
    let entry : entry_of i.live look.doc.id ≡ Some (look.slice, look.column) =
    ap (entry_of i.live) (sym c.id.ensures) ∙ sym c.in-Some.ensures.column ∙ ap (λ s. Some (s, c.in-Some.column)) c.if-slice-look.false ∙ ap (λ k. Some (look.slice, k)) c.if-column-look.false in (
      λ same.
          there_by c.args.self.now i.home i.events_limit (books_of i c.self.invariant.whole) c.self.invariant.desk c.self.view_is look c.in-Live.place entry
          (column ∙ ap (λ n. became.Live c.in-Live.place n) (eqb-true c.in-Live.since look.since same)),
      λ there.
          let k = kept_there c.args.self.now i.home i.events_limit (books_of i c.self.invariant.whole) c.self.invariant.desk c.self.view_is look there in
          eq-eqb c.in-Live.since look.since (since_in c.in-Live.place k.added c.in-Live.since look.since (sym column ∙ k.column)),
    )

pub returns-in_default-state : goal.returns-in_default-state
returns-in_default-state c = (
  λ none. absurd (false≢true none),
  λ there.
      let i = c.self.inside in
      let k = kept_there c.args.self.now i.home i.events_limit (books_of i c.self.invariant.whole) c.self.invariant.desk c.self.view_is c.args.look.now there in
      absurd (c.in_default-state.not-Live k.added c.args.look.now.since (c.state.ensures.state ∙ same_state c.before ∙ ap (λ (s : Slot). s.column) (same_slot c.before) ∙ k.column)),
)
