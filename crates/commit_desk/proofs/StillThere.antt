-- That a document is live still where it was looked at, by what is kept of the columns and of live numbers.
use Rattle.std.proofs.Common.{◌≡◌, ℕ, Option, None, Some, sym, ap, ◌∙◌, subst}
use Rattle.document_store.specs.Entries.{column_of as entry_of}
use Rattle.document_store.specs.Slots.{slot_at}
use Rattle.document_store.specs.declared.column.Column.{Column}
use Rattle.document_store.specs.declared.column.Column.TheVariants as became
use Rattle.funnel_model.specs.History.{Document}
use Rattle.funnel_model.specs.Slices.{IsInState, Live}
use Rattle.slice_rule.specs.Seats.{HomeState}
use Rattle.commit_desk.specs.Desks.{DeskState}
use Rattle.commit_desk.specs.Kept.{Books, IsDesk}
use Rattle.commit_desk.specs.Moving.{IsThereStill}
use Rattle.commit_desk.specs.Records.{document_added_at}
use Rattle.commit_desk.specs.declared.look.Look.{Look}
use Rattle.commit_desk.proofs.MadeEvents.{desk_at}
use Rattle.commit_desk.proofs.MoveTurns.{movable}
use Rattle.commit_desk.proofs.RecordFacts.{live_is_open, live_recorded, state_is}
use Rattle.commit_desk.proofs.Slots.{state-live}

same_since : (d e : Document) (m n : ℕ) → Live d m ≡ Live e n → m ≡ n
same_since d e m n is = cc

since_of : Column → ℕ
since_of (became.Live added since) = since
since_of _ = 0

pub since_in : (a b m n : ℕ) → became.Live a m ≡ became.Live b n → m ≡ n
unfolding since_of
since_in a b m n is = ap since_of is

column_at : Option (ℕ × ℕ) → ℕ × ℕ
column_at (Some at) = at
column_at None = (0, 0)

pub same_column : (at other : ℕ × ℕ) → Some at ≡ Some other → at ≡ other
unfolding column_at
same_column at other is = ap column_at is

module _ (before : DeskState) (home : HomeState) (most : ℕ) (books : Books) (desk : IsDesk home.pool most home.history books) (view : desk_at home most ≡ before) (look : Look) where
  -- its number is listed with the column, and the column is recorded with the event that put it there
  pub record IsKeptThere : Type 0 where
    pub entry : entry_of books.live look.doc.id ≡ Some (look.slice, look.column)
    pub added : ℕ
    pub column : (slot_at books.table look.slice look.column).column ≡ became.Live added look.since

  pub kept_there : IsThereStill before.history look → IsKeptThere
  kept_there there =
      let here : IsThereStill home.history look = subst (λ (b : DeskState). IsThereStill b.history look) (sym view) there in
      let m = movable home.pool.limits home.history books.table look.slice look.column here.0 look.since desk.kept.legal desk.kept.recorded here.2 in
      let slot = slot_at books.table look.slice look.column in
      let since : m.lives.since ≡ look.since = same_since (document_added_at m.lives.added m.doc) here.0 m.lives.since look.since (
      sym (state-live slot m.doc m.lives)
      ∙ state_is home.pool.limits home.history books.table desk.kept.legal desk.kept.recorded look.slice look.column (Live here.0 look.since) m.from
      (live_is_open home.pool.limits home.history books.table desk.kept.legal desk.kept.recorded look.slice look.column m.doc m.from m.lives) here.2
      ) in
      record {
        entry = subst (λ n. entry_of books.live n ≡ Some (look.slice, look.column)) (ap (λ (d : Document). d.id) m.is ∙ here.1)
            (desk.kept.listed.every look.slice look.column m.doc m.from m.lives);
        added = m.lives.added;
        column = m.lives.column ∙ ap (λ n. became.Live m.lives.added n) since;
      }

  pub there_by : (added : ℕ) → entry_of books.live look.doc.id ≡ Some (look.slice, look.column) →
      (slot_at books.table look.slice look.column).column ≡ became.Live added look.since → IsThereStill before.history look
  there_by added found column =
      let e = desk.kept.listed.listed look.doc.id look.slice look.column found in
      let since : e.live.since ≡ look.since = since_in e.live.added added e.live.since look.since (sym e.live.column ∙ column) in
      let state : IsInState home.history look.slice look.column (Live (document_added_at e.live.added e.doc) e.live.since) =
      live_recorded home.pool.limits home.history books.table desk.kept.legal desk.kept.recorded look.slice look.column e.doc e.in_table e.live in
      subst (λ (b : DeskState). IsThereStill b.history look) view
      (document_added_at e.live.added e.doc, e.number, subst (λ n. IsInState home.history look.slice look.column (Live (document_added_at e.live.added e.doc) n)) since state)
