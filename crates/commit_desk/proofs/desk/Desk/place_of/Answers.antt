use Rattle.std.proofs.Common.{◌≡◌, ℕ, Some, sym, ap, ◌∙◌}
use Rattle.document_store.specs.declared.column.Column.{Column}
use Rattle.document_store.specs.declared.column.Column.TheVariants as became
use Rattle.funnel_model.specs.History.{live_place}
use Rattle.commit_desk.specs.Desks.{DeskState}
use Rattle.commit_desk.proofs.Keeping.{column-left, same-column}
use Rattle.commit_desk.proofs.RecordFacts.{EntryPlace, entry_place, no_place_without}
use Rattle.commit_desk.proofs.desk.Desk.place_of.Goals as goal

pub returns-in_err-slice : goal.returns-in_err-slice
returns-in_err-slice c =
    let i = c.self.inside in
    let kept = c.self.invariant.desk.kept in
    c.from_residual.ensures
    ∙ sym (no_place_without i.home.pool.limits i.home.history c.self.invariant.whole kept.legal kept.recorded i.live kept.listed c.args.id (sym c.get.ensures.column ∙ c.in_err-slice.was))
    ∙ ap (λ (d : DeskState). live_place c.args.id d.history) c.self.view_is

entry_at : (c : goal.In_ok-slice) → EntryPlace c.self.inside.home.pool.limits c.self.inside.home.history c.self.invariant.whole c.self.invariant.desk.kept.legal c.self.invariant.desk.kept.recorded c.self.inside.live c.self.invariant.desk.kept.listed
    c.args.id c.in_ok-slice.slice c.in_ok-slice.column
entry_at c =
    let i = c.self.inside in
    let kept = c.self.invariant.desk.kept in
    entry_place i.home.pool.limits i.home.history c.self.invariant.whole kept.legal kept.recorded i.live kept.listed c.args.id c.in_ok-slice.slice c.in_ok-slice.column (sym c.get.ensures.column ∙ c.in_ok-slice.was)

pub state-requires : goal.state-requires
state-requires c = column-left c.self.invariant.whole c.self.inside.records c.in_ok-slice.slice c.in_ok-slice.column c.self.invariant.left (entry_at c).in_table

added_of : Column → ℕ → ℕ
added_of (became.Live added since) other = added
added_of c other = other

same_place : (n m since after : ℕ) → became.Live n since ≡ became.Live m after → n ≡ m
unfolding added_of
same_place n m since after is = ap (λ c. added_of c 0) is

pub returns-in-Live : goal.returns-in-Live
returns-in-Live c =
    let e = entry_at c.before.before in
    ap (λ n. Some n) (same_place c.in-Live.place e.added c.in-Live.since e.since (c.in-Live.ensures.state ∙ same-column c.self.invariant.whole c.self.inside.records c.in_ok-slice.slice c.in_ok-slice.column c.self.invariant.left e.in_table ∙ e.column_is)) ∙ sym e.place_is ∙ ap (λ (d : DeskState). live_place c.args.id d.history) c.self.view_is

pub returns-in_default : goal.returns-in_default
returns-in_default c =
    let e = entry_at c.before.before in
    absurd (c.in_default.not-Live e.added e.since (c.state.ensures.state ∙ same-column c.self.invariant.whole c.self.inside.records c.in_ok-slice.slice c.in_ok-slice.column c.self.invariant.left e.in_table ∙ e.column_is))
