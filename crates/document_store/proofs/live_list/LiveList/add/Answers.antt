use Rattle.std.proofs.Common.{◌<◌, cond, eqb, Some, sym, ap, ◌∙◌, subst}
use Rattle.document_store.specs.Entries.{IsShallow, column_of}
use Rattle.document_store.proofs.ColumnLemmas.{IsSearch, add-columns, add-keeps, search-is, shallow-view}
use Rattle.document_store.proofs.live_list.LiveList.add.Goals as goal

searched : (c : goal.After-self-2-1) → IsSearch c.self.inside.buckets c.self.inside.links.items c.self.inside.entries.items c.args.id c.search-link.result
    c.index_mut-2.result.now
searched c =
    let i = c.self.inside in
    search-is i.buckets i.links.items c.deref.result.now i.entries.items c.deref-2.result.now c.args.id c.search-link.result c.index_mut-2.result.now
    c.deref.ensures.value c.deref-2.ensures.value c.search-link.ensures.place c.search-link.ensures.within c.index_mut-2.ensures.value

pub invariant_of-self : goal.invariant_of-self
invariant_of-self c =
    let i = c.self.inside in
    add-keeps i.slices i.columns i.buckets i.links.items i.entries.items c.self.invariant c.args.id c.args.slice c.args.column c.search-link.result
    c.ranges.id.fits (searched c).place (searched c).inside
    (subst (λ l. c.args.slice < l.slices) (sym c.self.view_is) c.requires.slice)
    (subst (λ l. c.args.column < l.columns) (sym c.self.view_is) c.requires.column)
    (λ other there. c.requires.free other (sym (ap (λ l. column_of l other) c.self.view_is) ∙ there))
    (ap (λ l. column_of l c.args.id) c.self.view_is ∙ c.requires.absent)

pub returns-clause-columns : goal.returns-clause-columns
returns-clause-columns c other =
    let i = c.self.inside in
    add-columns i.slices i.columns i.buckets i.links.items i.entries.items c.self.invariant c.args.id c.args.slice c.args.column c.search-link.result
    c.ranges.id.fits (searched c).place (searched c).inside
    (subst (λ l. c.args.slice < l.slices) (sym c.self.view_is) c.requires.slice)
    (subst (λ l. c.args.column < l.columns) (sym c.self.view_is) c.requires.column)
    (λ other there. c.requires.free other (sym (ap (λ l. column_of l other) c.self.view_is) ∙ there))
    (ap (λ l. column_of l c.args.id) c.self.view_is ∙ c.requires.absent) other
    ∙ ap (λ l. cond (eqb other c.args.id) (Some (c.args.slice, c.args.column)) (column_of l other)) c.self.view_is

pub returns-clause-few : goal.returns-clause-few
returns-clause-few c =
    let i = c.self.inside in
    subst IsShallow c.self.view_is (shallow-view i.slices i.columns i.buckets i.links.items i.entries.items c.self.invariant)
