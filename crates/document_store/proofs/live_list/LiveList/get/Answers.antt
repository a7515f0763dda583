use Rattle.std.proofs.Common.{◌<◌, Some, sym, ap, ◌∙◌, subst}
use Rattle.document_store.specs.Entries.{IsShallow, column_of}
use Rattle.document_store.proofs.ColumnLemmas.{IsSearch, column-found, column-none, search-is, shallow-view, some-columns}
use Rattle.document_store.proofs.EntryLemmas.{column_at}
use Rattle.document_store.proofs.live_list.LiveList.get.Goals as goal

found : (c : goal.Else-at) → IsSearch c.self.inside.buckets c.self.inside.links.items c.self.inside.entries.items c.args.id c.search-link.result c.index-at.result.now
found c =
    let i = c.self.inside in
    search-is i.buckets i.links.items c.deref.result.now i.entries.items c.deref-2.result.now c.args.id c.search-link.result c.index-at.result.now
    c.deref.ensures.value c.deref-2.ensures.value c.search-link.ensures.place c.search-link.ensures.within c.index-at.ensures

ends : (c : goal.Then-at) → IsSearch c.self.inside.buckets c.self.inside.links.items c.self.inside.entries.items c.args.id c.search-link.result c.index-at.result.now
ends c =
    let i = c.self.inside in
    search-is i.buckets i.links.items c.deref.result.now i.entries.items c.deref-2.result.now c.args.id c.search-link.result c.index-at.result.now
    c.deref.ensures.value c.deref-2.ensures.value c.search-link.ensures.place c.search-link.ensures.within c.index-at.ensures

some : (c : goal.Else-at) → 0 < c.self.inside.columns
some c =
    let i = c.self.inside in
    some-columns i.slices i.columns i.buckets i.links.items i.entries.items c.self.invariant c.args.id c.search-link.result c.ranges.id.fits (found c).place
    (λ ends. c.if-at.false ((found c).behind ∙ ends))

pub nonzero_div-result : goal.nonzero_div-result
nonzero_div-result c = some c

pub nonzero_rem-result : goal.nonzero_rem-result
nonzero_rem-result c = some c

pub returns-then-at-clause-column : goal.returns-then-at-clause-column
returns-then-at-clause-column c =
    let i = c.self.inside in
    sym (column-none i.slices i.columns i.buckets i.links.items i.entries.items c.self.invariant c.args.id c.search-link.result c.ranges.id.fits (ends c).place
    (sym (ends c).behind ∙ c.if-at.true))
    ∙ ap (λ l. column_of l c.args.id) c.self.view_is

pub returns-then-at-clause-few : goal.returns-then-at-clause-few
returns-then-at-clause-few c =
    let i = c.self.inside in
    subst IsShallow c.self.view_is (shallow-view i.slices i.columns i.buckets i.links.items i.entries.items c.self.invariant)

pub returns-clause-column : goal.returns-clause-column
returns-clause-column c =
    let i = c.self.inside in
    ap (λ at. Some (column_at i.columns at)) (found c).behind
    ∙ sym (column-found i.slices i.columns i.buckets i.links.items i.entries.items c.self.invariant c.args.id c.search-link.result c.ranges.id.fits (found c).place
    (λ ends. c.if-at.false ((found c).behind ∙ ends)))
    ∙ ap (λ l. column_of l c.args.id) c.self.view_is

pub returns-clause-few : goal.returns-clause-few
returns-clause-few c =
    let i = c.self.inside in
    subst IsShallow c.self.view_is (shallow-view i.slices i.columns i.buckets i.links.items i.entries.items c.self.invariant)
