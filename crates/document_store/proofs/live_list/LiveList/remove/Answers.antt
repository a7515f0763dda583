use Rattle.std.proofs.Common.{◌≡◌, ℕ, ◌<◌, ◌/◌, ◌%◌, false, arith, cond, eqb, List, length, set, Some, None, refl, sym, ap, ◌∙◌, subst}
use Rattle.document_store.specs.declared.live_list.LiveList.TheInside.{Inside}
use Rattle.document_store.specs.declared.live_list.Entry.{Entry}
use Rattle.document_store.specs.Entries.{Entries, IsShallow, column_of}
use Rattle.document_store.specs.Trees.{AreTrees, IsInPlace, entry_at, link_at, link_under, none}
use Rattle.std.proofs.lemmas.List.{length-set}
use Rattle.document_store.proofs.EntryLemmas.{column_at, column_of-without}
use Rattle.document_store.proofs.ColumnLemmas.{IsSearch, column-found, column-none, search-is, shallow-view, some-columns, view}
use Rattle.document_store.proofs.RemovalLemmas.{IsLeft, IsRemoval, inside-if, leaf-other, left-alone, left-put, link-still, marked, not-under-leaf, not-under-old, removal-is, removed-in, unmarked, written}
use Rattle.document_store.proofs.live_list.LiveList.remove.Goals as goal
use Rattle.document_store.proofs.live_list.LiveList.remove.Goals.{After-deref_mut, then-lowest-link, else-lowest-link}

ends : (c : goal.Then-at) → IsSearch c.self.inside.buckets c.self.inside.links.items c.self.inside.entries.items c.args.id c.search-link.result c.index-at.result.now
ends c =
    let i = c.self.inside in
    search-is i.buckets i.links.items c.deref.result.now i.entries.items c.deref-2.result.now c.args.id c.search-link.result c.index-at.result.now
    c.deref.ensures.value c.deref-2.ensures.value c.search-link.ensures.place c.search-link.ensures.within c.index-at.ensures

pub returns-then-at-clause-was : goal.returns-then-at-clause-was
returns-then-at-clause-was c =
    let i = c.self.inside in
    sym (column-none i.slices i.columns i.buckets i.links.items i.entries.items c.self.invariant c.args.id c.search-link.result c.ranges.id.fits (ends c).place
    (sym (ends c).behind ∙ c.if-at.true))
    ∙ ap (λ l. column_of l c.args.id) c.self.view_is

pub returns-then-at-clause-columns : goal.returns-then-at-clause-columns
returns-then-at-clause-columns c =
    let i = c.self.inside in
    let none = column-none i.slices i.columns i.buckets i.links.items i.entries.items c.self.invariant c.args.id c.search-link.result c.ranges.id.fits (ends c).place
    (sym (ends c).behind ∙ c.if-at.true) in
    subst (λ (l : Entries). (other : ℕ) → column_of l other ≡ cond (eqb other c.args.id) None (column_of l other)) c.self.view_is
    (column_of-without (view i.slices i.columns i.links.items i.entries.items) c.args.id none)

pub returns-then-at-clause-few : goal.returns-then-at-clause-few
returns-then-at-clause-few c =
    let i = c.self.inside in
    subst IsShallow c.self.view_is (shallow-view i.slices i.columns i.buckets i.links.items i.entries.items c.self.invariant)

before : (c : After-deref_mut) → IsRemoval c.self.inside.buckets c.self.inside.links.items c.self.inside.entries.items c.args.id c.search-link.result c.index-at.result.now
    c.lowest_under-lowest.result c.index-leaf.result.now
before c =
    let i = c.self.inside in
    removal-is i.buckets i.links.items c.deref-3.result.now i.entries.items c.deref-4.result.now c.args.id c.search-link.result c.index-at.result.now
    c.lowest_under-lowest.result c.index-leaf.result.now
    (search-is i.buckets i.links.items c.deref.result.now i.entries.items c.deref-2.result.now c.args.id c.search-link.result c.index-at.result.now
    c.deref.ensures.value c.deref-2.ensures.value c.search-link.ensures.place c.search-link.ensures.within c.index-at.ensures)
    c.if-at.false c.deref-3.ensures.value c.deref-4.ensures.value c.lowest_under-lowest.ensures
    (inside-if i.slices i.columns i.buckets i.links.items i.entries.items c.self.invariant c.deref-3.result.now c.deref-4.result.now c.lowest_under-lowest.result
    c.deref-3.ensures.value c.deref-4.ensures.value c.lowest_under-lowest.ensures.entry) c.index-leaf.ensures

known : (c : goal.Joined-lowest-link) → IsRemoval c.self.inside.buckets c.self.inside.links.items c.self.inside.entries.items c.args.id c.search-link.result c.index-at.result.now
    c.lowest_under-lowest.result c.index-leaf.result.now
known c =
    let i = c.self.inside in
    removal-is i.buckets i.links.items c.deref-3.result.now i.entries.items c.deref-4.result.now c.args.id c.search-link.result c.index-at.result.now
    c.lowest_under-lowest.result c.index-leaf.result.now
    (search-is i.buckets i.links.items c.deref.result.now i.entries.items c.deref-2.result.now c.args.id c.search-link.result c.index-at.result.now
    c.deref.ensures.value c.deref-2.ensures.value c.search-link.ensures.place c.search-link.ensures.within c.index-at.ensures)
    c.if-at.false c.deref-3.ensures.value c.deref-4.ensures.value c.lowest_under-lowest.ensures
    (inside-if i.slices i.columns i.buckets i.links.items i.entries.items c.self.invariant c.deref-3.result.now c.deref-4.result.now c.lowest_under-lowest.result
    c.deref-3.ensures.value c.deref-4.ensures.value c.lowest_under-lowest.ensures.entry) c.index-leaf.ensures

-- the entries with that of the number live no more
abbrev later : (c : goal.Joined-lowest-link) → List Entry
later c = set c.self.inside.entries.items c.index-at.result.now (record { id = c.index_mut.result.now.id; live = false })

-- what is left: a table with the number gone, of the same sizes
record Left (c : goal.Joined-lowest-link) (s : Inside) : Type 0 where
  left : IsLeft c.self.inside.slices c.self.inside.columns c.self.inside.buckets c.self.inside.links.items c.self.inside.entries.items c.self.invariant c.args.id
      c.search-link.result c.lowest_under-lowest.result c.ranges.id.fits (known c).search.place (known c).some (known c).lowest s.links.items (later c)
  entries_are : s.entries.items ≡ later c
  slices_are : s.slices ≡ c.self.inside.slices
  columns_are : s.columns ≡ c.self.inside.columns
  buckets_are : s.buckets ≡ c.self.inside.buckets

marks : (c : goal.Joined-lowest-link) → later c ≡ set c.self.inside.entries.items (link_at c.self.inside.links.items c.search-link.result)
    (unmarked (entry_at c.self.inside.entries.items (link_at c.self.inside.links.items c.search-link.result)))
marks c =
    let i = c.self.inside in
    marked i.entries.items c.index-at.result.now (link_at i.links.items c.search-link.result) c.index_mut.result.now
    (removed-in i.slices i.columns i.buckets i.links.items i.entries.items c.self.invariant c.args.id c.search-link.result c.lowest_under-lowest.result c.ranges.id.fits
    (known c).search.place (known c).some (known c).lowest)
    (known c).search.behind c.index_mut.ensures.value

left_by : (c : goal.Joined-lowest-link) → Left c c.if-lowest-link.self-inside
left_by c =
    let i = c.self.inside in
    let IsWhat : List ℕ → List Entry → Type 0 = λ links entries. IsLeft i.slices i.columns i.buckets i.links.items i.entries.items c.self.invariant c.args.id c.search-link.result c.lowest_under-lowest.result c.ranges.id.fits
    (known c).search.place (known c).some (known c).lowest links entries in
    elim c.if-lowest-link.branch [
      | then-lowest-link w ↦
          let value = w.deref_mut.ensures.value in
          let long = ap length value ∙ length-set i.links.items c.lowest_under-lowest.result none in
          let put = subst (λ ls. IsInPlace i.buckets (link_at ls) (link_at w.put_in_place.new.links) c.search-link.result (link_at ls c.search-link.result) c.index-leaf.result.now) value
          w.put_in_place.ensures.place in
          let still = link-still i.slices i.columns i.buckets i.links.items i.entries.items c.self.invariant c.args.id c.search-link.result c.lowest_under-lowest.result c.ranges.id.fits
          (known c).search.place (known c).some (known c).lowest w.if-lowest-link.true in
          let whole = written i.links.len w.put_in_place.new.links (set i.links.items c.lowest_under-lowest.result none)
          (w.put_in_place.ensures.size ∙ ap length value)
          (sym c.deref.ensures.len ∙ ap length c.deref.ensures.value ∙ sym (length-set i.links.items c.lowest_under-lowest.result none)) in
          subst (Left c) (sym w.self-inside-is) (record {
            left = subst (λ ls. IsWhat ls (later c)) (sym whole)
                (subst (IsWhat w.put_in_place.new.links) (sym (marks c))
                (left-put i.slices i.columns i.buckets i.links.items i.entries.items c.self.invariant c.args.id c.search-link.result c.lowest_under-lowest.result c.ranges.id.fits
                (known c).search.place (known c).some (known c).lowest w.put_in_place.new.links w.if-lowest-link.true (w.put_in_place.ensures.size ∙ ap length value)
                (subst (λ x. IsInPlace i.buckets (link_at (set i.links.items c.lowest_under-lowest.result none)) (link_at w.put_in_place.new.links) c.search-link.result
                (link_at i.links.items c.search-link.result) x) (known c).leaf_is
                (subst (λ x. IsInPlace i.buckets (link_at (set i.links.items c.lowest_under-lowest.result none)) (link_at w.put_in_place.new.links) c.search-link.result
                x c.index-leaf.result.now) still put))));
            entries_are = refl;
            slices_are = refl;
            columns_are = refl;
            buckets_are = refl;
          })
      | else-lowest-link w ↦ subst (Left c) (sym w.self-inside-is) (record {
        left = subst (IsWhat (set i.links.items c.lowest_under-lowest.result none)) (sym (marks c)) (left-alone i.slices i.columns i.buckets i.links.items i.entries.items c.self.invariant c.args.id c.search-link.result c.lowest_under-lowest.result c.ranges.id.fits
            (known c).search.place (known c).some (known c).lowest w.if-lowest-link.false);
        entries_are = refl;
        slices_are = refl;
        columns_are = refl;
        buckets_are = refl;
      })
    ]

still : (c : After-deref_mut) → link_at c.deref_mut.result.now c.search-link.result ≡ link_at c.self.inside.links.items c.search-link.result
still c =
    let i = c.self.inside in
    ap (λ ls. link_at ls c.search-link.result) c.deref_mut.ensures.value
    ∙ link-still i.slices i.columns i.buckets i.links.items i.entries.items c.self.invariant c.args.id c.search-link.result c.lowest_under-lowest.result c.ranges.id.fits
    (before c).search.place (before c).some (before c).lowest c.if-lowest-link.true

pub put_in_place-requires-clause-other : goal.put_in_place-requires-clause-other
put_in_place-requires-clause-other c same =
    let i = c.self.inside in
    leaf-other i.slices i.columns i.buckets i.links.items i.entries.items c.self.invariant c.args.id c.search-link.result c.lowest_under-lowest.result c.ranges.id.fits
    (before c).search.place (before c).some (before c).lowest c.if-lowest-link.true
    (sym (still c) ∙ same ∙ (before c).leaf_is)

pub put_in_place-requires-clause-not_under_old : goal.put_in_place-requires-clause-not_under_old
put_in_place-requires-clause-not_under_old c =
    let i = c.self.inside in
    let off = not-under-old i.slices i.columns i.buckets i.links.items i.entries.items c.self.invariant c.args.id c.search-link.result c.lowest_under-lowest.result c.ranges.id.fits
    (before c).search.place (before c).some (before c).lowest in
    (λ same. off 0 (omega arith) (same ∙ ap (λ x. link_under i.buckets x 0) (still c)), λ same. off 1 (omega arith) (same ∙ ap (λ x. link_under i.buckets x 1) (still c)))

pub put_in_place-requires-clause-not_under_new : goal.put_in_place-requires-clause-not_under_new
put_in_place-requires-clause-not_under_new c =
    let i = c.self.inside in
    let off = not-under-leaf i.slices i.columns i.buckets i.links.items i.entries.items c.self.invariant c.args.id c.search-link.result c.lowest_under-lowest.result c.ranges.id.fits
    (before c).search.place (before c).some (before c).lowest in
    (λ same. off 0 (omega arith) (same ∙ ap (λ x. link_under i.buckets x 0) (before c).leaf_is), λ same. off 1 (omega arith) (same ∙ ap (λ x. link_under i.buckets x 1) (before c).leaf_is))

some : (c : goal.Joined-lowest-link) → 0 < c.if-lowest-link.self-inside.columns
some c =
    let i = c.self.inside in
    subst (λ n. 0 < n) (sym (left_by c).columns_are)
    (some-columns i.slices i.columns i.buckets i.links.items i.entries.items c.self.invariant c.args.id c.search-link.result c.ranges.id.fits (known c).search.place (known c).some)

pub nonzero_div-result : goal.nonzero_div-result
nonzero_div-result c = some c

pub nonzero_rem-result : goal.nonzero_rem-result
nonzero_rem-result c = some c

pub invariant_of-self : goal.invariant_of-self
invariant_of-self c =
    let s = c.if-lowest-link.self-inside in
    let l = left_by c in
    subst (λ n. AreTrees n s.columns s.buckets s.links.items s.entries.items) (sym l.slices_are)
    (subst (λ n. AreTrees c.self.inside.slices n s.buckets s.links.items s.entries.items) (sym l.columns_are)
    (subst (λ n. AreTrees c.self.inside.slices c.self.inside.columns n s.links.items s.entries.items) (sym l.buckets_are)
    (subst (λ es. AreTrees c.self.inside.slices c.self.inside.columns c.self.inside.buckets s.links.items es) (sym l.entries_are) l.left.kept)))

pub returns-clause-was : goal.returns-clause-was
returns-clause-was c =
    let i = c.self.inside in
    ap (λ n. Some (c.index-at.result.now / n, c.index-at.result.now % n)) (left_by c).columns_are
    ∙ ap (λ at. Some (column_at i.columns at)) (known c).search.behind
    ∙ sym (column-found i.slices i.columns i.buckets i.links.items i.entries.items c.self.invariant c.args.id c.search-link.result c.ranges.id.fits (known c).search.place (known c).some)
    ∙ ap (λ l. column_of l c.args.id) c.self.view_is

pub returns-clause-columns : goal.returns-clause-columns
returns-clause-columns c other =
    let s = c.if-lowest-link.self-inside in
    let l = left_by c in
    ap (λ n. column_of (view s.slices n s.links.items s.entries.items) other) l.columns_are
    ∙ ap (λ es. column_of (view s.slices c.self.inside.columns s.links.items es) other) l.entries_are
    ∙ l.left.columns_are other
    ∙ ap (λ l. cond (eqb other c.args.id) None (column_of l other)) c.self.view_is

pub returns-clause-few : goal.returns-clause-few
returns-clause-few c =
    let i = c.self.inside in
    subst IsShallow c.self.view_is (shallow-view i.slices i.columns i.buckets i.links.items i.entries.items c.self.invariant)
