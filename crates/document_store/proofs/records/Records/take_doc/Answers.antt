use Rattle.std.proofs.Common.{◌≡◌, true, List, None, Some, get_or, set, refl, sym, ap, ◌∙◌, subst}
use Rattle.std.proofs.lemmas.Bool.{both_ways}
use Rattle.std.proofs.lemmas.List.{get_or_default}
use Rattle.document_store.specs.Slots.{MayHold, free_slot, is_over, is_over_in, slot_at, table_of, with_slot, without_doc}
use Rattle.document_store.specs.declared.column.Column.{Column}
use Rattle.document_store.specs.declared.column.Column.TheVariants as became
use Rattle.document_store.specs.declared.slots.Slot.{Slot}
use Rattle.document_store.proofs.ChangeLemmas.{AreKept, held_within, kept-same, read-held, slot-read, slots-unless, view-set}
use Rattle.document_store.proofs.records.Records.take_doc.Goals as goal

-- without its document the slot of a column that is over is right
fits_without : (c : Column) → is_over_in c ≡ true → MayHold c None
fits_without became.Free over = cc
fits_without (became.Pending pass) over = cc
fits_without (became.Live added since) over = cc
fits_without (became.Over added since until) over = tt
fits_without became.Dropped over = refl

pub invariant_of-self : goal.invariant_of-self
invariant_of-self c =
    let i = c.self.inside in
    let at = c.requires.in_range in
    let has = read-held i.slices i.columns i.held.items i.first_over.items i.free c.args.self.now c.self.invariant c.self.view_is c.args.slice at.slice_in_range c.index_mut.result.now (Some c.in-Some.slots) c.index_mut.ensures.value c.in-Some.is in
    let read = slot-read i.slices i.columns i.held.items i.first_over.items i.free c.args.self.now c.self.invariant c.self.view_is c.args.slice at.slice_in_range c.args.column at.column_in_range c.in-Some.slots has in
    let slot = without_doc (get_or c.in-Some.slots c.args.column free_slot) in
    let over : is_over (get_or c.in-Some.slots c.args.column free_slot) ≡ true = ap is_over (sym read) ∙ c.requires.over in
    subst (λ (slots : List Slot). AreKept i.slices i.columns (set i.held.items c.args.slice (Some slots)) i.first_over.items i.free) (sym c.take_doc.ensures.slots)
    (kept-same i.slices i.columns i.held.items i.first_over.items i.free c.args.self.now c.self.invariant c.self.view_is c.args.slice at.slice_in_range c.args.column at.column_in_range c.in-Some.slots has
    slot (ap is_over (sym read)) (fits_without (get_or c.in-Some.slots c.args.column free_slot).column over))

pub returns-clause-doc : goal.returns-clause-doc
returns-clause-doc c =
    let i = c.self.inside in
    let at = c.requires.in_range in
    let has = read-held i.slices i.columns i.held.items i.first_over.items i.free c.args.self.now c.self.invariant c.self.view_is c.args.slice at.slice_in_range c.index_mut.result.now (Some c.in-Some.slots) c.index_mut.ensures.value c.in-Some.is in
    c.take_doc.ensures.doc
    ∙ ap (λ (slot : Slot). slot.doc) (sym (slot-read i.slices i.columns i.held.items i.first_over.items i.free c.args.self.now c.self.invariant c.self.view_is c.args.slice at.slice_in_range c.args.column at.column_in_range c.in-Some.slots has))

pub returns-clause-table : goal.returns-clause-table
returns-clause-table c =
    let i = c.self.inside in
    let at = c.requires.in_range in
    let has = read-held i.slices i.columns i.held.items i.first_over.items i.free c.args.self.now c.self.invariant c.self.view_is c.args.slice at.slice_in_range c.index_mut.result.now (Some c.in-Some.slots) c.index_mut.ensures.value c.in-Some.is in
    ap (λ (slots : List Slot). table_of i.slices i.columns (set i.held.items c.args.slice (Some slots))) c.take_doc.ensures.slots
    ∙ view-set i.slices i.columns i.held.items i.first_over.items i.free c.args.self.now c.self.invariant c.self.view_is c.args.slice at.slice_in_range c.args.column at.column_in_range c.in-Some.slots has (without_doc (get_or c.in-Some.slots c.args.column free_slot))
    ∙ ap (λ (slot : Slot). with_slot c.args.self.now c.args.slice c.args.column (without_doc slot))
    (sym (slot-read i.slices i.columns i.held.items i.first_over.items i.free c.args.self.now c.self.invariant c.self.view_is c.args.slice at.slice_in_range c.args.column at.column_in_range c.in-Some.slots has))

pub unreachable-requires : goal.unreachable-requires
unreachable-requires c =
    let i = c.self.inside in
    let at = c.requires.in_range in
    let within = held_within i.slices i.columns i.held.items i.first_over.items i.free c.args.self.now c.self.invariant c.self.view_is c.args.slice at.slice_in_range in
    let there =
    slots-unless i.slices i.columns i.held.items i.first_over.items i.free c.args.self.now c.self.invariant c.self.view_is c.args.slice at.slice_in_range c.args.column at.column_in_range
    (λ is_free. absurd (both_ways (is_over (slot_at c.args.self.now c.args.slice c.args.column)) (ap is_over_in is_free) c.requires.over)) in
    c.in_default.not-Some there.0 (c.index_mut.ensures.value ∙ get_or_default i.held.items c.args.slice c.index_mut.result.now None within ∙ there.1)
