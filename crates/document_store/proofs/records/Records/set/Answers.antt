use Rattle.std.proofs.Common.{List, None, Some, set, sym, ap, ◌∙◌, subst}
use Rattle.std.proofs.lemmas.List.{get_or_default}
use Rattle.document_store.specs.Slots.{table_of}
use Rattle.document_store.specs.declared.slots.Slot.{Slot}
use Rattle.document_store.proofs.ChangeLemmas.{AreKept, held_within, kept-set, read-held, slots-unless, view-set}
use Rattle.document_store.proofs.records.Records.set.Goals as goal

pub invariant_of-self : goal.invariant_of-self
invariant_of-self c =
    let i = c.self.inside in
    let at = c.requires.in_range in
    let has = read-held i.slices i.columns i.held.items i.first_over.items i.free c.args.self.now c.self.invariant c.self.view_is c.args.slice at.slice_in_range c.index_mut.result.now (Some c.in-Some.slots) c.index_mut.ensures.value c.in-Some.is in
    subst (λ (slots : List Slot). AreKept i.slices i.columns (set i.held.items c.args.slice (Some slots)) i.first_over.items i.free) (sym c.set.ensures)
    (kept-set i.slices i.columns i.held.items i.first_over.items i.free c.args.self.now c.self.invariant c.self.view_is c.args.slice at.slice_in_range c.args.column at.column_in_range c.in-Some.slots has
    c.args.slot c.requires.not_over c.requires.still c.requires.fits)

pub returns : goal.returns
returns c =
    let i = c.self.inside in
    let at = c.requires.in_range in
    let has = read-held i.slices i.columns i.held.items i.first_over.items i.free c.args.self.now c.self.invariant c.self.view_is c.args.slice at.slice_in_range c.index_mut.result.now (Some c.in-Some.slots) c.index_mut.ensures.value c.in-Some.is in
    ap (λ (slots : List Slot). table_of i.slices i.columns (set i.held.items c.args.slice (Some slots))) c.set.ensures
    ∙ view-set i.slices i.columns i.held.items i.first_over.items i.free c.args.self.now c.self.invariant c.self.view_is c.args.slice at.slice_in_range c.args.column at.column_in_range c.in-Some.slots has c.args.slot

pub unreachable-requires : goal.unreachable-requires
unreachable-requires c =
    let i = c.self.inside in
    let at = c.requires.in_range in
    let within = held_within i.slices i.columns i.held.items i.first_over.items i.free c.args.self.now c.self.invariant c.self.view_is c.args.slice at.slice_in_range in
    let there = slots-unless i.slices i.columns i.held.items i.first_over.items i.free c.args.self.now c.self.invariant c.self.view_is c.args.slice at.slice_in_range c.args.column at.column_in_range c.requires.there in
    c.in_default.not-Some there.0 (c.index_mut.ensures.value ∙ get_or_default i.held.items c.args.slice c.index_mut.result.now None within ∙ there.1)
