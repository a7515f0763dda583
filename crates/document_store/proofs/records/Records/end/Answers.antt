use Rattle.std.proofs.Common.{◌≡◌, List, None, Some, get_or, set, sym, ap, ◌∙◌, subst, arith}
use Rattle.std.proofs.lemmas.List.{get_or_default}
use Rattle.document_store.specs.Slots.{ComesPastOver, MayHold, free_slot, with_slot, table_of}
use Rattle.document_store.specs.declared.slots.Slot.{Slot}
use Rattle.document_store.proofs.ChangeLemmas.{AreKept, held_within, kept-end, read-held, slot-read, slots-unless, view-set}
use Rattle.document_store.proofs.records.Records.end.Goals as goal

pub invariant_of-self : goal.invariant_of-self
invariant_of-self c =
    let i = c.self.inside in
    let at = c.requires.in_range in
    let has = read-held i.slices i.columns i.held.items i.first_over.items i.free c.args.self.now c.self.invariant c.self.view_is c.args.slice at.slice_in_range c.index_mut.result.now (Some c.in-Some.slots) c.index_mut.ensures.value c.in-Some.is in
    let within = held_within i.slices i.columns i.held.items i.first_over.items i.free c.args.self.now c.self.invariant c.self.view_is c.args.slice at.slice_in_range in
    let held = c.self.invariant.0.every_slice in
    let every = c.self.invariant.1.every_slice in
    let read = c.index_mut-first_over.result.now in
    let first : read ≡ get_or i.first_over.items c.args.slice 0 =
    c.index_mut-first_over.ensures.value ∙ sym (get_or_default i.first_over.items c.args.slice 0 read (omega (arith, within, held, every))) in
    let slot : Slot = record { column = c.args.became; doc = (get_or c.in-Some.slots c.args.column free_slot).doc } in
    subst (λ (slots : List Slot). AreKept i.slices i.columns (set i.held.items c.args.slice (Some slots)) (set i.first_over.items c.args.slice c.past_over.result) i.free) (sym c.set_column.ensures)
    (kept-end i.slices i.columns i.held.items i.first_over.items i.free c.args.self.now c.self.invariant c.self.view_is c.args.slice at.slice_in_range c.args.column at.column_in_range c.in-Some.slots has
    slot c.past_over.result c.requires.not_over
    (subst (λ (slot : Slot). MayHold c.args.became slot.doc) (slot-read i.slices i.columns i.held.items i.first_over.items i.free c.args.self.now c.self.invariant c.self.view_is c.args.slice at.slice_in_range c.args.column at.column_in_range c.in-Some.slots has) c.requires.fits)
    (subst (λ (slots : List Slot). ComesPastOver slots (get_or i.first_over.items c.args.slice 0) c.past_over.result) c.set_column.ensures
    (subst (λ n. ComesPastOver c.set_column.new.self n c.past_over.result) first c.past_over.ensures)))

pub returns : goal.returns
returns c =
    let i = c.self.inside in
    let at = c.requires.in_range in
    let has = read-held i.slices i.columns i.held.items i.first_over.items i.free c.args.self.now c.self.invariant c.self.view_is c.args.slice at.slice_in_range c.index_mut.result.now (Some c.in-Some.slots) c.index_mut.ensures.value c.in-Some.is in
    ap (λ (slots : List Slot). table_of i.slices i.columns (set i.held.items c.args.slice (Some slots))) c.set_column.ensures
    ∙ view-set i.slices i.columns i.held.items i.first_over.items i.free c.args.self.now c.self.invariant c.self.view_is c.args.slice at.slice_in_range c.args.column at.column_in_range c.in-Some.slots has (record { column = c.args.became; doc = (get_or c.in-Some.slots c.args.column free_slot).doc })
    ∙ ap (λ (slot : Slot). with_slot c.args.self.now c.args.slice c.args.column (record { column = c.args.became; doc = slot.doc }))
    (sym (slot-read i.slices i.columns i.held.items i.first_over.items i.free c.args.self.now c.self.invariant c.self.view_is c.args.slice at.slice_in_range c.args.column at.column_in_range c.in-Some.slots has))

pub unreachable-requires : goal.unreachable-requires
unreachable-requires c =
    let i = c.self.inside in
    let at = c.requires.in_range in
    let within = held_within i.slices i.columns i.held.items i.first_over.items i.free c.args.self.now c.self.invariant c.self.view_is c.args.slice at.slice_in_range in
    let there = slots-unless i.slices i.columns i.held.items i.first_over.items i.free c.args.self.now c.self.invariant c.self.view_is c.args.slice at.slice_in_range c.args.column at.column_in_range c.requires.there in
    c.in_default.not-Some there.0 (c.index_mut.ensures.value ∙ get_or_default i.held.items c.args.slice c.index_mut.result.now None within ∙ there.1)
