use Rattle.std.proofs.Common.{List, Option, set, sym, ap, ◌∙◌, subst}
use Rattle.document_store.specs.Slots.{table_of}
use Rattle.document_store.specs.declared.slots.Slot.{Slot}
use Rattle.document_store.proofs.ChangeLemmas.{AreKept, kept-out, view-out}
use Rattle.document_store.proofs.records.Records.take_out.Goals as goal

pub invariant_of-self : goal.invariant_of-self
invariant_of-self c =
    let i = c.self.inside in
    subst (λ (h : Option (List Slot)). AreKept i.slices i.columns (set i.held.items c.args.slice h) (set i.first_over.items c.args.slice 0) i.free) (sym c.take.ensures.after)
    (kept-out i.slices i.columns i.held.items i.first_over.items i.free c.args.self.now c.self.invariant c.self.view_is c.args.slice c.requires.in_range)

pub returns-clause-table : goal.returns-clause-table
returns-clause-table c =
    let i = c.self.inside in
    ap (λ (h : Option (List Slot)). table_of i.slices i.columns (set i.held.items c.args.slice h)) c.take.ensures.after
    ∙ view-out i.slices i.columns i.held.items i.first_over.items i.free c.args.self.now c.self.invariant c.self.view_is c.args.slice c.requires.in_range
