use Rattle.std.proofs.Common.{Some, None, sym, ◌∙◌}
use Rattle.document_store.proofs.ChangeLemmas.{read-held, slot-out, slot-read}
use Rattle.document_store.proofs.records.Records.slot.Goals as goal

pub returns-in-Some-clause-slot : goal.returns-in-Some-clause-slot
returns-in-Some-clause-slot c =
    let i = c.self.inside in
    let has = read-held i.slices i.columns i.held.items i.first_over.items i.free c.args.self.now c.self.invariant c.self.view_is c.args.slice c.requires.slice_in_range c.index.result.now (Some c.in-Some.slots) c.index.ensures c.in-Some.is in
    c.slot.ensures ∙ sym (slot-read i.slices i.columns i.held.items i.first_over.items i.free c.args.self.now c.self.invariant c.self.view_is c.args.slice c.requires.slice_in_range c.args.column c.requires.column_in_range c.in-Some.slots has)

pub returns-in-None-clause-slot : goal.returns-in-None-clause-slot
returns-in-None-clause-slot c =
    let i = c.self.inside in
    let has = read-held i.slices i.columns i.held.items i.first_over.items i.free c.args.self.now c.self.invariant c.self.view_is c.args.slice c.requires.slice_in_range c.index.result.now None c.index.ensures c.in-None.is in
    c.self.invariant.2 ∙ sym (slot-out i.slices i.columns i.held.items i.first_over.items i.free c.args.self.now c.self.invariant c.self.view_is c.args.slice c.requires.slice_in_range c.args.column c.requires.column_in_range has)
