use Rattle.std.proofs.Common.{◌≡◌, None, Option, ap, ◌∙◌}
use Rattle.document_store.specs.Documents.{Parts}
use Rattle.document_store.specs.Slots.{slot_at, with_slot}
use Rattle.document_store.specs.declared.column.Column.TheVariants as became
use Rattle.document_store.proofs.ChangeLemmas.{no_doc}
use Rattle.document_store.proofs.records.Records.drop_column.Goals as goal

pub end-requires-clause-fits : goal.end-requires-clause-fits
end-requires-clause-fits c =
    let i = c.self.inside in
    no_doc i.slices i.columns i.held.items i.first_over.items i.free c.args.self.now c.self.invariant c.self.view_is c.args.slice c.requires.in_range.slice_in_range c.args.column c.requires.in_range.column_in_range
    c.requires.pending

pub returns : goal.returns
returns c =
    let i = c.self.inside in
    let none : (slot_at c.args.self.now c.args.slice c.args.column).doc ≡ None =
    no_doc i.slices i.columns i.held.items i.first_over.items i.free c.args.self.now c.self.invariant c.self.view_is c.args.slice c.requires.in_range.slice_in_range c.args.column c.requires.in_range.column_in_range
    c.requires.pending in
    c.end.ensures ∙ ap (λ (doc : Option Parts). with_slot c.args.self.now c.args.slice c.args.column (record { column = became.Dropped; doc = doc })) none
