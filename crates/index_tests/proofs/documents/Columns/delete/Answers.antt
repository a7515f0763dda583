use Rattle.std.proofs.Common.{ap, sym, ◌∙◌}
use Rattle.document_store.specs.Slots.{Table}
use Rattle.index_tests.proofs.documents.Columns.delete.Goals as goal

pub invariant_of-self : goal.invariant_of-self
invariant_of-self c =
    let deleted = c.delete.ensures.table c.in-Live.place c.in-Live.since (sym c.state.ensures.state ∙ c.in-Live.is) in (
      ap (λ (t : Table). t.slices) deleted ∙ c.self.invariant.0,
      ap (λ (t : Table). t.columns) deleted ∙ c.self.invariant.1,
      ap (λ (t : Table). t.out) deleted ∙ c.self.invariant.2,
    )
