use Rattle.std.proofs.Common.{◌∙◌}
use Rattle.document_store.proofs.ChangeLemmas.{kept-back, view-back}
use Rattle.document_store.proofs.records.Records.put_back.Goals as goal

pub invariant_of-self : goal.invariant_of-self
invariant_of-self c =
    let i = c.self.inside in
    kept-back i.slices i.columns i.held.items i.first_over.items i.free c.args.self.now c.self.invariant c.self.view_is c.args.slice c.requires.in_range c.slots.inside.slots c.requires.out (c.slots.view_is ∙ c.requires.columns) c.slots.invariant

pub returns : goal.returns
returns c =
    let i = c.self.inside in
    view-back i.slices i.columns i.held.items i.first_over.items i.free c.args.self.now c.self.invariant c.self.view_is c.args.slice c.requires.in_range c.slots.inside.slots c.requires.out (c.slots.view_is ∙ c.requires.columns) c.slots.invariant
