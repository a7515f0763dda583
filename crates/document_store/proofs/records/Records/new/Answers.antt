use Rattle.std.proofs.Common.{◌≡◌, Some, replicate, ap, ◌∙◌, arith, rules}
use Rattle.document_store.specs.Slots.{free_slot}
use Rattle.document_store.proofs.ChangeLemmas.{kept-new, out-new, slots-new}
use Rattle.document_store.proofs.records.Records.new.Goals as goal
use Rattle.document_store.proofs.records.Records.new.Goals.{After-free-2}

all : (c : After-free-2) → c.loop.held.items ≡ replicate c.args.slices (Some (replicate c.args.columns free_slot))
all c =
    let done = c.loop-test.false in
    let upto = c.loop.auto.counter-end in
    c.loop.invariant.free ∙ ap (λ n. replicate n (Some (replicate c.args.columns free_slot))) (omega (arith, done, upto))

pub invariant_of-result : goal.invariant_of-result
invariant_of-result c =
    let none : c.in_ok-vec.field-0.items ≡ replicate c.args.slices 0 = search rules in
    kept-new c.args.slices c.args.columns c.loop.held.items (all c) c.in_ok-vec.field-0.items c.free-2.result none c.free-2.ensures

pub returns-clause-free : goal.returns-clause-free
returns-clause-free c = slots-new c.args.slices c.args.columns c.loop.held.items (all c)

pub returns-clause-all_there : goal.returns-clause-all_there
returns-clause-all_there c = out-new c.args.slices c.args.columns c.loop.held.items (all c)
