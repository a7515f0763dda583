use Rattle.std.proofs.Common.{◌≡◌, ⊎_elim, ◌<◌, length, get_or, Contains, sym, ap, ◌∙◌, subst, true≢false, arith}
use Rattle.std.proofs.lemmas.Bool.{cases_eq}
use Rattle.std.proofs.lemmas.List.{get_or_read}
use Rattle.commit_desk.specs.declared.find_layouts.FindLayout.{FindLayout}
use Rattle.commit_desk.specs.Layouts.{IsEntryOf, LayoutsState}
use Rattle.commit_desk.proofs.slice_layouts.SliceLayouts.index_of.Goals as goal

pub loop-index-init : goal.loop-index-init
loop-index-init c = λ k d below has. omega (arith, below)

pub has-requires : goal.has-requires
has-requires c =
    let there = subst (λ (k : LayoutsState). (entry : FindLayout) × IsEntryOf k c.args.slice entry) (sym c.self.view_is) c.requires in
    c.self.invariant.entries.few there.0 there.1.among c.args.slice there.1.has

pub loop-index-preserved : goal.loop-index-preserved
loop-index-preserved c = λ k d below has.
    let items = c.self.inside.treatments.items in
    let index = c.loop-index.index in
    let before = c.loop-index-test.true in
    let end = c.len-index-end.ensures in
    let in' : index < length items = omega (arith, before, end, c.self.inside.treatments.ok.0) in
    ⊎_elim
    (λ (same : k ≡ index).
    let at = ap (λ n. get_or items n d) same ∙ sym (get_or_read items index c.index.result.now in' c.index.ensures d) in
    true≢false (sym (c.if-has.ensures.1 (subst (λ (e : FindLayout). Contains e.slices c.args.slice) at has))))
    (λ (apart : k ≡ index → ⊥). c.loop-index.invariant k d (omega (arith, below, apart)) has)
    (cases_eq k index)

pub unreachable-requires : goal.unreachable-requires
unreachable-requires c =
    let there = subst (λ (k : LayoutsState). (entry : FindLayout) × IsEntryOf k c.args.slice entry) (sym c.self.view_is) c.requires in
    let place = there.1.among in
    let within = place.1 in
    let end = c.len-index-end.ensures in
    let done = c.loop-index-test.false in
    c.loop-index.invariant place.0 there.0 (omega (arith, within, end, done, c.self.inside.treatments.ok.0))
    (subst (λ (e : FindLayout). Contains e.slices c.args.slice) (sym place.2) there.1.has)
