use Rattle.std.proofs.Common.{◌<◌, List, [], length, sym, subst, take_all, arith}
use Rattle.commit_desk.specs.declared.find_layouts.FindLayout.{FindLayout}
use Rattle.commit_desk.specs.Layouts.{LayoutsState}
use Rattle.commit_desk.specs.Treatments.{AreShared}
use Rattle.commit_desk.proofs.LayoutsKept.{shared-more, shared-start}
use Rattle.commit_desk.proofs.slice_layouts.SliceLayouts.share_out.Goals as goal

pub loop-index-init : goal.loop-index-init
loop-index-init c = record {
  shared = subst (AreShared [] c.args.slices.now) (sym c.requires) (shared-start c.args.slices.now);
  room = omega arith;
}

pub loop-index-preserved : goal.loop-index-preserved
loop-index-preserved c =
    let i = c.self.inside in
    let items = i.treatments.items in
    let before = c.loop-index-test.true in
    let end = c.len-index-end.ensures in
    let in' : c.loop-index.index < length items = omega (arith, before, end, i.treatments.ok.0) in
    let more = c.share_one.ensures.room in
    let so_far = c.loop-index.invariant.room in
    record {
      shared = shared-more items c.loop-index.index c.index.result.now c.args.slices.now c.loop-index.layouts.entries.items c.share_one.new.layouts.entries.items
          c.self.invariant.entries.apart in' c.index.ensures c.loop-index.invariant.shared c.in_ok-share_one.ensures.adds;
      room = omega (arith, more, so_far);
    }

pub returns-clause-shared : goal.returns-clause-shared
returns-clause-shared c =
    let i = c.self.inside in
    let items = i.treatments.items in
    let end = c.len-index-end.ensures in
    let done = c.loop-index-test.false in
    subst (λ (k : LayoutsState). AreShared k.treatments c.args.slices.now c.loop-index.layouts.entries.items) c.self.view_is
    (subst (λ (xs : List FindLayout). AreShared xs c.args.slices.now c.loop-index.layouts.entries.items)
    (take_all c.loop-index.index items (omega (arith, end, done, i.treatments.ok.0))) c.loop-index.invariant.shared)
