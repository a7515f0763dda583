use Rattle.std.proofs.Common.{◌+◌, Option, sym, ◌∙◌, subst, vec_capacity}
use Rattle.row_layout.specs.Layouts.{LayoutId}
use Rattle.commit_desk.specs.Layouts.{LayoutsState}
use Rattle.commit_desk.specs.Treatments.{AreTreatments, IsBesideWhereUnused}
use Rattle.commit_desk.proofs.EntriesKept.{state, tells_current, treatments-tune}
use Rattle.commit_desk.proofs.slice_layouts.SliceLayouts.tune.Goals as goal

pub invariant_of-self : goal.invariant_of-self
invariant_of-self c =
    let i = c.self.inside in
    subst (λ (o : Option LayoutId). AreTreatments (vec_capacity i.treatments) (state i.treatments.items o (i.tunings + 1))) (sym (c.swap.ensures.x_after ∙ c.requires.some.1))
    (treatments-tune (vec_capacity i.treatments) i.treatments.items i.next i.tunings c.requires.some.0 c.self.invariant)

pub returns-clause-current : goal.returns-clause-current
returns-clause-current c =
    let i = c.self.inside in
    subst (λ (k : LayoutsState). IsBesideWhereUnused k c.swap.new.y) c.self.view_is
    (subst (IsBesideWhereUnused (state i.treatments.items i.next i.tunings)) (sym c.swap.ensures.y_after)
    (tells_current (vec_capacity i.treatments) i.treatments.items i.next i.tunings c.self.invariant))
