use Rattle.std.proofs.Common.{◌≡◌, ◌<◌, List, None, Option, length, get_or, sym, ap, ◌∙◌, subst}
use Rattle.row_layout.specs.Layouts.{LayoutId}
use Rattle.commit_desk.specs.declared.find_layouts.FindLayout.{FindLayout}
use Rattle.commit_desk.specs.Treatments.{TakesCurrent}
use Rattle.commit_desk.proofs.slice_layouts.take_current.Goals as goal

pub returns-in_default-clause-taken : goal.returns-in_default-clause-taken
returns-in_default-clause-taken c =
    let none : c.args.next.now ≡ None = sym c.take.ensures.value ∙ c.in_default.is in
    let taken = c.swap_remove in
    let place = c.current_of-index.result in
    let in' = subst (λ (xs : List FindLayout). place < length xs) c.deref.ensures.value c.current_of-index.ensures.in_range in
    let numbered = subst (λ (xs : List FindLayout). (get_or xs place taken.result).number ≡ c.args.number) c.deref.ensures.value (c.current_of-index.ensures.is taken.result) in
    subst (λ (o : Option LayoutId). TakesCurrent c.args.treatments.now.items o c.args.number taken.result taken.new.self.items) (sym none) (
      record { place = place; in_range = in'; is = taken.ensures.value; after_are = taken.ensures.items },
      ap (λ (e : FindLayout). e.number) taken.ensures.value ∙ numbered,
    )
