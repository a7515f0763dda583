use Rattle.std.proofs.Common.{◌≤◌, List, [], ◌∷◌, ◌++◌, refl, ap, ◌∙◌, vec_capacity, arith}
use Rattle.commit_desk.specs.declared.find_layouts.FindLayout.{FindLayout}
use Rattle.commit_desk.proofs.EntriesKept.{first-from, treatments-first}
use Rattle.commit_desk.proofs.slice_layouts.SliceLayouts.new.Goals as goal

pub invariant_of-result : goal.invariant_of-result
invariant_of-result c =
    let entry : FindLayout = record { number = 0; layout = c.in_ok-layout.layout; slices = c.all_below-slices.result } in
    let room : c.args.slices ≤ vec_capacity c.push_reserved.new.self =
    let same = c.push_reserved.ensures.capacity in let some = c.in_ok-treatments.ensures.capacity in omega (arith, same, some) in
    treatments-first (vec_capacity c.push_reserved.new.self) c.args.slices c.push_reserved.new.self.items entry
    (c.push_reserved.ensures.items ∙ ap (λ (xs : List FindLayout). xs ++ entry ∷ []) c.in_ok-treatments.ensures.items) room c.requires.some c.requires.few refl
    c.all_below-slices.ensures

pub returns : goal.returns
returns c =
    let entry : FindLayout = record { number = 0; layout = c.in_ok-layout.layout; slices = c.all_below-slices.result } in
    first-from c.args.slices c.args.layout c.push_reserved.new.self.items entry
    (c.push_reserved.ensures.items ∙ ap (λ (xs : List FindLayout). xs ++ entry ∷ []) c.in_ok-treatments.ensures.items) refl c.in_ok-layout.ensures
    c.all_below-slices.ensures
