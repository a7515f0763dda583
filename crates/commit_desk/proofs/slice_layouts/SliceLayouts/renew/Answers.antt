use Rattle.std.proofs.Common.{◌≡◌, ◌<◌, List, ◌∷◌, [], ◌++◌, length, inl, ap, ◌∙◌, subst, vec_capacity, arith}
use Rattle.std.proofs.lemmas.List.Elements.{Contains-append_left, Contains-push}
use Rattle.funnel_model.specs.declared.config.TheConstants.{MOST_SLICES}
use Rattle.commit_desk.specs.declared.find_layouts.FindLayout.{FindLayout}
use Rattle.commit_desk.specs.declared.slice_layouts.SliceLayouts.TheInside.{Inside}
use Rattle.commit_desk.specs.Layouts.{IsEntryOf, LayoutsState}
use Rattle.commit_desk.specs.Treatments.{EndsEntry, EndsNoEntry, IsRenewed}
use Rattle.commit_desk.proofs.EntriesKept.{IsLeft, IsMoved, current_left, ends, ends_none, entries-both, entries-joined, entry_at, gone, is_left, is_moved, joined, renewed-both, renewed-joined, renewed-same, renewed-then, room_for, state, treatments-then, with_joined}
use Rattle.commit_desk.proofs.LayoutsKept.{some_in, when_none}
use Rattle.commit_desk.proofs.slice_layouts.SliceLayouts.renew.Goals as goal
use Rattle.commit_desk.proofs.slice_layouts.SliceLayouts.renew.Goals.{After-index, After-swap_remove-old, After-add, After-push_reserved, After-push_reserved-2}

abbrev kept : Inside → LayoutsState
kept i = state i.treatments.items i.next i.tunings

-- the slice's entry
entry_now : (c : After-index) → IsEntryOf (kept c.self.inside) c.args.slice c.index.result.now
entry_now c =
    let at = c.index_of-index in
    entry_at (kept c.self.inside) c.args.self.now c.self.view_is c.args.slice at.result at.ensures.in_range at.ensures.has c.index.result.now c.index.ensures

-- where it isn't that of the current treatment, it is taken out
left : (c : After-swap_remove-old) → IsLeft (kept c.self.inside) c.args.slice c.swap_remove-old.result c.swap_remove-old.new.self.items
left c =
    let out = c.swap_remove-old in
    is_left (kept c.self.inside) c.args.self.now c.self.view_is c.args.slice c.index_of-index.result c.index_of-index.ensures.in_range c.index_of-index.ensures.has
    c.index.result.now c.index.ensures c.if-index-self.false out.result out.new.self.items out.ensures.value out.ensures.items

-- its slices are slices of a set
in_set : (c : After-swap_remove-old) → c.args.slice < MOST_SLICES
in_set c = c.self.invariant.entries.few c.swap_remove-old.result (left c).out.was c.args.slice (left c).has

-- the slice has moved into the entry of the current treatment
moved : (c : After-add) → IsMoved (vec_capacity c.self.inside.treatments) (kept c.self.inside) c.args.slice c.swap_remove-old.result c.swap_remove-old.new.self.items
    c.take_current-current.result c.take_current-current.new.treatments.items c.add.new.self c.remove.new.self
moved c =
    let i = c.self.inside in
    let out = c.swap_remove-old in
    let taken = c.take_current-current in
    is_moved (vec_capacity i.treatments) i.treatments.items i.next i.tunings c.args.slice out.result out.new.self.items taken.result taken.new.treatments.items c.add.new.self c.remove.new.self
    c.self.invariant (left (goal.at.add-requires c.before).After-swap_remove-old) taken.ensures.taken c.add.ensures c.remove.ensures

-- the entries have the room that they had
room_now : (c : After-push_reserved) → vec_capacity c.push_reserved.new.self ≡ vec_capacity c.self.inside.treatments
room_now c = c.push_reserved.ensures.capacity ∙ c.take_current-current.ensures.room ∙ c.swap_remove-old.ensures.capacity

pub take_current-current-requires : goal.take_current-current-requires
take_current-current-requires c =
    let i = c.self.inside in
    let out = c.swap_remove-old in
    current_left i.treatments.items i.next i.tunings c.args.slice out.result out.new.self.items c.self.invariant.current (left (goal.at.take_current-current-requires c).After-swap_remove-old)

pub remove-requires : goal.remove-requires
remove-requires c = in_set (goal.at.remove-requires c).After-swap_remove-old

pub add-requires : goal.add-requires
add-requires c = in_set (goal.at.add-requires c).After-swap_remove-old

pub push_reserved-requires : goal.push_reserved-requires
push_reserved-requires c =
    let m = moved (goal.at.push_reserved-requires c).After-add in
    let taken = c.take_current-current in
    let room = room_for (vec_capacity c.self.inside.treatments) c.self.inside.tunings taken.new.treatments.items (joined m) (entries-joined m) in
    omega (arith, room, taken.ensures.room, c.swap_remove-old.ensures.capacity, taken.new.treatments.ok.0)

-- no other slice had the treatment that the slice leaves
pub invariant_of-self : goal.invariant_of-self
invariant_of-self c =
    let m = moved (goal.at.invariant_of-self c).After-add in
    treatments-then m (room_now (goal.at.invariant_of-self c).After-push_reserved) c.push_reserved.ensures.items c.take_current-current.ensures.none (entries-joined m)
    (Contains-push c.take_current-current.new.treatments.items (joined m))

pub returns-then-is_none-clause-cleared : goal.returns-then-is_none-clause-cleared
returns-then-is_none-clause-cleared c =
    let m = moved (goal.at.returns-then-is_none-clause-cleared c).After-add in
    renewed-then m c.self.view_is c.push_reserved.ensures.items c.take_current-current.ensures.none
    (renewed-joined m (when_none _ _ c.lowest.result c.lowest.ensures c.if-is_none.ensures))

pub returns-then-is_none-clause-old : goal.returns-then-is_none-clause-old
returns-then-is_none-clause-old c =
    let m = moved (goal.at.returns-then-is_none-clause-old c).After-add in
    subst (λ (k : LayoutsState). EndsEntry k c.args.slice c.swap_remove-old.result.layout) c.self.view_is
    (ends m (when_none _ _ c.lowest.result c.lowest.ensures c.if-is_none.ensures))

-- some slice has it still
pub push_reserved-requires-2 : goal.push_reserved-requires-2
push_reserved-requires-2 c =
    let i = c.self.inside in
    let m = moved (goal.at.push_reserved-requires-2 c).After-add in
    let some = some_in c.remove.new.self c.lowest.result c.lowest.ensures c.if-is_none.ensures in
    let room = room_for (vec_capacity i.treatments) i.tunings (with_joined m) (gone m) (entries-both m some) in
    let size = ap length c.push_reserved.ensures.items in
    let same = room_now (goal.at.push_reserved-requires-2 c).After-push_reserved in
    omega (arith, room, size, same, c.push_reserved.new.self.ok.0)

-- both entries are there
items_now : (c : After-push_reserved-2) → c.push_reserved-2.new.self.items
    ≡ (c.take_current-current.new.treatments.items ++ record c.take_current-current.result { slices = c.add.new.self } ∷ [])
    ++ record c.swap_remove-old.result { slices = c.remove.new.self } ∷ []
items_now c =
    c.push_reserved-2.ensures.items ∙ ap (λ (xs : List FindLayout). xs ++ record c.swap_remove-old.result { slices = c.remove.new.self } ∷ []) c.push_reserved.ensures.items

pub invariant_of-self-2 : goal.invariant_of-self-2
invariant_of-self-2 c =
    let m = moved (goal.at.invariant_of-self-2 c).After-add in
    let some = some_in c.remove.new.self c.lowest.result c.lowest.ensures c.if-is_none.ensures in
    treatments-then m (c.push_reserved-2.ensures.capacity ∙ room_now (goal.at.invariant_of-self-2 c).After-push_reserved) (items_now (goal.at.invariant_of-self-2 c).After-push_reserved-2) c.take_current-current.ensures.none (entries-both m some)
    (Contains-append_left (with_joined m) (gone m ∷ []) (joined m) (Contains-push c.take_current-current.new.treatments.items (joined m)))

pub returns-clause-cleared : goal.returns-clause-cleared
returns-clause-cleared c =
    let m = moved (goal.at.returns-clause-cleared c).After-add in
    renewed-then m c.self.view_is (items_now (goal.at.returns-clause-cleared c).After-push_reserved-2) c.take_current-current.ensures.none (renewed-both m)

pub returns-clause-old : goal.returns-clause-old
returns-clause-old c =
    let m = moved (goal.at.returns-clause-old c).After-add in
    subst (λ (k : LayoutsState). EndsNoEntry k c.args.slice) c.self.view_is
    (ends_none m (some_in c.remove.new.self c.lowest.result c.lowest.ensures c.if-is_none.ensures))

-- the slice has the current treatment already
pub returns-then-index-self-clause-cleared : goal.returns-then-index-self-clause-cleared
returns-then-index-self-clause-cleared c =
    let i = c.self.inside in
    let entry = c.index.result.now in
    let is = entry_now (goal.at.returns-then-index-self-clause-cleared c).After-index in
    subst (λ (k : LayoutsState). IsRenewed k c.args.slice k) c.self.view_is
    (renewed-same (vec_capacity i.treatments) i.treatments.items i.next i.tunings c.args.slice entry c.self.invariant is.among is.has c.if-index-self.true)

pub returns-then-index-self-clause-old : goal.returns-then-index-self-clause-old
returns-then-index-self-clause-old c =
    let is = entry_now (goal.at.returns-then-index-self-clause-old c).After-index in
    subst (λ (k : LayoutsState). EndsNoEntry k c.args.slice) c.self.view_is (record { entry = c.index.result.now; of_slice = is; still = inl c.if-index-self.true })
