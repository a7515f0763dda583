use Rattle.std.proofs.Common.{◌≡◌, ◌∙◌, ℕ, List, IsPermutation, ap, map, subst, sym, take_all}
use Rattle.std.proofs.lemmas.List.Sorted.{IsPermutation-map}
use Rattle.std.specs.Cmp.Lexicographic.{slice_cmp}
use Rattle.std.specs.Ordering.{nat_cmp, ordering_then}
use Rattle.funnel_model.specs.Listed.{listed_pair}
use Rattle.fit.proofs.Orders.{distinct-moved, in_byte_order, sorted-map}
use Rattle.fit.specs.Steps.{ranked}
use Rattle.fit.proofs.listing.listed.Goals as goal

moved : (c : goal.After-sort_unstable) → IsPermutation (map ranked c.args.first.now) (map listed_pair c.sort_unstable.new.self.items)
moved c =
    let all : map listed_pair c.loop-count.entries.items ≡ map ranked c.args.first.now =
    c.loop-count.invariant ∙ ap (map ranked) (take_all c.loop-count.count-index c.args.first.now c.loop-count-test.false) in
    subst (λ (es : List (List ℕ × ℕ)). IsPermutation es (map listed_pair c.sort_unstable.new.self.items)) all
    (IsPermutation-map listed_pair c.loop-count.entries.items c.sort_unstable.new.self.items c.sort_unstable.ensures.permutation)

pub new-requires : goal.new-requires
new-requires c =
    let sorted = c.sort_unstable.new.self.items in
    in_byte_order (map listed_pair sorted)
    (sorted-map listed_pair (λ a b. ordering_then (slice_cmp nat_cmp a.0 b.0) (nat_cmp a.1 b.1)) sorted c.sort_unstable.ensures.sorted)
    (distinct-moved (map ranked c.args.first.now) (map listed_pair sorted) c.requires.once (moved c))

pub returns-clause-words : goal.returns-clause-words
returns-clause-words c = subst (IsPermutation (map ranked c.args.first.now)) (sym c.new.ensures) (moved c.before)
