use Rattle.std.proofs.Common.{◌≡◌, ℕ, ◌<◌, length}
use Rattle.document_store.specs.Trees.{link_at, number_at, way}
use Rattle.document_store.proofs.live_list.search.Given as goal

-- the link is that of the number's way at this depth, and the entries before it have other numbers
abbrev pub invariant-loop-depth : goal.invariant-loop-depth
invariant-loop-depth l = record {
  inside : l.link < length l.links;
  on_way : way (link_at l.links) l.buckets l.id l.depth ≡ l.link;
  others : (d : ℕ) → d < l.depth → number_at l.entries (link_at l.links (way (link_at l.links) l.buckets l.id d)) ≡ l.id → ⊥;
  entries_before : (d : ℕ) → d < l.depth → link_at l.links (way (link_at l.links) l.buckets l.id d) < length l.entries;
}
