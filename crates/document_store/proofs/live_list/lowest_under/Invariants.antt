use Rattle.std.proofs.Common.{◌<◌, length}
use Rattle.document_store.specs.Trees.{IsUnder, link_at}
use Rattle.document_store.proofs.live_list.lowest_under.Given as goal

-- the link is so many steps down from the first, and there is an entry behind it
abbrev pub invariant-loop-steps : goal.invariant-loop-steps
invariant-loop-steps l = record {
  inside : l.link < length l.links;
  entry : link_at l.links l.link < length l.entries;
  under : IsUnder (link_at l.links) l.buckets (length l.entries) l.first l._steps l.link;
}
