use Rattle.std.proofs.Common.{IsPermutation, List, filter, map, subst, ℕ}
use Rattle.std.proofs.lemmas.List.Sorted.{IsPermutation-map}
use Rattle.fit.proofs.Orders.{distinct-ranked, sorted-map, strict-by_count}
use Rattle.fit.specs.Listings.{by_count, may_be_listed}
use Rattle.fit.specs.Steps.{entries_of, ranked}
use Rattle.fit.proofs.ranking.ranking.Goals as goal

pub returns : goal.returns
returns c =
    let tally = entries_of c.args.counts.entries in
    let sorted = c.sort_unstable.new.self.items in
    let moved : IsPermutation (filter (may_be_listed c.args.documents) tally) (map ranked sorted) =
    subst (λ (found : List (List ℕ × ℕ)). IsPermutation found (map ranked sorted)) c.in_ok-found.ensures (IsPermutation-map ranked c.in_ok-found.found.items sorted c.sort_unstable.ensures.permutation) in
    record {
      words = moved;
      order = strict-by_count (map ranked sorted) (sorted-map ranked by_count sorted c.sort_unstable.ensures.sorted)
          (distinct-ranked (may_be_listed c.args.documents) tally (map ranked sorted) c.requires.once moved);
    }
