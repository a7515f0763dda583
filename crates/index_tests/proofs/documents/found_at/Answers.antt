use Rattle.std.proofs.Common.{length, ap, arith}
use Rattle.std.proofs.lemmas.List.Sorted.{length_permutation}
use Rattle.index_tests.proofs.documents.found_at.Goals as goal

pub returns : goal.returns
returns c =
    let same = length_permutation c.resolve_part.new.out.found c.sort.new.self.found c.sort.ensures.same in
    omega (arith, same, c.resolve_part.ensures.room, c.in_ok-out.ensures.room, ap length c.in_ok-out.ensures.empty)
