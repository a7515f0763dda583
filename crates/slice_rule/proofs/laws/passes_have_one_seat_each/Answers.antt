use Rattle.slice_rule.proofs.SeatedPasses.{passes_have_one_seat_each}
use Rattle.slice_rule.proofs.laws.passes_have_one_seat_each.Goals as goal

pub returns : goal.returns
returns c = passes_have_one_seat_each
