use Rattle.std.proofs.Common.{◌-◌, length, map}
use Rattle.funnel_io.proofs.PlaceLaws.{IsSamePlace}
use Rattle.funnel_io.proofs.mem_source.next_place.Given as goal

abbrev pub invariant-loop-at : goal.invariant-loop-at
invariant-loop-at l =
    IsSamePlace (map (λ piece. piece.items) l.pieces) l.initial.at l.initial.from l.at l.from

abbrev pub decreases-loop-at : goal.decreases-loop-at
decreases-loop-at l = length l.pieces - l.at
