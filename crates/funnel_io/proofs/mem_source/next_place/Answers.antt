use Rattle.std.proofs.Common.{◌<◌, ◌≤◌, sym, ap, ◌∙◌, length, map, arith}
use Rattle.std.proofs.lemmas.List.{length-map}
use Rattle.funnel_io.specs.Places.{piece_at}
use Rattle.funnel_io.proofs.PlaceLaws.{IsSamePlace-start, IsSamePlace-next, unread-here}
use Rattle.funnel_io.proofs.mem_source.next_place.Goals as goal

pub loop-at-init : goal.loop-at-init
loop-at-init c = IsSamePlace-start _ _ _ c.requires

pub loop-at-preserved : goal.loop-at-preserved
loop-at-preserved c =
    let within : c.loop-at.at < length (map (λ piece. piece.items) c.args.pieces.now) =
    rw length-map (c.loop-at-test.true) in
    let used : length (piece_at (map (λ piece. piece.items) c.args.pieces.now) c.loop-at.at) ≤ c.loop-at.from =
    omega (arith, ap length c.piece.ensures, c.if-piece-from.true) in
    IsSamePlace-next _ _ _ _ _ c.loop-at.invariant within used

pub returns-else-piece-from-clause-unread : goal.returns-else-piece-from-clause-unread
returns-else-piece-from-clause-unread c =
    let left : c.loop-at.from < length (piece_at (map (λ piece. piece.items) c.args.pieces.now) c.loop-at.at) =
    omega (arith, ap length c.piece.ensures, c.if-piece-from.false) in
    sym (unread-here (map (λ piece. piece.items) c.args.pieces.now) c.loop-at.at c.loop-at.from (λ _. left))
    ∙ c.loop-at.invariant.unread_is
