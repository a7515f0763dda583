use Rattle.std.proofs.Common.{◌≡◌, ◌<◌, ◌⊎◌, true, length, inl, inr, arith}
use Rattle.funnel_io.proofs.LineLaws.{keeps_dropped}
use Rattle.funnel_io.proofs.line_reader.make_room.Goals as goal
use Rattle.funnel_io.proofs.line_reader.make_room.Goals.{then-long-via-then-long, then-long-via-else-long+then-len-gt-MAX_LINE_LEN}

pub returns-then-long-clause-kept : goal.returns-then-long-clause-kept
returns-then-long-clause-kept c =
    let too_long : (c.args.long ≡ true) ⊎ (65536 < length c.args.held.now.bytes) =
    elim c.then-long.branch [
      | then-long-via-then-long w ↦ inl w.if-long.true
      | then-long-via-else-long+then-len-gt-MAX_LINE_LEN w ↦ inr (omega (arith, w.len-else-long.ensures, w.if-len-gt-MAX_LINE_LEN.true))
    ] in
    rw c.clear-then-long.ensures.empty (keeps_dropped c.args.held.now.bytes c.args.long c.requires too_long)
