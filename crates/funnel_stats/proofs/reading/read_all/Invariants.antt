-- the bytes so far are those that were taken
use Rattle.std.proofs.Common.{◌-◌, length}
use Rattle.funnel_stats.proofs.Taking.{HasRead, HasTaken}
use Rattle.funnel_stats.proofs.reading.read_all.Given as goal

abbrev pub invariant-loop-room : goal.invariant-loop-room
invariant-loop-room g l = record {
  taken : HasTaken l.bytes.items (g.S.Source.incoming l.fn.source) (g.S.Source.incoming l.source)
      (g.S.Borrower.borrowed l.fn.source) (g.S.Borrower.borrowed l.source)
      (g.S.Source.beside_read l.fn.source) (g.S.Source.beside_read l.source);
  read : HasRead g.S.Source.read_gives l.bytes.items l.fn.source l.source;
}

abbrev pub decreases-loop-room : goal.decreases-loop-room
decreases-loop-room g l = 16777217 - length l.bytes.items
