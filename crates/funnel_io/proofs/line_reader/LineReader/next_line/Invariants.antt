use Rattle.std.proofs.Common.{◌≡◌, ◌≤◌, ◌+◌}
use Rattle.funnel_io.specs.LineReading.{IsDecided, most_lines}
use Rattle.funnel_io.proofs.ReadingLaws.{HasRead}
use Rattle.funnel_io.proofs.line_reader.LineReader.next_line.Given as goal

abbrev pub invariant-loop-line : goal.invariant-loop-line
invariant-loop-line g l = record {
  has_read : HasRead g.C.Source.incoming g.C.Source.read_gives l.fn.conn l.conn l.fn.self l.self l.fn.left l.left;
  ended : l.self.ended ≡ l.fn.self.ended;
  no_more : most_lines l.self.held l.self.long + l.left ≤ most_lines l.fn.self.held l.fn.self.long + l.fn.left;
  faults : (g.C.Source.incoming l.conn).faults ≡ (g.C.Source.incoming l.fn.conn).faults;
  borrowed : g.C.Borrower.borrowed l.conn ≡ g.C.Borrower.borrowed l.fn.conn;
  beside : g.C.Source.beside_read l.conn ≡ g.C.Source.beside_read l.fn.conn;
  unmoved : IsDecided l.fn.self l.fn.left → l.self ≡ l.fn.self;
  untouched : IsDecided l.fn.self l.fn.left → l.conn ≡ l.fn.conn;
  uncounted : IsDecided l.fn.self l.fn.left → l.left ≡ l.fn.left;
}

abbrev pub decreases-loop-line : goal.decreases-loop-line
decreases-loop-line g l = l.left
