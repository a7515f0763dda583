use Rattle.std.proofs.Common.{refl, sym, ◌∙◌, arith}
use Rattle.funnel_io.specs.LineReading.{IsDecided}
use Rattle.funnel_io.proofs.LineLaws.{not_failed, undecided, stopped}
use Rattle.funnel_io.proofs.ReadingLaws.{answered, answered_then, has_read_on, read_none}
use Rattle.funnel_io.proofs.line_reader.LineReader.next_line.Goals as goal

pub loop-line-init : goal.loop-line-init
loop-line-init g c = record {
  has_read = read_none g.C.Source.incoming g.C.Source.read_gives c.args.conn.now c.args.self.now c.args.left.now;
  ended = refl;
  no_more = omega arith;
  faults = refl;
  borrowed = refl;
  beside = refl;
  unmoved = λ decided. refl;
  untouched = λ decided. refl;
  uncounted = λ decided. refl;
}

pub loop-line-preserved : goal.loop-line-preserved
loop-line-preserved g c =
    let impossible : IsDecided c.args.self.now c.args.left.now → ⊥ = λ decided.
    undecided c.held_line.new.self c.loop-line.left c.in_default.ensures.undecided.clean c.in_default.ensures.undecided.not_ended (omega arith)
    (rw (c.in_default.ensures.line, c.loop-line.invariant.unmoved decided, c.loop-line.invariant.uncounted decided) decided) in
    record {
      has_read = has_read_on g.C.Source.incoming g.C.Source.read_gives c.args.conn.now c.loop-line.conn c.args.self.now c.loop-line.self c.args.left.now c.loop-line.left c.loop-line.invariant.has_read
          c.read_more.new.conn c.read_more.new.self _ c.read_more.new.left (rw c.in_default.ensures.line at c.in-Bytes.ensures.next)
          (rw c.in_default.ensures.line at c.in_default.ensures.undecided.clean) (rw c.in_default.ensures.line at c.in_default.ensures.undecided.not_ended) (omega arith) c.in-Bytes.field-0 refl;
      ended = c.in-Bytes.ensures.ended
          ∙ (sym c.in_default.ensures.undecided.not_ended ∙ (c.in_default.ensures.ended ∙ c.loop-line.invariant.ended));
      no_more = omega (arith, c.loop-line.invariant.no_more, rw c.in_default.ensures.line at c.in-Bytes.ensures.no_more);
      faults = c.in-Bytes.ensures.told.faults ∙ c.loop-line.invariant.faults;
      borrowed = c.in-Bytes.ensures.stays.references ∙ c.loop-line.invariant.borrowed;
      beside = c.in-Bytes.ensures.stays.other_half ∙ c.loop-line.invariant.beside;
      unmoved = λ decided. absurd (impossible decided);
      untouched = λ decided. absurd (impossible decided);
      uncounted = λ decided. absurd (impossible decided);
    }

pub returns-in-Some-clause-next : goal.returns-in-Some-clause-next
returns-in-Some-clause-next g c =
    answered g.C.Source.incoming g.C.Source.read_gives c.args.conn.now c.loop-line.conn c.args.self.now c.loop-line.self c.args.left.now c.loop-line.left c.loop-line.invariant.has_read
    c.held_line.new.self c.in-Some.line c.held_line.ensures.ended (not_failed c.in-Some.line c.in-Some.ensures.no_read) c.in-Some.ensures.line

pub returns-then-left-eq0-clause-next : goal.returns-then-left-eq0-clause-next
returns-then-left-eq0-clause-next g c =
    answered g.C.Source.incoming g.C.Source.read_gives c.args.conn.now c.loop-line.conn c.args.self.now c.loop-line.self c.args.left.now c.loop-line.left c.loop-line.invariant.has_read
    c.held_line.new.self _ c.held_line.ensures.ended refl
    (rw (← c.in_default.ensures.line)
    (λ taken given so_far. (stopped c.held_line.new.self c.in_default.ensures.undecided.clean c.in_default.ensures.undecided.not_ended taken given so_far, so_far)))

pub returns-in-End-clause-next : goal.returns-in-End-clause-next
returns-in-End-clause-next g c =
    answered_then g.C.Source.incoming g.C.Source.read_gives c.args.conn.now c.loop-line.conn c.args.self.now c.loop-line.self c.args.left.now c.loop-line.left c.loop-line.invariant.has_read
    c.read_more.new.conn c.read_more.new.self _ c.read_more.new.left (rw c.in_default.ensures.line at c.in-End.ensures.next)
    (rw c.in_default.ensures.line at c.in_default.ensures.undecided.clean) (rw c.in_default.ensures.line at c.in_default.ensures.undecided.not_ended) (omega arith)
    c.last_line.new.self _ (c.last_line.ensures.ended ∙ sym c.in-End.ensures.ended) (sym (not_failed _ c.last_line.ensures.no_read)) c.last_line.ensures.line

pub returns-in-Failed-clause-next : goal.returns-in-Failed-clause-next
returns-in-Failed-clause-next g c =
    answered_then g.C.Source.incoming g.C.Source.read_gives c.args.conn.now c.loop-line.conn c.args.self.now c.loop-line.self c.args.left.now c.loop-line.left c.loop-line.invariant.has_read
    c.read_more.new.conn c.read_more.new.self _ c.read_more.new.left (rw c.in_default.ensures.line at c.in-Failed.ensures.next)
    (rw c.in_default.ensures.line at c.in_default.ensures.undecided.clean) (rw c.in_default.ensures.line at c.in_default.ensures.undecided.not_ended) (omega arith)
    c.read_more.new.self _ refl refl
    (λ taken given so_far. (stopped c.read_more.new.self c.in-Failed.ensures.clean c.in-Failed.ensures.ended taken given so_far, so_far))
