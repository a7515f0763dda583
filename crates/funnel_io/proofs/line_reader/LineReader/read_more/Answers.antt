use Rattle.std.proofs.Common.{refl, ap, ◌∙◌}
use Rattle.funnel_io.specs.LineReading.{ReaderState}
use Rattle.funnel_io.proofs.ReadingLaws.{reads_next}
use Rattle.funnel_io.proofs.line_reader.LineReader.read_more.Goals as goal

pub returns-in-Bytes-clause-next : goal.returns-in-Bytes-clause-next
returns-in-Bytes-clause-next g c =
    rw (← c.self.view_is)
    (reads_next g.C.Source.incoming g.C.Source.read_gives c.args.conn.now c.read.new.conn _ _ c.make_room-self-inside.new.held.bytes _ _ _
    c.in-Bytes.ensures.once (ap (λ (r : ReaderState). r.ended) c.self.view_is ∙ c.requires.undecided.not_ended)
    (ap (λ (r : ReaderState). r.ended) c.self.view_is ∙ c.requires.undecided.not_ended) c.make_room-self-inside.ensures.kept)

pub returns-in-End-clause-next : goal.returns-in-End-clause-next
returns-in-End-clause-next g c =
    rw (← c.self.view_is)
    (reads_next g.C.Source.incoming g.C.Source.read_gives c.args.conn.now c.read.new.conn _ _ c.make_room-self-inside.new.held.bytes _ _ _
    c.in-End.ensures.once refl
    (ap (λ (r : ReaderState). r.ended) c.self.view_is ∙ c.requires.undecided.not_ended) c.make_room-self-inside.ensures.kept)

pub returns-in-Failed-clause-next : goal.returns-in-Failed-clause-next
returns-in-Failed-clause-next g c =
    rw (← c.self.view_is)
    (reads_next g.C.Source.incoming g.C.Source.read_gives c.args.conn.now c.read.new.conn _ _ c.make_room-self-inside.new.held.bytes _ _ _
    c.in-Failed.ensures.once (ap (λ (r : ReaderState). r.ended) c.self.view_is ∙ c.requires.undecided.not_ended)
    (ap (λ (r : ReaderState). r.ended) c.self.view_is ∙ c.requires.undecided.not_ended) c.make_room-self-inside.ensures.kept)
