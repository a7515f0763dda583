use Rattle.std.proofs.Common.{◌+◌}
use Rattle.funnel_io.specs.Beside.{StaysBeside}
use Rattle.funnel_io.specs.LineReading.{most_lines}
use Rattle.fit.specs.Samples.{HasSampled}
use Rattle.fit.specs.Steps.{entries_of}
use Rattle.fit.proofs.sample.read_sample.Given as goal

abbrev pub invariant-loop-sampler : goal.invariant-loop-sampler
invariant-loop-sampler g l = record {
  stays : StaysBeside g.S.Borrower.borrowed g.S.Source.beside_read l.fn.input l.input;
  sampled : HasSampled l.fn.limit l.sampler.left l.sampler.reader (entries_of l.sampler.tally.counts.entries) l.sampler.tally.documents l.sampler.tally.words
      (g.S.Source.incoming l.fn.input) (g.S.Source.incoming l.input);
}

abbrev pub decreases-loop-sampler : goal.decreases-loop-sampler
decreases-loop-sampler g l = most_lines l.sampler.reader.held l.sampler.reader.long + l.sampler.left
