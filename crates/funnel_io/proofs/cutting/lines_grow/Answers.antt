use Rattle.std.proofs.Common.{ap}
use Rattle.funnel_io.specs.Lines.{Cut}
use Rattle.funnel_io.proofs.CutLaws.{cut_on, cut-append-line, recursion_from_HasNoNewline}
use Rattle.funnel_io.proofs.cutting.lines_grow.Goals as goal

pub returns : goal.returns
returns c = record {
  whole = λ xs ys. ap (λ (now : Cut). now.whole) (cut_on xs ys);
  rest = λ xs ys. ap (λ (now : Cut). now.rest) (cut_on xs ys);
  line = λ xs line at_start free. cut-append-line xs line at_start (recursion_from_HasNoNewline line free);
}
