-- the buffer has the characters that came so far
use Rattle.std.proofs.Common.{◌≡◌, ◌++◌}
use Rattle.std.specs.Prelude.{encode_utf8_all}
use Rattle.word_cut.proofs.folding.push_folded.Given as goal

abbrev pub invariant-loop-c : goal.invariant-loop-c
invariant-loop-c l = l.buffer.items ≡ l.initial.buffer.items ++ encode_utf8_all l.yielded
