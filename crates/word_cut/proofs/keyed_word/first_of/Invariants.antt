-- the number of the bytes so far
use Rattle.std.proofs.Common.{◌≡◌}
use Rattle.word_cut.specs.Keys.{first_bytes}
use Rattle.word_cut.proofs.keyed_word.first_of.Given as goal

abbrev pub invariant-loop-byte : goal.invariant-loop-byte
invariant-loop-byte l = l.first ≡ first_bytes l.byte-index l.bytes
