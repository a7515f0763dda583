-- one fewer is left
use Rattle.std.proofs.Common.{length}
use Rattle.engine_tests.proofs.solo.fill_beside.Given as goal

abbrev pub decreases-loop-solo : goal.decreases-loop-solo
decreases-loop-solo g l = length l.both.items
