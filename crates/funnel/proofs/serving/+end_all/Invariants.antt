use Rattle.std.proofs.Common.{length}
use Rattle.funnel.proofs.serving.+end_all.Given as goal

abbrev pub decreases-end_all : goal.decreases-end_all
decreases-end_all g l = length l.gates.now
