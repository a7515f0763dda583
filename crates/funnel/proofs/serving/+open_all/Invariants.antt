use Rattle.std.proofs.Common.{length}
use Rattle.funnel.proofs.serving.+open_all.Given as goal

abbrev pub decreases-open_all : goal.decreases-open_all
decreases-open_all g l = length l.gates.now
