use Rattle.std.proofs.Common.{length}
use Rattle.funnel_server.proofs.threads.+begin.Given as goal

-- each call has a worker less
abbrev pub decreases-begin : goal.decreases-begin
decreases-begin g l = length l.workers.now.items
