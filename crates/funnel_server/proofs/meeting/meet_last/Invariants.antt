use Rattle.std.proofs.Common.{◌-◌, length}
use Rattle.funnel_server.specs.Parts.{MetLast}
use Rattle.funnel_server.proofs.meeting.meet_last.Given as goal

abbrev pub invariant-loop-place : goal.invariant-loop-place
invariant-loop-place g l = MetLast (length l.fn.loaders - 1) l.place l.fn.loaders l.loaders
