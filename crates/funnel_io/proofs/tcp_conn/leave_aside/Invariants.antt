use Rattle.funnel_io.proofs.tcp_conn.leave_aside.Given as goal

abbrev pub decreases-loop-left : goal.decreases-loop-left
decreases-loop-left g l = l.left
