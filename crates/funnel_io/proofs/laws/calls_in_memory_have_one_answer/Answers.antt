use Rattle.funnel_io.proofs.MemoryLaws.{one_next, one_opening, one_read, one_write}
use Rattle.funnel_io.proofs.laws.calls_in_memory_have_one_answer.Goals as goal

pub returns-clause-reads : goal.returns-clause-reads
returns-clause-reads c = one_read

pub returns-clause-writes : goal.returns-clause-writes
returns-clause-writes c = one_write

pub returns-clause-nexts : goal.returns-clause-nexts
returns-clause-nexts c = one_next

pub returns-clause-openings : goal.returns-clause-openings
returns-clause-openings c = one_opening
