-- What workers do whose threads wait until it is decided whether all are to work, for the clauses of functions that are not public.
use Rattle.std.specs.Prelude.{◌≡◌, Bool, true, false}
use Rattle.funnel_io.specs.declared.gate.Gate as Gate
use Rattle.funnel_io.specs.declared.sink.Sink as Sink
use Rattle.funnel_io.specs.declared.source.Source as Source
use Rattle.funnel_server.specs.GateTurns.{WorksInTurns}
use Rattle.funnel_server.specs.Workers.{WorkerWithGate}

-- a worker did its work where that was decided, and else nothing
abbrev pub WorksWhere : {G C : Type 0} → Gate.Ghosts G C → Source.Ghosts C → Sink.Ghosts C → Bool → WorkerWithGate G → WorkerWithGate G → Type 0
WorksWhere gate source sink true before after = WorksInTurns gate source sink before after
WorksWhere gate source sink false before after = after ≡ before
