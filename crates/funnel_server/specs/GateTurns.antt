-- A worker's calls on its gate and on the connections that it was handed, turn by turn. What a call leads to is known to the gate and the
-- connection alone, so the calls that are told are those that were made.
use Rattle.std.specs.Prelude.{◌≡◌, ◌<◌, ◌⊎◌, Bool, true, false, List, reverse}
use Rattle.funnel_io.specs.Calls.{Leads}
use Rattle.funnel_io.specs.declared.end.End.TheVariants as end_of
use Rattle.funnel_io.specs.declared.gate.Gate as Gate
use Rattle.funnel_io.specs.declared.gate.Next.{Next}
use Rattle.funnel_io.specs.declared.gate.Next.TheVariants as next
use Rattle.funnel_io.specs.declared.sink.Sink as Sink
use Rattle.funnel_io.specs.declared.source.Source as Source
use Rattle.http_front.specs.Turns.{request_by_request}
use Rattle.session.specs.Turns.{StopsReading, line_by_line}
use Rattle.session.specs.declared.serving.TheConstants.{MOST_BYTES}
use Rattle.funnel_server.specs.Gates.{sides_of}
use Rattle.funnel_server.specs.Workers.{Visit, WorkerState, WorkerWithGate, Works, sides_after, sides_before}

-- what a gate answers that hands out none, where it failed and where it didn't
abbrev pub none_by : {C : Type 0} → Bool → Next C
none_by true = next.Fault
none_by false = next.Closed

-- a worker that may serve no more asked for no further connection
pub record AsksNoMore {G : Type 0} (served stopped : G) (worker : WorkerState) : Type 0 where
  pub none_left : worker.left ≡ 0
  pub no_fault : worker.fault ≡ false
  pub same : stopped ≡ served

-- a worker that may serve more asked once more, and its gate answered that it is closed, or that it failed
pub record GetsNoMore {G C : Type 0} (gate : Gate.Ghosts G C) (served stopped : G) (worker : WorkerState) : Type 0 where
  pub some_left : 0 < worker.left
  pub asked : gate.next_gives served (none_by worker.fault) stopped

module _ {G C : Type 0} (gate : Gate.Ghosts G C) (source : Source.Ghosts C) (sink : Sink.Ghosts C) where
  -- A turn: the gate handed out a connection; a session led it from there to where it went back, line by line or request by request; it read
  -- nothing once it had taken as many bytes as it may, with Done its last read found the end, or a response closes, and where there was no
  -- memory a session touched nothing; the gate was given the connection back, with the end of the session; and what the visit tells of its
  -- streams is how it came and went
  pub record TakesTurn (before : G) (visit : Visit) (after : G) : Type 0 where
    pub handed_out : C
    pub middle : G
    pub asked : gate.next_gives before (next.Conn handed_out) middle
    pub handed_back : C
    pub lines : visit.http ≡ false → StopsReading line_by_line source.read_gives sink.write_gives MOST_BYTES (visit.end ≡ end_of.Done) handed_out handed_back
    pub requests : visit.http ≡ true → StopsReading request_by_request source.read_gives sink.write_gives MOST_BYTES (visit.end ≡ end_of.Done) handed_out handed_back
    pub untouched : visit.end ≡ end_of.Memory → handed_back ≡ handed_out
    pub done : gate.done_gives middle handed_back visit.end after
    pub came : sides_before visit ≡ sides_of source sink handed_out
    pub went : sides_after visit ≡ sides_of source sink handed_back

  -- all calls of a worker on its gate and its connections: one turn for each visit, what comes after the last one, and the gate's end
  pub record CallsInTurns (before : G) (visits : List Visit) (after : WorkerWithGate G) : Type 0 where
    pub served : G
    pub turns : Leads TakesTurn before (reverse visits) served
    pub stopped : G
    pub stops : AsksNoMore served stopped after.state ⊎ GetsNoMore gate served stopped after.state
    pub ended : gate.end_gives stopped after.gate

  -- a worker served some connections and stopped, and these are its calls
  pub record WorksInTurns (before after : WorkerWithGate G) : Type 0 where
    pub works : Works before.state after.state
    pub in_turns : CallsInTurns before.gate works.visits after
