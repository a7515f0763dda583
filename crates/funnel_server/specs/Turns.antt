-- What a worker does in one turn, for the clauses of functions that are not public.
use Rattle.std.specs.Prelude.{◌≡◌, ◌<◌, ◌+◌, ◌||◌, true, false, List, [], ◌∷◌, ◌++◌, reverse, ◌⊎◌}
use Rattle.std.specs.Option.{option_map}
use Rattle.funnel_io.specs.Counts.{counted}
use Rattle.funnel_io.specs.Calls.{Leads}
use Rattle.funnel_io.specs.declared.gate.Gate as Gate
use Rattle.funnel_io.specs.declared.sink.Sink as Sink
use Rattle.funnel_io.specs.declared.source.Source as Source
use Rattle.funnel_server.specs.GateTurns.{AsksNoMore, GetsNoMore, TakesTurn, none_by}
use Rattle.funnel_server.specs.Workers.{GivesNoMore, IsVisit, Visit, WorkerState, WorkerWithGate, Works, is_memory, served_by, sides_before}

-- a worker served the first of the connections that waited
pub record ServesNext (before after : WorkerState) : Type 0 where
  pub visit : Visit
  pub session : IsVisit before.caller visit
  pub protocol : visit.http ≡ before.http
  pub begins : visit.before.front ≡ before.front
  pub ends : visit.after.front ≡ after.front
  pub same_pass : after.caller ≡ before.caller
  pub same_protocol : after.http ≡ before.http
  pub count : after.left + 1 ≡ before.left
  pub waited : before.gate.waiting ≡ option_map (λ rest. sides_before visit ∷ rest) after.gate.waiting
  pub served : after.gate.served ≡ option_map (λ earlier. earlier ++ served_by visit ∷ []) before.gate.served
  pub faults : after.gate.faults ≡ before.gate.faults
  pub no_fault : after.fault ≡ before.fault
  pub memory : after.memory ≡ (before.memory || is_memory visit.end)

-- a worker got no connection of its gate, which is closed or failed
pub record GetsNone (before after : WorkerState) : Type 0 where
  pub some_left : 0 < before.left
  pub others : after ≡ record before { gate = after.gate; fault = after.fault }
  pub waited : after.gate.waiting ≡ before.gate.waiting
  pub served : after.gate.served ≡ before.gate.served
  pub faults : after.gate.faults ≡ counted after.fault before.gate.faults
  pub why : (after.fault ≡ true) ⊎ GivesNoMore after.gate

-- a worker asked its gate once, and got none
pub record AsksInVain {G C : Type 0} (gate : Gate.Ghosts G C) (before after : WorkerWithGate G) : Type 0 where
  pub gets : GetsNone before.state after.state
  pub asked : gate.next_gives before.gate (none_by after.state.fault) after.gate

module _ {G C : Type 0} (gate : Gate.Ghosts G C) (source : Source.Ghosts C) (sink : Sink.Ghosts C) where
  -- a worker served the first of the connections that waited, in one turn
  pub record ServesInTurn (before after : WorkerWithGate G) : Type 0 where
    pub serves : ServesNext before.state after.state
    pub turn : TakesTurn gate source sink before.gate serves.visit after.gate

  -- a worker served some connections, one in each turn, and stopped; its gate is not ended yet
  pub record StopsInTurns (before now : WorkerWithGate G) : Type 0 where
    pub works : Works before.state now.state
    pub served : G
    pub turns : Leads (TakesTurn gate source sink) before.gate (reverse works.visits) served
    pub stops : AsksNoMore served now.gate now.state ⊎ GetsNoMore gate served now.gate now.state
