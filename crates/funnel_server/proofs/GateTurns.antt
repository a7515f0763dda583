-- A worker's turns, one after another.
use Rattle.std.proofs.Common.{◌≡◌, ◌<◌, ◌⊎◌, ℕ, true, false, List, [], ◌∷◌, reverse, refl, sym, ap, ◌∙◌, subst, inl, inr, arith}
use Rattle.std.proofs.lemmas.List.{reverse-append}
use Rattle.funnel_io.specs.Calls.{Leads}
use Rattle.funnel_io.specs.declared.end.End.TheVariants as end_of
use Rattle.funnel_io.specs.declared.gate.Gate as Gate
use Rattle.funnel_io.specs.declared.gate.Next.TheVariants as next
use Rattle.funnel_io.specs.declared.sink.Sink as Sink
use Rattle.funnel_io.specs.declared.source.Source as Source
use Rattle.funnel_server.proofs.Visits.{WorksOn, serves_none, serves_one, stops_at_limit, stops_without}
use Rattle.funnel_server.specs.Gates.{sides_of}
use Rattle.funnel_server.specs.GateTurns.{AsksNoMore, GetsNoMore, TakesTurn, WorksInTurns, none_by}
use Rattle.funnel_server.specs.Laws.{CountsOut}
use Rattle.funnel_server.specs.Turns.{AsksInVain, ServesInTurn, StopsInTurns}
use Rattle.funnel_server.specs.Workers.{HasMetNoFault, Visit, WorkerState, WorkerWithGate, Works, sides_after, sides_before}

module _ {G C : Type 0} (gate : Gate.Ghosts G C) (source : Source.Ghosts C) (sink : Sink.Ghosts C) where
  abbrev Turn : G → Visit → G → Type 0
  Turn = TakesTurn gate source sink

  -- so far a worker served these connections, one in each turn, and its gate did not fail
  pub record WorksOnInTurns (before now : WorkerWithGate G) : Type 0 where
    pub so_far : WorksOn before.state now.state
    pub turns : Leads (TakesTurn gate source sink) before.gate (reverse so_far.visits) now.gate

  -- a worker that is ready took no turn yet
  pub no_turn : (worker : WorkerWithGate G) → HasMetNoFault worker.state → WorksOnInTurns worker worker
  no_turn worker ready = record { so_far = serves_none worker.state ready; turns = refl }

  -- it took one more
  pub one_turn : (start before after : WorkerWithGate G) → WorksOnInTurns start before →
      ServesInTurn gate source sink before after → WorksOnInTurns start after
  one_turn start before after on then = record {
    so_far = serves_one start.state before.state after.state on.so_far then.serves;
    turns = subst (λ (visits : List Visit). Leads Turn start.gate visits after.gate) (sym (reverse-append on.so_far.visits (then.serves.visit ∷ [])))
        (before.gate, on.turns, then.turn);
  }

  -- it asked once more, and got no connection
  pub stops_in_vain : (start before after : WorkerWithGate G) → WorksOnInTurns start before →
      AsksInVain gate before after → StopsInTurns gate source sink start after
  stops_in_vain start before after on then = record {
    works = stops_without start.state before.state after.state on.so_far then.gets;
    served = before.gate;
    turns = on.turns;
    stops = inr (record { some_left = subst (λ n. 0 < n) (sym (ap (λ w. w.left) then.gets.others)) then.gets.some_left; asked = then.asked });
  }

  -- it may serve no more
  pub stops_in_time : (start now : WorkerWithGate G) → WorksOnInTurns start now →
      now.state.left ≡ 0 → StopsInTurns gate source sink start now
  stops_in_time start now on none = record {
    works = stops_at_limit start.state now.state on.so_far none;
    served = now.gate;
    turns = on.turns;
    stops = inl (record { none_left = none; no_fault = on.so_far.no_fault; same = refl });
  }

  -- a turn that touched nothing leaves the sides as they came
  pub sides_stay : (before after : G) (visit : Visit) → Turn before visit after → visit.end ≡ end_of.Memory → sides_after visit ≡ sides_before visit
  sides_stay before after visit turn none = turn.went ∙ ap (sides_of source sink) (turn.untouched none) ∙ sym turn.came

  -- by a number that tells how many are out, each turn gives back what it was handed
  given_back : (out : G → ℕ) → CountsOut gate out → (before : G) (visits : List Visit) (served : G) → Leads Turn before visits served → out served ≡ out before
  given_back out counts before [] served lead = ap out (sym lead)
  given_back out counts before (visit ∷ earlier) served lead =
      let turn = lead.2 in
      let handed = counts.hands_out lead.0 turn.middle turn.handed_out turn.asked in
      let back = counts.takes_back turn.middle served turn.handed_back visit.end turn.done in
      let until = given_back out counts before earlier lead.0 lead.1 in
      omega (arith, handed, back, until)

  pub all_given_back : (out : G → ℕ) → CountsOut gate out → (before after : WorkerWithGate G) (works : WorksInTurns gate source sink before after) →
      out works.in_turns.served ≡ out before.gate
  all_given_back out counts before after works = given_back out counts before.gate (reverse works.works.visits) works.in_turns.served works.in_turns.turns

  -- ---- once it has stopped and its gate is ended, which tells what it told before, all its calls are told

  -- what it served up to here, by what a worker tells of itself
  record Stopped (start : WorkerWithGate G) (served stopped : G) (state : WorkerState) : Type 0 where
    works : Works start.state state
    turns : Leads (TakesTurn gate source sink) start.gate (reverse works.visits) served
    stops : AsksNoMore served stopped state ⊎ GetsNoMore gate served stopped state

  pub ends_in_turns : (start now after : WorkerWithGate G) → StopsInTurns gate source sink start now →
      now.state ≡ after.state → gate.end_gives now.gate after.gate → WorksInTurns gate source sink start after
  ends_in_turns start now after stops same ended =
      let told : Stopped start stops.served now.gate after.state =
      subst (Stopped start stops.served now.gate) same (record { works = stops.works; turns = stops.turns; stops = stops.stops }) in
      record { works = told.works; in_turns = record { served = stops.served; turns = told.turns; stopped = now.gate; stops = told.stops; ended = ended } }

  -- what its gate answered a worker that asked for no connection in vain
  module _ (before after : WorkerWithGate G) (works : WorksInTurns gate source sink before after) where
    abbrev served : G
    served = works.in_turns.served

    abbrev stopped : G
    stopped = works.in_turns.stopped

    pub asked_again : 0 < after.state.left → gate.next_gives served (none_by after.state.fault) stopped
    asked_again more = by_stop works.in_turns.stops where
      by_stop : AsksNoMore served stopped after.state ⊎ GetsNoMore gate served stopped after.state → gate.next_gives served (none_by after.state.fault) stopped
      by_stop (inl no_more) = absurd (omega (arith, no_more.none_left, more))
      by_stop (inr none) = none.asked

    pub asked_in_vain : after.state.fault ≡ true → gate.next_gives served next.Fault stopped
    asked_in_vain fault = by_stop works.in_turns.stops where
      by_stop : AsksNoMore served stopped after.state ⊎ GetsNoMore gate served stopped after.state → gate.next_gives served next.Fault stopped
      by_stop (inl no_more) = let both : true ≡ false = sym fault ∙ no_more.no_fault in cc
      by_stop (inr none) = subst (λ b. gate.next_gives served (none_by b) stopped) fault none.asked
