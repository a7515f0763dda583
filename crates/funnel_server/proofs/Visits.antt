-- What one more turn makes of the connections that a worker served.
use Rattle.std.proofs.Common.{◌≡◌, ◌||◌, Bool, false, List, [], ◌∷◌, ◌++◌, map, Option, Some, None, IfSome, sym, refl, ap, ◌∙◌, subst, inl, inr, arith, append_assoc, append-nil, length-append}
use Rattle.std.specs.List.{list_any}
use Rattle.std.specs.Option.{option_map}
use Rattle.std.proofs.lemmas.List.{map-append}
use Rattle.std.proofs.Math.Bool.{or-false}
use Rattle.std.proofs.lemmas.List.Elements.{All-nil, All-push}
use Rattle.std.proofs.lemmas.List.Folds.{list_any-append}
use Rattle.funnel_io.specs.Counts.{counted}
use Rattle.funnel_model.specs.declared.event.Event.{Event}
use Rattle.funnel_server.specs.Gates.{Sides}
use Rattle.funnel_server.specs.Turns.{GetsNone, ServesNext}
use Rattle.funnel_server.specs.Workers.{AreInOrder, HasMetNoFault, HasServedVisits, IsVisit, Visit, WorkerState, Works, is_memory, served_by, sides_before}

-- so far a worker served these connections, and its gate did not fail
pub record WorksOn (before now : WorkerState) : Type 0 where
  pub visits : List Visit
  pub serves : HasServedVisits before now visits
  pub no_fault : now.fault ≡ false

pub in_order-push : (front middle after : List Event) (visits : List Visit) (visit : Visit) → AreInOrder front visits middle → visit.before.front ≡ middle
    → visit.after.front ≡ after → AreInOrder front (visits ++ visit ∷ []) after
in_order-push front middle after [] visit order begins ends = (begins ∙ sym order, ends)
in_order-push front middle after (first ∷ visits) visit order begins ends =
    (order.0, in_order-push first.after.front middle after visits visit order.1 begins ends)

-- those that waited at first are the first ones, then one, and then those that wait at last
pub waited-push : (first : List Sides) (one : Sides) (before now after : Option (List Sides)) → before ≡ option_map (λ rest. first ++ rest) now
    → now ≡ option_map (λ rest. one ∷ rest) after → before ≡ option_map (λ rest. (first ++ one ∷ []) ++ rest) after
waited-push first one before now None so then = so ∙ ap (option_map (λ rest. first ++ rest)) then
waited-push first one before now (Some rest) so then =
    so ∙ (ap (option_map (λ rest. first ++ rest)) then ∙ ap Some (sym (append_assoc first (one ∷ []) rest)))

-- lists that were put at the end of a list, one after another, are at its end
pub at_end : {A : Type 0} (first second : List A) (before now after : Option (List A)) → now ≡ option_map (λ earlier. earlier ++ first) before
    → after ≡ option_map (λ earlier. earlier ++ second) now → after ≡ option_map (λ earlier. earlier ++ (first ++ second)) before
at_end first second None now after so then = then ∙ ap (option_map (λ earlier. earlier ++ second)) so
at_end first second (Some earlier) now after so then =
    then ∙ (ap (option_map (λ earlier. earlier ++ second)) so ∙ ap Some (append_assoc earlier first second))

pub nothing_more : {A : Type 0} (known : Option (List A)) → known ≡ option_map (λ earlier. earlier ++ []) known
nothing_more None = refl
nothing_more (Some earlier) = ap Some (sym (append-nil earlier))

pub nothing_less : {A : Type 0} (known : Option (List A)) → known ≡ option_map (λ rest. [] ++ rest) known
nothing_less None = refl
nothing_less (Some rest) = refl

pub memory-push : (visits : List Visit) (visit : Visit) (before after : Bool) → before ≡ list_any (λ v. is_memory v.end) visits
    → after ≡ (before || is_memory visit.end) → after ≡ list_any (λ v. is_memory v.end) (visits ++ visit ∷ [])
memory-push visits visit before after so then =
    then ∙ (ap (λ b. b || is_memory visit.end) so
    ∙ (ap (λ b. list_any (λ (v : Visit). is_memory v.end) visits || b) (sym (or-false (is_memory visit.end)))
    ∙ sym (list_any-append (λ (v : Visit). is_memory v.end) visits (visit ∷ []))))

-- a worker that is ready served nothing yet
abbrev pub serves_none : (worker : WorkerState) → HasMetNoFault worker → WorksOn worker worker
serves_none worker ready = record {
  visits = [];
  serves = record {
    sessions = All-nil (IsVisit worker.caller);
    protocol = All-nil (λ (visit : Visit). visit.http ≡ worker.http);
    same_protocol = refl;
    in_order = refl;
    same_pass = refl;
    count = omega arith;
    waited = nothing_less worker.gate.waiting;
    served = nothing_more worker.gate.served;
    faults = ap (λ b. counted b worker.gate.faults) (sym ready.no_fault);
    memory = ready.no_memory;
  };
  no_fault = ready.no_fault;
}

-- a worker's gate failed no more often so far
pub same_faults : (before now : WorkerState) → now.fault ≡ false → now.gate.faults ≡ counted now.fault before.gate.faults → now.gate.faults ≡ before.gate.faults
same_faults before now none faults = faults ∙ ap (λ b. counted b before.gate.faults) none

abbrev pub serves_one : (start before after : WorkerState) → WorksOn start before → ServesNext before after → WorksOn start after
serves_one start before after so then =
    let visit = then.visit in
    let earlier = so.serves in record {
      visits = so.visits ++ visit ∷ [];
      serves = record {
        sessions = All-push (IsVisit start.caller) so.visits visit earlier.sessions (subst (λ c. IsVisit c visit) earlier.same_pass then.session);
        in_order = in_order-push start.front before.front after.front so.visits visit earlier.in_order then.begins then.ends;
        protocol = All-push (λ (v : Visit). v.http ≡ start.http) so.visits visit earlier.protocol (then.protocol ∙ earlier.same_protocol);
        same_pass = then.same_pass ∙ earlier.same_pass;
        same_protocol = then.same_protocol ∙ earlier.same_protocol;
        count = omega (arith, earlier.count, then.count, length-append so.visits (visit ∷ []));
        waited = subst (λ first. start.gate.waiting ≡ option_map (λ rest. first ++ rest) after.gate.waiting) (sym (map-append sides_before so.visits (visit ∷ [])))
            (waited-push (map sides_before so.visits) (sides_before visit) start.gate.waiting before.gate.waiting after.gate.waiting earlier.waited then.waited);
        served = subst (λ list. after.gate.served ≡ option_map (λ old. old ++ list) start.gate.served) (sym (map-append served_by so.visits (visit ∷ [])))
            (at_end (map served_by so.visits) (served_by visit ∷ []) start.gate.served before.gate.served after.gate.served earlier.served then.served);
        faults = then.faults ∙ (same_faults start before so.no_fault earlier.faults
            ∙ ap (λ b. counted b start.gate.faults) (sym (then.no_fault ∙ so.no_fault)));
        memory = memory-push so.visits visit before.memory after.memory earlier.memory then.memory;
      };
      no_fault = then.no_fault ∙ so.no_fault;
    }

-- without another connection a worker's visits are those that it made
abbrev pub stops_without : (start before after : WorkerState) → WorksOn start before → GetsNone before after → Works start after
stops_without start before after so then =
    let earlier = so.serves in record {
      visits = so.visits;
      serves = record {
        sessions = earlier.sessions;
        protocol = earlier.protocol;
        same_protocol = ap (λ w. w.http) then.others ∙ earlier.same_protocol;
        in_order = subst (λ front. AreInOrder start.front so.visits front) (sym (ap (λ w. w.front) then.others)) earlier.in_order;
        same_pass = ap (λ w. w.caller) then.others ∙ earlier.same_pass;
        count = omega (arith, earlier.count, ap (λ w. w.left) then.others);
        waited = earlier.waited ∙ ap (option_map (λ rest. map sides_before so.visits ++ rest)) (sym then.waited);
        served = then.served ∙ earlier.served;
        faults = then.faults ∙ ap (counted after.fault) (same_faults start before so.no_fault earlier.faults);
        memory = ap (λ w. w.memory) then.others ∙ earlier.memory;
      };
      stopped = inr then.why;
    }

-- a worker that served as many as it may has stopped
abbrev pub stops_at_limit : (start now : WorkerState) → WorksOn start now → now.left ≡ 0 → Works start now
stops_at_limit start now so none = record { visits = so.visits; serves = so.serves; stopped = inl none }

-- where no connection waits none is seen to wait
pub none_wait : {C : Type 0} (sides : C → Sides) (waiting : Option (List C)) → IfSome waiting (λ conns. conns ≡ [])
    → IfSome (option_map (map sides) waiting) (λ list. list ≡ [])
none_wait sides None none = tt
none_wait sides (Some conns) none = ap (map sides) none

-- the connection that left those that waited was the first that is seen to wait
pub first_waited : {C : Type 0} (sides : C → Sides) (conn : C) (before now after : Option (List C)) → before ≡ option_map (λ rest. conn ∷ rest) now
    → after ≡ now → option_map (map sides) before ≡ option_map (λ rest. sides conn ∷ rest) (option_map (map sides) after)
first_waited sides conn before now None out same = ap (option_map (map sides)) (out ∙ ap (option_map (λ rest. conn ∷ rest)) (sym same))
first_waited sides conn before now (Some rest) out same = ap (option_map (map sides)) (out ∙ ap (option_map (λ rest. conn ∷ rest)) (sym same))
