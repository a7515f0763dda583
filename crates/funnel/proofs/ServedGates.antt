-- The gates of a serve that did not fail.
use Rattle.std.proofs.Common.{◌≡◌, ◌≢◌, ℕ, ◌+◌, ◌≤◌, Bool, true, false, cond, List, [], ◌∷◌, ◌++◌, map, take, drop, take-append-drop, Some, rules, arith, sym, refl, ap, ◌∙◌, subst, inl, inr}
use Rattle.std.proofs.lemmas.Bool.{or_parts}
use Rattle.std.proofs.lemmas.List.{append_cancel_left, length-map}
use Rattle.std.proofs.lemmas.List.Elements.{All-cons, All-head, All-map, All-nil, All-tail, All-weaker}
use Rattle.std.specs.List.{All, AllZip, list_any}
use Rattle.engine.specs.Engines.{ClosedState}
use Rattle.funnel_io.specs.Counts.{Rose, counted, raised}
use Rattle.funnel_io.specs.Served.{Served}
use Rattle.funnel_io.specs.declared.end.End.TheVariants as end_of
use Rattle.funnel_model.specs.declared.config.Config.{Config}
use Rattle.funnel_model.specs.Legal.{Limits}
use Rattle.funnel_server.proofs.Ends.{are_all, fits_kept, kept_ends, serve_all, visit_ends_well}
use Rattle.funnel_server.specs.Gates.{GateState, Sides}
use Rattle.funnel_server.specs.Laws.{FitsKept, HasCause, HasFewBytes}
use Rattle.funnel_server.specs.Workers.{IsVisit, Visit, WorkerState, Works, is_memory, served_by, sides_before}
use Rattle.line_proto.specs.Services.{Caller}
use Rattle.command_line.specs.declared.command.ServeCommand.{ServeCommand}
use Rattle.funnel.specs.declared.ends.Why.{Why}
use Rattle.funnel.specs.declared.ends.Why.TheVariants as why_of
use Rattle.funnel.specs.Laws.{GateIsServed, IsKeptOf, IsServedUnlessFailed, KeepsGoodEnd, KeepsNoFault}
use Rattle.funnel.specs.Runs.{limits_by}
use Rattle.funnel.specs.ServeRuns.{AllWork, HaveAllServed, new_worker, new_workers}

-- a count that was raised rose
pub raised_rose : (before after : ℕ) → after ≡ raised before → Rose before after
raised_rose before after is = subst (λ n. raised before ≤ n) (sym is) (search rules)

-- so one that did not rise was not raised
pub not_failed : (failed : Bool) (before after : ℕ) → after ≡ counted failed before → (Rose before after → ⊥) → failed ≡ false
not_failed true before after is none = absurd (none (raised_rose before after is))
not_failed false before after is none = refl

-- what is kept of each connection is what its gate is to keep
all_kept : (http : Bool) (caller : Caller) (visits : List Visit) → All (IsVisit caller) visits → All (λ visit. visit.http ≡ http) visits →
    AllZip (IsKeptOf http) (map sides_before visits) (map served_by visits)
all_kept http caller [] sessions same = tt
all_kept http caller (visit ∷ visits) sessions same =
    let session = All-head (IsVisit caller) visit visits sessions in (
      record {
        cause = subst (λ (protocol : Bool). HasCause protocol (sides_before visit) (served_by visit)) (All-head (λ (v : Visit). v.http ≡ http) visit visits same)
            (kept_ends caller visit session);
        good = λ few none. visit_ends_well caller visit session few (record { reads = none.reads; writes = none.writes });
      },
      all_kept http caller visits (All-tail (IsVisit caller) visit visits sessions) (All-tail (λ (v : Visit). v.http ≡ http) visit visits same),
    )

-- where no session found no memory, none is kept so
all_found_memory : (visits : List Visit) → list_any (λ visit. is_memory visit.end) visits ≡ false →
    All (λ (served : Served). served.session_end ≢ end_of.Memory) (map served_by visits)
all_found_memory [] none = All-nil (λ (served : Served). served.session_end ≢ end_of.Memory)
all_found_memory (visit ∷ visits) none =
    let parts = or_parts (is_memory visit.end) (list_any (λ (v : Visit). is_memory v.end) visits) none in
    All-cons (λ (served : Served). served.session_end ≢ end_of.Memory) (served_by visit) (map served_by visits)
    (λ is. let both : true ≡ false = sym (ap is_memory is) ∙ parts.0 in cc) (all_found_memory visits parts.1)

-- the gate of a worker, where it did not fail
module _ (before after : WorkerState) (works : Works before after) (no_fault : after.fault ≡ false) (waiting : List Sides) (is : before.gate.waiting ≡ Some waiting) where
  served_first : map sides_before works.visits ≡ take before.left waiting
  served_first = serve_all before after works waiting no_fault is

  first_kept : AllZip (IsKeptOf before.http) (take before.left waiting) (map served_by works.visits)
  first_kept = subst (λ xs. AllZip (IsKeptOf before.http) xs (map served_by works.visits)) served_first
      (all_kept before.http before.caller works.visits works.serves.sessions works.serves.protocol)

  others_wait : after.gate.waiting ≡ Some (drop before.left waiting)
  others_wait =
      let all = are_all before.gate.waiting after.gate.waiting waiting (map sides_before works.visits) is works.serves.waited in
      all.still
      ∙ ap Some (append_cancel_left (map sides_before works.visits) all.rest (drop before.left waiting)
      (sym all.whole ∙ sym (take-append-drop before.left waiting) ∙ ap (λ xs. xs ++ drop before.left waiting) (sym served_first)))

gate_is_served : (opening : Config) (limits : Limits) (serve : ServeCommand) (pass : ℕ) (gate : GateState) (after : WorkerState) (works : Works (new_worker opening limits serve pass gate) after)
    (why : Why) → after.fault ≡ false → (why ≡ why_of.Done → after.memory ≡ false) → GateIsServed serve why gate after.gate
gate_is_served opening limits serve pass gate after works why no_fault memory = let before = new_worker opening limits serve pass gate in record {
  gained = map served_by works.visits;
  kept = works.serves.served;
  fit = All-map FitsKept served_by works.visits (All-weaker (IsVisit before.caller) (λ (visit : Visit). FitsKept (served_by visit)) (fits_kept before.caller) works.visits works.serves.sessions);
  most = omega (arith, works.serves.count, length-map works.visits served_by);
  first = first_kept before after works no_fault;
  left = others_wait before after works no_fault;
  memory = λ done. all_found_memory works.visits (sym works.serves.memory ∙ memory done);
}

-- the gates of all workers
gates_are_served : (opening : Config) (limits : Limits) (serve : ServeCommand) (pass : ℕ) (gates : List GateState) (workers : List WorkerState) (why : Why) →
    AllWork (new_workers opening limits serve pass gates) workers → (why ≡ why_of.Done → list_any (λ worker. worker.memory) workers ≡ false) →
    AllZip (IsServedUnlessFailed serve why) gates (map (λ worker. worker.gate) workers)
gates_are_served opening limits serve pass [] [] why work memory = tt
gates_are_served opening limits serve pass [] (worker ∷ workers) why work memory = absurd work
gates_are_served opening limits serve pass (gate ∷ gates) [] why work memory = absurd work
gates_are_served opening limits serve pass (gate ∷ gates) (worker ∷ workers) why work memory =
    let parts = λ (done : why ≡ why_of.Done). or_parts worker.memory (list_any (λ (w : WorkerState). w.memory) workers) (memory done) in (
      λ none.
          gate_is_served opening limits serve pass gate worker work.0 why
          (not_failed worker.fault gate.faults worker.gate.faults work.0.serves.faults none) (λ done. (parts done).0),
      gates_are_served opening limits serve (pass + 1) gates workers why work.1 (λ done. (parts done).1),
    )

-- a serve that is done found memory for each session
done_found_memory : (fault memory : Bool) → cond fault why_of.GateFault (cond memory why_of.Memory why_of.Done) ≡ why_of.Done → memory ≡ false
done_found_memory true memory done = cc
done_found_memory false true done = cc
done_found_memory false false done = refl

pub gates_without_a_fault : (config : Config) (serve : ServeCommand) (before after : List GateState) (why : Why) (closed : ClosedState) →
    HaveAllServed config serve before after why closed → AllZip (IsServedUnlessFailed serve why) before after
gates_without_a_fault config serve before after why closed served =
    subst (AllZip (IsServedUnlessFailed serve why) before) (sym served.gates)
    (gates_are_served config (limits_by config) serve 0 before served.workers why served.work
    (λ done.
    done_found_memory (list_any (λ (worker : WorkerState). worker.fault) served.workers) (list_any (λ (worker : WorkerState). worker.memory) served.workers)
    (sym served.cause ∙ done)))

-- connections with few bytes, of which none failed and none found no memory
all_done : (http : Bool) (sides : List Sides) (gained : List Served) → AllZip (IsKeptOf http) sides gained → All HasFewBytes sides → All KeepsNoFault gained →
    All (λ (served : Served). served.session_end ≢ end_of.Memory) gained → All (λ (served : Served). served.session_end ≡ end_of.Done) gained
all_done http [] [] kept few none memory = All-nil (λ (served : Served). served.session_end ≡ end_of.Done)
all_done http [] (one ∷ others) kept few none memory = absurd kept
all_done http (side ∷ sides) [] kept few none memory = absurd kept
all_done http (side ∷ sides) (one ∷ others) kept few none memory =
    let good = kept.0.good (All-head HasFewBytes side sides few) (All-head KeepsNoFault one others none) in
    All-cons (λ (served : Served). served.session_end ≡ end_of.Done) one others
    (done_one good (All-head (λ (served : Served). served.session_end ≢ end_of.Memory) one others memory))
    (all_done http sides others kept.1 (All-tail HasFewBytes side sides few) (All-tail KeepsNoFault one others none)
    (All-tail (λ (served : Served). served.session_end ≢ end_of.Memory) one others memory)) where
      done_one : KeepsGoodEnd one → one.session_end ≢ end_of.Memory → one.session_end ≡ end_of.Done
      done_one (inl done) memory = done
      done_one (inr lacking) memory = absurd (memory lacking)

pub connections_are_done : (serve : ServeCommand) (before after : GateState) (served : GateIsServed serve why_of.Done before after) (waiting : List Sides) →
    before.waiting ≡ Some waiting → All HasFewBytes (take serve.connections waiting) → All KeepsNoFault served.gained →
    All (λ (served : Served). served.session_end ≡ end_of.Done) served.gained
connections_are_done serve before after served waiting is few none =
    all_done serve.http (take serve.connections waiting) served.gained (served.first waiting is) few none (served.memory refl)
