-- How sessions end.
use Rattle.std.proofs.Common.{◌≡◌, ◌⊎◌, ◌<◌, ◌||◌, ℕ, Bool, true, false, List, [], ◌∷◌, ◌++◌, length, map, take, take_all, Option, Some, None, IfSome, append-nil, arith, sym, refl, ap, ◌∙◌, subst, inl, inr, ⊎_elim, length-append}
use Rattle.std.specs.Io.KnownBytes.{Appends, Consumes, IsAtEnd}
use Rattle.std.specs.List.{All, list_any}
use Rattle.std.specs.Option.{option_map}
use Rattle.std.proofs.Math.Seq.{take-append_seam}
use Rattle.std.proofs.lemmas.List.{length-map}
use Rattle.std.proofs.lemmas.List.Elements.{All-cons, All-head, All-nil, All-tail}
use mathlib.Core.List.{IsPrefix}
use Rattle.funnel_io.specs.Counts.{counted}
use Rattle.funnel_io.specs.Streams.{Takes}
use Rattle.funnel_io.specs.declared.end.End.{End}
use Rattle.funnel_io.specs.declared.end.End.TheVariants as end_of
use Rattle.line_proto.specs.Services.{Caller}
use Rattle.http_front.specs.Ends.{ServesRequests}
use Rattle.http_front.specs.Sessions.{entries_of}
use Rattle.session.specs.Ends.{CountsFaults, Serves, Stand, is_read_fault, is_write_fault}
use Rattle.session.specs.declared.serving.TheConstants.{MOST_BYTES}
use Rattle.funnel_server.specs.Gates.{Sides}
use Rattle.funnel_server.specs.Laws.{CountsAs, FitsKept, SessionEndsWell, HasCause, HasFewBytes, VisitHasNoFault, KeepsInput, TakesAll, TakesAs, TellsInput}
use Rattle.funnel_server.specs.Sessions.{IsServed}
use Rattle.funnel_server.specs.Workers.{GivesNoMore, IsStopped, IsVisit, Visit, WorkerState, Works, is_memory, served_by, sides_before}
use Rattle.funnel_model.proofs.Absence.{neither}

-- a limit that is told is another one's
limit_is : (told limit : ℕ) → end_of.ByteLimit told ≡ end_of.ByteLimit limit → told ≡ MOST_BYTES → limit ≡ MOST_BYTES
limit_is told limit is told_is = cc

-- bytes that were taken of an input are its first ones, and all of it where nothing is left
taken_first : (input taken : List ℕ) (left : Option (List ℕ)) → Consumes (Some input) left taken → IsPrefix taken input
taken_first input taken None takes = absurd takes
taken_first input taken (Some rest) takes = (rest, sym takes)

taken_whole : (input taken : List ℕ) (left : Option (List ℕ)) → Consumes (Some input) left taken → IsAtEnd left → taken ≡ input
taken_whole input taken None takes none = absurd takes
taken_whole input taken (Some rest) takes none = sym (takes ∙ ap (λ bytes. taken ++ bytes) none ∙ append-nil taken)

kept_whole : (taken : List ℕ) (kept : Option (List ℕ)) → Appends (Some []) kept taken → kept ≡ Some taken
kept_whole taken None appends = absurd appends
kept_whole taken (Some bytes) appends = ap Some appends

-- counts from 0 on
counts_as : (end : End) (reads writes : ℕ) → reads ≡ counted (is_read_fault end) 0 → writes ≡ counted (is_write_fault end) 0 → CountsAs end reads writes
counts_as end_of.Done reads writes r w = (r, w)
counts_as end_of.ReadFault reads writes r w = (r, w)
counts_as end_of.WriteFault reads writes r w = (r, w)
counts_as (end_of.ByteLimit limit) reads writes r w = (r, w)
counts_as end_of.Memory reads writes r w = (r, w)

-- what each kind of session says of the bytes that it took and of the faults
record Took (http : Bool) (old new : Stand) (end : End) : Type 0 where
  taken : List ℕ
  takes : Takes taken old.incoming new.incoming
  faults : CountsFaults old new end
  done : end ≡ end_of.Done → (input : List ℕ) → Consumes (Some input) new.incoming.left taken → TakesAll http input taken
  limit : (limit : ℕ) → end ≡ end_of.ByteLimit limit → (limit ≡ MOST_BYTES) × (length taken ≡ MOST_BYTES)
  none : end ≡ end_of.Memory → taken ≡ []

-- by an end alone
lines_done : (caller : Caller) (old new : Stand) (end : End) (served : Serves caller MOST_BYTES old new end) → end ≡ end_of.Done → (input : List ℕ)
    → Consumes (Some input) new.incoming.left served.taken → TakesAll false input served.taken
lines_done caller old new end_of.Done served is input takes = (taken_whole input served.taken new.incoming.left takes served.leaves, served.within)
lines_done caller old new end_of.ReadFault served is input takes = cc
lines_done caller old new end_of.WriteFault served is input takes = cc
lines_done caller old new (end_of.ByteLimit limit) served is input takes = cc
lines_done caller old new end_of.Memory served is input takes = cc

lines_limit : (caller : Caller) (old new : Stand) (end : End) (served : Serves caller MOST_BYTES old new end) (limit : ℕ) → end ≡ end_of.ByteLimit limit
    → (limit ≡ MOST_BYTES) × (length served.taken ≡ MOST_BYTES)
lines_limit caller old new end_of.Done served limit is = cc
lines_limit caller old new end_of.ReadFault served limit is = cc
lines_limit caller old new end_of.WriteFault served limit is = cc
lines_limit caller old new (end_of.ByteLimit told) served limit is = (limit_is told limit is served.within.0, served.within.1)
lines_limit caller old new end_of.Memory served limit is = cc

lines_none : (caller : Caller) (old new : Stand) (end : End) (served : Serves caller MOST_BYTES old new end) → end ≡ end_of.Memory → served.taken ≡ []
lines_none caller old new end_of.Done served is = cc
lines_none caller old new end_of.ReadFault served is = cc
lines_none caller old new end_of.WriteFault served is = cc
lines_none caller old new (end_of.ByteLimit limit) served is = cc
lines_none caller old new end_of.Memory served is = served.session.0

requests_done : (caller : Caller) (old new : Stand) (end : End) (served : ServesRequests caller MOST_BYTES old new end) → end ≡ end_of.Done → (input : List ℕ)
    → Consumes (Some input) new.incoming.left served.taken → TakesAll true input served.taken
requests_done caller old new end_of.Done served is input takes = ⊎_elim
    (λ closed. inr (record { entries = entries_of served.session.exchanges; are = served.session.requests; closes = closed.0 }, closed.1))
    (λ ended. inl (taken_whole input served.taken new.incoming.left takes ended.0, ended.1))
    served.over
requests_done caller old new end_of.ReadFault served is input takes = cc
requests_done caller old new end_of.WriteFault served is input takes = cc
requests_done caller old new (end_of.ByteLimit limit) served is input takes = cc
requests_done caller old new end_of.Memory served is input takes = cc

requests_limit : (caller : Caller) (old new : Stand) (end : End) (served : ServesRequests caller MOST_BYTES old new end) (limit : ℕ) → end ≡ end_of.ByteLimit limit
    → (limit ≡ MOST_BYTES) × (length served.taken ≡ MOST_BYTES)
requests_limit caller old new end_of.Done served limit is = cc
requests_limit caller old new end_of.ReadFault served limit is = cc
requests_limit caller old new end_of.WriteFault served limit is = cc
requests_limit caller old new (end_of.ByteLimit told) served limit is = (limit_is told limit is served.over.0, served.over.1)
requests_limit caller old new end_of.Memory served limit is = cc

requests_none : (caller : Caller) (old new : Stand) (end : End) (served : ServesRequests caller MOST_BYTES old new end) → end ≡ end_of.Memory → served.taken ≡ []
requests_none caller old new end_of.Done served is = cc
requests_none caller old new end_of.ReadFault served is = cc
requests_none caller old new end_of.WriteFault served is = cc
requests_none caller old new (end_of.ByteLimit limit) served is = cc
requests_none caller old new end_of.Memory served is = served.session.0

took : (http : Bool) (caller : Caller) (old new : Stand) (end : End) → IsServed http caller old new end → Took http old new end
took true caller old new end served = record {
  taken = served.taken;
  takes = served.takes;
  faults = served.faults;
  done = requests_done caller old new end served;
  limit = requests_limit caller old new end served;
  none = requests_none caller old new end served;
}
took false caller old new end served = record {
  taken = served.taken;
  takes = served.takes;
  faults = served.faults;
  done = lines_done caller old new end served;
  limit = lines_limit caller old new end served;
  none = lines_none caller old new end served;
}

-- a visit's session
abbrev took_by : (caller : Caller) (visit : Visit) → IsVisit caller visit → Took visit.http visit.before visit.after visit.end
took_by caller visit session = took visit.http caller visit.before visit.after visit.end session.serves

visit_counts : (caller : Caller) (visit : Visit) → IsVisit caller visit → CountsAs visit.end visit.after.incoming.faults visit.after.outgoing.faults
visit_counts caller visit session =
    let faults = (took_by caller visit session).faults in counts_as visit.end visit.after.incoming.faults visit.after.outgoing.faults
    (faults.reads ∙ ap (counted (is_read_fault visit.end)) session.fresh.no_read_fault)
    (faults.writes ∙ ap (counted (is_write_fault visit.end)) session.fresh.no_write_fault)

takes_as : (http : Bool) (old new : Stand) (end : End) (served : Took http old new end) (input : List ℕ)
    → Consumes (Some input) new.incoming.left served.taken → TakesAs http end input served.taken
takes_as http old new end_of.Done served input takes = served.done refl input takes
takes_as http old new end_of.ReadFault served input takes = tt
takes_as http old new end_of.WriteFault served input takes = tt
takes_as http old new (end_of.ByteLimit limit) served input takes = served.limit limit refl
takes_as http old new end_of.Memory served input takes = served.none refl

keeps_input : (caller : Caller) (visit : Visit) (session : IsVisit caller visit) (input : List ℕ) → TellsInput visit.before.incoming input
    → KeepsInput visit.http input (served_by visit)
keeps_input caller visit session input tells =
    let served = took_by caller visit session in
    let takes = subst (λ left. Consumes left visit.after.incoming.left served.taken) tells.left served.takes.left in record {
      bytes = served.taken;
      kept = kept_whole served.taken visit.after.incoming.taken (subst (λ taken. Appends taken visit.after.incoming.taken served.taken) tells.taken served.takes.taken);
      first = taken_first input served.taken visit.after.incoming.left takes;
      by_end = takes_as visit.http visit.before visit.after visit.end served input takes;
    }

pub fits_kept : (caller : Caller) (visit : Visit) → IsVisit caller visit → FitsKept (served_by visit)
fits_kept caller visit session = record {
  counts = visit_counts caller visit session;
  limit = λ limit is. ((took_by caller visit session).limit limit is).0;
  nothing_read = λ memory. subst (λ (stand : Stand). IfSome stand.incoming.taken (λ bytes. bytes ≡ [])) (sym (session.untouched memory)) session.fresh.nothing_read;
  nothing_written = λ memory. subst (λ (stand : Stand). IfSome stand.outgoing.written (λ bytes. bytes ≡ [])) (sym (session.untouched memory)) session.fresh.nothing_written;
}

pub kept_ends : (caller : Caller) (visit : Visit) → IsVisit caller visit → HasCause visit.http (sides_before visit) (served_by visit)
kept_ends caller visit session = record { fits = fits_kept caller visit session; input = keeps_input caller visit session }

-- those that left the waiting ones, and those that still wait, are all that waited
pub record AreAll (left : Option (List Sides)) (waiting gone : List Sides) : Type 0 where
  pub rest : List Sides
  pub still : left ≡ Some rest
  pub whole : waiting ≡ gone ++ rest

pub are_all : (before left : Option (List Sides)) (waiting gone : List Sides) → before ≡ Some waiting → before ≡ option_map (λ rest. gone ++ rest) left
    → AreAll left waiting gone
are_all before None waiting gone is waited = let none : Some waiting ≡ None = sym is ∙ waited in cc
are_all before (Some rest) waiting gone is waited = let both : Some waiting ≡ Some (gone ++ rest) = sym is ∙ waited in record { rest = rest; still = refl; whole = cc }

pub serve_all : (before after : WorkerState) (works : Works before after) (waiting : List Sides) → after.fault ≡ false → before.gate.waiting ≡ Some waiting
    → map sides_before works.visits ≡ take before.left waiting
serve_all before after works waiting no_fault is =
    let gone = map sides_before works.visits in
    let all = are_all before.gate.waiting after.gate.waiting waiting gone is works.serves.waited in
    by_stop all works.stopped where
      by_stop : AreAll after.gate.waiting waiting (map sides_before works.visits) → IsStopped after
          → map sides_before works.visits ≡ take before.left waiting
      by_stop all (inl none) =
          sym (ap (take before.left) all.whole
          ∙ ap (λ n. take n (map sides_before works.visits ++ all.rest)) (omega (arith, none, works.serves.count, length-map works.visits sides_before))
          ∙ take-append_seam (map sides_before works.visits) all.rest)
      by_stop all (inr (inl fault)) = let other : true ≡ false = sym fault ∙ no_fault in cc
      by_stop all (inr (inr none)) =
          let whole = all.whole ∙ ap (λ rest. map sides_before works.visits ++ rest) (subst (λ left. IfSome left (λ sides. sides ≡ [])) all.still none.none_waits) ∙ append-nil (map sides_before works.visits) in
          sym (ap (take before.left) whole ∙ take_all before.left (map sides_before works.visits) (omega (arith, works.serves.count, length-map works.visits sides_before)))

pub none_left : (before after : WorkerState) (works : Works before after) → after.fault ≡ false → 0 < after.left → GivesNoMore after.gate
none_left before after works no_fault more = by_stop works.stopped where
  by_stop : IsStopped after → GivesNoMore after.gate
  by_stop (inl none) = absurd (omega (arith, none, more))
  by_stop (inr (inl fault)) = let other : true ≡ false = sym fault ∙ no_fault in cc
  by_stop (inr (inr none)) = none

-- fewer bytes can't reach the limit
below_limit : (http : Bool) (old new : Stand) (end : End) (served : Took http old new end) (input : List ℕ) → old.incoming.left ≡ Some input
    → length input < MOST_BYTES → length served.taken < MOST_BYTES
below_limit http old new end served input is few =
    let first = taken_first input served.taken new.incoming.left (subst (λ left. Consumes left new.incoming.left served.taken) is served.takes.left) in
    omega (arith, few, ap length first.1, length-append served.taken first.0)

ends_well : (http : Bool) (before after : Stand) (end : End) (served : Took http before after end) → CountsAs end after.incoming.faults after.outgoing.faults
    → length served.taken < MOST_BYTES → after.incoming.faults ≡ 0 → after.outgoing.faults ≡ 0 → (end ≡ end_of.Done) ⊎ (end ≡ end_of.Memory)
ends_well http before after end_of.Done served counts few reads writes = inl refl
ends_well http before after end_of.ReadFault served counts few reads writes = absurd (omega (arith, counts.0, reads))
ends_well http before after end_of.WriteFault served counts few reads writes = absurd (omega (arith, counts.1, writes))
ends_well http before after (end_of.ByteLimit limit) served counts few reads writes = absurd (omega (arith, (served.limit limit refl).1, few))
ends_well http before after end_of.Memory served counts few reads writes = inr refl

pub visit_ends_well : (caller : Caller) (visit : Visit) → IsVisit caller visit → HasFewBytes (sides_before visit) → VisitHasNoFault visit → SessionEndsWell visit
visit_ends_well caller visit session small well =
    let served = took_by caller visit session in
    ends_well visit.http visit.before visit.after visit.end served (visit_counts caller visit session)
    (below_limit visit.http visit.before visit.after visit.end served small.input small.left small.few) well.reads well.writes

all_end_well : (caller : Caller) (visits : List Visit) (rest : List Sides) → All (IsVisit caller) visits → All HasFewBytes (map sides_before visits ++ rest)
    → All VisitHasNoFault visits → All SessionEndsWell visits
all_end_well caller [] rest sessions few none = All-nil SessionEndsWell
all_end_well caller (visit ∷ visits) rest sessions few none =
    All-cons SessionEndsWell visit visits
    (visit_ends_well caller visit (All-head (IsVisit caller) visit visits sessions) (All-head HasFewBytes (sides_before visit) (map sides_before visits ++ rest) few)
    (All-head VisitHasNoFault visit visits none))
    (all_end_well caller visits rest (All-tail (IsVisit caller) visit visits sessions) (All-tail HasFewBytes (sides_before visit) (map sides_before visits ++ rest) few)
    (All-tail VisitHasNoFault visit visits none))

pub without_a_fault : (before after : WorkerState) (works : Works before after) (waiting : List Sides) → before.gate.waiting ≡ Some waiting
    → All HasFewBytes waiting → All VisitHasNoFault works.visits → All SessionEndsWell works.visits
without_a_fault before after works waiting is few none =
    let all = are_all before.gate.waiting after.gate.waiting waiting (map sides_before works.visits) is works.serves.waited in
    all_end_well before.caller works.visits all.rest works.serves.sessions (subst (All HasFewBytes) all.whole few) none

-- where no session found no memory, each is done
done_one : (visit : Visit) → SessionEndsWell visit → is_memory visit.end ≡ false → visit.end ≡ end_of.Done
done_one visit (inl done) none = done
done_one visit (inr memory) none = let other : true ≡ false = sym (ap is_memory memory) ∙ none in cc

all_done : (visits : List Visit) → list_any (λ visit. is_memory visit.end) visits ≡ false → All SessionEndsWell visits → All (λ visit. visit.end ≡ end_of.Done) visits
all_done [] none well = All-nil (λ (visit : Visit). visit.end ≡ end_of.Done)
all_done (visit ∷ visits) none well =
    let neither = neither (is_memory visit.end) (list_any (λ (v : Visit). is_memory v.end) visits) none in
    All-cons (λ (visit : Visit). visit.end ≡ end_of.Done) visit visits
    (done_one visit (All-head SessionEndsWell visit visits well) neither.0)
    (all_done visits neither.1 (All-tail SessionEndsWell visit visits well))

pub with_memory : (before after : WorkerState) (works : Works before after) → after.memory ≡ false → All SessionEndsWell works.visits
    → All (λ visit. visit.end ≡ end_of.Done) works.visits
with_memory before after works none well = all_done works.visits (sym works.serves.memory ∙ none) well
