use Rattle.std.proofs.Common.{◌≡◌, ◌++◌, Bool, List, ℕ, ap, sym, subst, ◌∙◌, Option, Result, Ok, Err}
use Rattle.std.specs.Prelude.{IfOk, MatchResult}
use Rattle.commit_desk.specs.Scans.{AreOfToken}
use Rattle.engine.proofs.FindParts.{goes_on_from, look_still}
use Rattle.engine.proofs.Looked.{adds_found}
use Rattle.engine.specs.Engines.{IsOfConfig}
use Rattle.engine.specs.Finds.{AddsFound, CanLookIn, FindEnds, HasEndedFind, IsOpenOrEnded}
use Rattle.engine.specs.Searches.{is_kept_by}
use Rattle.engine.specs.declared.search.Search.{Search}
use Rattle.funnel_model.specs.declared.claim.Token.{Token}
use Rattle.funnel_model.specs.declared.memory.Memory.{Memory}
use Rattle.funnel_model.specs.Legal.{IsLegal}
use Rattle.slice_rule.specs.Pools.{PoolId}
use Rattle.slice_rule.specs.Seats.{PassState}
use Rattle.engine.proofs.engine_pool.EnginePool.look_in.Goals as goal

pub drop_find-requires : goal.drop_find-requires
drop_find-requires g c = record {
  at = c.requires.at;
  finding = (look_still c.args.self.now c.args.next.token c.args.next.entry.now c.args.pass.now c.scan_entry.new.pass c.scan_entry.ensures.seat c.requires.can).finding;
}

pub returns-in_default-clause-goes_on : goal.returns-in_default-clause-goes_on
returns-in_default-clause-goes_on g c = (
  subst (λ (p : PassState). FindEnds p.number p.front c.drop_find.new.pass.front) c.scan_entry.ensures.seat c.drop_find.ensures.turn,
  c.drop_find.ensures.rests,
)

pub returns-in_default-clause-number : goal.returns-in_default-clause-number
returns-in_default-clause-number g c = c.drop_find.ensures.number ∙ ap (λ (p : PassState). p.number) c.scan_entry.ensures.seat

pub look_at-requires-clause-finding : goal.look_at-requires-clause-finding
look_at-requires-clause-finding g c =
    (look_still c.args.self.now c.args.next.token c.args.next.entry.now c.args.pass.now c.scan_entry.new.pass c.scan_entry.ensures.seat c.requires.can).finding

pub look_at-requires-clause-of_token : goal.look_at-requires-clause-of_token
look_at-requires-clause-of_token g c =
    let token = c.args.next.token in
    let next = c.scan_entry.new.pass in
    let can = look_still c.args.self.now token c.args.next.entry.now c.args.pass.now next c.scan_entry.ensures.seat c.requires.can in
    let is = c.in-Ok.ensures.scanned in
    let hits = c.in-Ok.scanned.hits in
    subst (λ (p : PoolId). AreOfToken p.limits.columns token (hits.sure ++ hits.unsure)) can.finding.seated.same
    (λ candidate has. let of = is.scan.of_token candidate has in record { slice = can.among candidate.0 of.slice; column = of.column })

if_ok : {A E : Type 0} {P Q : Type 0} (r : Result A E) → (P → Q) → IfOk r (λ _. P) → IfOk r (λ _. Q)
if_ok (Ok a) f p = f p
if_ok (Err e) f p = tt

-- what is found from a pass that read something is found from that pass before
found_still : (test : List ℕ → Bool) (pass next : PassState) (token : Token) (slices : List ℕ) (before after : List (ℕ × ℕ)) →
    AddsFound test (record pass { own = next.own; told = next.told }) token slices before after → AddsFound test pass token slices before after
found_still test pass next token slices before after adds = record {
  candidates = adds.candidates;
  each_once = adds.each_once;
  in_slices = adds.in_slices;
  finds = adds.finds;
  all = adds.all;
}

pub returns-clause-found : goal.returns-clause-found
returns-clause-found g c =
    let pool = c.args.self.now in
    let token = c.args.next.token in
    let entry = c.args.next.entry.now in
    let pass = c.args.pass.now in
    let next = c.scan_entry.new.pass in
    let before : List (ℕ × ℕ) = c.args.out.now.found in
    let after : List (ℕ × ℕ) = c.look_at.new.out.found in
    let seat = c.scan_entry.ensures.seat in
    let can : CanLookIn pool next token entry = look_still pool token entry pass next seat c.requires.can in
    let of_config : IsOfConfig pool = subst IsOfConfig c.self.view_is c.self.invariant.of_config in
    let made = c.in-Ok.ensures in
    let legal : IsLegal pool.limits next.front =
    subst (λ (p : PassState). IsLegal pool.limits p.front) (sym seat) (subst (λ (p : PoolId). IsLegal p.limits pass.front) c.requires.can.finding.seated.same c.number.ensures.legal) in
    if_ok c.look_at.result
    (λ found.
    subst (λ (s : Search). AddsFound (is_kept_by s) pass token entry.slices before after) made.search
    (found_still (is_kept_by c.in-Ok.scanned.search.now) pass next token entry.slices before after
    (subst (λ (p : PassState). AddsFound (is_kept_by c.in-Ok.scanned.search.now) p token entry.slices before after) seat
    (adds_found pool next token entry of_config can legal c.in-Ok.scanned made.scanned before after found))))
    c.look_at.ensures.found

-- an answer goes on so from the pass before the scan
on_still : (pool : PoolId) (token : Token) (last : Bool) (pass next after : PassState) (seat : next ≡ record pass { own = next.own; told = next.told }) (answer : Result (Option Token) Memory) →
    MatchResult answer (IsOpenOrEnded pool token last next after) (λ _. HasEndedFind pool next after) → MatchResult answer (IsOpenOrEnded pool token last pass after) (λ _. HasEndedFind pool pass after)
on_still pool token last pass next after seat (Ok kept) on = goes_on_from pool token last pass next after seat kept on
on_still pool token last pass next after seat (Err none) on = (subst (λ (p : PassState). FindEnds p.number p.front after.front) seat on.0, on.1)

pub returns-clause-goes_on : goal.returns-clause-goes_on
returns-clause-goes_on g c =
    on_still c.args.self.now c.args.next.token c.args.next.last c.args.pass.now c.scan_entry.new.pass c.look_at.new.pass c.scan_entry.ensures.seat c.look_at.result c.look_at.ensures.goes_on

pub returns-clause-number : goal.returns-clause-number
returns-clause-number g c = c.look_at.ensures.number ∙ ap (λ (p : PassState). p.number) c.scan_entry.ensures.seat
