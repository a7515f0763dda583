use Rattle.std.proofs.Common.{◌≡◌, false, List, ℕ, Bool, Option, Some, None, Result, Ok, Err, sym, subst, ◌∙◌}
use Rattle.std.proofs.lemmas.List.Elements.{Contains-append_left, Contains-append_right}
use Rattle.std.specs.Prelude.{IfOk, MatchResult}
use Rattle.engine.proofs.FindParts.{ended_from}
use Rattle.engine.proofs.Looked.{finds_both, finds_sure}
use Rattle.engine.proofs.Moves.{front_goes_on}
use Rattle.engine.specs.Finds.{FindsIn, HasEndedFind, IsOpenOrEnded}
use Rattle.engine.specs.Looks.{rest_of}
use Rattle.engine.specs.Searches.{residue_of}
use Rattle.engine.specs.declared.scanning.Scanned.{Scanned}
use Rattle.commit_desk.specs.Passes.{IsFinding}
use Rattle.commit_desk.specs.Scans.{AreOfToken, keeps_text}
use Rattle.funnel_model.proofs.Absence.{empty_by_length}
use Rattle.funnel_model.specs.History.{IsFrontOf}
use Rattle.funnel_model.specs.Searches.{has_all}
use Rattle.funnel_model.specs.WordExprs.{each_searched}
use Rattle.funnel_model.specs.declared.word_expr.WordExpr.{WordExpr}
use Rattle.funnel_model.specs.declared.claim.Token.{Token}
use Rattle.funnel_model.specs.declared.memory.Memory.{Memory}
use Rattle.slice_rule.specs.Pools.{PoolId}
use Rattle.slice_rule.specs.Seats.{PassState}
use Rattle.engine.proofs.engine_pool.EnginePool.look_at.Goals as goal

if_ok : {A E : Type 0} {P Q : Type 0} (r : Result A E) → (P → Q) → IfOk r (λ _. P) → IfOk r (λ _. Q)
if_ok (Ok a) f p = f p
if_ok (Err e) f p = tt

-- how a find goes on from a later pass, where it is open still, is how it goes on from the first
on_from : (pool : PoolId) (token : Token) (last : Bool) (first pass after : PassState) (number : pass.number ≡ first.number) (goes : IsFrontOf first.number first.front pass.front)
    (answer : Result (Option Token) Memory) → MatchResult answer (IsOpenOrEnded pool token last pass after) (λ _. HasEndedFind pool pass after) →
    MatchResult answer (IsOpenOrEnded pool token last first after) (λ _. HasEndedFind pool first after)
on_from pool token last first pass after number goes (Ok (Some kept)) on =
    (on.0, on.1, on.2, front_goes_on first.number first.front pass.front after.front goes (subst (λ n. IsFrontOf n pass.front after.front) number on.3))
on_from pool token last first pass after number goes (Ok None) on = (on.0, ended_from pool first pass after number goes on.1)
on_from pool token last first pass after number goes (Err none) on = ended_from pool first pass after number goes on

-- the candidates of the first list are columns that the find may read
pub resolve-requires-clause-of_token : goal.resolve-requires-clause-of_token
resolve-requires-clause-of_token g c candidate has =
    let hits = c.args.scanned.now.hits in
    c.requires.of_token candidate (Contains-append_left hits.sure hits.unsure candidate has)

-- what candidates give by a test is what they give by the same test
given_by : (pass : PassState) (token : Token) (candidates before after : List (ℕ × ℕ)) (scanned : Scanned) (rest : List (List ℕ)) → rest ≡ rest_of scanned →
    FindsIn (λ text. has_all text rest) pass token candidates before after → FindsIn (λ text. has_all text (rest_of scanned)) pass token candidates before after
given_by pass token candidates before after scanned rest is = subst (λ (words : List (List ℕ)). FindsIn (λ text. has_all text words) pass token candidates before after) is

kept_by : (pass : PassState) (token : Token) (candidates before after : List (ℕ × ℕ)) (scanned : Scanned) (rest : List (List ℕ)) (residue : List WordExpr) → rest ≡ rest_of scanned →
    residue ≡ scanned.search.now.residue.items → FindsIn (keeps_text rest (each_searched residue)) pass token candidates before after →
    FindsIn (keeps_text (rest_of scanned) (residue_of scanned.search.now)) pass token candidates before after
kept_by pass token candidates before after scanned rest residue is same found =
    subst (λ (es : List WordExpr). FindsIn (keeps_text (rest_of scanned) (each_searched es)) pass token candidates before after) same
    (subst (λ (words : List (List ℕ)). FindsIn (keeps_text words (each_searched residue)) pass token candidates before after) is found)

-- no column is in doubt
pub returns-then-len-eq0-clause-found : goal.returns-then-len-eq0-clause-found
returns-then-len-eq0-clause-found g c =
    let scanned = c.args.scanned.now in
    let pass = c.args.pass.now in
    let before = c.args.out.now.found in
    let after = c.resolve.new.out.found in
    let none = empty_by_length scanned.hits.unsure (sym c.len.ensures ∙ c.if-len-eq0.true) in
    if_ok c.resolve.result
    (λ found. finds_sure scanned pass c.args.token before after none (given_by pass c.args.token scanned.hits.sure before after scanned c.words-rest.result.now c.words-rest.ensures found)) c.resolve.ensures.found

pub resolve-requires-2-clause-of_token : goal.resolve-requires-2-clause-of_token
resolve-requires-2-clause-of_token g c candidate has =
    let hits = c.args.scanned.now.hits in
    c.requires.of_token candidate (Contains-append_left hits.sure hits.unsure candidate has)

-- the find is open still after the first list
pub resolve-requires-3-clause-finding : goal.resolve-requires-3-clause-finding
resolve-requires-3-clause-finding g c =
    let pool = c.args.self.now in
    let next = c.resolve-2.new.pass in
    let on = subst (λ (o : Option Token). IsOpenOrEnded pool c.args.token false c.args.pass.now next o) c.in-Some.is c.in_ok-token.ensures.goes_on in
    subst (λ (t : Token). IsFinding pool t next) (sym on.1) on.2

pub resolve-requires-3-clause-of_token : goal.resolve-requires-3-clause-of_token
resolve-requires-3-clause-of_token g c =
    let pool = c.args.self.now in
    let hits = c.args.scanned.now.hits in
    let on = subst (λ (o : Option Token). IsOpenOrEnded pool c.args.token false c.args.pass.now c.resolve-2.new.pass o) c.in-Some.is c.in_ok-token.ensures.goes_on in
    subst (λ (t : Token). AreOfToken pool.limits.columns t hits.unsure) (sym on.1)
    (λ candidate has. c.requires.of_token candidate (Contains-append_right hits.sure hits.unsure candidate has))

pub returns-clause-found : goal.returns-clause-found
returns-clause-found g c =
    let pool = c.args.self.now in
    let scanned = c.args.scanned.now in
    let pass = c.args.pass.now in
    let token = c.args.token in
    let next = c.resolve-2.new.pass in
    let before = c.args.out.now.found in
    let middle = c.resolve-2.new.out.found in
    let after = c.resolve-3.new.out.found in
    let first = c.in_ok-token.ensures in
    let on = subst (λ (o : Option Token). IsOpenOrEnded pool token false pass next o) c.in-Some.is first.goes_on in
    let sure = given_by pass token scanned.hits.sure before middle scanned c.words-rest.result.now c.words-rest.ensures first.found in
    if_ok c.resolve-3.result
    (λ found.
    finds_both scanned pass next token before middle after c.resolve-2.ensures.number on.3 sure
    (kept_by next token scanned.hits.unsure middle after scanned c.of.result.rest.now c.of.result.residue.now (c.of.ensures.rest ∙ c.words-rest.ensures) c.of.ensures.residue
    (subst (λ (t : Token). FindsIn (keeps_text c.of.result.rest.now (each_searched c.of.result.residue.now)) next t scanned.hits.unsure middle after) on.1 found)))
    c.resolve-3.ensures.found

pub returns-clause-goes_on : goal.returns-clause-goes_on
returns-clause-goes_on g c =
    let pool = c.args.self.now in
    let pass = c.args.pass.now in
    let token = c.args.token in
    let next = c.resolve-2.new.pass in
    let after = c.resolve-3.new.pass in
    let on = subst (λ (o : Option Token). IsOpenOrEnded pool token false pass next o) c.in-Some.is c.in_ok-token.ensures.goes_on in
    on_from pool token c.args.last pass next after c.resolve-2.ensures.number on.3 c.resolve-3.result
    (subst (λ (t : Token). MatchResult c.resolve-3.result (IsOpenOrEnded pool t c.args.last next after) (λ _. HasEndedFind pool next after)) on.1 c.resolve-3.ensures.goes_on)
