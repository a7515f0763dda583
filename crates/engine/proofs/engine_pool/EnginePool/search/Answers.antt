use Rattle.std.proofs.Common.{◌≡◌, [], Bool, List, ℕ, ◌∙◌, subst, inr}
use Rattle.engine.proofs.Answered.{answer_same}
use Rattle.engine.proofs.Finds.{ended_turns, kept_turns}
use Rattle.engine.proofs.SearchCalls.{dropped_call, found_call, refused_call, refused_search, unread_search, unread_turns}
use Rattle.std.proofs.lemmas.Result.{err_from_is_err_and}
use Rattle.line_proto.specs.Requests.{sought}
use Rattle.engine.specs.Searches.{KeptTurns, is_kept_by}
use Rattle.funnel_model.specs.declared.event.Event.{Event}
use Rattle.funnel_model.specs.Expressions.{keeps, tree_of}
use Rattle.funnel_model.specs.Legal.{IsIdle, Limits}
use Rattle.engine.proofs.engine_pool.EnginePool.search.Goals as goal

-- an answer by one test is one by another that agrees with it
kept_as : (limits : Limits) (pass : ℕ) (one other : List ℕ → Bool) (before after : List Event) (ids : List ℕ) → ((text : List ℕ) → one text ≡ other text) →
    KeptTurns limits pass one before after ids → KeptTurns limits pass other before after ids
kept_as limits pass one other before after ids same is = record { turns = is.turns; kept = is.kept ∙ answer_same one other is.turns.begun.earlier same }

pub returns-clause-turns : goal.returns-clause-turns
returns-clause-turns g c =
    let limits = c.args.self.now.limits in
    let seat = c.args.pass.now in
    let read = c.in_ok-search.ensures.read in
    let began = c.in_ok-token.ensures in
    let did = c.in-Ok.ensures in
    let search = c.in_ok-search.search in (
      read.0,
      read.1,
      kept_as limits seat.number (is_kept_by search) (keeps (tree_of read.0)) seat.front c.finish.new.pass.front c.in-Ok.ids read.2.kept
          (kept_turns limits seat.number (is_kept_by search) seat.front c.begin.new.pass began.number began.turns c.finish.new.pass.front did.ended c.in-Ok.ids did.found),
    )

pub returns-clause-call : goal.returns-clause-call
returns-clause-call g c told =
    let limits = c.args.self.now.limits in
    let seat = c.args.pass.now in
    let end = c.finish.new.pass in
    let read = c.in_ok-search.ensures.read in
    let began = c.in_ok-token.ensures in
    let did = c.in-Ok.ensures in
    let search = c.in_ok-search.search in
    let number = did.number ∙ began.number in
    let kept = kept_as limits seat.number (is_kept_by search) (keeps (tree_of read.0)) seat.front end.front c.in-Ok.ids read.2.kept
    (kept_turns limits seat.number (is_kept_by search) seat.front c.begin.new.pass began.number began.turns end.front did.ended c.in-Ok.ids did.found) in
    (found_call limits seat.number end.number number told (sought c.args.kept) read.0 read.1 seat.front end.front c.requires.rests.idle did.legal (subst (λ n. IsIdle n end.front) number did.rests.idle) c.in-Ok.ids kept)

-- no memory was found after it had begun
pub returns-in_default-clause-turns : goal.returns-in_default-clause-turns
returns-in_default-clause-turns g c =
    let limits = c.args.self.now.limits in
    let seat = c.args.pass.now in
    let began = c.in_ok-token.ensures in
    let did = c.finish.ensures in
    (inr (inr (ended_turns limits seat.number [] seat.front c.begin.new.pass began.number began.turns c.finish.new.pass.front did.ended)))

pub returns-in_default-clause-call : goal.returns-in_default-clause-call
returns-in_default-clause-call g c told =
    let limits = c.args.self.now.limits in
    let seat = c.args.pass.now in
    let end = c.finish.new.pass in
    let read = c.in_ok-search.ensures.read in
    let began = c.in_ok-token.ensures in
    let did = c.finish.ensures in
    let number = did.number ∙ began.number in
    (dropped_call limits seat.number end.number number told (sought c.args.kept) read.0 read.1 seat.front end.front c.requires.rests.idle did.legal (subst (λ n. IsIdle n end.front) number did.rests.idle)
    (ended_turns limits seat.number [] seat.front c.begin.new.pass began.number began.turns end.front did.ended))

-- the desk refused it
pub returns-in_err-token-clause-turns : goal.returns-in_err-token-clause-turns
returns-in_err-token-clause-turns g c =
    let p = err_from_is_err_and c.from_residual-in_err-token.result c.from_residual-in_err-token.ensures.1 in
    let limits = c.args.self.now.limits in
    let seat = c.args.pass.now in
    let read = c.in_ok-search.ensures.read in
    let after = c.begin.new.pass.front in
    let why = c.in_err-token.field-0.0 in
    rw (p.1, p.2)
    (refused_search limits seat.number (sought c.args.kept) read.0 seat.front after why read.1 c.in_err-token.ensures.turns)

pub returns-in_err-token-clause-call : goal.returns-in_err-token-clause-call
returns-in_err-token-clause-call g c told =
    let p = err_from_is_err_and c.from_residual-in_err-token.result c.from_residual-in_err-token.ensures.1 in
    let limits = c.args.self.now.limits in
    let seat = c.args.pass.now in
    let next = c.begin.new.pass in
    let read = c.in_ok-search.ensures.read in
    let did = c.in_err-token.ensures in
    let why = c.in_err-token.field-0.0 in
    rw (p.1, p.2)
    ((refused_call limits seat.number next.number did.number told (sought c.args.kept) read.0 read.1 seat.front next.front c.requires.rests.idle did.legal (subst (λ n. IsIdle n next.front) did.number did.rests.idle) why
    did.turns))

-- its text was refused
pub returns-in_err-search-clause-turns : goal.returns-in_err-search-clause-turns
returns-in_err-search-clause-turns g c =
    let p = err_from_is_err_and c.from_residual.result c.from_residual.ensures.1 in
    rw (p.1, p.2) (unread_turns c.args.self.now.limits (sought c.args.kept) _ _ c.in_err-search.field-0.0 c.in_err-search.ensures.refused)

pub returns-in_err-search-clause-call : goal.returns-in_err-search-clause-call
returns-in_err-search-clause-call g c told =
    let p = err_from_is_err_and c.from_residual.result c.from_residual.ensures.1 in
    rw (p.1, p.2) (unread_search c.args.self.now.limits (sought c.args.kept) told _ c.in_err-search.field-0.0 c.in_err-search.ensures.refused)
