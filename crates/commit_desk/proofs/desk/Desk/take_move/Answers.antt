use Rattle.std.proofs.Common.{◌≡◌, ℕ, length, refl, sym, ap, ◌∙◌, subst}
use Rattle.funnel_model.specs.declared.claim.Claim.{Claim}
use Rattle.funnel_model.specs.Legal.{IsIdle, MayTake}
use Rattle.funnel_model.specs.Slices.{claimed}
use Rattle.commit_desk.specs.Answers.{TakesCalls}
use Rattle.commit_desk.specs.Desks.{DeskState}
use Rattle.commit_desk.specs.Moving.{MayTakeFor, MayTakeNone}
use Rattle.commit_desk.specs.declared.look.Look.{Look}
use Rattle.commit_desk.proofs.FindTurns.{desk_is}
use Rattle.commit_desk.proofs.Turns.{idle_now}
use Rattle.commit_desk.proofs.desk.Desk.take_move.Goals as goal
use Rattle.commit_desk.proofs.desk.Desk.take_move.Goals.{After-slice_for_move}

view_now : (c : After-slice_for_move) → ◌≡◌ {A = DeskState} (record { pool = c.catch_up.new.home.pool; events_limit = c.self.inside.events_limit; history = c.catch_up.new.home.history }) c.args.self.now
view_now c = desk_is c.args.self.now c.self.inside.home c.catch_up.new.home c.self.inside.events_limit c.self.view_is c.catch_up.ensures.home

idle_then : (c : After-slice_for_move) → IsIdle c.catch_up.new.seat.number c.catch_up.new.home.history
idle_then c =
    let e = c.catch_up.ensures in idle_now c.args.seat.now c.catch_up.new.seat c.catch_up.new.home.history e.seat e.none_since e.front c.requires.idle

-- what may be claimed, or why nothing may
none_for : (c : After-slice_for_move) → MayTakeNone c.self.inside.events_limit c.catch_up.new.home.pool.limits c.catch_up.new.home.history c.catch_up.new.seat.number c.args.look →
    MayTakeNone c.args.self.now.events_limit c.args.self.now.pool.limits c.args.self.now.history c.args.seat.now.number c.args.look
none_for c none =
    subst (λ n. MayTakeNone c.args.self.now.events_limit c.args.self.now.pool.limits c.args.self.now.history n c.args.look) c.catch_up.ensures.seat.number
    (subst (λ (d : DeskState). MayTakeNone d.events_limit d.pool.limits d.history c.catch_up.new.seat.number c.args.look) (view_now c) none)

abbrev MayTakeNext : DeskState → ℕ → Look → ℕ → Type 0
MayTakeNext d pass look slice = MayTakeFor d.events_limit d.pool.limits d.history pass look slice (length (claimed slice d.history))

may_for : (c : After-slice_for_move) (slice : ℕ) →
    MayTakeNext (record { pool = c.catch_up.new.home.pool; events_limit = c.self.inside.events_limit; history = c.catch_up.new.home.history }) c.catch_up.new.seat.number c.args.look slice →
    MayTakeNext c.args.self.now c.args.seat.now.number c.args.look slice
may_for c slice may =
    subst (λ n. MayTakeNext c.args.self.now n c.args.look slice) c.catch_up.ensures.seat.number
    (subst (λ (d : DeskState). MayTakeNext d c.catch_up.new.seat.number c.args.look slice) (view_now c) may)

pub claim_laid-requires-clause-takes_calls : goal.claim_laid-requires-clause-takes_calls
claim_laid-requires-clause-takes_calls c =
    let may = c.in-Some.ensures.answer c.catch_up.new.seat.number (idle_then (goal.at.claim_laid-requires-clause-takes_calls c).After-slice_for_move) in
    subst (λ (d : DeskState). TakesCalls d.events_limit d.history) (sym c.in-Some.ensures.same) may.takes_calls

pub claim_laid-requires-clause-may : goal.claim_laid-requires-clause-may
claim_laid-requires-clause-may c =
    let may = c.in-Some.ensures.answer c.catch_up.new.seat.number (idle_then (goal.at.claim_laid-requires-clause-may c).After-slice_for_move) in
    subst (λ (d : DeskState). MayTake d.pool.limits d.history c.catch_up.new.seat.number c.in-Some.slice (length (claimed c.in-Some.slice d.history))) (sym c.in-Some.ensures.same) may.may

pub returns-in_default-clause-answer : goal.returns-in_default-clause-answer
returns-in_default-clause-answer c =
    let at = (goal.at.returns-in_default-clause-answer c).After-slice_for_move in
    (none_for at (c.in_default.ensures.answer c.catch_up.new.seat.number (idle_then at)), c.end.ensures.doc)

pub returns-in-Ok-clause-answer : goal.returns-in-Ok-clause-answer
returns-in-Ok-clause-answer c =
    let at = (goal.at.returns-in-Ok-clause-answer c).After-slice_for_move in
    let now = c.args.self.now in
    let pass = c.args.seat.now.number in
    let may = may_for at c.in-Some.slice (c.in-Some.ensures.answer c.catch_up.new.seat.number (idle_then at)) in
    let same = c.in-Some.ensures.same ∙ view_now at in
    let claim : c.in-Ok.claim ≡ record { slice = c.in-Some.slice; column = length (claimed c.in-Some.slice now.history) } =
    c.in-Ok.ensures.claim ∙ ap (λ (d : DeskState). let k : Claim = record { slice = c.in-Some.slice; column = length (claimed c.in-Some.slice d.history) } in k) same in
    (subst (λ (k : Claim). MayTakeFor now.events_limit now.pool.limits now.history pass c.args.look k.slice k.column) (sym claim) may, refl)

pub returns-in-Err-clause-answer : goal.returns-in-Err-clause-answer
returns-in-Err-clause-answer c =
    let at = (goal.at.returns-in-Err-clause-answer c).After-slice_for_move in
    let may = may_for at c.in-Some.slice (c.in-Some.ensures.answer c.catch_up.new.seat.number (idle_then at)) in
    ((c.in-Some.slice, length (claimed c.in-Some.slice c.args.self.now.history), may), c.end-in-Err.ensures.doc)
