use Rattle.std.proofs.Common.{◌≡◌, List, ap, sym, ◌∙◌, subst, inl, inr}
use Rattle.commit_desk.specs.Layouts.{IsLayoutOf}
use Rattle.commit_desk.specs.Passes.{HasCleared, IsToClear}
use Rattle.funnel_model.specs.declared.claim.Claim.{Claim}
use Rattle.funnel_model.specs.declared.event.Event.{Event}
use Rattle.slice_recycler.proofs.Recycles.{can_clear, has_cleared}
use Rattle.slice_rule.specs.Pools.{PoolId}
use Rattle.slice_rule.specs.Seats.{PassState}
use Rattle.engine.proofs.Claims.{cleared_first}
use Rattle.engine.proofs.Sizes.{is_room_of}
use Rattle.engine.proofs.engine_pool.EnginePool.claim.Goals as goal

pub clear-requires : goal.clear-requires
clear-requires g c =
    let pool = c.self.inside.pool in
    let job = c.in-Clear.to_clear.job in
    let seat = c.take.new.pass in
    can_clear pool seat job c.self.inside.room (subst (λ (p : PoolId). IsToClear p job seat) (sym c.self.view_is) c.in-Clear.ensures.next.0)
    (is_room_of pool c.self.inside.room c.self.invariant.of_config c.self.invariant.room_is)

pub opened_take-requires : goal.opened_take-requires
opened_take-requires g c =
    let job = c.in-Clear.to_clear.job in
    let seat = c.take.new.pass in
    let next = c.clear.new.seat in
    let view : c.self.inside.pool ≡ c.args.self.now = c.self.view_is in
    record {
      at = c.take.ensures.at;
      cleared = subst (λ (p : PoolId). HasCleared p job next) view
          (has_cleared c.self.inside.pool job seat next (subst (λ (p : PoolId). IsToClear p job seat) (sym view) c.in-Clear.ensures.next.0) c.clear.ensures);
      slots = c.empty.ensures ∙ c.in-Clear.ensures.next.1;
    }

pub returns-in-Claim-clause-turns : goal.returns-in-Claim-clause-turns
returns-in-Claim-clause-turns g c = inl (record { layout = c.in-Claim.layout; took = c.in-Claim.ensures.turns })

pub returns-in-Clear-clause-turns : goal.returns-in-Clear-clause-turns
returns-in-Clear-clause-turns g c =
    let pass = c.args.pass.now in
    let doc = c.args.doc.now in
    let opened = c.opened_take.ensures in
    inr (cleared_first c.args.self.now.limits pass.number c.args.replaces doc.id doc.text pass.front c.opened_take.new.pass.front c.in-Clear.to_clear c.in-Clear.layout c.opened_take.result c.take.new.pass c.clear.new.seat
    c.in-Clear.ensures.turns c.in-Clear.ensures.next.1 c.take.ensures.number c.clear.ensures.same opened.turn (ap (λ (k : Claim). k.slice) opened.claim) (ap (λ (k : Claim). k.column) opened.claim))

-- the slice has the layout that it had as the pass began to clear it
pub returns-in-Clear-clause-next : goal.returns-in-Clear-clause-next
returns-in-Clear-clause-next g c =
    let pool = c.args.self.now in
    let slice = c.in-Clear.to_clear.job.slice in
    let layout = c.in-Clear.layout in
    let front = ap (λ (p : PassState). p.front) c.clear.ensures.same in
    c.opened_take.ensures.next layout (subst (λ (h : List Event). IsLayoutOf pool.config slice h layout) (sym front) c.in-Clear.ensures.next.2)
