use Rattle.std.proofs.Common.{◌≡◌, ◌≤◌, true, false, [], MatchOption, sym, ap, ◌∙◌, subst, vec_capacity, arith}
use Rattle.funnel_model.specs.declared.config.Config.{Config}
use Rattle.funnel_model.specs.Legal.{Limits}
use Rattle.commit_desk.specs.Answers.{events_of_take}
use Rattle.commit_desk.specs.declared.answers.Taken.TheVariants as taken
use Rattle.slice_rule.specs.Pools.{PoolId}
use Rattle.slice_recycler.specs.Turns.{IsTurn}
use Rattle.engine.specs.Adds.{IsLookForRoom}
use Rattle.engine.proofs.Moves.{front_goes_on, silent_turn}
use Rattle.engine.proofs.Waits.{take_turns, waited_more}
use Rattle.engine.proofs.engine_pool.EnginePool.take.Goals as goal

-- another look is made where it is to wait
pub loop-preserved : goal.loop-preserved
loop-preserved g c =
    let pool = c.args.self.now in
    let limits = pool.limits in
    let pass = c.args.pass.now in
    let doc = c.args.doc.now in
    let so_far = c.loop.invariant in
    let did = c.in-Wait.ensures in
    let slice = c.in-Wait.slice in
    let after = c.look_for_room.new.pass.front in
    let turn : IsTurn pass.number c.loop.pass.front after (IsLookForRoom pool pass.number c.args.replaces doc.id c.loop.awaited false (taken.Wait slice)) [] =
    subst (λ n. IsTurn n c.loop.pass.front after (IsLookForRoom pool n c.args.replaces doc.id c.loop.awaited false (taken.Wait slice)) []) so_far.number did.turn in
    record {
      at = c.look_for_room.ensures.at;
      rests = did.next;
      number = did.number ∙ so_far.number;
      room = subst (λ o. MatchOption o ⊥ (λ empty. (empty.items ≡ []) × (limits.slices ≤ vec_capacity empty))) (sym did.room) so_far.room;
      in_range = turn.answer.look.answers.2.0;
      seen = front_goes_on pass.number pass.front c.loop.pass.front after so_far.seen (silent_turn pass.number c.loop.pass.front after turn);
      waited = waited_more pool pass.number c.args.replaces doc.id c.loop.counter pass.front c.loop.pass.front after c.loop.awaited so_far.waited false slice turn;
    }

pub returns-in_default : goal.returns-in_default
returns-in_default g c =
    let pool = c.args.self.now in
    let limits = pool.limits in
    let pass = c.args.pass.now in
    let doc = c.args.doc.now in
    let so_far = c.loop.invariant in
    let did = c.look_for_room.ensures in
    let after = c.look_for_room.new.pass.front in
    let answer = c.look_for_room.result in
    record {
      turns = take_turns pool pass.number c.args.replaces doc.id c.loop.counter pass.front c.loop.pass.front after c.loop.awaited so_far.waited doc.text false answer so_far.seen (λ is. cc)
          (λ slice is last. c.in_default.not-Wait slice is)
          (subst (λ n. IsTurn n c.loop.pass.front after (IsLookForRoom pool n c.args.replaces doc.id c.loop.awaited false answer) (events_of_take n c.args.replaces doc.id doc.text answer)) so_far.number did.turn);
      next = did.next;
      number = did.number ∙ so_far.number;
      legal = did.legal;
      at = did.at;
    }

pub returns-clause-turns : goal.returns-clause-turns
returns-clause-turns g c =
    let pool = c.args.self.now in
    let limits = pool.limits in
    let pass = c.args.pass.now in
    let doc = c.args.doc.now in
    let so_far = c.loop.invariant in
    let did = c.look_for_room-2.ensures in
    let after = c.look_for_room-2.new.pass.front in
    let answer = c.look_for_room-2.result in
    let is = c.self.invariant in
    let passes : c.self.inside.base.passes ≡ limits.passes =
    ap (λ (k : Config). k.passes) is.based ∙ sym (ap (λ (l : Limits). l.passes) is.of_config.limits) ∙ ap (λ (p : PoolId). p.limits.passes) c.self.view_is in
    let end = c.loop.auto.counter-end in
    let done = c.loop-test.false in
    take_turns pool pass.number c.args.replaces doc.id c.loop.counter pass.front c.loop.pass.front after c.loop.awaited so_far.waited doc.text true answer so_far.seen
    (λ yes. omega (arith, passes, end, done)) (λ slice here last. cc)
    (subst (λ n. IsTurn n c.loop.pass.front after (IsLookForRoom pool n c.args.replaces doc.id c.loop.awaited true answer) (events_of_take n c.args.replaces doc.id doc.text answer)) so_far.number did.turn)
