use Rattle.std.proofs.Common.{◌≡◌, ◌∙◌, Ok, ap, append-nil, arith, inl, inr, subst, sym}
use Rattle.engine.specs.Moves.{EndsMove, LacksMemory, MoveTurns, MovesNone}
use Rattle.engine.proofs.Moves.{front_refl, one_more}
use Rattle.slice_rule.specs.Pools.{PoolId}
use Rattle.engine.proofs.engine_pool.EnginePool.move_some.Goals as goal

pub returns-then-self-eq0-clause-moves : goal.returns-then-self-eq0-clause-moves
returns-then-self-eq0-clause-moves g c =
    let pass = c.args.pass.now in
    let none : c.args.self.now.config.reserve ≡ 0 =
    ap (λ (p : PoolId). p.config.reserve) (sym c.self.view_is) ∙ sym c.self.invariant.kept_free ∙ c.if-self-eq0.true in
    record {
      moves = 0;
      few = omega arith;
      last = pass.front;
      moved = front_refl pass.number pass.front;
      ended = inr (inl (inl (record {
        earlier = pass.front;
        seen = front_refl pass.number pass.front;
        answer = λ slice held empties. let fewer = empties.short.2 in omega (arith, none, fewer);
        made = sym (append-nil pass.front);
      })));
    }

pub returns-in-Ok-false-clause-moves : goal.returns-in-Ok-false-clause-moves
returns-in-Ok-false-clause-moves g c =
    let pool = c.args.self.now in
    let so_far = c.loop.invariant in
    let low = c.loop-test.true in
    let none = subst (λ b. EndsMove pool.config pool.limits c.loop.pass.number c.args.replaces c.args.id c.loop.pass.front c.move_one.new.pass.front (Ok b)) c.in-Ok-false.field-0-test c.in-Ok-false.ensures.moved in
    record {
      moves = c.loop.counter;
      few = omega (arith, low);
      last = c.loop.pass.front;
      moved = so_far.moved;
      ended = inr (inl (subst (λ n. MovesNone pool.config pool.limits n c.args.replaces c.args.id c.loop.pass.front c.move_one.new.pass.front) so_far.number none));
    }

pub returns-in-Err-clause-moves : goal.returns-in-Err-clause-moves
returns-in-Err-clause-moves g c =
    let pool = c.args.self.now in
    let so_far = c.loop.invariant in
    let low = c.loop-test.true in
    record {
      moves = c.loop.counter;
      few = omega (arith, low);
      last = c.loop.pass.front;
      moved = so_far.moved;
      ended = inr (inr (subst (λ n. LacksMemory pool.config pool.limits n c.args.replaces c.args.id c.loop.pass.front c.move_one.new.pass.front) so_far.number c.in-Err.ensures.moved));
    }

pub returns-clause-moves : goal.returns-clause-moves
returns-clause-moves g c =
    let so_far = c.loop.invariant in
    let end = c.loop.auto.counter-end in
    let done = c.loop-test.false in
    record {
      moves = c.loop.counter;
      few = omega (arith, end);
      last = c.loop.pass.front;
      moved = so_far.moved;
      ended = inl (omega (arith, end, done), front_refl c.args.pass.now.number c.loop.pass.front);
    }

pub loop-preserved : goal.loop-preserved
loop-preserved g c =
    let pool = c.args.self.now in
    let pass = c.args.pass.now in
    let so_far = c.loop.invariant in
    let moved = subst (λ b. EndsMove pool.config pool.limits c.loop.pass.number c.args.replaces c.args.id c.loop.pass.front c.move_one.new.pass.front (Ok b)) c.in-Ok-true.field-0-test c.in-Ok-true.ensures.moved in
    record {
      at = c.in-Ok-true.ensures.at;
      moved = one_more pool.config pool.limits pass.number c.args.replaces c.args.id c.loop.counter pass.front c.loop.pass.front c.move_one.new.pass.front so_far.moved
          (subst (λ n. MoveTurns pool.config pool.limits n c.args.replaces c.args.id c.loop.pass.front c.move_one.new.pass.front) so_far.number moved);
      rests = c.in-Ok-true.ensures.rests;
      number = c.in-Ok-true.ensures.number ∙ so_far.number;
    }
