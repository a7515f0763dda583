use Rattle.std.proofs.Common.{◌≡◌, ◌<◌, ℕ, [], ◌∷◌, length, refl, sym, ◌∙◌, subst, arith}
use Rattle.commit_desk.proofs.CallEnds.{rests_one}
use Rattle.commit_desk.proofs.Turns.{makes_more}
use Rattle.commit_desk.specs.Desks.{Makes}
use Rattle.commit_desk.specs.Passes.{IsFinding}
use Rattle.commit_desk.specs.Resolving.{FindsUpTo}
use Rattle.commit_desk.specs.Scans.{AreOfToken}
use Rattle.funnel_model.specs.declared.event.Event.TheVariants as event
use Rattle.slice_rule.specs.Pools.{PoolId}
use Rattle.engine.proofs.turns.resolve_or_end.Given.{Over}
use Rattle.engine.proofs.turns.resolve_or_end.Goals as goal

pub resolve_part-next-requires-clause-finding : goal.resolve_part-next-requires-clause-finding
resolve_part-next-requires-clause-finding g c = subst (λ (p : PoolId). IsFinding p c.args.token c.args.pass.now) (sym c.requires.at) c.requires.finding

pub resolve_part-next-requires-clause-of_token : goal.resolve_part-next-requires-clause-of_token
resolve_part-next-requires-clause-of_token g c =
    subst (λ (p : PoolId). AreOfToken p.limits.columns c.args.token c.args.part.candidates.now) (sym c.requires.at) c.requires.of_token

pub returns-then-next-count-clause-found : goal.returns-then-next-count-clause-found
returns-then-next-count-clause-found g c begun = c.resolve_part-next.ensures.found begun

pub returns-then-next-count-clause-next : goal.returns-then-next-count-clause-next
returns-then-next-count-clause-next g c =
    let next = c.resolve_part-next.new.seat in
    let did = c.resolve_part-next.ensures in
    let ends = (did.found c.requires.finding.holds.begun).turn.2 in
    let low = c.if-next-count.true in
    let count = c.len-count.ensures in
    let more : c.resolve_part-next.result < length c.args.part.candidates.now = omega (arith, low, count) in
    let of : c.resolve_part-next.new.self.pool ≡ c.args.pool.now = did.events.pool ∙ c.requires.at in (
      subst (λ (p : PoolId). IsFinding p c.args.token next) of did.finding,
      record {
        same = refl;
        can = record { within = ends.within; room = did.enough };
        further = λ less. ends.further (omega (arith, ends.onward, less));
        more = λ is. more;
      },
    )

pub end_find-requires-clause-seat : goal.end_find-requires-clause-seat
end_find-requires-clause-seat g c = c.resolve_part-next.ensures.finding.seated

pub end_find-requires-clause-token : goal.end_find-requires-clause-token
end_find-requires-clause-token g c = c.resolve_part-next.ensures.finding.holds

-- the turn that looks at the last candidate makes the event of the end
ended : (g : Over) (c : goal.After-end_find g) → Makes (event.End c.resolve_part-next.new.seat.number ∷ []) c.args.desk.now c.end_find.new.self c.args.pass.now c.end_find.new.seat
ended g c =
    makes_more [] (event.End c.resolve_part-next.new.seat.number ∷ []) c.args.desk.now c.resolve_part-next.new.self c.end_find.new.self c.args.pass.now c.resolve_part-next.new.seat
    c.end_find.new.seat c.resolve_part-next.ensures.events c.end_find.ensures.events

pub returns-then-last-clause-found : goal.returns-then-last-clause-found
returns-then-last-clause-found g c begun =
    let candidates = c.args.part.candidates.now in
    let found = c.resolve_part-next.ensures.found begun in
    let whole : c.resolve_part-next.result ≡ length candidates = omega (arith, found.turn.2.within, c.if-next-count.false, c.len-count.ensures) in
    subst (λ (to : ℕ). FindsUpTo begun.earlier (g.J.Judge.test c.args.part.judge.now) (g.J.Judge.cost c.args.part.judge.now) candidates c.args.part.from to c.args.out.now.found c.resolve_part-next.new.out.found) whole found

pub returns-then-last-clause-over : goal.returns-then-last-clause-over
returns-then-last-clause-over g c is = (
  c.if-last.true,
  rests_one c.args.pool.now c.args.desk.now c.end_find.new.self c.args.pass.now c.end_find.new.seat c.requires.finding.seated.same c.end_find.ensures.none_outstanding
      (event.End c.resolve_part-next.new.seat.number) c.resolve_part-next.ensures.events.number refl (ended g c),
)

pub returns-then-last-clause-events : goal.returns-then-last-clause-events
returns-then-last-clause-events g c =
    subst (λ n. Makes (event.End n ∷ []) c.args.desk.now c.end_find.new.self c.args.pass.now c.end_find.new.seat) c.resolve_part-next.ensures.events.number (ended g c)

pub returns-clause-found : goal.returns-clause-found
returns-clause-found g c begun = c.resolve_part-next.ensures.found begun

pub returns-clause-next : goal.returns-clause-next
returns-clause-next g c =
    let next = c.resolve_part-next.new.seat in
    let did = c.resolve_part-next.ensures in
    let ends = (did.found c.requires.finding.holds.begun).turn.2 in
    let over = c.if-next-count.false in
    let count = c.len-count.ensures in
    let of : c.resolve_part-next.new.self.pool ≡ c.args.pool.now = did.events.pool ∙ c.requires.at in (
      subst (λ (p : PoolId). IsFinding p c.args.token next) of did.finding,
      record {
        same = refl;
        can = record { within = ends.within; room = did.enough };
        further = λ less. absurd (omega (arith, over, count, less));
        more = λ is. let other = c.if-last.false in absurd (cc);
      },
    )
