use Rattle.std.proofs.Common.{◌<◌, ◌≤◌, ℕ, Option, length, refl, sym, ◌∙◌, subst, arith}
use Rattle.std.proofs.lemmas.Bool.{false_from_ne_true}
use Rattle.commit_desk.specs.Passes.{IsFinding}
use Rattle.commit_desk.specs.Resolving.{FindsUpTo}
use Rattle.commit_desk.specs.Scans.{AreOfToken}
use Rattle.engine.proofs.FindParts.{ends_from, found_from, found_in, found_to}
use Rattle.engine.proofs.Moves.{front_goes_on, front_refl, silent_turn}
use Rattle.engine.specs.Finds.{end_of_turn}
use Rattle.funnel_model.specs.declared.claim.Token.{Token}
use Rattle.funnel_model.specs.History.{IsFrontOf}
use Rattle.funnel_model.specs.Tokens.{HasToken}
use Rattle.engine.proofs.engine_pool.EnginePool.resolve_all.Goals as goal

pub loop-open-init : goal.loop-open-init
loop-open-init g c = record {
  at = c.requires.at;
  finding = c.requires.finding;
  of_token = c.requires.of_token;
  can = record { within = omega arith; room = omega (arith, c.requires.room) };
  so_far = found_from (g.J.Judge.test c.args.part.judge.now) c.args.pass.now c.args.token c.args.part.candidates.now c.args.out.now.found;
  same = refl;
  seen = front_refl c.args.pass.now.number c.args.pass.now.front;
  number = refl;
}

pub resolve_turn-requires : goal.resolve_turn-requires
resolve_turn-requires g c = record { at = c.loop-open.invariant.at; finding = c.loop-open.invariant.finding; of_token = c.loop-open.invariant.of_token; can = c.loop-open.invariant.can }

pub loop-open-preserved : goal.loop-open-preserved
loop-open-preserved g c =
    let test = g.J.Judge.test c.args.part.judge.now in
    let cost = g.J.Judge.cost c.args.part.judge.now in
    let pass = c.args.pass.now in
    let before = c.loop-open.pass in
    let next = c.resolve_turn.new.pass in
    let inv = c.loop-open.invariant in
    let did = c.in-Some.ensures in
    let comes = did.next.1 in
    let finding = inv.finding in
    let onward = (did.found finding.holds.begun).turn.2.onward in
    record {
      at = c.resolve_turn.ensures.at;
      finding = did.next.0;
      of_token = subst (λ (t : Token). AreOfToken c.args.self.now.limits.columns t c.args.part.candidates.now) (sym comes.same) inv.of_token;
      can = comes.can;
      so_far = found_to test pass before c.args.token cost c.args.part.candidates.now c.loop-open.from c.in-Some.next c.args.out.now.found c.loop-open.out.found
          c.resolve_turn.new.out.found inv.number inv.seen onward inv.so_far
          (subst (λ (t : Token). (begun : HasToken before.front before.number t.opened_at) → FindsUpTo begun.earlier test cost c.args.part.candidates.now
          c.loop-open.from c.in-Some.next c.loop-open.out.found c.resolve_turn.new.out.found) inv.same did.found);
      same = comes.same ∙ inv.same;
      seen = front_goes_on pass.number pass.front before.front next.front inv.seen
          (subst (λ n. IsFrontOf n before.front next.front) inv.number (silent_turn {answers = λ history. Unit {0}} before.number before.front next.front did.turn));
      number = did.number ∙ inv.number;
    }

pub loop-open-smaller : goal.loop-open-smaller
loop-open-smaller g c =
    let less : c.in-Some.next < length c.args.part.candidates.now = omega (arith, c.if-len-next.false, c.len.ensures) in
    omega (arith, less, c.in-Some.ensures.next.1.further less)

-- the slices are not the last ones
pub returns-then-len-next-clause-found : goal.returns-then-len-next-clause-found
returns-then-len-next-clause-found g c =
    let test = g.J.Judge.test c.args.part.judge.now in
    let cost = g.J.Judge.cost c.args.part.judge.now in
    let pass = c.args.pass.now in
    let before = c.loop-open.pass in
    let inv = c.loop-open.invariant in
    let did = c.in-Some.ensures in
    let finding = inv.finding in
    let onward = (did.found finding.holds.begun).turn.2.onward in
    let last : length c.args.part.candidates.now ≤ c.in-Some.next = omega (arith, c.if-len-next.true, c.len.ensures) in
    found_in test pass before c.args.token cost c.args.part.candidates.now c.loop-open.from c.in-Some.next c.args.out.now.found c.loop-open.out.found
    c.resolve_turn.new.out.found inv.number inv.seen onward inv.so_far
    (subst (λ (t : Token). (begun : HasToken before.front before.number t.opened_at) → FindsUpTo begun.earlier test cost c.args.part.candidates.now
    c.loop-open.from c.in-Some.next c.loop-open.out.found c.resolve_turn.new.out.found) inv.same did.found) last

pub returns-then-len-next-clause-goes_on : goal.returns-then-len-next-clause-goes_on
returns-then-len-next-clause-goes_on g c =
    let pass = c.args.pass.now in
    let before = c.loop-open.pass in
    let next = c.resolve_turn.new.pass in
    let inv = c.loop-open.invariant in
    let did = c.in-Some.ensures in
    let same = did.next.1.same ∙ inv.same in
    let over : length c.args.part.candidates.now ≤ c.in-Some.next = omega (arith, c.if-len-next.true, c.len.ensures) in (
      false_from_ne_true c.args.last (λ is. let less = did.next.1.more is in omega (arith, less, over)),
      same,
      subst (λ (t : Token). IsFinding c.args.self.now t next) same did.next.0,
      front_goes_on pass.number pass.front before.front next.front inv.seen
          (subst (λ n. IsFrontOf n before.front next.front) inv.number (silent_turn {answers = λ history. Unit {0}} before.number before.front next.front did.turn)),
    )

-- the last turn ended the find
pub returns-clause-found : goal.returns-clause-found
returns-clause-found g c =
    let test = g.J.Judge.test c.args.part.judge.now in
    let cost = g.J.Judge.cost c.args.part.judge.now in
    let before = c.loop-open.pass in
    let inv = c.loop-open.invariant in
    let candidates = c.args.part.candidates.now in
    let turn : (begun : HasToken before.front before.number c.loop-open.token.opened_at) → FindsUpTo begun.earlier test cost candidates c.loop-open.from
    (length candidates) c.loop-open.out.found c.resolve_turn.new.out.found =
    subst (λ (o : Option (Token × ℕ)). (begun : HasToken before.front before.number c.loop-open.token.opened_at) → FindsUpTo begun.earlier test cost
    candidates c.loop-open.from (end_of_turn candidates o) c.loop-open.out.found c.resolve_turn.new.out.found) c.in_default.is c.resolve_turn.ensures.found in
    found_in test c.args.pass.now before c.args.token cost candidates c.loop-open.from (length candidates) c.args.out.now.found c.loop-open.out.found
    c.resolve_turn.new.out.found inv.number inv.seen inv.can.within inv.so_far
    (subst (λ (t : Token). (begun : HasToken before.front before.number t.opened_at) → FindsUpTo begun.earlier test cost candidates c.loop-open.from
    (length candidates) c.loop-open.out.found c.resolve_turn.new.out.found) inv.same turn) (omega arith)

pub returns-clause-goes_on : goal.returns-clause-goes_on
returns-clause-goes_on g c =
    let inv = c.loop-open.invariant in
    let over = c.resolve_turn.ensures.over c.in_default.is in (
      over.0,
      (
        ends_from c.args.pass.now c.loop-open.pass c.resolve_turn.new.pass.front c.resolve_turn.result inv.number inv.seen c.in_default.is c.resolve_turn.ensures.turn,
        over.1,
      ),
    )
