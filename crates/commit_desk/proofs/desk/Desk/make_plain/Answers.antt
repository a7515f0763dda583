use Rattle.std.proofs.Common.{◌≡◌, ◌<◌, length, sym, ap, ◌∙◌, subst}
use Rattle.funnel_model.specs.Legal.{IsAllowed}
use Rattle.slice_rule.specs.Pools.{PoolId}
use Rattle.commit_desk.specs.Desks.{DeskState}
use Rattle.commit_desk.proofs.PlainEvents.{allowed_now, desk-plain}
use Rattle.commit_desk.proofs.Inside.{books_of}
use Rattle.commit_desk.proofs.MadeEvents.{made_with}
use Rattle.commit_desk.proofs.desk.Desk.make_plain.Goals as goal

pub make_event-self-inside-requires-clause-allowed :
    goal.make_event-self-inside-requires-clause-allowed
make_event-self-inside-requires-clause-allowed g c =
    let i = c.self.inside in
    let desk : DeskState = record { pool = i.home.pool; events_limit = i.events_limit; history = i.home.history } in
    let pool : i.home.pool ≡ c.args.pool.now = ap (λ (d : DeskState). d.pool) c.self.view_is ∙ sym c.requires.pool in
    subst (λ (p : PoolId). IsAllowed p.limits i.home.history (g.E.Entry.event c.args.entry.now)) pool
    (allowed_now desk c.args.self.now c.args.seat.now.number (g.E.Entry.event c.args.entry.now) c.self.view_is c.self.invariant.desk.none_awaited c.requires.caught_up.in_range c.requires.own c.requires.may)

pub invariant_of-self : goal.invariant_of-self
invariant_of-self g c =
    let i = c.self.inside in
    let desk : DeskState = record { pool = i.home.pool; events_limit = i.events_limit; history = i.home.history } in
    let home = c.make_event-self-inside.new.home in
    let made = c.make_event-self-inside.ensures in
    let e = g.E.Entry.event c.args.entry.now in
    record {
      whole = c.self.invariant.whole;
      desk = desk-plain i.home.pool home.pool i.events_limit i.home.history home.history (books_of i c.self.invariant.whole) c.make_event-self-inside.result e c.self.invariant.desk c.requires.plain
          (allowed_now desk c.args.self.now c.args.seat.now.number e c.self.view_is c.self.invariant.desk.none_awaited c.requires.caught_up.in_range c.requires.own c.requires.may)
          (subst (λ (d : DeskState). length d.history < d.events_limit) (sym c.self.view_is) c.requires.takes_calls)
          made.home.pool made.home.history made.number;
      left = c.self.invariant.left;
      documents = c.self.invariant.documents;
    }

pub returns-clause-made : goal.returns-clause-made
returns-clause-made g c =
    let i = c.self.inside in
    let made = c.make_event-self-inside.ensures in
    made_with c.args.self.now i.home c.make_event-self-inside.new.home i.events_limit c.args.seat.now c.make_event-self-inside.new.seat (g.E.Entry.event c.args.entry.now) c.self.view_is c.requires.caught_up
    made.home (invariant_of-self g c).desk.kept.legal made.seat
