use Rattle.std.proofs.Common.{◌≡◌, sym, ap, ◌∙◌, subst}
use Rattle.slice_rule.specs.Seats.{HomeState, IsBacked, PassState, after_append, facts_of_pass}
use Rattle.slice_rule.proofs.Backing.{ready_backs, ready_same}
use Rattle.slice_rule.proofs.Told.{told_more}
use Rattle.slice_rule.proofs.pool.Pool.make_event.Goals as goal

pub append-number-requires-clause-backed : goal.append-number-requires-clause-backed
append-number-requires-clause-backed g c =
    let limits = c.args.self.now.limits in
    let e = g.E.Entry.event c.args.entry.now in
    let before = c.args.seat.now in
    let asked = c.ask.new.seat in
    let front : asked.front ≡ before.front = ap (λ (p : PassState). p.front) c.ask.ensures in
    let own : asked.own ≡ before.own = ap (λ (p : PassState). p.own) c.ask.ensures in
    let ready = ready_same limits before asked e front own c.requires.ready in
    let backed = ready_backs limits asked c.args.home.now.told c.args.home.now.history e (front ∙ c.requires.front) ready in
    subst (λ (h : HomeState). IsBacked limits h.told h.history e) (sym c.tell_home.ensures.home) backed

pub returns-clause-home : goal.returns-clause-home
returns-clause-home g c =
    let e = g.E.Entry.event c.args.entry.now in
    told_more (after_append c.args.home.now e) c.tell_pass.new.home (facts_of_pass c.ask.new.seat)
    (c.tell_pass.ensures.home ∙ c.append-number.ensures.home ∙ ap (λ (h : HomeState). after_append h e) c.tell_home.ensures.home)
