use Rattle.std.proofs.Common.{◌≡◌, ◌-◌, ◌^◌, ◌<◌, rules, ap, sym, length, subst}
use Rattle.funnel_model.specs.declared.event.Event.{Event}
use Rattle.funnel_model.specs.Legal.{Limits, IsAllowed}
use Rattle.slice_rule.specs.Pools.{PoolId}
use Rattle.slice_rule.specs.Seats.{HomeState, IsBacked, IsOutstanding, home_state}
use Rattle.slice_rule.proofs.Appending.{appends}
use Rattle.slice_rule.proofs.pool.Pool.append_named.Goals as goal

pub fetch_add-requires : goal.fetch_add-requires
fetch_add-requires g c =
    let key = c.self.inside.table.shared.key.sizes in
    let me = c.home.inside.seat.me in
    let home : HomeState = home_state c.home.inside.seat.table_id me.0 in
    let e = g.E.Entry.event c.args.entry.now in
    let limits : c.args.self.now.limits ≡ key = ap (λ (p : PoolId). p.limits) (sym c.self.view_is) in
    let allowed = subst (λ (l : Limits). IsAllowed l me.0.front e) limits (subst (λ (h : HomeState). IsAllowed c.args.self.now.limits h.history e) (sym c.home.view_is) c.requires.allowed) in
    let backed = subst (λ (l : Limits). IsBacked l me.0.told me.0.front e) limits (subst (λ (h : HomeState). IsBacked c.args.self.now.limits h.told h.history e) (sym c.home.view_is) c.requires.backed) in
    let asked = subst (λ (h : HomeState). IsOutstanding h e) (sym c.home.view_is) c.requires.asked in (
      search rules,
      search rules,
      appends key c.self.inside.table.shared.key.config.shared.key c.self.inside.table.shared.table_id.slots c.home.inside.seat.id me me.0.limits.passes me.0.limits.passes g.J.EventName.named
          c.home.invariant.role
          (subst (λ (h : HomeState). length h.history < 2 ^ 63 - 1) (sym c.home.view_is) c.requires.room)
          (subst (λ (x : Event). IsAllowed key me.0.front x) (sym c.requires.named) allowed)
          (subst (λ (x : Event). IsBacked key me.0.told me.0.front x) (sym c.requires.named) backed)
          (subst (IsOutstanding home) (sym c.requires.named) asked),
    )
