use Rattle.std.proofs.Common.{◌≡◌, ℕ, ◌+◌, rules, arith, ap, sym, length, subst}
use Rattle.slice_rule.specs.Numbers.{last_number}
use Rattle.slice_rule.specs.Rule.{HasKnownBits}
use Rattle.slice_rule.specs.Seats.{HasNoneOutstanding, PassState}
use Rattle.slice_rule.specs.Worlds.{made_by}
use Rattle.slice_rule.proofs.Asking.{asks}
use Rattle.slice_rule.proofs.Backing.{ready_known}
use Rattle.slice_rule.proofs.OwnSteps as steps
use Rattle.slice_rule.proofs.Prefixes.{made_by-length}
use Rattle.slice_rule.proofs.pool.Pool.ask_named.Goals as goal

pub overflow_add-seat : goal.overflow_add-seat
overflow_add-seat g c =
    let number = c.seat.inside.number in
    let v = c.seat.inside.seat.me.0 in
    let all : v.asked ≡ made_by number v.front = subst HasNoneOutstanding (sym c.seat.view_is) c.requires.none_outstanding in
    omega (arith, c.seat.invariant.count, ap length all, made_by-length number v.front, c.seat.invariant.few)

pub store-requires : goal.store-requires
store-requires g c =
    let at = steps.at c.self.invariant c.self.view_is c.seat.invariant c.seat.view_is c.requires.pool in
    let within = steps.in_range at in
    let words = c.self.invariant.words in
    let e = g.E.Entry.event c.args.entry.now in
    let number = c.seat.inside.number in
    let me = c.seat.inside.seat.me in
    let known : HasKnownBits (last_number number me.0.front) me.0.own g.J.EventName.named =
    subst (HasKnownBits (last_number number me.0.front) me.0.own) (sym c.requires.named)
    (subst (λ (s : PassState). HasKnownBits (last_number s.number s.front) s.own e) (sym c.seat.view_is) (ready_known c.args.self.now.limits c.args.seat.now e c.requires.own c.requires.ready)) in (
      search rules,
      omega arith,
      asks c.self.inside.table.shared.key.sizes c.self.inside.table.shared.key.config.shared.key c.self.inside.table.shared.table_id.slots c.seat.inside.seat.id c.seat.inside.seat.me c.seat.inside.number
          (c.seat.inside.asked + 1) g.J.EventName.named c.seat.invariant.role (steps.all_seen at c.requires.none_outstanding) known
          (ap (λ (n : ℕ). n + 1) c.seat.invariant.count),
    )
