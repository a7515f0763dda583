use Rattle.std.proofs.Common.{rules, subst, sym}
use Rattle.slice_rule.proofs.Seating.{IsLive, splits_note}
use Rattle.slice_rule.proofs.pool.Pool.split_pass.Goals as goal

pub split_seat-requires : goal.split_seat-requires
split_seat-requires c = (search rules, search rules, splits_note c.self.inside.table.shared.key.sizes c.self.inside.table.shared.key.config.shared.key c.seat.inside.seat.id c.seat.inside.seat.me.0 (subst IsLive (sym c.seat.invariant.role) tt))
