use Rattle.std.proofs.Common.{rules, subst, sym}
use Rattle.slice_rule.proofs.Seating.{IsLive, splits_note}
use Rattle.slice_rule.proofs.pool.Pool.split_home.Goals as goal

pub split_seat-requires : goal.split_seat-requires
split_seat-requires c = (search rules, search rules, splits_note c.self.inside.table.shared.key.sizes c.self.inside.table.shared.key.config.shared.key c.home.inside.seat.id c.home.inside.seat.me.0 (subst IsLive (sym c.home.invariant.role) tt))
