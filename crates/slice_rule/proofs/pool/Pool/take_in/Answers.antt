use Rattle.std.proofs.Common.{rules}
use Rattle.slice_rule.proofs.Seating.{joins_note}
use Rattle.slice_rule.proofs.Settling.{settles}
use Rattle.slice_rule.proofs.pool.Pool.take_in.Goals as goal

pub join_seat-requires : goal.join_seat-requires
join_seat-requires c =
    let key = c.self.inside.table.shared.key.sizes in
    (search rules, search rules, search rules, search rules, joins_note key c.self.inside.table.shared.key.config.shared.key c.seat.inside.seat.id c.seat.inside.seat.me.0 c.note.inside.seat.id c.note.inside.seat.me.0 c.note.invariant.role)

pub load-requires : goal.load-requires
load-requires c =
    let key = c.self.inside.table.shared.key.sizes in
    (search rules, search rules, settles key c.self.inside.table.shared.key.config.shared.key c.self.inside.table.shared.table_id.slots c.join_seat.new.seat.id c.join_seat.new.seat.me)
