use Rattle.slice_rule.specs.Numbers.{last_number}
use Rattle.column_writer.proofs.Writing.{can_write_part, set_same}
use Rattle.column_writer.proofs.write.write_column.Goals as goal

pub set_bits-requires : goal.set_bits-requires
set_bits-requires c =
    can_write_part c.args.pool.now c.args.seat.now c.args.claim.now c.as_slice.result.now c.args.bits.now.bits (λ b has. (c.as_slice.ensures b).0 has) c.requires

pub returns : goal.returns
returns c =
    let old = c.args.seat.now in
    record {
      same = c.set_bits.ensures.same;
      facts = set_same (last_number old.number old.front) old.own c.set_bits.new.seat.own c.as_slice.result.now c.args.bits.now.bits c.as_slice.ensures c.set_bits.ensures.facts;
    }
