-- A free slot is ahead, so the walk ends before it leaves the slots.
use Rattle.std.proofs.Common.{◌≡◌, ◌≤◌, ℕ, List, arith}
use Rattle.row_layout.specs.WordTables.{slot_at}
use Rattle.row_layout.specs.declared.word_table.Slot.{Slot}
use Rattle.row_layout.proofs.WordTables.{taken_more, room_behind}
use Rattle.row_layout.proofs.word_table.first_free.Goals as goal

pub loop-at-init : goal.loop-at-init
loop-at-init c = record {
  after = omega arith;
  room = c.requires;
  taken = record { each = λ k low high. absurd (omega arith) };
}

pub bounds-slots-at : goal.bounds-slots-at
bounds-slots-at c = omega (arith, c.loop-at.invariant.room.after, c.loop-at.invariant.room.within)

pub loop-at-smaller : goal.loop-at-smaller
loop-at-smaller c = omega (arith, c.loop-at.invariant.room.after, c.loop-at.invariant.room.within)

-- a tag that isn't 0
used : (slots : List Slot) (at : ℕ) → ((slot_at slots at).tag ≡ 0 → ⊥) → 1 ≤ (slot_at slots at).tag
used slots at not_zero = omega arith

pub loop-at-preserved : goal.loop-at-preserved
loop-at-preserved c =
    let here = used c.args.slots.now c.loop-at.at c.loop-at-test.true in
    record {
      after = omega (arith, c.loop-at.invariant.after);
      room = room_behind c.args.slots.now c.loop-at.at c.loop-at.invariant.room here;
      taken = taken_more c.args.slots.now c.args.from c.loop-at.at c.loop-at.invariant.taken here;
    }

pub returns : goal.returns
returns c = record {
  after = c.loop-at.invariant.after;
  within = omega (arith, c.loop-at.invariant.room.after, c.loop-at.invariant.room.within);
  is_free = c.loop-at-test.false;
  taken = c.loop-at.invariant.taken;
}
