use Rattle.funnel_model.specs.declared.bit_list.Bit.{Bit}
use Rattle.funnel_model.specs.Legal.{IsInSlice}
use Rattle.column_writer.proofs.Writing.{all_of_part}
use Rattle.funnel_model.specs.declared.event.Event.TheVariants as event
use Rattle.std.proofs.Common.{[], ◌∷◌, refl}
use Rattle.pool_tests.proofs.Unlisted.{all_writable}
use Rattle.pool_tests.proofs.writing.write_and_find.Goals as goal

pub write_both-first-requires-clause-low : goal.write_both-first-requires-clause-low
write_both-first-requires-clause-low g c κs within =
    let took = c.take_first.ensures in
    all_writable c.args.opened.0 c.take_first.new.seat (record { slice = 0; column = 0 }) c.args.low.bits took.seat.0 c.requires.words 0 (event.Take 0 0 0 ∷ []) took.seat.1 took.seat.2 refl refl took.none_outstanding
    c.requires.low.0 c.requires.low.1

pub write_both-first-requires-clause-high : goal.write_both-first-requires-clause-high
write_both-first-requires-clause-high g c κs within =
    let took = c.take_second.ensures in
    all_writable c.args.opened.0 c.take_second.new.seat (record { slice = 0; column = 1 }) c.args.high.bits took.seat.0 c.requires.words 1 (event.Take 0 0 0 ∷ event.Take 1 0 1 ∷ []) took.seat.1 took.seat.2 refl refl
    took.none_outstanding c.requires.high.0 c.requires.high.1

pub find_both-requires-clause-inside : goal.find_both-requires-clause-inside
find_both-requires-clause-inside g c =
    all_of_part (λ (b : Bit). IsInSlice c.args.opened.0.limits.slice_words 0 b.word) c.as_slice.result.now c.args.low.bits (λ b has. (c.as_slice.ensures b).0 has) c.requires.low.0
