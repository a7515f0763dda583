use Rattle.std.proofs.Common.{refl, arith, inl, inr}
use Rattle.unicode_segmentation.proofs.Computing.{unicode_segmentation}
use Rattle.funnel_model.proofs.ExampleLemmas.{no_bits, none_wide}
use Rattle.funnel_model.proofs.SpareLemmas.{room_by}
use Rattle.funnel_model.proofs.laws.examples.trimmed_example.Goals as goal

pub returns-clause-legal : goal.returns-clause-legal
returns-clause-legal c = (
  record { pass = omega arith; at_once = tt; rule = inl (record { idle = tt; in_range = omega arith; room = room_by 4 0 0 _ (omega arith) refl refl refl refl; lowest = λ lower in'. absurd (omega arith); next = refl }) },
  (
    record { pass = omega arith; at_once = tt; rule = record { taken = refl; inside = no_bits; in_word = none_wide } },
    (
      record { pass = omega arith; at_once = tt; rule = inl (record { idle = refl; in_range = omega arith; room = room_by 4 0 1 _ (omega arith) refl refl refl refl; lowest = λ lower in'. absurd (omega arith); next = refl }) },
      (
        record { pass = omega arith; at_once = tt; rule = record { taken = refl; inside = no_bits; in_word = none_wide } },
        (
          record { pass = omega arith; at_once = tt; rule = record { idle = refl; present = refl } },
          (
            record { pass = omega arith; at_once = tt; rule = record { idle = refl; present = refl } },
            (
              record { pass = omega arith; at_once = tt; rule = inl (record { idle = refl; in_range = omega arith; room = room_by 4 0 2 _ (omega arith) refl refl refl refl; lowest = λ lower in'. absurd (omega arith); next = refl }) },
              (
                record { pass = omega arith; at_once = tt; rule = record { taken = refl; inside = no_bits; in_word = none_wide } },
                (
                  record { pass = omega arith; at_once = tt; rule = record { idle = refl; reads = tt } },
                  (
                    record { pass = omega arith; at_once = tt; rule = record { idle = refl; reads = tt } },
                    (
                      record { pass = omega arith; at_once = tt; rule = record { idle = refl; reads = tt } },
                      tt,
                    ),
                  ),
                ),
              ),
            ),
          ),
        ),
      ),
    ),
  ),
)

pub returns-clause-replies : goal.returns-clause-replies
unfolding unicode_segmentation
returns-clause-replies c = inl (refl, inr (_, _, refl, refl, inl (refl, inr (_, _, refl, refl, inr (_, _, refl, refl, inr (_, _, refl, refl, inl (refl, inr (_, _, refl, refl, inr (_, _, refl, refl, inr (_, _, refl, refl, inr (_, _, refl, refl, refl)))))))))))
