use Rattle.std.proofs.Common.{[], ◌∷◌, refl, arith, inl, inr}
use Rattle.unicode_segmentation.proofs.Computing.{unicode_segmentation}
use Rattle.funnel_model.specs.declared.event.Event.TheVariants as event
use Rattle.funnel_model.specs.Example.{shared}
use Rattle.funnel_model.specs.Legal.{MayFollow}
use Rattle.funnel_model.proofs.ExampleLemmas.{no_bits, none_wide}
use Rattle.funnel_model.proofs.SpareLemmas.{room_by}
use Rattle.funnel_model.proofs.laws.examples.drop_example.Goals as goal

-- the slice has room for the takes of its two columns
first : MayFollow shared [] (event.Take 0 0 0)
first = inl (record {
  idle = tt;
  in_range = omega arith;
  room = room_by 2 0 0 _ (omega arith) refl refl refl refl;
  lowest = λ lower in'. absurd (omega arith);
  next = refl;
})

second : MayFollow shared (event.Take 0 0 0 ∷ []) (event.Take 1 0 1)
second = inl (record {
  idle = tt;
  in_range = omega arith;
  room = room_by 2 0 1 _ (omega arith) refl refl refl refl;
  lowest = λ lower in'. absurd (omega arith);
  next = refl;
})

pub returns-clause-legal : goal.returns-clause-legal
returns-clause-legal c = (
  record { pass = omega arith; at_once = tt; rule = first },
  (
    record { pass = omega arith; at_once = tt; rule = second },
    (
      record { pass = omega arith; at_once = tt; rule = record { taken = refl; inside = no_bits; in_word = none_wide } },
      (
        record { pass = omega arith; at_once = tt; rule = record { taken = refl; present = refl } },
        tt,
      ),
    ),
  ),
)

pub returns-clause-replies : goal.returns-clause-replies
unfolding unicode_segmentation
returns-clause-replies c = inl (refl, inl (refl, inr (_, _, refl, refl, inr (_, _, refl, refl, refl))))

pub returns-clause-own : goal.returns-clause-own
returns-clause-own c = refl
