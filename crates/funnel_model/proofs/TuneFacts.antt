-- What holds of the histories with tunings: they are legal.
use Rattle.std.proofs.Common.{[], ◌∷◌, true, refl, arith, inl}
use Rattle.funnel_model.specs.declared.config.Config.{Config}
use Rattle.funnel_model.specs.declared.event.Event.TheVariants as event
use Rattle.funnel_model.specs.Legal.{CanClear, GoesOn, IsLegal}
use Rattle.funnel_model.specs.RecycleExample.{paired}
use Rattle.funnel_model.specs.TuneExample.{cleared_again, tuned_once, tuned_twice, used_again}
use Rattle.funnel_model.proofs.ColumnStates.{state_from, state_of}
use Rattle.funnel_model.proofs.ExampleLemmas.{no_bits, no_bits_in, none_wide, one_slice}
use Rattle.funnel_model.proofs.Histories.{goes_on_join}
use Rattle.funnel_model.proofs.PairLemmas.{can_clear, no_room, takes_first}
use Rattle.funnel_model.proofs.SpareLemmas.{room_by}

-- documents are added and deleted around the first tuning
once_goes_on : (second : Config) → GoesOn paired [] (tuned_once second)
once_goes_on second = (
  record { pass = omega arith; at_once = tt; rule = inl (record { idle = tt; in_range = omega arith; room = room_by 1 0 0 _ (omega arith) refl refl refl refl; lowest = λ lower in'. absurd (omega arith); next = refl }) },
  (
    record { pass = omega arith; at_once = tt; rule = record { taken = refl; inside = no_bits; in_word = none_wide } },
    (
      record { pass = omega arith; at_once = tt; rule = tt },
      (
        record { pass = omega arith; at_once = tt; rule = inl (record { idle = refl; in_range = omega arith; room = room_by 1 1 0 _ (omega arith) refl refl refl refl; lowest = one_slice _ (no_room _ 0 refl); next = refl }) },
        (
          record { pass = omega arith; at_once = tt; rule = record { taken = refl; inside = no_bits_in 1; in_word = none_wide } },
          (
            record { pass = omega arith; at_once = tt; rule = record { idle = refl; present = refl } },
            tt,
          ),
        ),
      ),
    ),
  ),
)

-- slice 0 can be cleared then
once_can_clear : (second : Config) → CanClear 1 (tuned_once second) 0
unfolding state_from state_of
once_can_clear second = can_clear (tuned_once second) 0 (once_goes_on second) tt refl (λ pass. refl)

twice_goes_on : (second third : Config) → GoesOn paired (tuned_once second) (event.Clear 0 0 ∷ event.Tune 1 third ∷ event.Opened 0 0 true ∷ [])
twice_goes_on second third = (
  record { pass = omega arith; at_once = tt; rule = record { idle = refl; in_range = omega arith; can_clear = once_can_clear second; lowest = λ lower in'. absurd (omega arith) } },
  (
    record { pass = omega arith; at_once = tt; rule = refl },
    (
      record { pass = omega arith; at_once = tt; rule = record { cleared = refl } },
      tt,
    ),
  ),
)

pub twice_is_legal : (second third : Config) → IsLegal paired (tuned_twice second third)
twice_is_legal second third =
    goes_on_join paired [] (tuned_once second) (event.Clear 0 0 ∷ event.Tune 1 third ∷ event.Opened 0 0 true ∷ []) (once_goes_on second) (twice_goes_on second third)

-- slice 0 is used and cleared once more
used_is_legal : (second third : Config) → IsLegal paired (used_again second third)
used_is_legal second third =
    let before = tuned_twice second third in
    let legal = twice_is_legal second third in
    goes_on_join paired [] before (event.Take 0 0 0 ∷ event.Add 0 9 [] 0 0 [] ∷ event.Del 0 9 ∷ []) legal (
      takes_first before legal refl refl refl refl refl,
      (
        record { pass = omega arith; at_once = tt; rule = record { taken = refl; inside = no_bits; in_word = none_wide } },
        (
          record { pass = omega arith; at_once = tt; rule = record { idle = refl; present = refl } },
          tt,
        ),
      ),
    )

used_can_clear : (second third : Config) → CanClear 1 (used_again second third) 0
unfolding state_from state_of
used_can_clear second third = can_clear (used_again second third) 0 (used_is_legal second third) tt refl (λ pass. refl)

pub cleared_is_legal : (second third : Config) → IsLegal paired (cleared_again second third)
cleared_is_legal second third =
    goes_on_join paired [] (used_again second third) (event.Clear 0 0 ∷ []) (used_is_legal second third) (
      record { pass = omega arith; at_once = tt; rule = record { idle = refl; in_range = omega arith; can_clear = used_can_clear second third; lowest = λ lower in'. absurd (omega arith) } },
      tt,
    )
