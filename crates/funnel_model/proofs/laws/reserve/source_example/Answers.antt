use Rattle.std.proofs.Common.{◌≡◌, ℕ, ◌<◌, ◌≤◌, List, [], ◌∷◌, refl, arith, inl}
use Rattle.funnel_model.specs.declared.event.Event.{Event}
use Rattle.funnel_model.specs.declared.event.Event.TheVariants as event
use Rattle.funnel_model.specs.Example.{shared}
use Rattle.funnel_model.specs.History.{Document}
use Rattle.funnel_model.specs.Legal.{HasRoom, IsLegal}
use Rattle.funnel_model.specs.Reserve.{CanBeEmptied, IsSource}
use Rattle.funnel_model.specs.ReserveExample.{evenly_deleted, six_added, spacious, taken_beside, unevenly_deleted}
use Rattle.funnel_model.specs.Slices.{Deleted, Live, Pending, IsFilled, IsInState}
use Rattle.funnel_model.proofs.Columns.{in_its_state, one_state}
use Rattle.funnel_model.proofs.ColumnStates.{state_from, state_of}
use Rattle.funnel_model.proofs.ExampleLemmas.{filled_has_no_room, no_bits, no_bits_in, none_wide, one_slice, three_columns, two_columns}
use Rattle.funnel_model.proofs.Histories.{goes_on_join}
use Rattle.funnel_model.proofs.ReserveLemmas.{emptied_holds, emptied_by_states, one_held_count, one_source}
use Rattle.funnel_model.proofs.SpareLemmas.{room_by}
use Rattle.funnel_model.proofs.laws.reserve.source_example.Goals as goal

-- where slice 0 is filled no slice below slice 1 has room
first_filled : (history : List Event) → IsFilled 3 0 history → (lower : ℕ) → lower < 1 → HasRoom 3 history lower → ⊥
first_filled history filled = one_slice _ (filled_has_no_room 3 0 history filled)

six_is_legal : IsLegal spacious six_added
six_is_legal = (
  record { pass = omega arith; at_once = tt; rule = inl (record { idle = tt; in_range = omega arith; room = room_by 3 0 0 _ (omega arith) refl refl refl refl; lowest = λ lower in'. absurd (omega arith); next = refl }) },
  (
    record { pass = omega arith; at_once = tt; rule = record { taken = refl; inside = no_bits; in_word = none_wide } },
    (
      record { pass = omega arith; at_once = tt; rule = inl (record { idle = refl; in_range = omega arith; room = room_by 3 0 1 _ (omega arith) refl refl refl refl; lowest = λ lower in'. absurd (omega arith); next = refl }) },
      (
        record { pass = omega arith; at_once = tt; rule = record { taken = refl; inside = no_bits; in_word = none_wide } },
        (
          record { pass = omega arith; at_once = tt; rule = inl (record { idle = refl; in_range = omega arith; room = room_by 3 0 2 _ (omega arith) refl refl refl refl; lowest = λ lower in'. absurd (omega arith); next = refl }) },
          (
            record { pass = omega arith; at_once = tt; rule = record { taken = refl; inside = no_bits; in_word = none_wide } },
            (
              record { pass = omega arith; at_once = tt; rule = inl (record { idle = refl; in_range = omega arith; room = room_by 3 1 0 _ (omega arith) refl refl refl refl; lowest = first_filled _ (three_columns _ refl refl refl); next = refl }) },
              (
                record { pass = omega arith; at_once = tt; rule = record { taken = refl; inside = no_bits_in 1; in_word = none_wide } },
                (
                  record { pass = omega arith; at_once = tt; rule = inl (record { idle = refl; in_range = omega arith; room = room_by 3 1 1 _ (omega arith) refl refl refl refl; lowest = first_filled _ (three_columns _ refl refl refl); next = refl }) },
                  (
                    record { pass = omega arith; at_once = tt; rule = record { taken = refl; inside = no_bits_in 1; in_word = none_wide } },
                    (
                      record { pass = omega arith; at_once = tt; rule = inl (record { idle = refl; in_range = omega arith; room = room_by 3 1 2 _ (omega arith) refl refl refl refl; lowest = first_filled _ (three_columns _ refl refl refl); next = refl }) },
                      (
                        record { pass = omega arith; at_once = tt; rule = record { taken = refl; inside = no_bits_in 1; in_word = none_wide } },
                        tt,
                      ),
                    ),
                  ),
                ),
              ),
            ),
          ),
        ),
      ),
    ),
  ),
)

evenly_is_legal : IsLegal spacious evenly_deleted
evenly_is_legal = goes_on_join spacious [] six_added (event.Del 0 1 ∷ event.Del 0 4 ∷ []) six_is_legal (
  record { pass = omega arith; at_once = tt; rule = record { idle = refl; present = refl } },
  (
    record { pass = omega arith; at_once = tt; rule = record { idle = refl; present = refl } },
    tt,
  ),
)

unevenly_is_legal : IsLegal spacious unevenly_deleted
unevenly_is_legal = goes_on_join spacious [] evenly_deleted (event.Del 0 5 ∷ []) evenly_is_legal (
  record { pass = omega arith; at_once = tt; rule = record { idle = refl; present = refl } },
  tt,
)

-- of the two slices one holds two columns and the other one; before the last delete both held two
first_even : CanBeEmptied 3 evenly_deleted 0 2
unfolding state_from state_of
first_even = emptied_by_states spacious evenly_deleted 0 1 _ _ evenly_is_legal (three_columns _ refl refl refl) (omega arith) refl (omega arith)

second_even : CanBeEmptied 3 evenly_deleted 1 2
unfolding state_from state_of
second_even = emptied_by_states spacious evenly_deleted 1 1 _ _ evenly_is_legal (three_columns _ refl refl refl) (omega arith) refl (omega arith)

first_uneven : CanBeEmptied 3 unevenly_deleted 0 2
unfolding state_from state_of
first_uneven = emptied_by_states spacious unevenly_deleted 0 1 _ _ unevenly_is_legal (three_columns _ refl refl refl) (omega arith) refl (omega arith)

second_uneven : CanBeEmptied 3 unevenly_deleted 1 1
unfolding state_from state_of
second_uneven = emptied_by_states spacious unevenly_deleted 1 2 _ _ unevenly_is_legal (three_columns _ refl refl refl) (omega arith) refl (omega arith)

pub returns-clause-legal : goal.returns-clause-legal
returns-clause-legal c = unevenly_is_legal

-- a slice out of which documents may be moved has one number
same_held : (history : List Event) (slice held also : ℕ) → CanBeEmptied 3 history slice held → CanBeEmptied 3 history slice also → held ≡ also
same_held history slice held also can can_too = one_held_count 3 history slice held also can.holds can_too.holds

least_uneven : IsSource spacious unevenly_deleted 1 1
least_uneven = record {
  in_range = omega arith;
  can = second_uneven;
  fewest = λ other number in' can. emptied_holds 3 unevenly_deleted other number can;
  lowest = λ lower number below can. one_slice (λ slice. CanBeEmptied 3 unevenly_deleted slice number → 1 < number) (λ can'. let same = same_held unevenly_deleted 0 2 number first_uneven can' in omega arith) lower below can;
}

lower_even : IsSource spacious evenly_deleted 0 2
lower_even = record {
  in_range = omega arith;
  can = first_even;
  fewest = λ other number in' can.
      two_columns (λ slice. CanBeEmptied 3 evenly_deleted slice number → 2 ≤ number)
      (λ here. let same = same_held evenly_deleted 0 2 number first_even here in omega arith)
      (λ here. let same = same_held evenly_deleted 1 2 number second_even here in omega arith)
      other in' can;
  lowest = λ lower number in' can. absurd (omega arith);
}

pub returns-clause-fewest : goal.returns-clause-fewest
returns-clause-fewest c = least_uneven

pub returns-clause-lowest : goal.returns-clause-lowest
returns-clause-lowest c = lower_even

pub returns-clause-not_more : goal.returns-clause-not_more
returns-clause-not_more c held source = let same = one_source spacious unevenly_deleted 0 1 held 1 source least_uneven in absurd (omega arith)

pub returns-clause-not_higher : goal.returns-clause-not_higher
returns-clause-not_higher c held source = let same = one_source spacious evenly_deleted 1 0 held 2 source lower_even in absurd (omega arith)

pub returns-clause-not_beyond : goal.returns-clause-not_beyond
returns-clause-not_beyond c held source = let in' = source.in_range in absurd (omega arith)

beside_is_legal : IsLegal shared taken_beside
beside_is_legal = (
  record { pass = omega arith; at_once = tt; rule = inl (record { idle = tt; in_range = omega arith; room = room_by 2 0 0 _ (omega arith) refl refl refl refl; lowest = λ lower in'. absurd (omega arith); next = refl }) },
  (
    record { pass = omega arith; at_once = tt; rule = record { taken = refl; inside = no_bits; in_word = none_wide } },
    (
      record { pass = omega arith; at_once = tt; rule = inl (record { idle = tt; in_range = omega arith; room = room_by 2 0 1 _ (omega arith) refl refl refl refl; lowest = λ lower in'. absurd (omega arith); next = refl }) },
      (
        record { pass = omega arith; at_once = tt; rule = record { idle = refl; present = refl } },
        tt,
      ),
    ),
  ),
)

-- neither of its columns is live
none_live : (column : ℕ) → column < 2 → (document : Document) (since : ℕ) → IsInState taken_beside 0 column (Live document since) → ⊥
unfolding state_from state_of
none_live =
    two_columns (λ column. (document : Document) (since : ℕ) → IsInState taken_beside 0 column (Live document since) → ⊥)
    (λ document since live.
    let same : Live document since ≡ Deleted (record { id = 9; text = []; place = 1 }) 2 4 =
    one_state shared taken_beside 0 0 _ _ beside_is_legal live (in_its_state shared taken_beside 0 0 beside_is_legal) in cc)
    (λ document since live.
    let same : Live document since ≡ Pending 1 =
    one_state shared taken_beside 0 1 _ _ beside_is_legal live (in_its_state shared taken_beside 0 1 beside_is_legal) in cc)

pub returns-clause-not_pending : goal.returns-clause-not_pending
returns-clause-not_pending c = (
  beside_is_legal,
  λ slice held source.
      let live_one = source.can.live in
      one_slice (λ s. IsInState taken_beside s live_one.0 (Live live_one.1 live_one.2) → ⊥)
      (none_live live_one.0 live_one.3 live_one.1 live_one.2)
      slice source.in_range live_one.4,
)
