-- What holds of the histories in which a document moves: they are legal, and their slices retire.
use Rattle.std.proofs.Common.{true, List, [], ◌∷◌, ◌++◌, codes, refl, arith, inl}
use Rattle.std.specs.Prelude.{◌==◌}
use Rattle.funnel_model.specs.declared.call.Call.TheVariants as call
use Rattle.funnel_model.specs.declared.event.Event.{Event}
use Rattle.funnel_model.specs.declared.event.Event.TheVariants as event
use Rattle.funnel_model.specs.Legal.{CanClear, GoesOn, IsLegal}
use Rattle.funnel_model.specs.MoveExample.{added_again, cat, found_again, moved, moved_again, new_cat, voided}
use Rattle.funnel_model.specs.RecycleExample.{high_bit, low_bit, paired}
use Rattle.funnel_model.specs.Slices.{Deleted, Live, IsInState, IsRetired, IsRetiredAt}
use Rattle.funnel_model.specs.Tokens.{Guards, HasToken}
use Rattle.funnel_model.proofs.Columns.{in_its_state}
use Rattle.funnel_model.proofs.ColumnStates.{state_from, state_of}
use Rattle.funnel_model.proofs.ExampleLemmas.{no_bits, no_bits_in, none_wide, one_slice, two_columns}
use Rattle.funnel_model.proofs.Histories.{goes_on_join, legal_before}
use Rattle.funnel_model.proofs.PairLemmas.{both_ended, can_clear, no_room, one_bit, one_narrow, one_not_retired, one_over, recycles, retires_by, takes_first, takes_second}
use Rattle.funnel_model.proofs.SpareLemmas.{room_by}

-- the document moves from one slice to the other
pub moved_is_legal : IsLegal paired moved
moved_is_legal = (
  record { pass = omega arith; at_once = tt; rule = inl (record { idle = tt; in_range = omega arith; room = room_by 1 0 0 _ (omega arith) refl refl refl refl; lowest = λ lower in'. absurd (omega arith); next = refl }) },
  (
    record { pass = omega arith; at_once = tt; rule = record { taken = refl; inside = one_bit 0 low_bit (record { from = omega arith; to = omega arith }); in_word = one_narrow low_bit (omega arith) } },
    (
      record { pass = omega arith; at_once = tt; rule = tt },
      (
        record { pass = omega arith; at_once = tt; rule = inl (record { idle = refl; in_range = omega arith; room = room_by 1 1 0 _ (omega arith) refl refl refl refl; lowest = one_slice _ (no_room _ 0 refl); next = refl }) },
        (
          record { pass = omega arith; at_once = tt; rule = record { taken = refl; present = refl; inside = one_bit 1 high_bit (record { from = omega arith; to = omega arith }); in_word = one_narrow high_bit (omega arith) } },
          tt,
        ),
      ),
    ),
  ),
)

-- it was on the one column and is on the other
pub old_column : IsInState moved 0 0 (Deleted cat 2 5)
unfolding state_from state_of
old_column = in_its_state paired moved 0 0 moved_is_legal

pub new_column : IsInState moved 1 0 (Live cat 5)
unfolding state_from state_of
new_column = in_its_state paired moved 1 0 moved_is_legal

-- slice 0 retires by the move
pub retired_by_move : IsRetiredAt 1 0 moved 5
unfolding state_from state_of
retired_by_move =
    let before = event.Take 0 0 0 ∷ event.Add 0 9 (codes "a cat") 0 0 (low_bit ∷ []) ∷ event.Find 1 (codes "A") ∷ event.Take 0 1 0 ∷ [] in
    retires_by before (event.Move 0 9 1 0 (high_bit ∷ [])) [] 0 moved_is_legal (λ over. over) tt refl

-- the find is open, which began before
abbrev pub open_find : HasToken moved 1 3
open_find = record {
  earlier = event.Take 0 0 0 ∷ event.Add 0 9 (codes "a cat") 0 0 (low_bit ∷ []) ∷ [];
  query = codes "A";
  later = event.Take 0 1 0 ∷ event.Move 0 9 1 0 (high_bit ∷ []) ∷ [];
  whole = refl;
  count = refl;
  stays = refl;
}

-- and guards slice 0, while slice 1 isn't retired
pub move_guarded : Guards 1 moved 0 1 3
unfolding state_from state_of
move_guarded = record {
  token = open_find;
  retired = record { over = one_over moved 0 moved_is_legal tt; not_clearing = refl };
  retired_at = 5;
  at_event = retired_by_move;
  before = omega arith;
}

pub new_not_retired : IsRetired 1 1 moved → ⊥
unfolding state_from state_of
new_not_retired = one_not_retired moved 1 moved_is_legal (λ over. over)

-- slice 0 is retired alone, and guarded
found_goes_on : GoesOn paired moved (event.No 0 call.Recycle ∷ event.End 1 ∷ event.Find 0 (codes "cat") ∷ event.End 0 ∷ [])
found_goes_on = (
  record {
    pass = omega arith;
    at_once = tt;
    rule = record {
      idle = refl;
      refused = two_columns _ (λ retired. (1, 3, move_guarded)) (λ retired. absurd (new_not_retired retired));
    };
  },
  (
    record { pass = omega arith; at_once = tt; rule = record { query = codes "A"; begun = refl } },
    (
      record { pass = omega arith; at_once = tt; rule = refl },
      (
        record { pass = omega arith; at_once = tt; rule = record { query = codes "cat"; begun = refl } },
        tt,
      ),
    ),
  ),
)

pub found_is_legal : IsLegal paired found_again
found_is_legal = goes_on_join paired [] moved (event.No 0 call.Recycle ∷ event.End 1 ∷ event.Find 0 (codes "cat") ∷ event.End 0 ∷ []) moved_is_legal found_goes_on

-- then slice 0 can be cleared, and slice 1 still isn't retired
pub found_can_clear : CanClear 1 found_again 0
unfolding state_from state_of
found_can_clear = can_clear found_again 0 found_is_legal tt refl (λ pass. both_ended (0 == pass) (1 == pass))

pub found_not_retired : IsRetired 1 1 found_again → ⊥
unfolding state_from state_of
found_not_retired = one_not_retired found_again 1 found_is_legal (λ over. over)

-- slice 0 is recycled after the move
abbrev recycled_once : List Event
recycled_once = found_again ++ event.Clear 0 0 ∷ event.Opened 0 0 true ∷ []

recycled_once_is_legal : IsLegal paired recycled_once
recycled_once_is_legal =
    goes_on_join paired [] found_again (event.Clear 0 0 ∷ event.Opened 0 0 true ∷ []) found_is_legal
    (recycles found_again 0 refl refl (omega arith) found_can_clear (λ lower in'. absurd (omega arith)))

-- its column is taken, and left void
pub voided_is_legal : IsLegal paired voided
voided_is_legal = goes_on_join paired [] recycled_once (event.Take 0 0 0 ∷ event.Void 0 0 0 ∷ []) recycled_once_is_legal (
  takes_first recycled_once recycled_once_is_legal refl refl refl refl refl,
  (
    record { pass = omega arith; at_once = tt; rule = record { taken = refl } },
    tt,
  ),
)

-- so that the slice is over again: it retires by the void
pub retired_by_void : IsRetiredAt 1 0 voided 13
unfolding state_from state_of
retired_by_void = retires_by (recycled_once ++ event.Take 0 0 0 ∷ []) (event.Void 0 0 0) [] 0 voided_is_legal (λ over. over) tt refl

voided_can_clear : CanClear 1 voided 0
unfolding state_from state_of
voided_can_clear = can_clear voided 0 voided_is_legal tt refl (λ pass. both_ended (0 == pass) (1 == pass))

-- it is recycled once more, and the document is deleted
abbrev recycled_twice : List Event
recycled_twice = voided ++ event.Clear 0 0 ∷ event.Opened 0 0 true ∷ event.Del 0 9 ∷ []

recycled_twice_is_legal : IsLegal paired recycled_twice
recycled_twice_is_legal =
    goes_on_join paired [] voided (event.Clear 0 0 ∷ event.Opened 0 0 true ∷ event.Del 0 9 ∷ []) voided_is_legal
    (let both = recycles voided 0 refl refl (omega arith) voided_can_clear (λ lower in'. absurd (omega arith)) in
    (both.0, (both.1.0, (record { pass = omega arith; at_once = tt; rule = record { idle = refl; present = refl } }, tt))))

pub added_again_is_legal : IsLegal paired added_again
added_again_is_legal = goes_on_join paired [] recycled_twice (event.Take 0 0 0 ∷ event.Add 0 9 [] 0 0 [] ∷ []) recycled_twice_is_legal (
  takes_first recycled_twice recycled_twice_is_legal refl refl refl refl refl,
  (
    record { pass = omega arith; at_once = tt; rule = record { taken = refl; inside = no_bits; in_word = none_wide } },
    tt,
  ),
)

-- slice 1 is over, from which the document was deleted, and slice 0 isn't, where the new document is
second_can_clear : CanClear 1 added_again 1
unfolding state_from state_of
second_can_clear = can_clear added_again 1 added_again_is_legal tt refl (λ pass. both_ended (0 == pass) (1 == pass))

first_not_retired : IsRetired 1 0 added_again → ⊥
unfolding state_from state_of
first_not_retired = one_not_retired added_again 0 added_again_is_legal (λ over. over)

-- slice 1 is recycled
abbrev recycled_last : List Event
recycled_last = added_again ++ event.Clear 0 1 ∷ event.Opened 0 1 true ∷ []

recycled_last_is_legal : IsLegal paired recycled_last
recycled_last_is_legal =
    goes_on_join paired [] added_again (event.Clear 0 1 ∷ event.Opened 0 1 true ∷ []) added_again_is_legal
    (recycles added_again 1 refl refl (omega arith) second_can_clear (one_slice _ (λ can. first_not_retired can.retired)))

pub moved_again_is_legal : IsLegal paired moved_again
moved_again_is_legal = goes_on_join paired [] recycled_last (event.Take 0 1 0 ∷ event.Move 0 9 1 0 [] ∷ []) recycled_last_is_legal (
  takes_second recycled_last recycled_last_is_legal refl refl refl refl refl refl,
  (
    record { pass = omega arith; at_once = tt; rule = record { taken = refl; present = refl; inside = no_bits_in 1; in_word = none_wide } },
    tt,
  ),
)

-- the new document is live in slice 1 at the end, and no more in slice 0
pub moved_new : IsInState moved_again 1 0 (Live new_cat 22)
unfolding state_from state_of
moved_new = in_its_state paired moved_again 1 0 moved_again_is_legal

-- the document that moved there has left it
pub gone_again : IsInState added_again 1 0 (Deleted cat 5 16)
unfolding state_from state_of
gone_again =
    in_its_state paired added_again 1 0
    (legal_before paired added_again (event.Clear 0 1 ∷ event.Opened 0 1 true ∷ event.Take 0 1 0 ∷ event.Move 0 9 1 0 [] ∷ []) moved_again_is_legal)

pub left_old : IsInState moved_again 0 0 (Deleted new_cat 18 22)
unfolding state_from state_of
left_old = in_its_state paired moved_again 0 0 moved_again_is_legal
