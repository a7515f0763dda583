use Rattle.std.proofs.lemmas.Bool.{false≢true}
use Rattle.std.proofs.Common.{◌≡◌, true, [], refl, subst, arith, inl, inr}
use Rattle.funnel_model.specs.Example.{first_added, shared}
use Rattle.funnel_model.specs.Legal.{IsLegal}
use Rattle.funnel_model.specs.MoveExample.{found_again, half_deleted, moved}
use Rattle.funnel_model.specs.Reserve.{HasReadyIn, HasSpareIn}
use Rattle.funnel_model.specs.Slices.{IsInUse, is_claimed}
use Rattle.funnel_model.proofs.ColumnStates.{state_from, state_of}
use Rattle.funnel_model.proofs.ExampleLemmas.{no_bits, none_wide, total_of_one, total_of_two, two_columns}
use Rattle.funnel_model.proofs.MoveFacts.{found_can_clear, found_not_retired, move_guarded, new_not_retired}
use Rattle.funnel_model.proofs.ReserveLemmas.{emptied_holds, emptied_by_states}
use Rattle.funnel_model.proofs.SpareLemmas.{room_by}
use Rattle.funnel_model.proofs.laws.examples.reserve_example.Goals as goal

-- slice 1 is in use, under the find and after it
used : IsInUse 1 1 moved
used = record { not_retired = new_not_retired; not_clearing = refl }

used_later : IsInUse 1 1 found_again
used_later = record { not_retired = found_not_retired; not_clearing = refl }

pub returns-clause-spare : goal.returns-clause-spare
returns-clause-spare c = (
  total_of_two (HasSpareIn 1 moved) 1 0 (inr (inl move_guarded.retired, refl)) (inl (used, refl)),
  total_of_two (HasReadyIn 1 moved) 0 0 (inr (inr (inl (1, 3, move_guarded), refl))) (inl (used, refl)),
)

pub returns-clause-ready : goal.returns-clause-ready
returns-clause-ready c = (
  total_of_two (HasSpareIn 1 found_again) 1 0 (inr (inl found_can_clear.retired, refl)) (inl (used_later, refl)),
  total_of_two (HasReadyIn 1 found_again) 1 0 (inr (inl (found_can_clear, refl))) (inl (used_later, refl)),
)

half_is_legal : IsLegal shared half_deleted
half_is_legal = (
  record { pass = omega arith; at_once = tt; rule = inl (record { idle = tt; in_range = omega arith; room = room_by 2 0 0 _ (omega arith) refl refl refl refl; lowest = λ lower in'. absurd (omega arith); next = refl }) },
  (
    record { pass = omega arith; at_once = tt; rule = record { taken = refl; inside = no_bits; in_word = none_wide } },
    (
      record { pass = omega arith; at_once = tt; rule = inl (record { idle = refl; in_range = omega arith; room = room_by 2 0 1 _ (omega arith) refl refl refl refl; lowest = λ lower in'. absurd (omega arith); next = refl }) },
      (
        record { pass = omega arith; at_once = tt; rule = record { taken = refl; inside = no_bits; in_word = none_wide } },
        (
          record { pass = omega arith; at_once = tt; rule = record { idle = refl; present = refl } },
          tt,
        ),
      ),
    ),
  ),
)

pub returns-clause-source : goal.returns-clause-source
unfolding state_from state_of
returns-clause-source c = record {
  in_range = omega arith;
  can = emptied_by_states shared half_deleted 0 1 _ _ half_is_legal (two_columns _ refl refl) (omega arith) refl (omega arith);
  fewest = λ other number in' can. emptied_holds 2 half_deleted other number can;
  lowest = λ lower number in' can. absurd (omega arith);
}

pub returns-clause-no_source : goal.returns-clause-no_source
returns-clause-no_source c slice held source =
    let some = emptied_holds 1 moved slice held source.can in
    let fewer = source.can.fewer in
    omega arith

-- a slice with a column that isn't claimed is no source
pub returns-clause-unfilled : goal.returns-clause-unfilled
returns-clause-unfilled c slice held source =
    let here : slice ≡ 0 = let in' = source.in_range in omega (arith, in') in
    false≢true (subst (λ s. is_claimed s 1 first_added ≡ true) here (source.can.filled 1 (omega arith)))

-- such a column is spare and ready
pub returns-clause-unclaimed : goal.returns-clause-unclaimed
returns-clause-unclaimed c =
    let used = (room_by 2 0 1 first_added (omega arith) refl refl refl refl).in_use in
    (total_of_one (HasSpareIn 2 first_added) 1 (inl (used, refl)), total_of_one (HasReadyIn 2 first_added) 1 (inl (used, refl)))

pub returns-clause-new : goal.returns-clause-new
returns-clause-new c =
    let used = (room_by 2 0 0 [] (omega arith) refl refl refl refl).in_use in
    (total_of_one (HasSpareIn 2 []) 2 (inl (used, refl)), total_of_one (HasReadyIn 2 []) 2 (inl (used, refl)))
