-- What holds of the history with recycles: its slices retire and are guarded, and it is legal.
use Rattle.std.proofs.Common.{ℕ, ◌<◌, true, List, [], ◌∷◌, ◌++◌, codes, refl, arith, inl}
use Rattle.std.specs.Prelude.{◌==◌}
use Rattle.funnel_model.specs.declared.call.Call.TheVariants as call
use Rattle.funnel_model.specs.declared.event.Event.{Event}
use Rattle.funnel_model.specs.declared.event.Event.TheVariants as event
use Rattle.funnel_model.specs.Legal.{CanClear, GoesOn, IsLegal}
use Rattle.funnel_model.specs.RecycleExample.{guarded, high_bit, low_bit, paired, recycled, slices_filled, together, unguarded}
use Rattle.funnel_model.specs.Slices.{IsRetired}
use Rattle.funnel_model.specs.Tokens.{Guards, HasToken}
use Rattle.funnel_model.proofs.ColumnStates.{state_from, state_of}
use Rattle.funnel_model.proofs.ExampleLemmas.{no_bits, none_wide, one_slice, two_columns}
use Rattle.funnel_model.proofs.Histories.{goes_on_join, legal-push, legal_before}
use Rattle.funnel_model.proofs.PairLemmas.{can_clear, ended, no_room, one_bit, one_narrow, one_over, recycles, retires_by, takes_first}
use Rattle.funnel_model.proofs.Retirement.{not_all_over}
use Rattle.funnel_model.proofs.SpareLemmas.{not_retired, room_by}

-- nothing is retired before the first event
pub nothing_retired : (slice : ℕ) → slice < 2 → IsRetired 1 slice [] → ⊥
nothing_retired = two_columns _ (not_retired 1 0 0 [] (omega arith) refl refl) (not_retired 1 1 0 [] (omega arith) refl refl)

filled_goes_on : GoesOn paired [] slices_filled
filled_goes_on = (
  record { pass = omega arith; at_once = tt; rule = record { idle = tt; refused = λ slice in' retired. absurd (nothing_retired slice in' retired) } },
  (
    record { pass = omega arith; at_once = tt; rule = inl (record { idle = refl; in_range = omega arith; room = room_by 1 0 0 _ (omega arith) refl refl refl refl; lowest = λ lower in'. absurd (omega arith); next = refl }) },
    (
      record { pass = omega arith; at_once = tt; rule = record { taken = refl; inside = one_bit 0 low_bit (record { from = omega arith; to = omega arith }); in_word = one_narrow low_bit (omega arith) } },
      (
        record { pass = omega arith; at_once = tt; rule = inl (record { idle = refl; in_range = omega arith; room = room_by 1 1 0 _ (omega arith) refl refl refl refl; lowest = one_slice _ (no_room _ 0 refl); next = refl }) },
        (
          record { pass = omega arith; at_once = tt; rule = record { taken = refl; inside = one_bit 1 high_bit (record { from = omega arith; to = omega arith }); in_word = one_narrow high_bit (omega arith) } },
          tt,
        ),
      ),
    ),
  ),
)

deleting_goes_on : GoesOn paired slices_filled (event.Find 1 (codes "A") ∷ event.Del 0 9 ∷ event.Del 0 7 ∷ [])
deleting_goes_on = (
  record { pass = omega arith; at_once = tt; rule = tt },
  (
    record { pass = omega arith; at_once = tt; rule = record { idle = refl; present = refl } },
    (
      record { pass = omega arith; at_once = tt; rule = record { idle = refl; present = refl } },
      tt,
    ),
  ),
)

pub guarded_is_legal : IsLegal paired guarded
guarded_is_legal = goes_on_join paired [] slices_filled (event.Find 1 (codes "A") ∷ event.Del 0 9 ∷ event.Del 0 7 ∷ []) filled_goes_on deleting_goes_on

-- up to the find, and up to the first delete
abbrev finding : List Event
finding = slices_filled ++ event.Find 1 (codes "A") ∷ []

abbrev first_deleted : List Event
first_deleted = finding ++ event.Del 0 9 ∷ []

-- the find of pass 1 is open
find_token : HasToken guarded 1 6
find_token = record { earlier = slices_filled; query = codes "A"; later = event.Del 0 9 ∷ event.Del 0 7 ∷ []; whole = refl; count = refl; stays = refl }

-- and guards both slices
pub low_guarded : Guards 1 guarded 0 1 6
unfolding state_from state_of
low_guarded = record {
  token = find_token;
  retired = record { over = one_over guarded 0 guarded_is_legal tt; not_clearing = refl };
  retired_at = 7;
  at_event = retires_by finding (event.Del 0 9) (event.Del 0 7 ∷ []) 0 (legal_before paired first_deleted (event.Del 0 7 ∷ []) guarded_is_legal) (λ over. over) tt refl;
  before = omega arith;
}

pub high_guarded : Guards 1 guarded 1 1 6
unfolding state_from state_of
high_guarded = record {
  token = find_token;
  retired = record { over = one_over guarded 1 guarded_is_legal tt; not_clearing = refl };
  retired_at = 8;
  at_event = retires_by first_deleted (event.Del 0 7) [] 1 guarded_is_legal (λ over. over) tt refl;
  before = omega arith;
}

refusing_goes_on : GoesOn paired guarded (event.No 0 call.Recycle ∷ event.End 1 ∷ [])
refusing_goes_on = (
  record { pass = omega arith; at_once = tt; rule = record { idle = refl; refused = two_columns _ (λ retired. (1, 6, low_guarded)) (λ retired. (1, 6, high_guarded)) } },
  (
    record { pass = omega arith; at_once = tt; rule = record { query = codes "A"; begun = refl } },
    tt,
  ),
)

pub unguarded_is_legal : IsLegal paired unguarded
unguarded_is_legal = goes_on_join paired [] guarded (event.No 0 call.Recycle ∷ event.End 1 ∷ []) guarded_is_legal refusing_goes_on

-- slice 0 can be cleared once the find has ended
pub low_can_clear : CanClear 1 unguarded 0
unfolding state_from state_of
low_can_clear = can_clear unguarded 0 unguarded_is_legal tt refl (λ pass. ended (1 == pass))

abbrev recycling : List Event
recycling = event.Clear 0 0 ∷ event.Opened 0 0 true ∷ event.Read 0 (call.Journal 0) ∷ event.Read 0 (call.Journal 1) ∷ event.Read 0 (call.Journal 4) ∷ []

recycling_goes_on : GoesOn paired unguarded recycling
recycling_goes_on =
    let both = recycles unguarded 0 refl refl (omega arith) low_can_clear (λ lower in'. absurd (omega arith)) in (
      both.0,
      (
        both.1.0,
        (
          record { pass = omega arith; at_once = tt; rule = record { idle = refl; reads = tt } },
          (
            record { pass = omega arith; at_once = tt; rule = record { idle = refl; reads = tt } },
            (
              record { pass = omega arith; at_once = tt; rule = record { idle = refl; reads = tt } },
              tt,
            ),
          ),
        ),
      ),
    )

pub recycled_is_legal : IsLegal paired recycled
recycled_is_legal = goes_on_join paired [] unguarded recycling unguarded_is_legal recycling_goes_on

-- pass 1 may clear slice 1, and slice 0 isn't retired any more
high_can_clear : CanClear 1 recycled 1
unfolding state_from state_of
high_can_clear = can_clear recycled 1 recycled_is_legal tt refl (λ pass. ended (1 == pass))

abbrev clearing : List Event
clearing = recycled ++ event.Clear 1 1 ∷ []

clearing_is_legal : IsLegal paired clearing
clearing_is_legal = goes_on_join paired [] recycled (event.Clear 1 1 ∷ []) recycled_is_legal (
  record {
    pass = omega arith;
    at_once = tt;
    rule = record {
      idle = refl;
      in_range = omega arith;
      can_clear = high_can_clear;
      lowest = one_slice _ (λ can. not_all_over paired recycled 0 0 recycled_is_legal (omega arith) refl can.retired.over);
    };
  },
  tt,
)

-- pass 1 may begin a find while pass 0 clears slice 0
pub read_while_clearing : IsLegal paired (unguarded ++ event.Clear 0 0 ∷ event.Find 1 [] ∷ [])
read_while_clearing =
    legal-push paired (unguarded ++ event.Clear 0 0 ∷ []) (event.Find 1 [])
    (goes_on_join paired [] unguarded (event.Clear 0 0 ∷ []) unguarded_is_legal (recycling_goes_on.0, tt)) (record { pass = omega arith; at_once = tt; rule = refl })

pub together_is_legal : IsLegal paired together
together_is_legal = goes_on_join paired [] clearing (event.Take 0 0 0 ∷ event.Opened 1 1 true ∷ event.Add 0 5 [] 0 0 [] ∷ []) clearing_is_legal (
  takes_first clearing clearing_is_legal refl refl refl refl refl,
  (
    record { pass = omega arith; at_once = tt; rule = record { cleared = refl } },
    (
      record { pass = omega arith; at_once = tt; rule = record { taken = refl; inside = no_bits; in_word = none_wide } },
      tt,
    ),
  ),
)
