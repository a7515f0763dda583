use Rattle.std.proofs.Common.{◌≡◌, Bool, true, false, cond, List, [], ◌∷◌, ◌++◌, sym, refl, ◌∙◌, arith, inl, inr}
use Rattle.std.specs.List.{list_any}
use Rattle.std.specs.Prelude.{◌==◌}
use Rattle.unicode_segmentation.proofs.Computing.{unicode_segmentation}
use Rattle.funnel_model.specs.declared.call.Call.TheVariants as call
use Rattle.funnel_model.specs.declared.event.Event.{Event}
use Rattle.funnel_model.specs.declared.event.Event.TheVariants as event
use Rattle.funnel_model.specs.Events.{opens}
use Rattle.funnel_model.specs.Example.{shared}
use Rattle.funnel_model.specs.Legal.{GoesOn}
use Rattle.funnel_model.specs.Slices.{AllOver, Deleted}
use Rattle.funnel_model.specs.Tokens.{IsGuarded}
use Rattle.funnel_model.proofs.ExampleLemmas.{one_slice, two_columns, no_bits, none_wide}
use Rattle.funnel_model.proofs.Histories.{goes_on_join}
use Rattle.funnel_model.proofs.SpareLemmas.{not_over, not_retired, room_by, token_finds_last}
use Rattle.funnel_model.proofs.laws.examples.reuse_example.Goals as goal

-- 9 and 7 fill the slice
abbrev filling : List Event
filling = event.Take 0 0 0 ∷ event.Add 0 9 [] 0 0 [] ∷ event.Take 0 0 1 ∷ event.Add 0 7 [] 0 1 [] ∷ []

-- both are deleted under the token of pass 1
abbrev deleting : List Event
deleting = event.Find 1 [] ∷ event.Del 0 9 ∷ event.Del 0 7 ∷ []

-- 5 is refused, and the token is handed back
abbrev guarding : List Event
guarding = event.No 0 (call.Add 5 []) ∷ event.End 1 ∷ []

-- the slice is cleared, and has 5
abbrev clearing : List Event
clearing = event.Clear 0 0 ∷ event.Opened 0 0 false ∷ event.Take 0 0 0 ∷ event.Add 0 5 [] 0 0 [] ∷ []

-- calls that change nothing
abbrev telling : List Event
telling =
    event.Find 0 [] ∷ event.End 0 ∷ event.Read 0 call.Place
    ∷ event.No 0 (call.Delete 9) ∷ event.No 0 (call.Add 5 []) ∷ []

-- both columns are deleted, and stay so while the slice isn't opened
both_over : (later : List Event) → list_any (opens 0) later ≡ false → AllOver 2 0 (filling ++ (deleting ++ later))
both_over later stays = two_columns _ (
  Deleted (record { id = 9; text = []; place = 1 }) 2 6,
  record {
    between = event.Take 0 0 1 ∷ event.Add 0 7 [] 0 1 [] ∷ event.Find 1 [] ∷ [];
    event = event.Del 0 9;
    later = event.Del 0 7 ∷ later;
    put = record { earlier = event.Take 0 0 0 ∷ []; event = event.Add 0 9 [] 0 0 []; whole = refl; count = refl; puts = refl; lives = (0, omega arith, refl); stays = stays };
    not_before = refl;
    takes_it_off = refl;
    count = refl;
  },
  tt,
) (
  Deleted (record { id = 7; text = []; place = 2 }) 4 7,
  record {
    between = event.Find 1 [] ∷ event.Del 0 9 ∷ [];
    event = event.Del 0 7;
    later = later;
    put = record { earlier = event.Take 0 0 0 ∷ event.Add 0 9 [] 0 0 [] ∷ event.Take 0 0 1 ∷ []; event = event.Add 0 7 [] 0 1 []; whole = refl; count = refl; puts = refl; lives = (1, omega arith, refl); stays = stays };
    not_before = refl;
    takes_it_off = refl;
    count = refl;
  },
  tt,
)

-- the slice retires with the second delete, after the token of pass 1
guarded : IsGuarded 2 (filling ++ deleting) 0
guarded = (
  1,
  5,
  record {
    token = record { earlier = filling; query = []; later = event.Del 0 9 ∷ event.Del 0 7 ∷ []; whole = refl; count = refl; stays = refl };
    retired = record { over = both_over [] refl; not_clearing = refl };
    retired_at = 7;
    at_event = record {
      earlier = filling ++ event.Find 1 [] ∷ event.Del 0 9 ∷ [];
      event = event.Del 0 7;
      later = [];
      whole = refl;
      count = refl;
      stays = refl;
      not_before = not_over 2 0 1 (filling ++ event.Find 1 [] ∷ event.Del 0 9 ∷ []) (omega arith) refl refl;
      over = both_over [] refl;
    };
    before = omega arith;
  },
)

-- a find that began and ended is not open
ended : (b : Bool) → cond b false (cond b true false) ≡ false
ended true = refl
ended false = refl

-- a test gives one answer
differ : true ≡ false → ⊥
differ is = cc

-- nobody guards the slice after the find has ended
unguarded : IsGuarded 2 (filling ++ (deleting ++ guarding)) 0 → ⊥
unguarded (pass, number, guards) = differ (sym (token_finds_last (filling ++ (deleting ++ guarding)) pass number guards.token) ∙ ended (1 == pass))

-- the slice has room, and neither number is live
filling_is_legal : GoesOn shared [] filling
filling_is_legal = (
  record { pass = omega arith; at_once = tt; rule = inl (record { idle = tt; in_range = omega arith; room = room_by 2 0 0 _ (omega arith) refl refl refl refl; lowest = λ lower in'. absurd (omega arith); next = refl }) },
  (
    record { pass = omega arith; at_once = tt; rule = record { taken = refl; inside = no_bits; in_word = none_wide } },
    (
      record { pass = omega arith; at_once = tt; rule = inl (record { idle = refl; in_range = omega arith; room = room_by 2 0 1 _ (omega arith) refl refl refl refl; lowest = λ lower in'. absurd (omega arith); next = refl }) },
      (
        record { pass = omega arith; at_once = tt; rule = record { taken = refl; inside = no_bits; in_word = none_wide } },
        tt,
      ),
    ),
  ),
)

-- both numbers are live
deleting_is_legal : GoesOn shared filling deleting
deleting_is_legal = (
  record { pass = omega arith; at_once = tt; rule = tt },
  (
    record { pass = omega arith; at_once = tt; rule = record { idle = refl; present = refl } },
    (
      record { pass = omega arith; at_once = tt; rule = record { idle = refl; present = refl } },
      tt,
    ),
  ),
)

-- the slice is retired and guarded, so that nothing can be taken
guarding_is_legal : GoesOn shared (filling ++ deleting) guarding
guarding_is_legal = (
  record { pass = omega arith; at_once = tt; rule = record { idle = refl; refused = inr (one_slice _ (inr (inl (record { over = both_over [] refl; not_clearing = refl }, guarded)))) } },
  (
    record { pass = omega arith; at_once = tt; rule = record { query = []; begun = refl } },
    tt,
  ),
)

-- the slice is retired and nobody guards it
clearing_is_legal : GoesOn shared (filling ++ (deleting ++ guarding)) clearing
clearing_is_legal = (
  record { pass = omega arith; at_once = tt; rule = record { idle = refl; in_range = omega arith; can_clear = record { retired = record { over = both_over guarding refl; not_clearing = refl }; unguarded = unguarded }; lowest = λ lower in'. absurd (omega arith) } },
  (
    record { pass = omega arith; at_once = tt; rule = record { cleared = refl } },
    (
      record { pass = omega arith; at_once = refl; rule = inr (record { opened = refl; first = refl; in_range = omega arith }) },
      (
        record { pass = omega arith; at_once = tt; rule = record { taken = refl; inside = no_bits; in_word = none_wide } },
        tt,
      ),
    ),
  ),
)

-- 9 is not live, and 5 is
telling_is_legal : GoesOn shared (filling ++ (deleting ++ (guarding ++ clearing))) telling
telling_is_legal = (
  record { pass = omega arith; at_once = tt; rule = refl },
  (
    record { pass = omega arith; at_once = tt; rule = record { query = []; begun = refl } },
    (
      record { pass = omega arith; at_once = tt; rule = record { idle = refl; reads = tt } },
      (
        record { pass = omega arith; at_once = tt; rule = record { idle = refl; refused = refl } },
        (
          record { pass = omega arith; at_once = tt; rule = record { idle = refl; refused = inl refl } },
          tt,
        ),
      ),
    ),
  ),
)

pub returns-clause-legal : goal.returns-clause-legal
returns-clause-legal c =
    goes_on_join shared [] filling (deleting ++ (guarding ++ (clearing ++ telling))) filling_is_legal
    (goes_on_join shared filling deleting (guarding ++ (clearing ++ telling)) deleting_is_legal
    (goes_on_join shared (filling ++ deleting) guarding (clearing ++ telling) guarding_is_legal
    (goes_on_join shared (filling ++ (deleting ++ guarding)) clearing telling clearing_is_legal telling_is_legal)))

pub returns-clause-replies : goal.returns-clause-replies
unfolding unicode_segmentation
returns-clause-replies c = inl (refl, inr (_, _, refl, refl, inl (refl, inr (_, _, refl, refl, inr (_, _, refl, refl, inr (_, _, refl, refl, inr (_, _, refl, refl, inr (_, _, refl, refl, inl (refl, inl (refl, inl (refl, inl (refl, inr (_, _, refl, refl, inr (_, _, refl, refl, inl (refl, inr (_, _, refl, refl, inr (_, _, refl, refl, inr (_, _, refl, refl, refl))))))))))))))))))

pub returns-clause-still_read : goal.returns-clause-still_read
returns-clause-still_read c = record {
  number = 5;
  token = record { earlier = filling; query = []; later = event.Del 0 9 ∷ event.Del 0 7 ∷ []; whole = refl; count = refl; stays = refl };
  in_use = record { not_retired = not_retired 2 0 1 filling (omega arith) refl refl; not_clearing = refl };
}
