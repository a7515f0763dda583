use Rattle.std.proofs.Common.{◌≡◌, List, [], ◌∷◌, ◌++◌, refl, arith, inl}
use Rattle.std.proofs.lemmas.List.Elements.{All-from_recursion}
use Rattle.unicode_segmentation.proofs.Computing.{unicode_segmentation}
use Rattle.funnel_model.specs.declared.event.Event.{Event}
use Rattle.funnel_model.specs.declared.event.Event.TheVariants as event
use Rattle.funnel_model.specs.Events.{pass_of}
use Rattle.funnel_model.specs.Example.{small}
use Rattle.funnel_model.specs.Legal.{IsLegal}
use Rattle.funnel_model.proofs.ExampleLemmas.{no_bits, none_wide}
use Rattle.funnel_model.proofs.Histories.{legal_before}
use Rattle.funnel_model.proofs.SpareLemmas.{room_by}
use Rattle.funnel_model.proofs.StepLemmas.{step_added, step_deleted, step_found}
use Rattle.load_laws.specs.LoadExample.{small_load_events}
use Rattle.load_laws.proofs.lone_pass.a_small_load_is_made.Goals as goal

events_are_legal : IsLegal small small_load_events
events_are_legal = (
  record { pass = omega arith; at_once = tt; rule = inl (record { idle = tt; in_range = omega arith; room = room_by 2 0 0 _ (omega arith) refl refl refl refl; lowest = λ lower in'. absurd (omega arith); next = refl }) },
  (
    record { pass = omega arith; at_once = tt; rule = record { taken = refl; inside = no_bits; in_word = none_wide } },
    (
      record { pass = omega arith; at_once = tt; rule = refl },
      (
        record { pass = omega arith; at_once = tt; rule = record { query = []; begun = refl } },
        (
          record { pass = omega arith; at_once = tt; rule = inl (record { idle = refl; in_range = omega arith; room = room_by 2 0 1 _ (omega arith) refl refl refl refl; lowest = λ lower in'. absurd (omega arith); next = refl }) },
          (
            record { pass = omega arith; at_once = tt; rule = record { taken = refl; inside = no_bits; in_word = none_wide } },
            (
              record { pass = omega arith; at_once = tt; rule = refl },
              (
                record { pass = omega arith; at_once = tt; rule = record { query = []; begun = refl } },
                (
                  record { pass = omega arith; at_once = tt; rule = record { idle = refl; present = refl } },
                  (
                    record { pass = omega arith; at_once = tt; rule = refl },
                    (
                      record { pass = omega arith; at_once = tt; rule = record { query = []; begun = refl } },
                      tt,
                    ),
                  ),
                ),
              ),
            ),
          ),
        ),
      ),
    ),
  ),
)

-- the fronts between the calls
abbrev one_added : List Event
one_added = event.Take 0 0 0 ∷ event.Add 0 9 [] 0 0 [] ∷ []

abbrev one_found : List Event
one_found = one_added ++ event.Find 0 [] ∷ event.End 0 ∷ []

abbrev two_added : List Event
two_added = one_found ++ event.Take 0 0 1 ∷ event.Add 0 7 [] 0 1 [] ∷ []

abbrev two_found : List Event
two_found = two_added ++ event.Find 0 [] ∷ event.End 0 ∷ []

abbrev one_deleted : List Event
one_deleted = two_found ++ event.Del 0 9 ∷ []

pub returns-clause-run : goal.returns-clause-run
unfolding unicode_segmentation
returns-clause-run c =
    let after_deleted = event.Find 0 [] ∷ event.End 0 ∷ [] in
    let after_two_found = event.Del 0 9 ∷ after_deleted in
    let after_two_added = event.Find 0 [] ∷ event.End 0 ∷ after_two_found in
    let after_one_found = event.Take 0 0 1 ∷ event.Add 0 7 [] 0 1 [] ∷ after_two_added in
    let after_one_added = event.Find 0 [] ∷ event.End 0 ∷ after_one_found in (
      one_added,
      step_added small 0 [] 9 [] 0 0 [] 1 tt refl refl (legal_before small one_added after_one_added events_are_legal),
      (
        one_found,
        step_found small 0 one_added [] refl (legal_before small one_found after_one_found events_are_legal),
        (
          two_added,
          step_added small 0 one_found 7 [] 0 1 [] 2 refl refl refl (legal_before small two_added after_two_added events_are_legal),
          (
            two_found,
            step_found small 0 two_added [] refl (legal_before small two_found after_two_found events_are_legal),
            (
              one_deleted,
              step_deleted small 0 two_found 9 3 refl refl (legal_before small one_deleted after_deleted events_are_legal),
              (small_load_events, step_found small 0 one_deleted [] refl events_are_legal, refl),
            ),
          ),
        ),
      ),
    )

pub returns-clause-alone : goal.returns-clause-alone
returns-clause-alone c = All-from_recursion (λ (e : Event). pass_of e ≡ 0) small_load_events (refl, (refl, (refl, (refl, (refl, (refl, (refl, (refl, (refl, (refl, (refl, tt)))))))))))

pub returns-clause-answers : goal.returns-clause-answers
unfolding unicode_segmentation
returns-clause-answers c = refl
