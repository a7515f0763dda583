use Rattle.std.proofs.Common.{List, [], ◌∷◌, ◌++◌, refl, arith, inl, inr}
use Rattle.unicode_segmentation.proofs.Computing.{unicode_segmentation}
use Rattle.funnel_model.specs.declared.call.Call.TheVariants as call
use Rattle.funnel_model.specs.declared.event.Event.{Event}
use Rattle.funnel_model.specs.declared.event.Event.TheVariants as event
use Rattle.funnel_model.specs.declared.reply.Reply.TheVariants as reply
use Rattle.funnel_model.specs.Example.{episode, first_added, small}
use Rattle.funnel_model.specs.Legal.{IsLegal}
use Rattle.funnel_model.proofs.Histories.{legal_before}
use Rattle.funnel_model.proofs.StepLemmas.{step_added, step_found, step_refused}
use Rattle.funnel_model.proofs.ExampleLemmas.{one_slice, two_columns, no_bits, none_wide}
use Rattle.funnel_model.proofs.SpareLemmas.{not_retired, room_by}
use Rattle.funnel_model.proofs.laws.examples.example.Goals as goal

episode_is_legal : IsLegal small episode
episode_is_legal = (
  record { pass = omega arith; at_once = tt; rule = inl (record { idle = tt; in_range = omega arith; room = room_by 2 0 0 _ (omega arith) refl refl refl refl; lowest = λ lower in'. absurd (omega arith); next = refl }) },
  (
    record { pass = omega arith; at_once = tt; rule = record { taken = refl; inside = no_bits; in_word = none_wide } },
    (
      record { pass = omega arith; at_once = tt; rule = record { idle = refl; refused = inl refl } },
      (
        record { pass = omega arith; at_once = tt; rule = inl (record { idle = refl; in_range = omega arith; room = room_by 2 0 1 _ (omega arith) refl refl refl refl; lowest = λ lower in'. absurd (omega arith); next = refl }) },
        (
          record { pass = omega arith; at_once = tt; rule = record { taken = refl; inside = no_bits; in_word = none_wide } },
          (
            record { pass = omega arith; at_once = tt; rule = refl },
            (
              record { pass = omega arith; at_once = tt; rule = record { query = []; begun = refl } },
              (
                record { pass = omega arith; at_once = tt; rule = record { idle = refl; refused = inr (one_slice _ (inl (two_columns _ refl refl, not_retired 2 0 0 _ (omega arith) refl refl))) } },
                tt,
              ),
            ),
          ),
        ),
      ),
    ),
  ),
)

pub returns-clause-legal : goal.returns-clause-legal
returns-clause-legal c = episode_is_legal

pub returns-clause-replies : goal.returns-clause-replies
unfolding unicode_segmentation
returns-clause-replies c = inl (refl, inr (_, _, refl, refl, inr (_, _, refl, refl, inl (refl, inr (_, _, refl, refl, inr (_, _, refl, refl, inl (refl, inr (_, _, refl, refl, refl))))))))

-- the fronts between the calls
abbrev refused : List Event
refused = first_added ++ event.No 0 (call.Add 9 []) ∷ []

abbrev both_added : List Event
both_added = refused ++ event.Take 0 0 1 ∷ event.Add 0 7 [] 0 1 [] ∷ []

abbrev found : List Event
found = both_added ++ event.Find 0 [] ∷ event.End 0 ∷ []

abbrev last : List Event
last = event.No 0 (call.Add 5 []) ∷ []

pub returns-clause-steps : goal.returns-clause-steps
unfolding unicode_segmentation
returns-clause-steps c =
    let after_added = event.Find 0 [] ∷ event.End 0 ∷ last in
    let after_refused = event.Take 0 0 1 ∷ event.Add 0 7 [] 0 1 [] ∷ after_added in
    let after_first = event.No 0 (call.Add 9 []) ∷ after_refused in (
      first_added,
      step_added small 0 [] 9 [] 0 0 [] 1 tt refl refl (legal_before small first_added after_first episode_is_legal),
      (
        refused,
        step_refused small 0 first_added (call.Add 9 []) (reply.Present 1) refl refl (legal_before small refused after_refused episode_is_legal),
        (
          both_added,
          step_added small 0 refused 7 [] 0 1 [] 2 refl refl refl (legal_before small both_added after_added episode_is_legal),
          (
            found,
            step_found small 0 both_added [] refl (legal_before small found last episode_is_legal),
            (episode, step_refused small 0 found (call.Add 5 []) reply.Full refl refl episode_is_legal, refl),
          ),
        ),
      ),
    )
