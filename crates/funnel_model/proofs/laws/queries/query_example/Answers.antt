use Rattle.std.proofs.Common.{[], ◌∷◌, ◌++◌, refl, arith, inl}
use Rattle.funnel_model.specs.declared.call.Call.TheVariants as call
use Rattle.funnel_model.specs.declared.event.Event.TheVariants as event
use Rattle.funnel_model.specs.Example.{first_added, small}
use Rattle.funnel_model.specs.Legal.{IsLegal}
use Rattle.funnel_model.proofs.ExampleLemmas.{no_bits, none_wide}
use Rattle.funnel_model.proofs.SpareLemmas.{room_by}
use Rattle.funnel_model.proofs.StepLemmas.{step_judged}
use Rattle.funnel_model.proofs.laws.queries.query_example.Goals as goal

found_is_legal : IsLegal small (first_added ++ event.Find 0 [] ∷ event.End 0 ∷ [])
found_is_legal = (
  record { pass = omega arith; at_once = tt; rule = inl (record { idle = tt; in_range = omega arith; room = room_by 2 0 0 _ (omega arith) refl refl refl refl; lowest = λ lower in'. absurd (omega arith); next = refl }) },
  (
    record { pass = omega arith; at_once = tt; rule = record { taken = refl; inside = no_bits; in_word = none_wide } },
    (
      record { pass = omega arith; at_once = tt; rule = refl },
      (record { pass = omega arith; at_once = tt; rule = record { query = []; begun = refl } }, tt),
    ),
  ),
)

pub returns-clause-found : goal.returns-clause-found
returns-clause-found c expr = step_judged small 0 first_added (call.Query expr) expr refl refl found_is_legal

pub returns-clause-counted : goal.returns-clause-counted
returns-clause-counted c expr = step_judged small 0 first_added (call.Count expr) expr refl refl found_is_legal

pub returns-clause-newest : goal.returns-clause-newest
returns-clause-newest c expr most = step_judged small 0 first_added (call.Newest expr most) expr refl refl found_is_legal

pub returns-clause-oldest : goal.returns-clause-oldest
returns-clause-oldest c expr most = step_judged small 0 first_added (call.Oldest expr most) expr refl refl found_is_legal

pub returns-clause-other : goal.returns-clause-other
returns-clause-other c expr given judged = let alone = judged.call in cc
