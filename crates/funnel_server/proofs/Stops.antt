-- The calls of a worker in a part: all of them, or the first ones.
use Rattle.std.proofs.Common.{◌≡◌, true, false, Bool, List, [], ◌∷◌, ◌++◌, sym, refl, append-nil}
use Rattle.std.specs.Prelude.{MatchBool, ◌≢◌}
use Rattle.funnel_model.specs.declared.call.Call.{Call}
use Rattle.funnel_model.specs.declared.event.Event.{Event}
use Rattle.line_proto.specs.Services.{Caller}
use Rattle.funnel_server.specs.Loads.{StopsAfter}
use Rattle.funnel_server.specs.Shares.{EndsEarly, IsDone}

-- the calls of a part: those that the worker asked, and those that are left
pub record Cut (caller : Caller) (before after : List Event) (calls : List Call) (stopped : Bool) (asked left : List Call) : Type 0 where
  pub calls_are : calls ≡ asked ++ left
  pub stops : StopsAfter caller before after asked left
  pub some_left : stopped ≡ true → left ≢ []

-- a worker that ended a part asked all its calls, or stopped at one of them
pub cut_in_part : (caller : Caller) (before after : List Event) (calls : List Call) (stopped : Bool) →
    MatchBool stopped (EndsEarly caller before after calls) (IsDone caller before after calls) →
    (parts : List Call × List Call) × Cut caller before after calls stopped parts.0 parts.1
cut_in_part caller before after calls false done = (
  (calls, []),
  record {
    calls_are = sym (append-nil calls);
    stops = record { middle = after; replies = done.0; answered = done.1; ends = refl };
    some_left = λ yes. absurd (cc yes);
  },
)
cut_in_part caller before after calls true early = (
  (early.asked, early.next ∷ early.later),
  record { calls_are = early.calls_are; stops = early.stops; some_left = λ _ none. absurd (cc none) },
)
