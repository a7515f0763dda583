-- The calls of a connection, one after another.
use Rattle.std.proofs.Common.{◌≡◌, ◌⊎◌, List, [], ◌∷◌, refl, sym, subst, inl, inr}
use Rattle.funnel_model.specs.declared.event.Event.{Event}
use Rattle.funnel_model.specs.declared.reply.Reply.{Reply}
use Rattle.funnel_model.specs.Steps.{Linear}
use Rattle.line_proto.specs.Forms.{Asked}
use Rattle.line_proto.specs.Services.{Caller}
use Rattle.session.proofs.SessionLaws.{IsNone, IsOneCall, call_or_none}
use Rattle.http_front.specs.Entries.{Asks, Entry, Refused}
use Rattle.http_front.specs.Laws.{AsksInVain, AsksNoCall, AsksNothing, Asking, RunsCalls}
use Rattle.http_front.specs.Sessions.{Answers, AnswersEntry, Exchange, Exchanges}
use Rattle.http_front.specs.declared.outcome.Outcome.{Outcome}

-- an exchange without a call makes no step
goes_on : (caller : Caller) (before middle after : List Event) (exchange : Exchange) (exchanges : List Exchange) → before ≡ middle
    → AsksNothing exchange ⊎ AsksInVain exchange ⊎ AsksNoCall caller.opening exchange → RunsCalls caller middle after exchanges
    → RunsCalls caller before after (exchange ∷ exchanges)
goes_on caller before middle after exchange exchanges same none later = record {
  asked = later.asked;
  replies = later.replies;
  are = inl (none, later.are);
  steps = subst (λ (h : List Event). Linear caller.limits caller.pass h after later.asked later.replies) (sym same) later.steps;
}

-- what is asked is the first call, or none
asked_first : (caller : Caller) (before middle after : List Event) (exchange : Exchange) (asked : Asked) (given : Reply) (exchanges : List Exchange)
    → Asking exchange asked given → IsOneCall caller before middle asked given ⊎ IsNone caller before middle asked given
    → RunsCalls caller middle after exchanges → RunsCalls caller before after (exchange ∷ exchanges)
asked_first caller before middle after exchange asked given exchanges asks (inl one) later = record {
  asked = one.0 ∷ later.asked;
  replies = given ∷ later.replies;
  are = inr (
    later.asked,
    later.replies,
    record {
      asked = asked;
      given = given;
      asks = asks;
      made = one.0;
      is = one.1;
      calls_are = refl;
      replies_are = refl;
    },
    later.are,
  );
  steps = (middle, one.2, later.steps);
}
asked_first caller before middle after exchange asked given exchanges asks (inr none) later =
    goes_on caller before middle after exchange exchanges none.0 (inr (inr (record { asked = asked; given = given; asks = asks; none = none.1 }))) later

-- an entry that is answered makes the step of its call, or none
one_more : (caller : Caller) (before middle after : List Event) (entry : Entry) (told : Outcome) (exchanges : List Exchange)
    → AnswersEntry caller before entry told middle → RunsCalls caller middle after exchanges
    → RunsCalls caller before after (record { entry = entry; told = told } ∷ exchanges)
one_more caller before middle after (Asks asked form closing) told exchanges answers later =
    asked_first caller before middle after (record { entry = Asks asked form closing; told = told }) asked answers.0 exchanges
    (record { form = form; closing = closing; entry = refl; told = answers.1 }) (call_or_none caller before middle asked answers.0 answers.2) later
one_more caller before middle after (Refused why closing) told exchanges answers later =
    goes_on caller before middle after (record { entry = Refused why closing; told = told }) exchanges answers.1
    (inl (record { why = why; closing = closing; entry = refl })) later

pub runs_calls : (caller : Caller) (before after : List Event) (exchanges : List Exchange) → Answers caller before exchanges after
    → RunsCalls caller before after exchanges
runs_calls caller before after [] answers = record { asked = []; replies = []; are = (refl, refl); steps = answers }
runs_calls caller before after (exchange ∷ exchanges) answers =
    let later = runs_calls caller answers.0 after exchanges answers.2 in
    by_case later answers.1 where
      by_case : RunsCalls caller answers.0 after exchanges → Exchanges caller before exchange answers.0 → RunsCalls caller before after (exchange ∷ exchanges)
      by_case later (inl answered) = one_more caller before answers.0 after exchange.entry exchange.told exchanges answered later
      by_case later (inr lacks) =
          goes_on caller before answers.0 after exchange exchanges lacks.same (inr (inl (record { post = lacks.post; told = lacks.told }))) later
