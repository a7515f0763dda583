-- How calls that are made one after another join.
use Rattle.std.proofs.Common.{◌≡◌, ◌≢◌, ℕ, List, [], ◌∷◌, ◌++◌, refl, sym, ap, ◌∙◌, subst, arith, append_assoc, append-nil, inl, inr, Result, Ok, Err, OnErr}
use Rattle.std.proofs.lemmas.List.Elements.{All-append, All-cons, All-nil}
use Rattle.funnel_model.specs.declared.call.Call.{Call}
use Rattle.funnel_model.specs.declared.call.Call.TheVariants as call
use Rattle.funnel_model.specs.declared.event.Event.{Event}
use Rattle.funnel_model.specs.declared.reply.Reply.{Reply}
use Rattle.funnel_model.specs.declared.reply.Reply.TheVariants as reply
use Rattle.funnel_model.proofs.StepCauses.{memory_cause}
use Rattle.funnel_model.proofs.StepLemmas.{prefix_refl}
use Rattle.funnel_model.specs.Steps.{Step}
use Rattle.line_proto.specs.Forms.{Calls}
use Rattle.line_proto.specs.Services.{AnswersCall, Caller}
use Rattle.funnel_server.proofs.JoinedCalls.{linear-append}
use Rattle.funnel_server.specs.Loads.{AreAsked}
use Rattle.funnel_server.specs.Shares.{EndsEarly, FindsMemory, IsDone}

-- what holds anyhow holds where there is an error
pub on_err : {T E P : Type 0} (result : Result T E) → P → OnErr result P
on_err (Ok value) holds = tt
on_err (Err error) holds = holds

-- calls that are asked one after another
pub asked-append : (caller : Caller) (before middle after : List Event) (calls more : List Call) (replies given : List Reply) →
    AreAsked caller before middle calls replies → AreAsked caller middle after more given →
    AreAsked caller before after (calls ++ more) (replies ++ given)
asked-append caller before middle after calls more replies given first next = record {
  run = linear-append caller.limits caller.pass before middle after calls more replies given first.run next.run;
  memory = All-append (λ r. r ≢ reply.Memory) replies given first.memory next.memory;
}

-- no call
pub asked-none : (caller : Caller) (front : List Event) → AreAsked caller front front [] []
asked-none caller front = record { run = refl; memory = All-nil (λ r. r ≢ reply.Memory) }

-- and where their replies are of no matter
pub done-append : (caller : Caller) (before middle after : List Event) (calls more : List Call) → IsDone caller before middle calls →
    IsDone caller middle after more → IsDone caller before after (calls ++ more)
done-append caller before middle after calls more (replies, first) (given, next) =
    (replies ++ given, asked-append caller before middle after calls more replies given first next)

-- calls end early where the first ones do
pub stopped-first : (caller : Caller) (before after : List Event) (calls more : List Call) → EndsEarly caller before after calls →
    EndsEarly caller before after (calls ++ more)
stopped-first caller before after calls more stopped = record {
  asked = stopped.asked;
  next = stopped.next;
  later = stopped.later ++ more;
  calls_are = ap (λ cs. cs ++ more) stopped.calls_are ∙ append_assoc stopped.asked (stopped.next ∷ stopped.later) more;
  stops = record {
    middle = stopped.stops.middle;
    replies = stopped.stops.replies;
    answered = stopped.stops.answered;
    ends = stopped.stops.ends;
  };
}

-- and where the first ones are made and the others end early
pub stopped-later : (caller : Caller) (before middle after : List Event) (calls more : List Call) → IsDone caller before middle calls →
    EndsEarly caller middle after more → EndsEarly caller before after (calls ++ more)
stopped-later caller before middle after calls more (replies, first) stopped = record {
  asked = calls ++ stopped.asked;
  next = stopped.next;
  later = stopped.later;
  calls_are = ap (λ cs. calls ++ cs) stopped.calls_are ∙ sym (append_assoc calls stopped.asked (stopped.next ∷ stopped.later));
  stops = record {
    middle = stopped.stops.middle;
    replies = replies ++ stopped.stops.replies;
    answered = asked-append caller before middle stopped.stops.middle calls stopped.asked replies stopped.stops.replies first stopped.stops.answered;
    ends = stopped.stops.ends;
  };
}

-- a find that is not asked after a call, since there is no memory for the name that it looks for
pub stopped-none : (caller : Caller) (before front : List Event) (asked : Call) (given : Reply) (query : List ℕ) (others : List Call) →
    AreAsked caller before front (asked ∷ []) (given ∷ []) → EndsEarly caller front front (call.Find query ∷ others)
stopped-none caller before front asked given query others answered =
    let step = subst (λ h. Step caller.limits caller.pass before h asked given) answered.run.2 answered.run.1 in record {
      asked = [];
      next = call.Find query;
      later = others;
      calls_are = refl;
      stops = record {
        middle = front;
        replies = [];
        answered = asked-none caller front;
        ends = record {
          grows = prefix_refl front;
          legal = step.legal;
          idle_before = step.idle_after;
          idle_after = step.idle_after;
          few_moves = omega arith;
          outcome = inr (inl (record { reply = refl; call = inl refl }));
        };
      };
    }

-- a call that finds no memory
pub stopped-one : (caller : Caller) (before after : List Event) (asked : Call) → AnswersCall caller before after asked reply.Memory →
    EndsEarly caller before after (asked ∷ [])
stopped-one caller before after asked answers = record {
  asked = [];
  next = asked;
  later = [];
  calls_are = refl;
  stops = record { middle = before; replies = []; answered = asked-none caller before; ends = answers.step };
}

-- a call that finds memory is asked
pub asked-one : (caller : Caller) (before after : List Event) (asked : Call) (given : Reply) → FindsMemory caller before after (Calls asked) given →
    AreAsked caller before after (asked ∷ []) (given ∷ [])
asked-one caller before after asked given finds = record {
  run = (after, finds.answers.step, refl);
  memory = All-cons (λ r. r ≢ reply.Memory) given [] finds.found (All-nil (λ r. r ≢ reply.Memory));
}

-- a delete is asked, and its reply is no want of memory
pub deleted-one : (caller : Caller) (before after : List Event) (id : ℕ) (given : Reply) → AnswersCall caller before after (call.Delete id) given →
    IsDone caller before after (call.Delete id ∷ [])
deleted-one caller before after id given answers = (
  given ∷ [],
  record {
    run = (after, answers.step, refl);
    memory = All-cons (λ r. r ≢ reply.Memory) given [] found (All-nil (λ r. r ≢ reply.Memory));
  },
)
  where
    found : given ≢ reply.Memory
    found is = memory_cause caller.limits caller.pass before after (call.Delete id) (subst (λ r. Step caller.limits caller.pass before after (call.Delete id) r) is answers.step)

-- of these calls the first ones are made, and those are left
pub record AreUnderWay (caller : Caller) (before now : List Event) (calls left : List Call) (replies : List Reply) : Type 0 where
  pub made : List Call
  pub calls_are : calls ≡ made ++ left
  pub asked : AreAsked caller before now made replies

-- none of them is made yet
pub under_way-begin : (caller : Caller) (front : List Event) (calls left : List Call) → calls ≡ left → AreUnderWay caller front front calls left []
under_way-begin caller front calls left are = record { made = []; calls_are = are; asked = asked-none caller front }

-- the next of them are made, by a caller that is the same
pub under_way-more : (caller asking : Caller) (before now after : List Event) (calls left asked later : List Call) (replies given : List Reply) → asking ≡ caller →
    AreUnderWay caller before now calls left replies → left ≡ asked ++ later → AreAsked asking now after asked given →
    AreUnderWay caller before after calls later (replies ++ given)
under_way-more caller asking before now after calls left asked later replies given same so_far are next = record {
  made = so_far.made ++ asked;
  calls_are = so_far.calls_are ∙ ap (λ cs. so_far.made ++ cs) are ∙ sym (append_assoc so_far.made asked later);
  asked =
      asked-append caller before now after so_far.made asked replies given so_far.asked
      (subst (λ k. AreAsked k now after asked given) same next);
}

-- the next of them end early
pub under_way-stop : (caller asking : Caller) (before now after : List Event) (calls left asked later : List Call) (replies : List Reply) → asking ≡ caller →
    AreUnderWay caller before now calls left replies → left ≡ asked ++ later → EndsEarly asking now after asked → EndsEarly caller before after calls
under_way-stop caller asking before now after calls left asked later replies same so_far are stopped =
    subst (EndsEarly caller before after) (sym (so_far.calls_are ∙ ap (λ cs. so_far.made ++ cs) are))
    (stopped-later caller before now after so_far.made (asked ++ later) (replies, so_far.asked)
    (stopped-first caller now after asked later (subst (λ k. EndsEarly k now after asked) same stopped)))

-- none is left
pub under_way-end : (caller : Caller) (before after : List Event) (calls left : List Call) (replies : List Reply) → AreUnderWay caller before after calls left replies →
    left ≡ [] → AreAsked caller before after calls replies
under_way-end caller before after calls left replies so_far none =
    subst (λ cs. AreAsked caller before after cs replies)
    (sym (so_far.calls_are ∙ ap (λ cs. so_far.made ++ cs) none ∙ append-nil so_far.made)) so_far.asked
