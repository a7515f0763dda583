use Rattle.std.proofs.Common.{[], ◌∷◌, ◌++◌, ⊎_elim, codes, refl, arith}
use Rattle.funnel_model.specs.declared.call.Call.TheVariants as call
use Rattle.funnel_model.specs.declared.event.Event.TheVariants as event
use Rattle.funnel_model.specs.declared.reply.Reply.TheVariants as reply
use Rattle.funnel_model.specs.Example.{first_added, small}
use Rattle.funnel_model.specs.PutExample.{replaced}
use Rattle.funnel_model.specs.RecycleExample.{paired}
use Rattle.funnel_model.specs.Steps.{AnswersLast}
use Rattle.funnel_model.proofs.Histories.{allowed_within, legal_before}
use Rattle.funnel_model.proofs.Retirement.{full_has_no_room}
use Rattle.funnel_model.proofs.StepCauses.{one_answer}
use Rattle.funnel_model.proofs.laws.counter_examples.puts_out_of_place.Goals as goal

pub returns-clause-refused : goal.returns-clause-refused
returns-clause-refused c legal =
    let put = event.No 0 (call.Put 9 []) in
    full_has_no_room paired [] 0 tt (allowed_within paired (put ∷ []) [] put [] legal refl).rule.refused (omega arith) (0, omega arith, refl)

pub returns-clause-present : goal.returns-clause-present
returns-clause-present c legal =
    let put = event.No 0 (call.Put 9 []) in
    full_has_no_room small first_added 0 (legal_before small first_added (put ∷ []) legal)
    (allowed_within small (first_added ++ put ∷ []) first_added put [] legal refl).rule.refused (omega arith) (1, omega arith, refl)

pub returns-clause-two_turns : goal.returns-clause-two_turns
returns-clause-two_turns c given step =
    ⊎_elim
    (λ made. let calls = made.call in cc)
    (λ rest. ⊎_elim
    (λ lacks. let calls = lacks.call in cc)
    (λ more. ⊎_elim
    (λ spent. let calls = spent.call in cc)
    (λ last. ⊎_elim (λ judged. let other = judged.query in cc) (λ put. let calls = put.call in cc) last)
    more)
    rest)
    step.outcome

-- the put is told that it replaced a document
told : AnswersLast small 0 replaced (call.Add 9 (codes "b")) (reply.Replaced 2)
told = record {
  earlier = first_added ++ event.Take 0 0 1 ∷ [];
  event = event.Add 0 9 (codes "b") 0 1 [];
  later = [];
  whole = refl;
  call = refl;
  last = refl;
  reply = refl;
}

pub returns-clause-told_as_added : goal.returns-clause-told_as_added
returns-clause-told_as_added c step =
    ⊎_elim
    (λ made. let same = one_answer small 0 replaced (call.Put 9 (codes "b")) (call.Add 9 (codes "b")) (reply.Added 2) (reply.Replaced 2) made.answered told in cc)
    (λ rest. ⊎_elim
    (λ lacks. let other = lacks.reply in cc)
    (λ more. ⊎_elim
    (λ spent. let other = spent.reply in cc)
    (λ last. ⊎_elim
    (λ judged. let other = judged.query in cc)
    (λ put. let same = one_answer small 0 replaced (call.Add put.id put.text) (call.Add 9 (codes "b")) (reply.Added 2) (reply.Replaced 2) put.answered told in cc)
    last)
    more)
    rest)
    step.outcome
