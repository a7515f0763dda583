use Rattle.std.proofs.Common.{[], ◌∷◌, ◌++◌, ⊎_elim, refl, arith}
use Rattle.funnel_model.specs.declared.call.Call.TheVariants as call
use Rattle.funnel_model.specs.declared.event.Event.TheVariants as event
use Rattle.funnel_model.specs.declared.reply.Reply.TheVariants as reply
use Rattle.funnel_model.specs.Example.{first_added, small}
use Rattle.funnel_model.specs.RecycleExample.{paired}
use Rattle.funnel_model.specs.Steps.{AnswersLast}
use Rattle.funnel_model.proofs.StepCauses.{never_unread, one_answer, spent_cause}
use Rattle.funnel_model.proofs.laws.counter_examples.steps_have_no_other_reply.Goals as goal

pub returns-clause-unread : goal.returns-clause-unread
returns-clause-unread c limits pass before after asked step =
    ⊎_elim (λ line. never_unread limits pass before after asked reply.Line refl line) (λ long. never_unread limits pass before after asked reply.Long refl long) step

pub returns-clause-untuned : goal.returns-clause-untuned
returns-clause-untuned c limits pass fault needed room before after asked step =
    ⊎_elim
    (λ tuning. never_unread limits pass before after asked (reply.Tuning fault) refl tuning)
    (λ wide. never_unread limits pass before after asked (reply.Wide needed room) refl wide)
    step

pub returns-clause-unasked : goal.returns-clause-unasked
returns-clause-unasked c limits pass at before after asked step =
    ⊎_elim
    (λ malformed. never_unread limits pass before after asked (reply.Query at) refl malformed)
    (λ deep. never_unread limits pass before after asked (reply.Deep at) refl deep)
    step

pub returns-clause-read : goal.returns-clause-read
returns-clause-read c before is = cc

-- the second add is answered that the number is present
refused : AnswersLast small 0 (first_added ++ event.No 0 (call.Add 9 []) ∷ []) (call.Add 9 []) (reply.Present 1)
refused = record { earlier = first_added; event = event.No 0 (call.Add 9 []); later = []; whole = refl; call = refl; last = refl; reply = refl }

pub returns-clause-older : goal.returns-clause-older
returns-clause-older c step =
    ⊎_elim
    (λ made. let same = one_answer small 0 (first_added ++ event.No 0 (call.Add 9 []) ∷ []) (call.Add 9 []) (call.Add 9 []) (reply.Added 1) (reply.Present 1) made.answered refused in cc)
    (λ rest. ⊎_elim (λ lacks. let other = lacks.reply in cc) (λ more. ⊎_elim (λ spent. let other = spent.reply in cc) (λ last. ⊎_elim (λ judged. let other = judged.query in cc) (λ put. let other = put.put in cc) last) more) rest)
    step.outcome

pub returns-clause-twice : goal.returns-clause-twice
returns-clause-twice c step =
    ⊎_elim (λ made. let alone = made.call in cc) (λ rest. ⊎_elim (λ lacks. let other = lacks.reply in cc) (λ more. ⊎_elim (λ spent. let other = spent.reply in cc) (λ last. ⊎_elim (λ judged. let other = judged.query in cc) (λ put. let other = put.put in cc) last) more) rest) step.outcome

pub returns-clause-empty : goal.returns-clause-empty
returns-clause-empty c asked step = let many = (spent_cause paired 0 [] [] asked step).0 in omega arith
