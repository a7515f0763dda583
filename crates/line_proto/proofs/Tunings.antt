-- How the text of a tuning is answered, by what comes of it.
use Rattle.std.proofs.Common.{◌≡◌, ◌<◌, ◌≤◌, ℕ, List, Ok, Err, refl, subst, inr}
use Rattle.funnel_model.specs.declared.call.Call.TheVariants as call
use Rattle.funnel_model.specs.declared.config.Config.{Config}
use Rattle.funnel_model.specs.declared.event.Event.{Event}
use Rattle.funnel_model.specs.declared.reply.Reply.{Reply}
use Rattle.funnel_model.specs.declared.reply.Reply.TheVariants as reply
use Rattle.funnel_model.specs.Legal.{IsIdle, IsLegal}
use Rattle.funnel_model.specs.Sizes.{words_of_slice}
use Rattle.funnel_model.proofs.StepLemmas.{step_without_memory}
use Rattle.funnel_stats.specs.declared.fault.ConfigFault.{ConfigFault}
use Rattle.funnel_stats.specs.FaultNumbers.{number_of_fault}
use Rattle.funnel_stats.specs.Tunings.{Tuned, Gives, Faulty, Wide, tuning}
use Rattle.funnel_stats.proofs.TuningLemmas.{tuned-faulty, tuned-gives, tuned-wide}
use Rattle.line_proto.specs.Forms.{Tunes}
use Rattle.line_proto.specs.Services.{AnswersAsked, AnswersCall, AnswersTuned, Caller, RefusesTuning}

-- where no memory was found, whatever comes of it, the front stays
pub wants_memory : (caller : Caller) (front : List Event) → IsIdle caller.pass front → IsLegal caller.limits front → (comes : Tuned) → AnswersTuned caller front front comes reply.Memory
wants_memory caller front idle legal (Gives config) = record {
  step = step_without_memory caller.limits caller.pass front (call.Tune config) idle legal refl;
  spent = λ many. record { reply = inr refl; call = refl };
}
wants_memory caller front idle legal (Faulty fault) = (refl, inr refl)
wants_memory caller front idle legal (Wide needed room) = (refl, inr refl)

-- the answers to a text, by what it is as a tuning
module _ (caller : Caller) (before after : List Event) (text : List ℕ) (given : Reply) (answers : AnswersAsked caller before after (Tunes text) given) where
  pub by_fault : (fault : ConfigFault) → tuning caller.opening text ≡ Err fault → (before ≡ after) × RefusesTuning (Faulty (number_of_fault fault)) given
  by_fault fault is = subst (λ (comes : Tuned). AnswersTuned caller before after comes given) (tuned-faulty caller.opening text fault is) answers

  module _ (config : Config) (is : tuning caller.opening text ≡ Ok config) where
    pub by_width : words_of_slice caller.opening < words_of_slice config →
        (before ≡ after) × RefusesTuning (Wide (words_of_slice config) (words_of_slice caller.opening)) given
    by_width wide = subst (λ (comes : Tuned). AnswersTuned caller before after comes given) (tuned-wide caller.opening config text is wide) answers

    pub by_call : words_of_slice config ≤ words_of_slice caller.opening → AnswersCall caller before after (call.Tune config) given
    by_call narrow = subst (λ (comes : Tuned). AnswersTuned caller before after comes given) (tuned-gives caller.opening config text is narrow) answers
