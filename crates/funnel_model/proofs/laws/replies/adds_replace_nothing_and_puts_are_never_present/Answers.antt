use Rattle.std.proofs.Common.{⊎_elim}
use Rattle.std.proofs.lemmas.Bool.{false≢true}
use Rattle.std.proofs.Common.{sym}
use Rattle.funnel_model.specs.declared.reply.Reply.TheVariants as reply
use Rattle.funnel_model.proofs.StepCauses.{adds_replace_none, put_outcome}
use Rattle.funnel_model.proofs.laws.replies.adds_replace_nothing_and_puts_are_never_present.Goals as goal

pub returns-clause-adds : goal.returns-clause-adds
returns-clause-adds c limits pass before after id place text step =
    false≢true (sym (adds_replace_none limits pass before after id text (reply.Replaced place) step))

pub returns-clause-puts : goal.returns-clause-puts
returns-clause-puts c = put_outcome

pub returns-clause-never_present : goal.returns-clause-never_present
returns-clause-never_present c limits pass before after id place text step =
    ⊎_elim
    (λ put. false≢true put.placed)
    (λ rest. ⊎_elim (λ full. cc) (λ more. ⊎_elim (λ memory. cc) (λ spent. cc) more) rest)
    (put_outcome limits pass before after id text (reply.Present place) step)
