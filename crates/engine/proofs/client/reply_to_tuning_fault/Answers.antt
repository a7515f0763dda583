use Rattle.std.proofs.Common.{◌≡◌, refl, ap, ◌∙◌}
use Rattle.engine.specs.Replies.{reply_of_tuning_fault}
use Rattle.funnel_model.specs.declared.reply.Reply.TheVariants as reply
use Rattle.funnel_stats.specs.FaultNumbers.{number_of_fault}
use Rattle.funnel_stats.specs.declared.fault.ConfigFault.{ConfigFault}
use Rattle.funnel_stats.specs.declared.fault.ConfigFault.TheVariants as cause
use Rattle.engine.proofs.client.reply_to_tuning_fault.Goals as goal

-- a fault that is no want of memory is told by its number
by_number : (fault : ConfigFault) → (fault ≡ cause.Memory → ⊥) → reply.Tuning (number_of_fault fault) ≡ reply_of_tuning_fault fault
by_number cause.Memory other = absurd (other refl)
by_number _ other = refl

pub returns : goal.returns
returns c = ap reply.Tuning c.number.ensures ∙ by_number c.args.fault c.in_default.not-Memory
