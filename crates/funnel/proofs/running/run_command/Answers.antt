use Rattle.std.proofs.Common.{refl}
use Rattle.funnel.proofs.Turns.{runs_nowhere}
use Rattle.funnel.specs.declared.ends.Why.TheVariants as why_of
use Rattle.funnel.proofs.running.run_command.Goals as goal

pub returns-in_default-clause-in_turns : goal.returns-in_default-clause-in_turns
returns-in_default-clause-in_turns g c = runs_nowhere g.S.Source.read_gives g.K.Sink.write_gives (c.args.input.now, c.args.output.now) why_of.Memory why_of.Memory refl (λ is. cc)
