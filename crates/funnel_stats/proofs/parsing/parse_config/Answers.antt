use Rattle.std.proofs.Common.{arith, inr}
use Rattle.funnel_stats.proofs.ConfigurationLemmas.{answer_of_bytes, configuration-too_long}
use Rattle.funnel_stats.proofs.parsing.parse_config.Goals as goal

pub returns-then-bytes-gt-LONGEST-clause-answer : goal.returns-then-bytes-gt-LONGEST-clause-answer
returns-then-bytes-gt-LONGEST-clause-answer c = inr (configuration-too_long c.args.bytes.now (omega (arith, c.if-bytes-gt-LONGEST.true)))

pub returns-clause-answer : goal.returns-clause-answer
returns-clause-answer c = answer_of_bytes c.args.bytes.now c.parse.result c.parse.ensures.answer
