use Rattle.funnel_stats.specs.Configurations.{config_of}
use Rattle.funnel_stats.proofs.TuningLemmas.{tuning-empty}
use Rattle.funnel_stats.proofs.laws.the_empty_text_gives_defaults.Goals as goal

pub returns : goal.returns
unfolding config_of
returns c = tuning-empty
