use Rattle.funnel_model.proofs.Blocks.{full_has_block}
use Rattle.funnel_model.proofs.laws.full_engines_have_blocks.Goals as goal

pub returns : goal.returns
returns c = full_has_block
