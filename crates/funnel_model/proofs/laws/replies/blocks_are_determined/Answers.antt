use Rattle.funnel_model.proofs.Blocks.{one_block, one_list_of_blocks}
use Rattle.funnel_model.proofs.laws.replies.blocks_are_determined.Goals as goal

pub returns-clause-one : goal.returns-clause-one
returns-clause-one c = one_block

pub returns-clause-all : goal.returns-clause-all
returns-clause-all c = one_list_of_blocks
