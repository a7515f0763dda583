-- The text lies between the end before, or the start, and its own end.
use Rattle.std.proofs.Common.{◌-◌, ◌∙◌, arith}
use Rattle.funnel_model.proofs.WordSetLemmas.{end_within}
use Rattle.load_gen.proofs.Texts.{boundary, later, ordered}
use Rattle.load_gen.proofs.load.text_at.Goals as goal

pub range-requires-clause-end_boundary : goal.range-requires-clause-end_boundary
range-requires-clause-end_boundary c = boundary _ _ c.requires.stored.ascii (end_within 0 _ _ _ c.requires.stored.within c.requires.in_range)

pub range-requires-2-clause-start_le_end : goal.range-requires-2-clause-start_le_end
range-requires-2-clause-start_le_end c = ordered _ _ _ c.requires.stored.within (omega arith) c.requires.in_range

pub range-requires-2-clause-start_boundary : goal.range-requires-2-clause-start_boundary
range-requires-2-clause-start_boundary c _ = boundary _ _ c.requires.stored.ascii (end_within 0 _ _ (c.args.index - 1) c.requires.stored.within (omega (arith, c.requires.in_range)))

pub range-requires-2-clause-end_boundary : goal.range-requires-2-clause-end_boundary
range-requires-2-clause-end_boundary c = boundary _ _ c.requires.stored.ascii (end_within 0 _ _ _ c.requires.stored.within c.requires.in_range)

pub returns : goal.returns
returns c = c.range-2.ensures.value ∙ later _ _ _ _ (omega arith) c.requires.in_range
