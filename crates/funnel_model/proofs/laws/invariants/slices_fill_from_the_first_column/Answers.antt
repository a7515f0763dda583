use Rattle.funnel_model.proofs.Claims.{claimed_first, claimed_in_range}
use Rattle.funnel_model.proofs.Invariants.{clearing_is_filled, retired_is_filled}
use Rattle.funnel_model.proofs.laws.invariants.slices_fill_from_the_first_column.Goals as goal

pub returns-clause-first : goal.returns-clause-first
returns-clause-first c = claimed_first

pub returns-clause-in_range : goal.returns-clause-in_range
returns-clause-in_range c = claimed_in_range

pub returns-clause-retired : goal.returns-clause-retired
returns-clause-retired c = retired_is_filled

pub returns-clause-clearing : goal.returns-clause-clearing
returns-clause-clearing c = clearing_is_filled
