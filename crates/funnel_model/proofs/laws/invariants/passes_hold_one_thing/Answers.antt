use Rattle.funnel_model.proofs.Invariants.{cleared_by_one, one_cleared, one_pending}
use Rattle.funnel_model.proofs.OpenTokens.{token_is_one}
use Rattle.funnel_model.proofs.laws.invariants.passes_hold_one_thing.Goals as goal

pub returns-clause-column : goal.returns-clause-column
returns-clause-column c = one_pending

pub returns-clause-slice : goal.returns-clause-slice
returns-clause-slice c = one_cleared

pub returns-clause-clearer : goal.returns-clause-clearer
returns-clause-clearer c = cleared_by_one

pub returns-clause-token : goal.returns-clause-token
returns-clause-token c = token_is_one
