use Rattle.row_layout.proofs.Owners.{exact-owned, one_owner, one_owner-treated, own-column, private-owned}
use Rattle.row_layout.proofs.laws.owned_bits_have_one_owner.Goals as goal

pub returns-clause-one : goal.returns-clause-one
returns-clause-one c = one_owner

pub returns-clause-treated : goal.returns-clause-treated
returns-clause-treated c = one_owner-treated

pub returns-clause-private : goal.returns-clause-private
returns-clause-private c = private-owned

pub returns-clause-exact : goal.returns-clause-exact
returns-clause-exact c = exact-owned

pub returns-clause-own : goal.returns-clause-own
returns-clause-own c = own-column
