use Rattle.funnel_model.proofs.Retirement.{not_over_before, over_since, retired_at-push, retired_at_some, retires_once}
use Rattle.funnel_model.proofs.laws.slices_retire_at_one_event.Goals as goal

pub returns-clause-some : goal.returns-clause-some
returns-clause-some c limits history slice legal some retired = retired_at_some limits history slice legal some retired.over

pub returns-clause-one : goal.returns-clause-one
returns-clause-one c columns slice number other history at other_at = retires_once columns slice number other history at other_at

pub returns-clause-since : goal.returns-clause-since
returns-clause-since c columns slice number front later at reached = over_since columns slice number front later at reached

pub returns-clause-first : goal.returns-clause-first
returns-clause-first c columns slice number front later at less stays over = not_over_before columns slice number front later at less stays over

pub returns-clause-stays : goal.returns-clause-stays
returns-clause-stays c columns slice number history e at stays = retired_at-push columns slice number history e at stays
