use Rattle.funnel_model.proofs.Columns.{last_is_pending, pending_is_last}
use Rattle.funnel_model.proofs.LastEvents.{clearer_is_last, last_is_clearer, token_is_last}
use Rattle.funnel_model.proofs.OpenTokens.{last_has_token, token_is_silent}
use Rattle.funnel_model.proofs.laws.invariants.last_events_tell_what_passes_hold.Goals as goal

pub returns-clause-pending : goal.returns-clause-pending
returns-clause-pending c = pending_is_last

pub returns-clause-taken : goal.returns-clause-taken
returns-clause-taken c = last_is_pending

pub returns-clause-clearing : goal.returns-clause-clearing
returns-clause-clearing c = clearer_is_last

pub returns-clause-cleared : goal.returns-clause-cleared
returns-clause-cleared c = last_is_clearer

pub returns-clause-finding : goal.returns-clause-finding
returns-clause-finding c = token_is_last

pub returns-clause-found : goal.returns-clause-found
returns-clause-found c history pass query last = last_has_token pass query history last

pub returns-clause-since : goal.returns-clause-since
returns-clause-since c = token_is_silent
