use Rattle.funnel_model.proofs.LiveLemmas.{live-add, live-deletes, live-uncommitted, live_in_order, live_once}
use Rattle.funnel_model.proofs.laws.live_documents.Goals as goal

pub returns-clause-in_order : goal.returns-clause-in_order
returns-clause-in_order c = live_in_order

pub returns-clause-once : goal.returns-clause-once
returns-clause-once c = live_once

pub returns-clause-added : goal.returns-clause-added
returns-clause-added c = live-add

pub returns-clause-deleted : goal.returns-clause-deleted
returns-clause-deleted c = live-deletes

pub returns-clause-others : goal.returns-clause-others
returns-clause-others c = live-uncommitted
