use Rattle.funnel_model.specs.declared.event.Event.TheVariants as event
use Rattle.funnel_model.proofs.Progress.{add_begins, allowed_by, delete_begins, put_begins, recycle_begins}
use Rattle.funnel_model.proofs.laws.invariants.calls_can_begin.Goals as goal

pub returns-clause-add : goal.returns-clause-add
returns-clause-add c limits history pass id text legal in' none idle = add_begins limits history pass legal in' none id text idle

pub returns-clause-put : goal.returns-clause-put
returns-clause-put c limits history pass id text legal in' none idle = put_begins limits history pass legal in' none id text idle

pub returns-clause-delete : goal.returns-clause-delete
returns-clause-delete c limits history pass id legal in' none idle = delete_begins limits history pass legal in' none id idle

pub returns-clause-recycle : goal.returns-clause-recycle
returns-clause-recycle c limits history pass legal in' none idle = recycle_begins limits history pass legal in' none idle

pub returns-clause-find : goal.returns-clause-find
returns-clause-find c limits history pass query in' none idle = allowed_by limits history (event.Find pass query) in' none idle

pub returns-clause-read : goal.returns-clause-read
returns-clause-read c limits history pass asked in' none idle reads =
    allowed_by limits history (event.Read pass asked) in' none (record { idle = idle; reads = reads })
