use Rattle.funnel_model.specs.declared.event.Event.TheVariants as event
use Rattle.std.proofs.Common.{false, [], ◌∷◌, ◌++◌}
use Rattle.funnel_model.proofs.NextEvents.{awaited-push, awaited_is_next, next_of_clear, next_of_find, next_of_take}
use Rattle.funnel_model.proofs.laws.invariants.calls_go_on.Goals as goal

pub returns-clause-take : goal.returns-clause-take
returns-clause-take c = next_of_take

pub returns-clause-clear : goal.returns-clause-clear
returns-clause-clear c = next_of_clear

pub returns-clause-find : goal.returns-clause-find
returns-clause-find c = next_of_find

pub returns-clause-opened : goal.returns-clause-opened
returns-clause-opened c limits history e pass slice allowed =
    let opened = event.Opened pass slice false in
    awaited_is_next limits (history ++ opened ∷ []) e (event.Take pass slice 0) allowed (awaited-push history opened)
