use Rattle.std.proofs.Common.{[], ◌∷◌, ◌++◌, refl}
use Rattle.funnel_model.specs.declared.call.Call.TheVariants as call
use Rattle.funnel_model.specs.declared.event.Event.TheVariants as event
use Rattle.funnel_model.specs.RecycleExample.{paired}
use Rattle.funnel_model.proofs.Histories.{allowed_within}
use Rattle.funnel_model.proofs.NextEvents.{busy}
use Rattle.funnel_model.proofs.laws.counter_examples.tunings_out_of_turn.Goals as goal

pub returns-clause-taken : goal.returns-clause-taken
returns-clause-taken c config legal =
    let before = event.Take 0 0 0 ∷ [] in
    let tune = event.Tune 0 config in
    busy 0 before (event.Take 0 0 0) refl refl (allowed_within paired (before ++ tune ∷ []) before tune [] legal refl).rule

pub returns-clause-refused : goal.returns-clause-refused
returns-clause-refused c config legal =
    let no = event.No 0 (call.Tune config) in (allowed_within paired (no ∷ []) [] no [] legal refl).rule.refused

pub returns-clause-read : goal.returns-clause-read
returns-clause-read c config legal =
    let read = event.Read 0 (call.Tune config) in (allowed_within paired (read ∷ []) [] read [] legal refl).rule.reads
