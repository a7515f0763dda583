use Rattle.std.proofs.Common.{[], ◌∷◌, ◌++◌, refl}
use Rattle.std.proofs.lemmas.Bool.{both_ways}
use Rattle.funnel_model.specs.declared.event.Event.TheVariants as event
use Rattle.funnel_model.specs.RecycleExample.{paired, unguarded}
use Rattle.funnel_model.specs.Slices.{is_clearing}
use Rattle.funnel_model.proofs.Clears.{read_not_clearing}
use Rattle.funnel_model.proofs.RecycleFacts.{read_while_clearing}
use Rattle.funnel_model.proofs.laws.counter_examples.slices_being_cleared_are_not_read.Goals as goal

pub returns : goal.returns
returns c read =
    let history = unguarded ++ event.Clear 0 0 ∷ event.Find 1 [] ∷ [] in
    both_ways (is_clearing 0 history) (read_not_clearing paired history 1 0 read_while_clearing read) refl
