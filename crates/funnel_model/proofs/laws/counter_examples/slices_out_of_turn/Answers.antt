use Rattle.std.proofs.Common.{true, [], ◌∷◌, ◌++◌, ⊎_elim, refl, arith}
use Rattle.funnel_model.specs.declared.call.Call.TheVariants as call
use Rattle.funnel_model.specs.declared.event.Event.TheVariants as event
use Rattle.funnel_model.specs.RecycleExample.{guarded, paired, slices_filled, unguarded}
use Rattle.funnel_model.proofs.Histories.{allowed_within}
use Rattle.funnel_model.proofs.RecycleFacts.{low_can_clear, low_guarded}
use Rattle.funnel_model.proofs.SpareLemmas.{not_retired, room_by}
use Rattle.funnel_model.proofs.laws.counter_examples.slices_out_of_turn.Goals as goal

pub returns-clause-take : goal.returns-clause-take
returns-clause-take c legal =
    ⊎_elim
    (λ r. r.lowest 0 (omega arith) (room_by 1 0 0 [] (omega arith) refl refl refl refl))
    (λ r. let none = r.opened in cc)
    (allowed_within paired (event.Take 0 1 0 ∷ []) [] (event.Take 0 1 0) [] legal refl).rule

pub returns-clause-clear : goal.returns-clause-clear
returns-clause-clear c legal =
    (allowed_within paired (unguarded ++ event.Clear 0 1 ∷ []) unguarded (event.Clear 0 1) [] legal refl).rule.lowest 0 (omega arith) low_can_clear

pub returns-clause-live : goal.returns-clause-live
returns-clause-live c legal =
    not_retired 1 0 0 slices_filled (omega arith) refl refl
    (allowed_within paired (slices_filled ++ event.Clear 0 0 ∷ []) slices_filled (event.Clear 0 0) [] legal refl).rule.can_clear.retired

pub returns-clause-reader : goal.returns-clause-reader
returns-clause-reader c legal =
    (allowed_within paired (guarded ++ event.Clear 0 0 ∷ []) guarded (event.Clear 0 0) [] legal refl).rule.can_clear.unguarded (1, 6, low_guarded)

pub returns-clause-recycle : goal.returns-clause-recycle
returns-clause-recycle c legal =
    low_can_clear.unguarded
    ((allowed_within paired (unguarded ++ event.No 0 call.Recycle ∷ []) unguarded (event.No 0 call.Recycle) [] legal refl).rule.refused 0 (omega arith) low_can_clear.retired)

pub returns-clause-opened : goal.returns-clause-opened
returns-clause-opened c legal =
    let none = (allowed_within paired (event.Opened 0 0 true ∷ []) [] (event.Opened 0 0 true) [] legal refl).rule.cleared in cc
