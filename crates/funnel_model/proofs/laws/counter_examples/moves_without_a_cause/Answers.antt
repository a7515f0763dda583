use Rattle.std.proofs.Common.{[], ◌∷◌, refl}
use Rattle.std.proofs.lemmas.Bool.{false≢true}
use Rattle.std.specs.Prelude.{codes, take}
use Rattle.funnel_model.specs.PutExample.{replaced}
use Rattle.funnel_model.specs.declared.event.Event.TheVariants as event
use Rattle.funnel_model.specs.RecycleExample.{high_bit, low_bit}
use Rattle.funnel_model.proofs.CausedMoves.{caused-push, caused-start, caused-still}
use Rattle.funnel_model.proofs.laws.counter_examples.moves_without_a_cause.Goals as goal

pub returns-clause-deleted : goal.returns-clause-deleted
returns-clause-deleted c = (caused-push (event.Del 0 5 ∷ []) (event.Void 0 0 0)).1 (caused-still [] (event.Del 0 5) caused-start refl, λ is. refl)

pub returns-clause-dropped : goal.returns-clause-dropped
returns-clause-dropped c = (caused-push (event.Drop 0 5 [] 0 0 ∷ []) (event.Void 0 0 0)).1 (caused-still [] (event.Drop 0 5 [] 0 0) caused-start refl, λ is. refl)

pub returns-clause-replaced : goal.returns-clause-replaced
returns-clause-replaced c = (caused-push replaced (event.Void 0 0 0)).1 (
  caused-still (take 3 replaced) (event.Add 0 9 (codes "b") 0 1 [])
      (caused-still (take 2 replaced) (event.Take 0 0 1) (caused-still (take 1 replaced) (event.Add 0 9 [] 0 0 [])
      (caused-still [] (event.Take 0 0 0) caused-start refl) refl) refl) refl,
  λ is. refl,
)

pub returns-clause-moved : goal.returns-clause-moved
returns-clause-moved c caused =
    let earlier = event.Take 0 0 0 ∷ event.Add 0 9 (codes "a cat") 0 0 (low_bit ∷ []) ∷ event.Find 1 (codes "A") ∷ event.Take 0 1 0 ∷ [] in
    false≢true (caused earlier (event.Move 0 9 1 0 (high_bit ∷ [])) [] refl refl)
