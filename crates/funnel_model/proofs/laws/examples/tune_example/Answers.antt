use Rattle.std.proofs.Common.{[], refl, arith, inl, inr}
use Rattle.funnel_model.specs.declared.call.Call.TheVariants as call
use Rattle.funnel_model.specs.RecycleExample.{paired}
use Rattle.funnel_model.proofs.StepLemmas.{step_tuned, step_without_memory}
use Rattle.funnel_model.proofs.TuneFacts.{twice_is_legal}
use Rattle.funnel_model.proofs.laws.examples.tune_example.Goals as goal

pub returns-clause-legal : goal.returns-clause-legal
returns-clause-legal c = twice_is_legal

pub returns-clause-replies : goal.returns-clause-replies
returns-clause-replies c second third =
    inl (
      refl,
      inr (
        _,
        _,
        refl,
        refl,
        inr (
          _,
          _,
          refl,
          refl,
          inl (
            refl,
            inr (
              _,
              _,
              refl,
              refl,
              inr (
                _,
                _,
                refl,
                refl,
                inl (refl, inr (_, _, refl, refl, inr (_, _, refl, (refl, refl), refl))),
              ),
            ),
          ),
        ),
      ),
    )

pub returns-clause-before : goal.returns-clause-before
returns-clause-before c opening second = (refl, refl)

pub returns-clause-cleared : goal.returns-clause-cleared
returns-clause-cleared c opening second third = refl

pub returns-clause-other : goal.returns-clause-other
returns-clause-other c opening second third = refl

pub returns-clause-last : goal.returns-clause-last
returns-clause-last c opening second third = refl

pub returns-clause-step : goal.returns-clause-step
returns-clause-step c config = step_tuned paired 1 [] config 1 tt refl (record { pass = omega arith; at_once = tt; rule = tt }, tt)

pub returns-clause-memory : goal.returns-clause-memory
returns-clause-memory c config = step_without_memory paired 1 [] (call.Tune config) tt tt refl
