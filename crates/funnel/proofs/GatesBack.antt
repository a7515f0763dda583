-- The gates that come back at a program's end.
use Rattle.std.proofs.Common.{◌≡◌, ◌⊎◌, ℕ, suc, true, false, List, [], ◌∷◌, length, Option, Some, None, refl, sym, ap, ◌∙◌, inl, inr}
use Rattle.std.proofs.lemmas.Bool.{false≢true}
use Rattle.std.specs.List.{AllZip}
use Rattle.engine.specs.Engines.{ClosedState}
use Rattle.funnel_io.specs.declared.gate.Gate as Gate
use Rattle.funnel_io.specs.declared.gate.Opening.TheVariants as opening
use Rattle.funnel_io.specs.declared.sink.Sink as Sink
use Rattle.funnel_io.specs.declared.source.Source as Source
use Rattle.funnel_model.specs.declared.config.Config.{Config}
use Rattle.funnel_server.specs.Gates.{GateState}
use Rattle.funnel_server.specs.Workers.{WorkerState}
use Rattle.command_line.specs.Commands.{command_of, is_serve}
use Rattle.command_line.specs.declared.command.ServeCommand.{ServeCommand}
use Rattle.funnel.specs.Programs.{Streams}
use Rattle.funnel.specs.Runs.{limits_by}
use Rattle.funnel.specs.ServeRuns.{AllWork, EndsServe, IsStartRefused, new_workers}
use Rattle.funnel.specs.Turns.{AreOpened, AreOpenedUntilOneFails, EndsInTurns, GatesGoInTurns, ServeGoesInTurns}
use Rattle.funnel.specs.declared.ends.Why.{Why}
use Rattle.funnel.specs.declared.ends.Why.TheVariants as why_of

-- steps of each gate lead to as many
as_many : {G : Type 0} (Step : G → G → Type 0) (gates laters : List G) → AllZip Step gates laters → length laters ≡ length gates
as_many Step [] [] steps = refl
as_many Step [] (later ∷ laters) steps = absurd steps
as_many Step (one ∷ gates) [] steps = absurd steps
as_many Step (one ∷ gates) (later ∷ laters) steps = ap suc (as_many Step gates laters steps.1)

module _ {G C : Type 0} (gate : Gate.Ghosts G C) (source : Source.Ghosts C) (sink : Sink.Ghosts C) where
  opened_as_many : (gates laters : List G) → AreOpened gate gates laters → length laters ≡ length gates
  opened_as_many gates laters opened = as_many (λ one later. gate.open_gives one opening.Open later) gates laters opened

  tried_as_many : (gates laters : List G) → AreOpenedUntilOneFails gate gates laters → length laters ≡ length gates
  tried_as_many [] laters opened = absurd opened
  tried_as_many (one ∷ gates) [] opened = absurd opened
  tried_as_many (one ∷ gates) (later ∷ laters) (inl fails) = ap (λ (gs : List G). suc (length gs)) fails.1
  tried_as_many (one ∷ gates) (later ∷ laters) (inr opens) = ap suc (tried_as_many gates laters opens.1)

  worked_as_many : (befores afters : List WorkerState) (work : AllWork befores afters) (gates laters : List G) →
      GatesGoInTurns gate source sink befores afters work gates laters → length laters ≡ length gates
  worked_as_many [] [] work [] [] turns = refl
  worked_as_many [] [] work [] (later ∷ laters) turns = absurd turns
  worked_as_many [] [] work (one ∷ gates) laters turns = absurd turns
  worked_as_many [] (after ∷ afters) work gates laters turns = absurd work
  worked_as_many (before ∷ befores) [] work gates laters turns = absurd work
  worked_as_many (before ∷ befores) (after ∷ afters) work [] laters turns = absurd turns
  worked_as_many (before ∷ befores) (after ∷ afters) work (one ∷ gates) [] turns = absurd turns
  worked_as_many (before ∷ befores) (after ∷ afters) work (one ∷ gates) (later ∷ laters) turns = ap suc (worked_as_many befores afters work.1 gates laters turns.1)

  served_as_many : (config : Config) (serve : ServeCommand) (before after : List GateState) (why : Why) (closed : Option ClosedState)
      (served : EndsServe config serve before after why closed) (gates laters : List G) →
      ServeGoesInTurns gate source sink config serve before after why closed served gates laters → length laters ≡ length gates
  served_as_many config serve before after why None served gates laters turns = as_many gate.end_gives turns.tried laters turns.ended ∙ by_cause turns.opened where
    by_cause : (IsStartRefused (length gates) why × AreOpened gate gates turns.tried) ⊎ ((why ≡ why_of.GateFault) × AreOpenedUntilOneFails gate gates turns.tried) →
        length turns.tried ≡ length gates
    by_cause (inl refused) = opened_as_many gates turns.tried refused.1
    by_cause (inr fails) = tried_as_many gates turns.tried fails.1
  served_as_many config serve before after why (Some closed) served gates laters turns =
      worked_as_many (new_workers config (limits_by config) serve 0 before) served.workers served.work turns.0 laters turns.2 ∙ opened_as_many gates turns.0 turns.1

  module _ (words : List (List ℕ)) (before after : Streams) (why : Why) (closed : Option ClosedState) (gates laters : List G) where
    pub all_come_back : EndsInTurns gate source sink words before after why closed gates laters → length laters ≡ length gates
    all_come_back (inl unserved) = ap (λ (gs : List G). length gs) unserved.1
    all_come_back (inr serve) = served_as_many serve.ends.config serve.ends.serve before.gates after.gates why closed serve.ends.served gates laters serve.in_turns

    pub none_was_called : EndsInTurns gate source sink words before after why closed gates laters → is_serve (command_of words) ≡ false → laters ≡ gates
    none_was_called (inl unserved) no_serve = unserved.1
    none_was_called (inr serve) no_serve = absurd (false≢true (sym no_serve ∙ ap is_serve serve.ends.configured.words_are))
