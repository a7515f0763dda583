-- A gate fault is told only where a gate answered so.
use Rattle.std.proofs.Common.{◌≡◌, ◌⊎◌, ◌||◌, ℕ, Bool, true, false, cond, List, [], ◌∷◌, length, Option, Some, None, refl, sym, ◌∙◌, subst, inl, inr, arith, suc}
use Rattle.std.specs.List.{AllZip, list_any}
use Rattle.engine.specs.Engines.{ClosedState}
use Rattle.fit.specs.declared.ends.FitEnd.{FitEnd}
use Rattle.fit.specs.declared.ends.FitEnd.TheVariants as fit_end
use Rattle.funnel_io.specs.Streams.{Incoming, Outgoing}
use Rattle.funnel_io.specs.declared.end.End.{End}
use Rattle.funnel_io.specs.declared.end.End.TheVariants as end_of
use Rattle.funnel_io.specs.declared.gate.Gate as Gate
use Rattle.funnel_io.specs.declared.sink.Sink as Sink
use Rattle.funnel_io.specs.declared.source.Source as Source
use Rattle.funnel_model.specs.declared.config.Config.{Config}
use Rattle.funnel_server.proofs.GateTurns.{asked_in_vain}
use Rattle.funnel_server.specs.Gates.{GateState}
use Rattle.funnel_server.specs.GateTurns.{WorksInTurns}
use Rattle.funnel_server.specs.Workers.{WorkerState}
use Rattle.funnel_stats.specs.declared.fault.ConfigFault.{ConfigFault}
use Rattle.funnel_stats.specs.declared.fault.ConfigFault.TheVariants as config
use Rattle.command_line.specs.declared.command.ServeCommand.{ServeCommand}
use Rattle.command_line.specs.declared.command.LoadCommand.{LoadCommand}
use Rattle.funnel.specs.declared.ends.Why.{Why}
use Rattle.funnel.specs.declared.ends.Why.TheVariants as why_of
use Rattle.command_line.specs.Commands.{command_of}
use Rattle.funnel.specs.Ends.{why_of_config, why_of_end, why_of_fit}
use Rattle.funnel.specs.Laws.{OneFailed}
use Rattle.funnel.specs.LoadRuns.{EndsLoad}
use Rattle.funnel.specs.Programs.{Ends, EndsUnserved, Streams}
use Rattle.funnel.specs.Runs.{RanOrNot, limits_by}
use Rattle.funnel.specs.ServeRuns.{AllWork, EndsServe, IsStartRefused, OneDidNotOpen, new_workers}
use Rattle.funnel.specs.Turns.{AreOpened, AreOpenedUntilOneFails, EndsInTurns, GatesGoInTurns, ServeGoesInTurns}

-- other ends are told otherwise
not_config : (fault : ConfigFault) → why_of_config fault ≡ why_of.GateFault → ⊥
not_config config.ReadFault is = cc
not_config config.Memory is = cc
not_config fault is = cc

not_session : (end : End) → why_of_end end ≡ why_of.GateFault → ⊥
not_session end_of.Done is = cc
not_session end_of.ReadFault is = cc
not_session end_of.WriteFault is = cc
not_session (end_of.ByteLimit told) is = cc
not_session end_of.Memory is = cc

not_fit : (end : FitEnd) → why_of_fit end ≡ why_of.GateFault → ⊥
not_fit fit_end.Done is = cc
not_fit fit_end.ReadFault is = cc
not_fit fit_end.WriteFault is = cc
not_fit (fit_end.ByteLimit told) is = cc
not_fit fit_end.Memory is = cc
not_fit (fit_end.Misfit cause) is = cc

not_run : (config : Config) (incoming later_incoming : Incoming) (outgoing later_outgoing : Outgoing) (why : Why) (closed : Option ClosedState) →
    RanOrNot config incoming later_incoming outgoing later_outgoing why closed → why ≡ why_of.GateFault → ⊥
not_run config incoming later_incoming outgoing later_outgoing why None memory is = cc
not_run config incoming later_incoming outgoing later_outgoing why (Some left) ran is = not_session ran.end (sym ran.answered ∙ is)

not_load : (config : Config) (load : LoadCommand) (before after : Outgoing) (closed : Option ClosedState) →
    EndsLoad config load before after why_of.GateFault closed → ⊥
not_load config load before after None ends = ends
not_load config load before after (Some left) ends = ends.1

-- a program that serves no gate doesn't end so
not_unserved : (words : List (List ℕ)) (before after : Streams) (closed : Option ClosedState) → EndsUnserved words before after why_of.GateFault closed → ⊥
not_unserved words before after closed (inl text) = text.written
not_unserved words before after closed (inr (inl ends)) = by_cause ends.cause where
  by_cause : ((why_of.GateFault ≡ why_of.Usage) × (command_of words ≡ None)) ⊎ (why_of.GateFault ≡ why_of.Memory) → ⊥
  by_cause (inl usage) = let other : why_of.GateFault ≡ why_of.Usage = usage.0 in cc
  by_cause (inr memory) = cc
not_unserved words before after closed (inr (inr (inl ends))) = not_config ends.fault (sym ends.cause)
not_unserved words before after closed (inr (inr (inr (inl ends)))) = let other : why_of.GateFault ≡ why_of.Misfit ends.misfit = ends.cause in cc
not_unserved words before after closed (inr (inr (inr (inr (inl ends))))) =
    not_run ends.config before.input after.input before.output after.output why_of.GateFault closed ends.ran refl
not_unserved words before after closed (inr (inr (inr (inr (inr (inl ends)))))) = not_load ends.config ends.load before.output after.output closed ends.ends
not_unserved words before after closed (inr (inr (inr (inr (inr (inr ends)))))) = not_fit ends.ends.end (sym ends.ends.cause)

some_fault : (fault memory : Bool) → cond fault why_of.GateFault (cond memory why_of.Memory why_of.Done) ≡ why_of.GateFault → fault ≡ true
some_fault true memory is = refl
some_fault false true is = cc
some_fault false false is = cc

module _ {G C : Type 0} (gate : Gate.Ghosts G C) (source : Source.Ghosts C) (sink : Sink.Ghosts C) where
  abbrev Failed : List G → Type 0
  Failed = OneFailed gate

  -- what one of some gates answered, one of more gates did
  one_more : (other : G) (laters : List G) → Failed laters → Failed (other ∷ laters)
  one_more other laters one = record {
    called = one.called;
    failed = one.failed;
    answer = one.answer;
    later = one.later;
    ended = one.ended;
    there = (suc one.there.0, omega (arith, one.there.1), one.there.2);
  }

  -- of workers that worked turn by turn, one whose gate failed was told so
  one_failed : (befores afters : List WorkerState) (work : AllWork befores afters) (gates laters : List G) →
      GatesGoInTurns gate source sink befores afters work gates laters →
      list_any (λ (w : WorkerState). w.fault) afters ≡ true → Failed laters
  one_failed [] [] work gates laters turns some = cc
  one_failed [] (after ∷ afters) work gates laters turns some = absurd work
  one_failed (before ∷ befores) [] work gates laters turns some = absurd work
  one_failed (before ∷ befores) (after ∷ afters) work [] laters turns some = absurd turns
  one_failed (before ∷ befores) (after ∷ afters) work (first ∷ gates) [] turns some = absurd turns
  one_failed (before ∷ befores) (after ∷ afters) work (first ∷ gates) (later ∷ laters) turns some =
      by_case after.fault refl (one_failed befores afters work.1 gates laters turns.1) where
        works : WorksInTurns gate source sink (record { gate = first; state = before }) (record { gate = later; state = after })
        works = record { works = work.0; in_turns = turns.0 }

        by_case : (fault : Bool) → after.fault ≡ fault → (list_any (λ (w : WorkerState). w.fault) afters ≡ true → Failed laters) → Failed (later ∷ laters)
        by_case true is others = record {
          called = works.in_turns.served;
          failed = works.in_turns.stopped;
          answer = inr (asked_in_vain gate source sink (record { gate = first; state = before }) (record { gate = later; state = after }) works is);
          later = later;
          ended = works.in_turns.ended;
          there = (0, omega arith, refl);
        }
        by_case false is others = one_more later laters (others (subst (λ b. (b || list_any (λ (w : WorkerState). w.fault) afters) ≡ true) is some))

  -- of gates that were opened until one failed, that one was told so
  one_not_opened : (gates tried laters : List G) → AreOpenedUntilOneFails gate gates tried → AllZip gate.end_gives tried laters → Failed laters
  one_not_opened [] tried laters opened ended = absurd opened
  one_not_opened (first ∷ gates) [] laters opened ended = absurd opened
  one_not_opened (first ∷ gates) (one ∷ tried) [] opened ended = absurd ended
  one_not_opened (first ∷ gates) (one ∷ tried) (later ∷ laters) (inl fails) ended = record {
    called = first;
    failed = one;
    answer = inl fails.0;
    later = later;
    ended = ended.0;
    there = (0, omega arith, refl);
  }
  one_not_opened (first ∷ gates) (one ∷ tried) (later ∷ laters) (inr opens) ended = one_more later laters (one_not_opened gates tried laters opens.1 ended.1)

  of_serve : (config : Config) (serve : ServeCommand) (before after : List GateState) (why : Why) (closed : Option ClosedState)
      (served : EndsServe config serve before after why closed) (gates laters : List G) →
      ServeGoesInTurns gate source sink config serve before after why closed served gates laters →
      why ≡ why_of.GateFault → Failed laters
  of_serve config serve before after why None served gates laters turns is = by_cause turns.opened where
    by_cause : (IsStartRefused (length gates) why × AreOpened gate gates turns.tried) ⊎ ((why ≡ why_of.GateFault) × AreOpenedUntilOneFails gate gates turns.tried) → Failed laters
    by_cause (inl refused) = absurd (subst (IsStartRefused (length gates)) is refused.0)
    by_cause (inr fails) = one_not_opened gates turns.tried laters fails.1 turns.ended
  of_serve config serve before after why (Some closed) served gates laters turns is =
      one_failed (new_workers config (limits_by config) serve 0 before) served.workers served.work turns.0 laters turns.2
      (some_fault (list_any (λ (w : WorkerState). w.fault) served.workers) (list_any (λ (w : WorkerState). w.memory) served.workers) (sym served.cause ∙ is))

  module _ (words : List (List ℕ)) (before after : Streams) (why : Why) (closed : Option ClosedState) (gates laters : List G) where
    pub told_by_gate : EndsInTurns gate source sink words before after why closed gates laters →
        why ≡ why_of.GateFault → Failed laters
    told_by_gate (inl unserved) is = absurd (not_unserved words before after closed (subst (λ (w : Why). EndsUnserved words before after w closed) is unserved.0))
    told_by_gate (inr serve) is =
        of_serve serve.ends.config serve.ends.serve before.gates after.gates why closed serve.ends.served gates laters serve.in_turns is

-- with no engine it was told as a gate was opened
of_unopened : (config : Config) (serve : ServeCommand) (before after : List GateState) → EndsServe config serve before after why_of.GateFault None →
    OneDidNotOpen before after
of_unopened config serve before after (inl refused) = absurd refused.0
of_unopened config serve before after (inr fails) = fails.1

pub told_at_opening : (words : List (List ℕ)) (before after : Streams) → Ends words before after why_of.GateFault None → OneDidNotOpen before.gates after.gates
told_at_opening words before after (inl unserved) = absurd (not_unserved words before after None unserved)
told_at_opening words before after (inr serve) = of_unopened serve.config serve.serve before.gates after.gates serve.served
