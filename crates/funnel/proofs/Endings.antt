-- How programs end.
use Rattle.std.proofs.Common.{◌≡◌, ℕ, true, false, List, length, map, Option, None, Some, inl, inr, refl, sym, ap, ◌∙◌, subst}
use Rattle.std.proofs.lemmas.Bool.{false≢true}
use Rattle.std.proofs.lemmas.List.{length-map}
use Rattle.std.specs.List.{AllZip}
use Rattle.std.specs.Option.{is_some}
use Rattle.std.specs.Prelude.{IfSome}
use Rattle.engine.specs.Engines.{ClosedState}
use Rattle.funnel_io.specs.declared.gate.Gate as Gate
use Rattle.funnel_io.specs.declared.sink.Sink as Sink
use Rattle.funnel_io.specs.declared.source.Source as Source
use Rattle.funnel_server.specs.Gates.{GateState, gate_state}
use Rattle.funnel_model.specs.declared.config.Config.{Config}
use Rattle.funnel_model.specs.History.{base, commits_after}
use Rattle.funnel_model.specs.Legal.{Limits}
use Rattle.slice_rule.specs.Pools.{PoolId}
use Rattle.command_line.specs.Commands.{command_of, is_fit}
use Rattle.command_line.specs.declared.command.Command.{Command}
use Rattle.command_line.specs.declared.command.Command.TheVariants as command
use Rattle.command_line.specs.declared.command.FitCommand.{FitCommand}
use Rattle.command_line.specs.declared.command.ServeCommand.{ServeCommand}
use Rattle.funnel.specs.declared.ends.Why.{Why}
use Rattle.funnel.specs.declared.ends.Why.TheVariants as why_of
use Rattle.funnel.specs.Misfits.{misfit_of}
use Rattle.funnel.specs.Programs.{Ends, IsConfigured, Streams}
use Rattle.funnel.specs.Runs.{KeepsLast, limits_by}
use Rattle.funnel.specs.ServeRuns.{EndsServe, IsStartRefused, OneDidNotOpen}
use Rattle.funnel.specs.Turns.{AreOpened, AreOpenedUntilOneFails, EndsInTurns, OpenGatesGoInTurns, ServeGoesInTurns}
use Rattle.funnel.specs.Workers.{EndsOpenServeInTurns, EndsServeInTurns}

-- an engine with the limits of the configuration keeps as many commits as it says
pub keeps_last : (pool : PoolId) (config : Config) (closed : ClosedState) → pool.limits ≡ limits_by config →
    closed.base ≡ base pool.limits.commits closed.history → closed.commits ≡ commits_after closed.history (base pool.limits.commits closed.history) →
    closed.events ≡ length closed.history → KeepsLast config closed
keeps_last pool config closed limits_are base_is commits_are events_are = record {
  tells = record { commits = commits_are ∙ ap (commits_after closed.history) (sym base_is); events = events_are };
  before = base_is ∙ ap (λ (l : Limits). base l.commits closed.history) limits_are;
}

-- words that are another command are no fit
no_fit_is : (asked : Command) → ((fit : FitCommand) → asked ≡ command.Fit fit → ⊥) → is_fit (Some asked) ≡ false
no_fit_is command.Run other = refl
no_fit_is (command.Serve serve) other = refl
no_fit_is (command.Load load) other = refl
no_fit_is (command.Fit fit) other = absurd (other fit refl)

pub are_no_fit : (words : List (List ℕ)) (asked : Command) → command_of words ≡ Some asked → ((fit : FitCommand) → asked ≡ command.Fit fit → ⊥) →
    is_fit (command_of words) ≡ false
are_no_fit words asked words_are other = ap is_fit words_are ∙ no_fit_is asked other

-- ---- the calls on gates

module _ {G C : Type 0} (gate : Gate.Ghosts G C) (source : Source.Ghosts C) (sink : Sink.Ghosts C) where
  -- what is told of the calls of a serve aside, an end is an end
  pub plain_end : (words : List (List ℕ)) (before after : Streams) (why : Why) (closed : Option ClosedState) (gates laters : List G) →
      EndsInTurns gate source sink words before after why closed gates laters → Ends words before after why closed
  plain_end words before after why closed gates laters (inl unserved) = inl unserved.0
  plain_end words before after why closed gates laters (inr serve) = inr serve.ends

  abbrev state : G → GateState
  state = gate_state gate source sink

  -- a serve ended so between these states of its gates
  record ServedInTurns (config : Config) (serve : ServeCommand) (before after : List GateState) (gates laters : List G) (why : Why) (closed : Option ClosedState) : Type 0 where
    ends : EndsServe config serve before after why closed
    in_turns : ServeGoesInTurns gate source sink config serve before after why closed ends gates laters

  pub serve_in_turns : (words : List (List ℕ)) (before after : Streams) (why : Why) (closed : Option ClosedState) (gates laters : List G)
      (serve : ServeCommand) (config : Config) → before.gates ≡ map state gates → after.gates ≡ map state laters →
      IsConfigured words before after (command.Serve serve) config → misfit_of (command.Serve serve) (length before.gates) config ≡ None →
      after.input ≡ before.input → after.output ≡ before.output → EndsServeInTurns gate source sink config serve gates laters why closed →
      IfSome closed (KeepsLast config) → EndsInTurns gate source sink words before after why closed gates laters
  serve_in_turns words before after why closed gates laters serve config from to configured fits input output served kept =
      let told : ServedInTurns config serve before.gates after.gates gates laters why closed =
      subst (λ (gs : List GateState). ServedInTurns config serve gs after.gates gates laters why closed) (sym from)
      (subst (λ (gs : List GateState). ServedInTurns config serve (map state gates) gs gates laters why closed) (sym to)
      (record { ends = served.ends; in_turns = served.in_turns })) in
      inr (record {
        ends = record { serve = serve; config = config; configured = configured; fits = fits; input = input; output = output; served = told.ends; kept = kept };
        in_turns = told.in_turns;
      })

  -- ---- the gates of a serve are opened and ended

  module _ (config : Config) (serve : ServeCommand) (gates opened : List G) where
    abbrev EndsServing : List G → Why → Option ClosedState → Type 0
    EndsServing = EndsServeInTurns gate source sink config serve gates

    abbrev EndsServingOpen : List G → Why → Option ClosedState → Type 0
    EndsServingOpen = EndsOpenServeInTurns gate source sink config serve opened

    -- one of them was not opened
    pub not_opened : (laters : List G) → OneDidNotOpen (map state gates) (map state opened) → AreOpenedUntilOneFails gate gates opened →
        map state laters ≡ map state opened → AllZip gate.end_gives opened laters → EndsServing laters why_of.GateFault None
    not_opened laters one fails same ended = record {
      ends = inr (refl, subst (OneDidNotOpen (map state gates)) (sym same) one);
      in_turns = record { tried = opened; opened = inr (refl, fails); ended = ended };
    }

    -- they were opened, and no worker began
    pub without_engine : (laters : List G) (why : Why) → IsStartRefused (length gates) why → map state opened ≡ map state gates → AreOpened gate gates opened →
        map state laters ≡ map state opened → AllZip gate.end_gives opened laters → EndsServing laters why None
    without_engine laters why refused told opens same ended = record {
      ends = inl (subst (λ n. IsStartRefused n why) (sym (length-map gates state)) refused, same ∙ told);
      in_turns = record { tried = opened; opened = inl (refused, opens); ended = ended };
    }

    -- no worker of those that were opened began
    pub not_begun : (laters : List G) (why : Why) → IsStartRefused (length opened) why → laters ≡ opened → EndsServingOpen laters why None
    not_begun laters why refused same = record {
      ends = inl (subst (λ n. IsStartRefused n why) (sym (length-map opened state)) refused, ap (map state) same);
      in_turns = tt;
    }

    -- they were opened and served, as gates that tell what they told before
    record ServedOpen (laters : List G) (before : List GateState) (why : Why) (closed : Option ClosedState) : Type 0 where
      ends : EndsServe config serve before (map state laters) why closed
      in_turns : OpenGatesGoInTurns gate source sink config serve before (map state laters) why closed ends opened laters

    pub opened_and_served : (laters : List G) (why : Why) (closed : ClosedState) → map state opened ≡ map state gates → AreOpened gate gates opened →
        EndsServingOpen laters why (Some closed) → EndsServing laters why (Some closed)
    opened_and_served laters why closed told opens served =
        let all : ServedOpen laters (map state gates) why (Some closed) =
        subst (λ (before : List GateState). ServedOpen laters before why (Some closed)) told (record { ends = served.ends; in_turns = served.in_turns }) in
        record { ends = all.ends; in_turns = (opened, opens, all.in_turns) }

    -- so where something is left of an engine
    pub served_where_left : (laters : List G) (why : Why) (closed : Option ClosedState) → is_some closed ≡ true → map state opened ≡ map state gates → AreOpened gate gates opened →
        EndsServingOpen laters why closed → EndsServing laters why closed
    served_where_left laters why None left told opens served = absurd (false≢true left)
    served_where_left laters why (Some closed) left told opens served = opened_and_served laters why closed told opens served
