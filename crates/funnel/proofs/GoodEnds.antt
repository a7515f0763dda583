-- Programs whose command is accepted, and whose reads, writes and gates do not fail.
use Rattle.std.proofs.Common.{◌≡◌, ◌⊎◌, ℕ, ◌+◌, ◌||◌, Bool, true, false, cond, List, [], ◌∷◌, ◌++◌, length, map, Option, Some, None, Result, Ok, Err, IfSome, rules, sym, refl, ap, ◌∙◌, subst, inl, inr, arith, length-append}
use Rattle.std.proofs.KnownBytes.{Consumes-all}
use Rattle.std.proofs.lemmas.Bool.{false≢true, lt-ltb}
use Rattle.std.specs.Io.KnownBytes.{Consumes, IsAtEnd}
use Rattle.std.specs.List.{AllZip, list_any}
use Rattle.engine.specs.Engines.{ClosedState}
use Rattle.fit.specs.Adds.{texts_added}
use Rattle.fit.specs.Ends.{Fits, IsFitted, IsMisfit}
use Rattle.fit.specs.declared.ends.FitEnd.{FitEnd}
use Rattle.fit.specs.declared.ends.FitEnd.TheVariants as fit_end
use Rattle.funnel_io.specs.Counts.{Rose}
use Rattle.funnel_io.specs.Streams.{Incoming, Outgoing, Takes, Writes}
use Rattle.funnel_io.specs.declared.end.End.{End}
use Rattle.funnel_io.specs.declared.end.End.TheVariants as end_of
use Rattle.funnel_model.specs.declared.config.Config.{Config}
use Rattle.funnel_model.specs.Legal.{Limits}
use Rattle.funnel_server.specs.Gates.{GateState}
use Rattle.funnel_server.specs.Workers.{WorkerState}
use Rattle.funnel_stats.specs.Configurations.{configuration, longest}
use Rattle.funnel_stats.specs.Reading.{IsConfigRead, IsFaultOf}
use Rattle.funnel_stats.specs.declared.fault.ConfigFault.{ConfigFault}
use Rattle.funnel_stats.specs.declared.fault.ConfigFault.TheVariants as config
use Rattle.session.specs.Ends.{Serves}
use Rattle.command_line.specs.declared.command.Command.{Command}
use Rattle.command_line.specs.declared.command.Command.TheVariants as command
use Rattle.command_line.specs.declared.command.FitCommand.{FitCommand}
use Rattle.command_line.specs.declared.command.LoadCommand.{LoadCommand}
use Rattle.command_line.specs.declared.command.ServeCommand.{ServeCommand}
use Rattle.funnel.specs.declared.ends.Misfit.{Misfit}
use Rattle.funnel.specs.declared.ends.Why.{Why}
use Rattle.funnel.specs.declared.ends.Why.TheVariants as why_of
use Rattle.session.specs.declared.serving.TheConstants.{MOST_BYTES}
use Rattle.command_line.specs.Commands.{command_of, is_fit}
use Rattle.funnel.specs.Ends.{why_of_config, why_of_end, why_of_fit}
use Rattle.line_proto.specs.Forms.{items}
use Rattle.session.specs.Sessions.{Answers}
use Rattle.funnel.specs.Laws.{CompletesFit, CompletesLoad, CompletesRun, CompletesServe, EndsWell, GateIsServed, IsAccepted, IsServedUnlessFailed, NoStreamFailed, NoneFailed, ServesAllGates, TellsFew}
use Rattle.funnel.specs.FitRuns.{EndsFit}
use Rattle.funnel.specs.LoadRuns.{EndsLoad}
use Rattle.funnel.specs.Misfits.{misfit_of}
use Rattle.funnel.specs.Programs.{Ends, EndsAtConfig, EndsAtMisfit, EndsAtWords, EndsAfterFit, EndsAfterLoad, EndsAfterRun, EndsAfterServe, Streams}
use Rattle.funnel.specs.Runs.{Ran, RanOrNot, first_caller, limits_by}
use Rattle.funnel.specs.ServeRuns.{AllWork, EndsServe, IsStartRefused, OneDidNotOpen, new_workers}
use Rattle.funnel.proofs.AskedTexts.{asks_no_text}
use Rattle.funnel.proofs.ServedGates.{gates_without_a_fault, not_failed, raised_rose}

-- bytes that were taken up to the end of a source are all that it told
all_taken : (before after : Incoming) (taken bytes : List ℕ) → Takes taken before after → IsAtEnd after.left → before.left ≡ Some bytes → taken ≡ bytes
all_taken before after taken bytes takes at_end told =
    subst (λ (left : Option (List ℕ)). IfSome left (λ all. taken ≡ all)) told (Consumes-all before.left after.left taken [] taken takes.left at_end refl)

-- and those that were taken are the first of them
first_taken : (left rest : Option (List ℕ)) (taken bytes : List ℕ) → Consumes left rest taken → left ≡ Some bytes → (others : List ℕ) × (bytes ≡ taken ++ others)
first_taken None rest taken bytes consumes told = absurd (cc)
first_taken (Some all) None taken bytes consumes told = absurd consumes
first_taken (Some all) (Some others) taken bytes consumes told = let same : bytes ≡ all = cc in (others, same ∙ consumes)

-- bytes that begin with too many are too many
too_long : (taken others : List ℕ) → length taken ≡ longest + 1 → configuration (taken ++ others) ≡ Err (config.TooLong longest)
unfolding configuration
too_long taken others long = rw (lt-ltb longest (length (taken ++ others)) (omega (arith, long, length-append taken others))) refl

same_value : (answer : Result Config ConfigFault) (x y : Config) → answer ≡ Ok x → answer ≡ Ok y → x ≡ y
same_value answer x y is also = cc

never_both : (answer : Result Config ConfigFault) (value : Config) (fault : ConfigFault) → answer ≡ Err fault → answer ≡ Ok value → ⊥
never_both answer value fault failed is = cc

module _ (before after : Incoming) (bytes : List ℕ) (value : Config) (told : before.left ≡ Some bytes) (valid : configuration bytes ≡ Ok value) where
  -- a source that tells a configuration is read as that one
  read_as_told : (other : Config) → IsConfigRead (Ok other) before after → other ≡ value
  read_as_told other read =
      same_value (configuration bytes) other value
      (ap configuration (sym (all_taken before after read.bytes bytes read.takes read.answers.1 told)) ∙ read.answers.0) valid

  -- so it has no fault of its bytes
  no_fault : (fault : ConfigFault) (taken : List ℕ) → Takes taken before after → (configuration taken ≡ Err fault) × IsAtEnd after.left → ⊥
  no_fault fault taken takes faulty =
      never_both (configuration bytes) value fault (ap configuration (sym (all_taken before after taken bytes takes faulty.1 told)) ∙ faulty.0) valid

  not_too_long : (taken : List ℕ) → Takes taken before after → length taken ≡ longest + 1 → ⊥
  not_too_long taken takes long =
      let first = first_taken before.left after.left taken bytes takes.left told in
      never_both (configuration bytes) value (config.TooLong longest) (ap configuration first.1 ∙ too_long taken first.0 long) valid

  -- and if it is refused for another cause than a failed read, memory ran out
  lacks_memory : (fault : ConfigFault) (taken : List ℕ) → Takes taken before after → IsFaultOf fault taken after.left →
      (fault ≡ config.ReadFault → ⊥) → why_of_config fault ≡ why_of.Memory
  lacks_memory config.ReadFault taken takes faulty not_read = absurd (not_read refl)
  lacks_memory config.Memory taken takes faulty not_read = refl
  lacks_memory (config.TooLong limit) taken takes faulty not_read = absurd (not_too_long taken takes faulty.1)
  lacks_memory config.NotJson taken takes faulty not_read = absurd (no_fault config.NotJson taken takes faulty)
  lacks_memory (config.UnknownKey key) taken takes faulty not_read = absurd (no_fault (config.UnknownKey key) taken takes faulty)
  lacks_memory (config.BadValue key kept) taken takes faulty not_read = absurd (no_fault (config.BadValue key kept) taken takes faulty)
  lacks_memory (config.NotWord text) taken takes faulty not_read = absurd (no_fault (config.NotWord text) taken takes faulty)
  lacks_memory (config.WordCount word kept) taken takes faulty not_read = absurd (no_fault (config.WordCount word kept) taken takes faulty)
  lacks_memory (config.TooManyColumns columns) taken takes faulty not_read = absurd (no_fault (config.TooManyColumns columns) taken takes faulty)
  lacks_memory (config.PoolTooLarge words) taken takes faulty not_read = absurd (no_fault (config.PoolTooLarge words) taken takes faulty)

-- the command is `run`, and this is how its run went
record IsRun (before after : Streams) (asked : Command) (value : Config) (why : Why) (closed : Option ClosedState) : Type 0 where
  is : asked ≡ command.Run
  ran : RanOrNot value before.input after.input before.output after.output why closed

-- or a serve, and this is how it went
record IsServe (before after : Streams) (asked : Command) (value : Config) (why : Why) (closed : Option ClosedState) : Type 0 where
  serve : ServeCommand
  is : asked ≡ command.Serve serve
  ends : EndsServe value serve before.gates after.gates why closed

-- or a load, and this is how it went
record IsLoad (before after : Streams) (asked : Command) (value : Config) (why : Why) (closed : Option ClosedState) : Type 0 where
  load : LoadCommand
  is : asked ≡ command.Load load
  ends : EndsLoad value load before.output after.output why closed

-- memory ran out before there was an engine
record RanOut (before after : Streams) (why : Why) (closed : Option ClosedState) : Type 0 where
  memory : why ≡ why_of.Memory
  none : closed ≡ None
  gates : after.gates ≡ before.gates

-- memory ran out, or the command is one of these
abbrev IsCarriedOut : Streams → Streams → Command → Config → Why → Option ClosedState → Type 0
IsCarriedOut before after asked value why closed =
    RanOut before after why closed ⊎ IsRun before after asked value why closed ⊎ IsServe before after asked value why closed ⊎ IsLoad before after asked value why closed

some_same : (x y : Command) → Some x ≡ Some y → x ≡ y
some_same x y is = cc

no_misfit : (misfit : Misfit) → Some misfit ≡ None → ⊥
no_misfit misfit is = cc

module _ (words : List (List ℕ)) (before after : Streams) (why : Why) (closed : Option ClosedState) (asked : Command) (value : Config)
    (no_fit : is_fit (Some asked) ≡ false) (none : NoStreamFailed before after) (accepted : IsAccepted words before asked value) where
  at_words : EndsAtWords words before after why closed → why ≡ why_of.Memory
  at_words ends = by_cause ends.cause where
    no_words : command_of words ≡ None → ⊥
    no_words is = let some = accepted.words_are in cc

    by_cause : ((why ≡ why_of.Usage) × (command_of words ≡ None)) ⊎ (why ≡ why_of.Memory) → why ≡ why_of.Memory
    by_cause (inl usage) = absurd (no_words usage.1)
    by_cause (inr memory) = memory

  at_config : EndsAtConfig words before after why closed → why ≡ why_of.Memory
  at_config ends =
      ends.cause ∙ lacks_memory before.config after.config accepted.bytes value accepted.told accepted.valid ends.fault ends.read.bytes ends.read.takes ends.read.answers
      (λ is. none.config (raised_rose before.config.faults after.config.faults (search (rules, ends.faults, is))))

  at_misfit : EndsAtMisfit words before after why closed → ⊥
  at_misfit ends =
      let same_command = some_same ends.command asked (sym ends.configured.words_are ∙ accepted.words_are) in
      let same_config = read_as_told before.config after.config accepted.bytes value accepted.told accepted.valid ends.config ends.configured.read in
      no_misfit ends.misfit (sym ends.misfits ∙ ap (λ c. misfit_of c (length before.gates) ends.config) same_command ∙ ap (misfit_of asked (length before.gates)) same_config ∙ accepted.fits)

  after_run : EndsAfterRun words before after why closed → IsRun before after asked value why closed
  after_run ends = record {
    is = some_same asked command.Run (sym accepted.words_are ∙ ends.configured.words_are);
    ran = subst (λ (c : Config). RanOrNot c before.input after.input before.output after.output why closed)
        (read_as_told before.config after.config accepted.bytes value accepted.told accepted.valid ends.config ends.configured.read) ends.ran;
  }

  after_serve : EndsAfterServe words before after why closed → IsServe before after asked value why closed
  after_serve ends = record {
    serve = ends.serve;
    is = some_same asked (command.Serve ends.serve) (sym accepted.words_are ∙ ends.configured.words_are);
    ends = subst (λ (c : Config). EndsServe c ends.serve before.gates after.gates why closed)
        (read_as_told before.config after.config accepted.bytes value accepted.told accepted.valid ends.config ends.configured.read) ends.served;
  }

  after_load : EndsAfterLoad words before after why closed → IsLoad before after asked value why closed
  after_load ends = record {
    load = ends.load;
    is = some_same asked (command.Load ends.load) (sym accepted.words_are ∙ ends.configured.words_are);
    ends = subst (λ (c : Config). EndsLoad c ends.load before.output after.output why closed)
        (read_as_told before.config after.config accepted.bytes value accepted.told accepted.valid ends.config ends.configured.read) ends.ends;
  }

  after_fit : EndsAfterFit words before after why closed → ⊥
  after_fit ends = false≢true (sym no_fit ∙ ap is_fit (sym accepted.words_are ∙ ends.words_are))

  -- a command that is accepted and no fit is carried out, or memory ran out
  carried_out : Ends words before after why closed → IsCarriedOut before after asked value why closed
  carried_out (inl (inl text)) = absurd (asks_no_text words asked text.text accepted.words_are text.asked)
  carried_out (inl (inr (inl ends))) = inl (record { memory = at_words ends; none = ends.none; gates = ap (λ (s : Streams). s.gates) ends.untouched })
  carried_out (inl (inr (inr (inl ends)))) = inl (record { memory = at_config ends; none = ends.none; gates = ap (λ (s : Streams). s.gates) ends.others })
  carried_out (inl (inr (inr (inr (inl ends))))) = absurd (at_misfit ends)
  carried_out (inl (inr (inr (inr (inr (inl ends)))))) = inr (inl (after_run ends))
  carried_out (inl (inr (inr (inr (inr (inr (inl ends))))))) = inr (inr (inr (after_load ends)))
  carried_out (inl (inr (inr (inr (inr (inr (inr ends))))))) = absurd (after_fit ends)
  carried_out (inr ends) = inr (inr (inl (after_serve ends)))

not_a_load : (load : LoadCommand) → command.Run ≡ command.Load load → ⊥
not_a_load load is = cc

not_a_serve : (serve : ServeCommand) → command.Run ≡ command.Serve serve → ⊥
not_a_serve serve is = cc

no_load_serves : (load : LoadCommand) (serve : ServeCommand) → command.Load load ≡ command.Serve serve → ⊥
no_load_serves load serve is = cc

same_serve : (serve other : ServeCommand) → command.Serve serve ≡ command.Serve other → serve ≡ other
same_serve serve other is = cc

same_load : (load other : LoadCommand) → command.Load load ≡ command.Load other → load ≡ other
same_load load other is = cc

-- a run that was begun
module _ (value : Config) (before after : Streams) (why : Why) (closed : ClosedState) (none : NoStreamFailed before after)
    (ran : Ran value before.input after.input before.output after.output why closed) where
  abbrev AnswersRun : End → Type 0
  AnswersRun end = Serves (first_caller value (limits_by value)) MOST_BYTES (record { front = []; incoming = before.input; outgoing = before.output })
      (record { front = closed.history; incoming = after.input; outgoing = after.output }) end

  ran_well : EndsWell why
  ran_well = subst EndsWell (sym ran.answered) (by_end ran.end ran.serves) where
    by_end : (end : End) → AnswersRun end → EndsWell (why_of_end end)
    by_end end_of.Done serves = tt
    by_end end_of.ReadFault serves = absurd (none.input (raised_rose before.input.faults after.input.faults serves.faults.reads))
    by_end end_of.WriteFault serves = absurd (none.output (raised_rose before.output.faults after.output.faults serves.faults.writes))
    by_end (end_of.ByteLimit told) serves = serves.within.0
    by_end end_of.Memory serves = tt

  module _ (bytes : List ℕ) (input : TellsFew before.input bytes) where
    ran_whole : (end : End) (serves : AnswersRun end) →
        CompletesRun value bytes before.output after.output (why_of_end end) (Some closed)
    ran_whole end_of.Done serves =
        let all = all_taken before.input after.input serves.taken bytes serves.takes serves.leaves input.told in
        let replies = serves.session.replies in
        record {
          of_first = ran.of_first;
          replies = replies;
          answers = subst (λ (bs : List ℕ). Answers (first_caller value (limits_by value)) [] (items bs true) replies closed.history) all serves.session.answers;
          writes = subst (λ (bs : List ℕ). Writes bs before.output after.output) serves.session.text serves.writes;
        }
    ran_whole end_of.ReadFault serves = absurd (none.input (raised_rose before.input.faults after.input.faults serves.faults.reads))
    ran_whole end_of.WriteFault serves = absurd (none.output (raised_rose before.output.faults after.output.faults serves.faults.writes))
    ran_whole (end_of.ByteLimit told) serves =
        let first = first_taken before.input.left after.input.left serves.taken bytes serves.takes.left input.told in
        absurd (omega (arith, serves.within.1, input.few, ap length first.1, length-append serves.taken first.0))
    ran_whole end_of.Memory serves = tt

    ran_completes : CompletesRun value bytes before.output after.output why (Some closed)
    ran_completes =
        subst (λ (w : Why). CompletesRun value bytes before.output after.output w (Some closed)) (sym ran.answered)
        (ran_whole ran.end ran.serves)

-- a run that is accepted and whose input is short enough answers all of it, or memory ran out
pub run_completes : (words : List (List ℕ)) (before after : Streams) (why : Why) (closed : Option ClosedState) (value : Config) (bytes : List ℕ) →
    Ends words before after why closed → NoStreamFailed before after → IsAccepted words before command.Run value → TellsFew before.input bytes →
    CompletesRun value bytes before.output after.output why closed
run_completes words before after why closed value bytes ends none accepted input =
    by_case (carried_out words before after why closed command.Run value refl none accepted ends) where
      lacking : (left : Option ClosedState) → why ≡ why_of.Memory → CompletesRun value bytes before.output after.output why left
      lacking left memory = subst (λ (w : Why). CompletesRun value bytes before.output after.output w left) (sym memory) tt

      of_run : (left : Option ClosedState) → RanOrNot value before.input after.input before.output after.output why left →
          CompletesRun value bytes before.output after.output why left
      of_run None memory = lacking None memory
      of_run (Some state) ran = ran_completes value before after why state none ran bytes input

      by_case : IsCarriedOut before after command.Run value why closed →
          CompletesRun value bytes before.output after.output why closed
      by_case (inl lacks) = lacking closed lacks.memory
      by_case (inr (inl run)) = of_run closed run.ran
      by_case (inr (inr (inl serve))) = absurd (not_a_serve serve.serve serve.is)
      by_case (inr (inr (inr load))) = absurd (not_a_load load.load load.is)

-- and one of any input ends well
pub run_ends_well : (words : List (List ℕ)) (before after : Streams) (why : Why) (closed : Option ClosedState) (value : Config) →
    Ends words before after why closed → NoStreamFailed before after → IsAccepted words before command.Run value → EndsWell why
run_ends_well words before after why closed value ends none accepted =
    by_case (carried_out words before after why closed command.Run value refl none accepted ends) where
      of_run : (left : Option ClosedState) → RanOrNot value before.input after.input before.output after.output why left → EndsWell why
      of_run None memory = subst EndsWell (sym memory) tt
      of_run (Some state) ran = ran_well value before after why state none ran

      by_case : IsCarriedOut before after command.Run value why closed → EndsWell why
      by_case (inl lacks) = subst EndsWell (sym lacks.memory) tt
      by_case (inr (inl run)) = of_run closed run.ran
      by_case (inr (inr (inl serve))) = absurd (not_a_serve serve.serve serve.is)
      by_case (inr (inr (inr load))) = absurd (not_a_load load.load load.is)

-- how a load ends, where no write failed
of_load : (value : Config) (load : LoadCommand) (before after : Outgoing) (why : Why) (closed : Option ClosedState) → EndsLoad value load before after why closed →
    (Rose before.faults after.faults → ⊥) → CompletesLoad value load before after why closed
of_load value load before after why_of.Memory closed ends none = tt
of_load value load before after why_of.Done (Some closed) ends none = (ends.0, ends.1.0)
of_load value load before after why_of.WriteFault (Some closed) ends none = absurd (none (raised_rose before.faults after.faults ends.1.1))
of_load value load before after why_of.Usage (Some closed) ends none = absurd ends.1
of_load value load before after (why_of.Config fault) (Some closed) ends none = absurd ends.1
of_load value load before after why_of.ReadFault (Some closed) ends none = absurd ends.1
of_load value load before after why_of.GateFault (Some closed) ends none = absurd ends.1
of_load value load before after (why_of.NoThread worker) (Some closed) ends none = absurd ends.1
of_load value load before after (why_of.ByteLimit count) (Some closed) ends none = absurd ends.1
of_load value load before after (why_of.Misfit misfit) (Some closed) ends none = absurd ends.1
of_load value load before after why_of.Done None ends none = absurd ends
of_load value load before after why_of.WriteFault None ends none = absurd ends
of_load value load before after why_of.Usage None ends none = absurd ends
of_load value load before after (why_of.Config fault) None ends none = absurd ends
of_load value load before after why_of.ReadFault None ends none = absurd ends
of_load value load before after why_of.GateFault None ends none = absurd ends
of_load value load before after (why_of.NoThread worker) None ends none = absurd ends
of_load value load before after (why_of.ByteLimit count) None ends none = absurd ends
of_load value load before after (why_of.Misfit misfit) None ends none = absurd ends

-- a load that is accepted is made and told, or memory ran out
pub load_completes : (words : List (List ℕ)) (before after : Streams) (why : Why) (closed : Option ClosedState) (value : Config) (load : LoadCommand) →
    Ends words before after why closed → NoStreamFailed before after → IsAccepted words before (command.Load load) value →
    CompletesLoad value load before.output after.output why closed
load_completes words before after why closed value load ends none accepted =
    by_case (carried_out words before after why closed (command.Load load) value refl none accepted ends) where
      by_case : IsCarriedOut before after (command.Load load) value why closed →
          CompletesLoad value load before.output after.output why closed
      by_case (inl lacks) = subst (λ (w : Why). CompletesLoad value load before.output after.output w closed) (sym lacks.memory) tt
      by_case (inr (inl run)) = absurd (not_a_load load (sym run.is))
      by_case (inr (inr (inl serve))) = absurd (no_load_serves load serve.serve serve.is)
      by_case (inr (inr (inr made))) =
          of_load value load before.output after.output why closed
          (subst (λ (l : LoadCommand). EndsLoad value l before.output after.output why closed) (sym (same_load load made.load made.is)) made.ends) none.output

-- where no call of a gate failed, no worker's did
no_worker_failed : (opening : Config) (limits : Limits) (serve : ServeCommand) (pass : ℕ) (gates : List GateState) (workers : List WorkerState) →
    AllWork (new_workers opening limits serve pass gates) workers → NoneFailed gates (map (λ (worker : WorkerState). worker.gate) workers) →
    list_any (λ (worker : WorkerState). worker.fault) workers ≡ false
no_worker_failed opening limits serve pass [] [] work none = refl
no_worker_failed opening limits serve pass [] (worker ∷ workers) work none = absurd work
no_worker_failed opening limits serve pass (gate ∷ gates) [] work none = absurd work
no_worker_failed opening limits serve pass (gate ∷ gates) (worker ∷ workers) work none =
    ap (λ b. b || list_any (λ (w : WorkerState). w.fault) workers) (not_failed worker.fault gate.faults worker.gate.faults work.0.serves.faults none.0)
    ∙ no_worker_failed opening limits serve (pass + 1) gates workers work.1 none.1

-- and each gate was served as far as it may be
none_failed : (serve : ServeCommand) (why : Why) (before after : List GateState) → AllZip (IsServedUnlessFailed serve why) before after → NoneFailed before after →
    AllZip (GateIsServed serve why) before after
none_failed serve why [] [] served none = tt
none_failed serve why [] (later ∷ laters) served none = absurd served
none_failed serve why (gate ∷ gates) [] served none = absurd served
none_failed serve why (gate ∷ gates) (later ∷ laters) served none = (served.0 none.0, none_failed serve why gates laters served.1 none.1)

-- where one gate did not open, a call of a gate failed
none_did_not_open : (before after : List GateState) → OneDidNotOpen before after → NoneFailed before after → ⊥
none_did_not_open [] after opened none = opened
none_did_not_open (gate ∷ gates) [] opened none = opened
none_did_not_open (gate ∷ gates) (later ∷ laters) (inl fails) none = none.0 (raised_rose gate.faults later.faults (ap (λ (g : GateState). g.faults) fails.0))
none_did_not_open (gate ∷ gates) (later ∷ laters) (inr opens) none = none_did_not_open gates laters opens.1 none.1

-- how a serve ends, where no call of a gate failed
of_serve : (value : Config) (serve : ServeCommand) (before after : List GateState) (why : Why) (closed : Option ClosedState) →
    EndsServe value serve before after why closed → NoneFailed before after → CompletesServe value serve before after why closed
of_serve value serve before after why None (inl ends) none = ends
of_serve value serve before after why None (inr ends) none = absurd (none_did_not_open before after ends.1 none)
of_serve value serve before after why (Some state) served none =
    let faults = no_worker_failed value (limits_by value) serve 0 before served.workers served.work (subst (NoneFailed before) served.gates none) in
    by_memory (list_any (λ (worker : WorkerState). worker.memory) served.workers)
    (served.cause ∙ ap (λ b. cond b why_of.GateFault (cond (list_any (λ (worker : WorkerState). worker.memory) served.workers) why_of.Memory why_of.Done)) faults) where
      all : ServesAllGates value serve before after why state
      all = (served, none_failed serve why before after (gates_without_a_fault value serve before after why state served) none)

      by_memory : (memory : Bool) → why ≡ cond memory why_of.Memory why_of.Done → CompletesServe value serve before after why (Some state)
      by_memory true is = (inr is, all)
      by_memory false is = (inl is, all)

-- a serve that is accepted answers the connections of its gates, or memory ran out before it could
pub serve_completes : (words : List (List ℕ)) (before after : Streams) (why : Why) (closed : Option ClosedState) (value : Config) (serve : ServeCommand) →
    Ends words before after why closed → NoStreamFailed before after → IsAccepted words before (command.Serve serve) value →
    CompletesServe value serve before.gates after.gates why closed
serve_completes words before after why closed value serve ends none accepted =
    by_case (carried_out words before after why closed (command.Serve serve) value refl none accepted ends) where
      by_case : IsCarriedOut before after (command.Serve serve) value why closed → CompletesServe value serve before.gates after.gates why closed
      by_case (inl lacks) =
          subst (λ (c : Option ClosedState). CompletesServe value serve before.gates after.gates why c) (sym lacks.none)
          (subst (IsStartRefused (length before.gates)) (sym lacks.memory) tt, lacks.gates)
      by_case (inr (inl run)) = absurd (not_a_serve serve (sym run.is))
      by_case (inr (inr (inl served))) =
          of_serve value serve before.gates after.gates why closed
          (subst (λ (s : ServeCommand). EndsServe value s before.gates after.gates why closed) (sym (same_serve serve served.serve served.is)) served.ends) none.gates
      by_case (inr (inr (inr load))) = absurd (no_load_serves load.load serve (sym load.is))

-- how a fit ends, where no read and no write failed
module _ (documents : ℕ) (incoming later_incoming : Incoming) (outgoing later_outgoing : Outgoing) (bytes : List ℕ) (input : TellsFew incoming bytes)
    (no_read : Rose incoming.faults later_incoming.faults → ⊥) (no_write : Rose outgoing.faults later_outgoing.faults → ⊥) where
  abbrev FitsSo : FitEnd → Type 0
  FitsSo = Fits documents MOST_BYTES (record { incoming = incoming; outgoing = outgoing }) (record { incoming = later_incoming; outgoing = later_outgoing })

  -- the whole input is what was taken
  whole : (taken : List ℕ) → Takes taken incoming later_incoming → IsAtEnd later_incoming.left → taken ≡ bytes
  whole taken takes at_end = all_taken incoming later_incoming taken bytes takes at_end input.told

  of_fit : (end : FitEnd) → FitsSo end → CompletesFit documents bytes outgoing later_outgoing (why_of_fit end)
  of_fit fit_end.Done fits = (
    fits.ends.2.0,
    subst (λ (bs : List ℕ). IsFitted documents (texts_added bs) fits.ends.2.0) (whole fits.taken fits.takes fits.ends.1) fits.ends.2.1,
    fits.ends.2.2,
  )
  of_fit fit_end.ReadFault fits = absurd (no_read (raised_rose incoming.faults later_incoming.faults fits.reads))
  of_fit fit_end.WriteFault fits = absurd (no_write (raised_rose outgoing.faults later_outgoing.faults fits.writes))
  of_fit (fit_end.ByteLimit told) fits =
      let first = first_taken incoming.left later_incoming.left fits.taken bytes fits.takes.left input.told in
      absurd (omega (arith, fits.ends.1, input.few, ap length first.1, length-append fits.taken first.0))
  of_fit fit_end.Memory fits = fits.ends.1
  of_fit (fit_end.Misfit cause) fits = (
    subst (λ (bs : List ℕ). IsMisfit documents (texts_added bs) cause) (whole fits.taken fits.takes fits.ends.1) fits.ends.2,
    fits.ends.3,
  )

-- a fit whose input is short enough writes a configuration, or there is none, or memory ran out
module _ (words : List (List ℕ)) (before after : Streams) (why : Why) (closed : Option ClosedState) (fit : FitCommand) (bytes : List ℕ)
    (none : NoStreamFailed before after) (words_are : command_of words ≡ Some (command.Fit fit)) (input : TellsFew before.input bytes) where
  abbrev Completes : Why → Type 0
  Completes = CompletesFit fit.documents bytes before.output after.output

  -- the words are no other command
  no_other : is_fit (command_of words) ≡ false → ⊥
  no_other is = false≢true (sym is ∙ ap is_fit words_are)

  fit_at_words : EndsAtWords words before after why closed → Completes why
  fit_at_words ends = by_cause ends.cause where
    no_words : command_of words ≡ None → ⊥
    no_words is = let some = words_are in cc

    by_cause : ((why ≡ why_of.Usage) × (command_of words ≡ None)) ⊎ (why ≡ why_of.Memory) → Completes why
    by_cause (inl usage) = absurd (no_words usage.1)
    by_cause (inr memory) = subst Completes (sym memory) (ap (λ (s : Streams). s.output.written) ends.untouched)

  same_fit : (other : FitCommand) → Some (command.Fit other) ≡ Some (command.Fit fit) → other ≡ fit
  same_fit other is = cc

  fit_made : EndsAfterFit words before after why closed → Completes why
  fit_made ends =
      let made : EndsFit fit before.input after.input before.output after.output why =
      subst (λ (f : FitCommand). EndsFit f before.input after.input before.output after.output why) (same_fit ends.fit (sym ends.words_are ∙ words_are)) ends.ends in
      subst Completes (sym made.cause)
      (of_fit fit.documents before.input after.input before.output after.output bytes input none.input none.output made.end made.fits)

  pub fit_completes : Ends words before after why closed → Completes why
  fit_completes (inl (inl text)) = absurd (asks_no_text words (command.Fit fit) text.text words_are text.asked)
  fit_completes (inl (inr (inl ends))) = fit_at_words ends
  fit_completes (inl (inr (inr (inl ends)))) = absurd (no_other ends.no_fit)
  fit_completes (inl (inr (inr (inr (inl ends))))) = absurd (no_other ends.configured.no_fit)
  fit_completes (inl (inr (inr (inr (inr (inl ends)))))) = absurd (no_other ends.configured.no_fit)
  fit_completes (inl (inr (inr (inr (inr (inr (inl ends))))))) = absurd (no_other ends.configured.no_fit)
  fit_completes (inl (inr (inr (inr (inr (inr (inr ends))))))) = fit_made ends
  fit_completes (inr ends) = absurd (no_other ends.configured.no_fit)
