-- What the laws of programs say.
use Rattle.std.specs.Prelude.{◌≡◌, ◌≢◌, ◌<◌, ◌≤◌, ◌⊎◌, ⊤, ℕ, Bool, true, false, List, [], ◌∷◌, ◌++◌, length, take, drop, All, Option, Some, None, Ok, Contains}
use Rattle.std.specs.List.{AllZip, flat_map}
use Rattle.std.specs.Option.{IsSomeAnd, option_map}
use Rattle.engine.specs.Engines.{ClosedState}
use Rattle.fit.specs.Adds.{texts_added}
use Rattle.fit.specs.Ends.{IsFitted, IsMisfit}
use Rattle.fit.specs.Texts.{text_of}
use Rattle.funnel_io.specs.Counts.{Rose}
use Rattle.funnel_io.specs.Served.{Served}
use Rattle.funnel_io.specs.Streams.{Incoming, Outgoing, Writes}
use Rattle.funnel_io.specs.declared.end.End.{End}
use Rattle.funnel_io.specs.declared.end.End.TheVariants as end_of
use Rattle.funnel_io.specs.declared.gate.Gate as Gate
use Rattle.funnel_io.specs.declared.gate.Next.TheVariants as next
use Rattle.funnel_io.specs.declared.gate.Opening.TheVariants as opening
use Rattle.funnel_model.specs.declared.call.Call.{Call}
use Rattle.funnel_model.specs.declared.call.Call.TheVariants as call
use Rattle.funnel_model.specs.declared.config.Config.{Config}
use Rattle.funnel_model.specs.declared.event.Event.{Event}
use Rattle.funnel_model.specs.declared.reply.Reply.{Reply}
use Rattle.funnel_model.specs.declared.reply.Reply.TheVariants as reply
use Rattle.funnel_model.specs.History.{own}
use Rattle.funnel_server.specs.Gates.{GateState, Sides}
use Rattle.funnel_server.specs.Laws.{FitsKept, HasCause, HasFewBytes, HasSeen, MakesCalls}
use Rattle.funnel_server.specs.Workers.{Visit, WorkerState}
use Rattle.funnel_stats.specs.Configurations.{configuration}
use Rattle.line_proto.specs.Forms.{Item, Asks, Calls, Searches, Tunes, items}
use Rattle.line_proto.specs.Services.{Caller}
use Rattle.line_proto.specs.Texts.{texts}
use Rattle.load_gen.specs.Summary.{summary}
use Rattle.session.specs.Sessions.{Answers, Session}
use Rattle.command_line.specs.Commands.{command_of}
use Rattle.funnel.specs.LoadRuns.{IsWholeLoad}
use Rattle.funnel.specs.Misfits.{misfit_of}
use Rattle.funnel.specs.Programs.{Streams}
use Rattle.funnel.specs.Runs.{IsOfFirst, first_caller, limits_by}
use Rattle.funnel.specs.ServeRuns.{AllWork, HaveAllServed, IsStartRefused}
use Rattle.command_line.specs.declared.command.Command.{Command}
use Rattle.command_line.specs.declared.command.LoadCommand.{LoadCommand}
use Rattle.command_line.specs.declared.command.ServeCommand.{ServeCommand}
use Rattle.session.specs.declared.serving.TheConstants.{MOST_BYTES}
use Rattle.funnel.specs.declared.ends.Misfit.TheVariants as misfit
use Rattle.funnel.specs.declared.ends.Why.{Why}
use Rattle.funnel.specs.declared.ends.Why.TheVariants as why_of

-- no call of a gate failed
abbrev pub NoneFailed : List GateState → List GateState → Type 0
NoneFailed [] after = ⊤
NoneFailed before [] = ⊤
NoneFailed (gate ∷ gates) (later ∷ laters) = (Rose gate.faults later.faults → ⊥) × NoneFailed gates laters

-- no read of the configuration or the input failed, no write of the output, and no call of a gate; what became of connections is
-- not asked
pub record NoStreamFailed (before after : Streams) : Type 0 where
  pub config : Rose before.config.faults after.config.faults → ⊥
  pub input : Rose before.input.faults after.input.faults → ⊥
  pub output : Rose before.output.faults after.output.faults → ⊥
  pub gates : NoneFailed before.gates after.gates

-- the words are this command, the source of the configuration tells its bytes, these are this configuration, and the command
-- fits it
pub record IsAccepted (words : List (List ℕ)) (before : Streams) (command : Command) (config : Config) : Type 0 where
  pub words_are : command_of words ≡ Some command
  pub bytes : List ℕ
  pub told : before.config.left ≡ Some bytes
  pub valid : configuration bytes ≡ Ok config
  pub fits : misfit_of command (length before.gates) config ≡ None

-- the input tells its bytes, which are fewer than a run may take
pub record TellsFew (input : Incoming) (bytes : List ℕ) : Type 0 where
  pub told : input.left ≡ Some bytes
  pub few : length bytes < MOST_BYTES

-- a call that takes memory, so that it may find none
abbrev pub CallTakesMemory : Call → Type 0
CallTakesMemory (call.Add id text) = ⊤
CallTakesMemory (call.Put id text) = ⊤
CallTakesMemory (call.Get id) = ⊤
CallTakesMemory (call.Find query) = ⊤
CallTakesMemory (call.Query expr) = ⊤
CallTakesMemory (call.Count expr) = ⊤
CallTakesMemory (call.Newest expr most) = ⊤
CallTakesMemory (call.Oldest expr most) = ⊤
CallTakesMemory (call.Journal from) = ⊤
CallTakesMemory (call.Tune config) = ⊤
CallTakesMemory _ = ⊥

-- an item that takes memory: one that asks for such a call, and each search and tuning, whether its text can be read or not
abbrev pub TakesMemory : Item → Type 0
TakesMemory (Asks (Calls asked)) = CallTakesMemory asked
TakesMemory (Asks (Searches told sought)) = ⊤
TakesMemory (Asks (Tunes text)) = ⊤
TakesMemory _ = ⊥

-- the reply to an item is never that the history is spent, and is a want of memory only where the item takes some
pub record IsDue (item : Item) (given : Reply) : Type 0 where
  pub unspent : given ≢ reply.Spent
  pub memory : given ≡ reply.Memory → TakesMemory item

-- so it is with each item and its reply
abbrev pub AreDue : List Item → List Reply → Type 0
AreDue [] [] = ⊤
AreDue (item ∷ items) (given ∷ replies) = IsDue item given × AreDue items replies
AreDue [] (given ∷ replies) = ⊥
AreDue (item ∷ items) [] = ⊥

-- and with all that a session answered, however it ended
abbrev pub RepliesAreDue : (caller : Caller) (before after : List Event) (taken written : List ℕ) (end : End) → Session caller before after taken written end → Type 0
RepliesAreDue caller before after taken written end_of.Done session = AreDue (items taken true) session.replies
RepliesAreDue caller before after taken written end_of.ReadFault session = AreDue (items taken false) session.replies
RepliesAreDue caller before after taken written (end_of.ByteLimit limit) session = AreDue (items taken false) session.1.replies
RepliesAreDue caller before after taken written end_of.WriteFault session = AreDue session.first session.replies
RepliesAreDue caller before after taken written end_of.Memory session = ⊤

-- every line of the input is answered, by the steps of one history, which is the first pass's, and the text of the replies is written
pub record AnswersInput (config : Config) (bytes : List ℕ) (before after : Outgoing) (closed : ClosedState) : Type 0 where
  pub of_first : IsOfFirst config closed
  pub replies : List Reply
  pub answers : Answers (first_caller config (limits_by config)) [] (items bytes true) replies closed.history
  pub writes : Writes (texts replies) before after

-- a run is done when its whole input is answered, and ends otherwise for want of memory alone
abbrev pub CompletesRun : Config → List ℕ → Outgoing → Outgoing → Why → Option ClosedState → Type 0
CompletesRun config bytes before after why_of.Done closed = IsSomeAnd closed (AnswersInput config bytes before after)
CompletesRun config bytes before after why_of.Memory closed = ⊤
CompletesRun config bytes before after _ closed = ⊥

-- a load is done when it is made and its summary written, and ends otherwise for want of memory alone
abbrev pub CompletesLoad : Config → LoadCommand → Outgoing → Outgoing → Why → Option ClosedState → Type 0
CompletesLoad config load before after why_of.Done closed =
    IsSomeAnd closed (IsWholeLoad config load) × Writes (summary load.docs load.words load.seed) before after
CompletesLoad config load before after why_of.Memory closed = ⊤
CompletesLoad config load before after _ closed = ⊥

-- A fit is done when the text of a configuration is written that is fitted to the add lines of the whole input. It ends otherwise where
-- no configuration fits them, or for want of memory, and has written nothing then
abbrev pub CompletesFit : ℕ → List ℕ → Outgoing → Outgoing → Why → Type 0
CompletesFit documents bytes before after why_of.Done = (config : Config) × IsFitted documents (texts_added bytes) config × Writes (text_of config) before after
CompletesFit documents bytes before after (why_of.Misfit (misfit.Sample cause)) = IsMisfit documents (texts_added bytes) cause × (after.written ≡ before.written)
CompletesFit documents bytes before after why_of.Memory = after.written ≡ before.written
CompletesFit documents bytes before after _ = ⊥

-- the calls of the pass in the history are those that these sessions made, one after another, and all that they saw are fronts of it
pub record CallsAreOfSessions (caller : Caller) (visits : List Visit) (history : List Event) : Type 0 where
  pub made : List (List Call)
  pub sessions : AllZip (MakesCalls caller) visits made
  pub calls : own caller.pass history ≡ flat_map (λ calls. calls) made
  pub seen : All (HasSeen history) visits

-- so it is with the pass of each worker
abbrev pub AllCallsAreOfSessions : (history : List Event) (befores afters : List WorkerState) → AllWork befores afters → Type 0
AllCallsAreOfSessions history [] [] work = ⊤
AllCallsAreOfSessions history (before ∷ befores) (after ∷ afters) work =
    CallsAreOfSessions before.caller work.0.visits history × AllCallsAreOfSessions history befores afters work.1
AllCallsAreOfSessions history [] (after ∷ afters) work = ⊥
AllCallsAreOfSessions history (before ∷ befores) [] work = ⊥

-- no read and no write of a connection failed, by what its gate keeps
pub record KeepsNoFault (served : Served) : Type 0 where
  pub reads : served.read_faults ≡ 0
  pub writes : served.write_faults ≡ 0

-- its session answered all lines or requests of its input, or found no memory to begin
abbrev pub KeepsGoodEnd : Served → Type 0
KeepsGoodEnd served = (served.session_end ≡ end_of.Done) ⊎ (served.session_end ≡ end_of.Memory)

-- what a gate keeps of a connection has its cause; and where the connection has few bytes and no fault, its end is good
pub record IsKeptOf (http : Bool) (sides : Sides) (served : Served) : Type 0 where
  pub cause : HasCause http sides served
  pub good : HasFewBytes sides → KeepsNoFault served → KeepsGoodEnd served

-- A gate had connections served, no more than may be, and keeps an end for each, where it tells those that came back. Each such end fits
-- what is kept with it. Where the gate tells which connections wait, they are the first of these, as many as may be, and the others still
-- wait. Where the serve is done, each found memory
pub record GateIsServed (serve : ServeCommand) (why : Why) (before after : GateState) : Type 0 where
  pub gained : List Served
  pub kept : after.served ≡ option_map (λ earlier. earlier ++ gained) before.served
  pub fit : All FitsKept gained
  pub most : length gained ≤ serve.connections
  pub first : (waiting : List Sides) → before.waiting ≡ Some waiting → AllZip (IsKeptOf serve.http) (take serve.connections waiting) gained
  pub left : (waiting : List Sides) → before.waiting ≡ Some waiting → after.waiting ≡ Some (drop serve.connections waiting)
  pub memory : why ≡ why_of.Done → All (λ served. served.session_end ≢ end_of.Memory) gained

-- so it is with a gate unless a call of it failed
abbrev pub IsServedUnlessFailed : ServeCommand → Why → GateState → GateState → Type 0
IsServedUnlessFailed serve why before after = (Rose before.faults after.faults → ⊥) → GateIsServed serve why before after

-- the gates were served by one engine, and each of them as far as it may be
abbrev pub ServesAllGates : Config → ServeCommand → List GateState → List GateState → Why → ClosedState → Type 0
ServesAllGates config serve before after why closed =
    HaveAllServed config serve before after why closed × AllZip (GateIsServed serve why) before after

-- a serve is done when each gate's connections had their sessions, up to the number that was stated, each to its own end. It ends
-- otherwise where a session found no memory, and all had theirs, or where there was none for the engine or its workers or no thread for
-- one of these, and no connection was taken
abbrev pub CompletesServe : Config → ServeCommand → List GateState → List GateState → Why → Option ClosedState → Type 0
CompletesServe config serve before after why (Some closed) =
    ((why ≡ why_of.Done) ⊎ (why ≡ why_of.Memory)) × ServesAllGates config serve before after why closed
CompletesServe config serve before after why None = IsStartRefused (length before) why × (after ≡ before)

-- a gate answered that it failed, as it was opened or asked for a connection, was ended, and is one of these since
pub record OneFailed {G C : Type 0} (gate : Gate.Ghosts G C) (laters : List G) : Type 0 where
  pub called : G
  pub failed : G
  pub answer : gate.open_gives called opening.Fault failed ⊎ gate.next_gives called next.Fault failed
  pub later : G
  pub ended : gate.end_gives failed later
  pub there : Contains laters later

-- the program did all, or memory ran out, or as many bytes were read as may be
abbrev pub EndsWell : Why → Type 0
EndsWell why_of.Done = ⊤
EndsWell why_of.Memory = ⊤
EndsWell (why_of.ByteLimit count) = count ≡ MOST_BYTES
EndsWell _ = ⊥
