-- What the laws of workers say.
use Rattle.std.specs.Prelude.{◌≡◌, ◌<◌, ◌≤◌, ◌+◌, ◌-◌, ◌⊎◌, ⊤, ℕ, Bool, true, false, List, [], ◌∷◌, ◌++◌, length, Some, IfSome, if◌then◌else◌}
use Rattle.std.specs.List.{All, AllZip, flat_map}
use mathlib.Core.List.{IsPrefix}
use Rattle.funnel_io.specs.Served.{Served}
use Rattle.funnel_io.specs.Streams.{Incoming}
use Rattle.funnel_io.specs.declared.end.End.{End}
use Rattle.funnel_io.specs.declared.end.End.TheVariants as end_of
use Rattle.funnel_io.specs.declared.gate.Gate as Gate
use Rattle.funnel_io.specs.declared.gate.Next.TheVariants as next
use Rattle.funnel_model.specs.declared.call.Call.{Call}
use Rattle.funnel_model.specs.declared.call.Call.TheVariants as call
use Rattle.funnel_model.specs.declared.event.Event.{Event}
use Rattle.funnel_model.specs.declared.reply.Reply.{Reply}
use Rattle.funnel_model.specs.declared.reply.Reply.TheVariants as reply
use Rattle.funnel_model.specs.History.{IsFrontOf, own}
use Rattle.funnel_model.specs.Steps.{Linear, is_placed}
use Rattle.http_front.specs.Laws.{HaveLastRequest}
use Rattle.line_proto.specs.Services.{Caller}
use Rattle.load_gen.specs.Jobs.{calls_of_share}
use Rattle.session.specs.declared.serving.TheConstants.{MOST_BYTES}
use Rattle.funnel_server.specs.Gates.{Sides}
use Rattle.funnel_server.specs.Loads.{AreAsked}
use Rattle.funnel_server.specs.Sessions.{AreItsCalls}
use Rattle.funnel_server.specs.Workers.{IsVisit, Visit}

-- the call that a pass makes for what it is asked and answered so: for a search by an expression the find of the empty query, for a put that
-- is done the add of its number and text, and for another call that one
abbrev pub made_for : Reply → Call → Call
made_for given (call.Query expr) = call.Find []
made_for given (call.Count expr) = call.Find []
made_for given (call.Newest expr most) = call.Find []
made_for given (call.Oldest expr most) = call.Find []
made_for given (call.Put id text) = if is_placed given then call.Add id text else call.Put id text
made_for given asked = asked

-- of the calls that a pass made, those that come of a call which was answered so: the one that is made for it; but none where it was
-- refused as spent, or an add, a put or a tuning found no memory; and the one or none where another one found no memory
abbrev pub IsMadeAs : Reply → Call → List Call → Type 0
IsMadeAs reply.Spent asked made = made ≡ []
IsMadeAs reply.Memory (call.Add id text) made = made ≡ []
IsMadeAs reply.Memory (call.Put id text) made = made ≡ []
IsMadeAs reply.Memory (call.Tune config) made = made ≡ []
IsMadeAs reply.Memory asked made = (made ≡ []) ⊎ (made ≡ made_for reply.Memory asked ∷ [])
IsMadeAs given asked made = made ≡ made_for given asked ∷ []

-- the calls, each as far as its reply says that it was made
abbrev pub AreMade : List Call → List Reply → List Call → Type 0
AreMade [] [] made = made ≡ []
AreMade (asked ∷ calls) (given ∷ replies) made =
    (first rest : List Call) × IsMadeAs given asked first × AreMade calls replies rest × (made ≡ first ++ rest)
AreMade [] (given ∷ replies) made = ⊥
AreMade (asked ∷ calls) [] made = ⊥

-- the calls of a connection's lines or requests, each answered by one step from front to front, and those of them that the pass made
pub record MakesCalls (caller : Caller) (visit : Visit) (made : List Call) : Type 0 where
  pub session : IsVisit caller visit
  pub asked : List Call
  pub replies : List Reply
  pub are_its : AreItsCalls visit.http caller visit.before visit.after visit.end session.serves asked replies
  pub steps : Linear caller.limits caller.pass visit.before.front visit.after.front asked replies
  pub are : AreMade asked replies made

-- the front goes on from those before and after the session
pub record HasSeen (front : List Event) (visit : Visit) : Type 0 where
  pub before : IsPrefix visit.before.front front
  pub after : IsPrefix visit.after.front front

-- the calls of a pass are those before its sessions, and then those that the sessions made, in order; and its front goes on from
-- where it was, over all that the sessions saw
pub record GoesOnByCalls (caller : Caller) (before after : List Event) (visits : List Visit) : Type 0 where
  pub made : List (List Call)
  pub sessions : AllZip (MakesCalls caller) visits made
  pub calls : own caller.pass after ≡ own caller.pass before ++ flat_map (λ calls. calls) made
  pub grows : IsPrefix before after
  pub seen : All (HasSeen after) visits

-- an end with the counts of failed reads and failed writes that are kept with it
abbrev pub CountsAs : End → ℕ → ℕ → Type 0
CountsAs end_of.ReadFault reads writes = (reads ≡ 1) × (writes ≡ 0)
CountsAs end_of.WriteFault reads writes = (reads ≡ 0) × (writes ≡ 1)
CountsAs _ reads writes = (reads ≡ 0) × (writes ≡ 0)

-- a session that is done took all of its input; so did one of requests, or the response to its last request closed the connection
abbrev pub TakesAll : Bool → (input bytes : List ℕ) → Type 0
TakesAll true input bytes = ((bytes ≡ input) × (length bytes < MOST_BYTES)) ⊎ (HaveLastRequest bytes × (length bytes ≤ MOST_BYTES))
TakesAll false input bytes = (bytes ≡ input) × (length bytes < MOST_BYTES)

-- an end with the bytes that came in, which were taken of these
abbrev pub TakesAs : Bool → End → (input bytes : List ℕ) → Type 0
TakesAs http end_of.Done input bytes = TakesAll http input bytes
TakesAs http (end_of.ByteLimit limit) input bytes = (limit ≡ MOST_BYTES) × (length bytes ≡ MOST_BYTES)
TakesAs http end_of.Memory input bytes = bytes ≡ []
TakesAs http _ input bytes = ⊤

-- a connection tells its bytes: none was read, and these are there to be read
pub record TellsInput (incoming : Incoming) (input : List ℕ) : Type 0 where
  pub taken : incoming.taken ≡ Some []
  pub left : incoming.left ≡ Some input

-- the bytes that came in, which are kept, are the first of the input
pub record KeepsInput (http : Bool) (input : List ℕ) (served : Served) : Type 0 where
  pub bytes : List ℕ
  pub kept : served.bytes_in ≡ Some bytes
  pub first : IsPrefix bytes input
  pub by_end : TakesAs http served.session_end input bytes

-- the end that is kept of a connection fits the counts and the bytes that are kept with it
pub record FitsKept (served : Served) : Type 0 where
  pub counts : CountsAs served.session_end served.read_faults served.write_faults
  pub limit : (limit : ℕ) → served.session_end ≡ end_of.ByteLimit limit → limit ≡ MOST_BYTES
  pub nothing_read : served.session_end ≡ end_of.Memory → IfSome served.bytes_in (λ bytes. bytes ≡ [])
  pub nothing_written : served.session_end ≡ end_of.Memory → IfSome served.bytes_out (λ bytes. bytes ≡ [])

-- it has its cause in them, and where the connection tells its bytes in what there was to be read
pub record HasCause (http : Bool) (sides : Sides) (served : Served) : Type 0 where
  pub fits : FitsKept served
  pub input : (input : List ℕ) → TellsInput sides.incoming input → KeepsInput http input served

-- a connection has fewer bytes to be read than a session may take
pub record HasFewBytes (sides : Sides) : Type 0 where
  pub input : List ℕ
  pub left : sides.incoming.left ≡ Some input
  pub few : length input < MOST_BYTES

-- no read and no write of a connection failed
pub record VisitHasNoFault (visit : Visit) : Type 0 where
  pub reads : visit.after.incoming.faults ≡ 0
  pub writes : visit.after.outgoing.faults ≡ 0

-- a session answered all lines of its input, or all its requests up to one whose response closes the connection, or found no memory to begin
abbrev pub SessionEndsWell : Visit → Type 0
SessionEndsWell visit = (visit.end ≡ end_of.Done) ⊎ (visit.end ≡ end_of.Memory)

-- a number that a gate tells by its calls: it rises by one with a connection that is handed out, and falls by one with one that is taken back
pub record CountsOut {G C : Type 0} (gate : Gate.Ghosts G C) (out : G → ℕ) : Type 0 where
  pub hands_out : (before after : G) (conn : C) → gate.next_gives before (next.Conn conn) after → out after ≡ out before + 1
  pub takes_back : (before after : G) (conn : C) (end : End) → gate.done_gives before conn end after → out after ≡ out before - 1

-- a worker of a load asked all calls of its share, one after another, and found memory for each; what it has seen since has no
-- event of its pass
pub record AsksShare (caller : Caller) (before after : List Event) (texts : List (List ℕ)) (workers : ℕ) (replies : List Reply) : Type 0 where
  pub front : List Event
  pub asked : AreAsked caller before front (calls_of_share texts workers caller.pass) replies
  pub seen : IsFrontOf caller.pass front after
