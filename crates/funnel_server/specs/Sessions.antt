-- How a connection is served: by a session of lines, or by one of requests over HTTP.
use Rattle.std.specs.Prelude.{ℕ, Bool, true, false, List, [], ◌∷◌, ◌++◌}
use Rattle.funnel_io.specs.declared.end.End.{End}
use Rattle.funnel_io.specs.declared.end.End.TheVariants as end_of
use Rattle.funnel_model.specs.declared.call.Call.{Call}
use Rattle.funnel_model.specs.declared.event.Event.{Event}
use Rattle.funnel_model.specs.declared.reply.Reply.{Reply}
use Rattle.http_front.specs.Ends.{ServesRequests}
use Rattle.http_front.specs.Laws.{AreAsked}
use Rattle.http_front.specs.Sessions.{Exchange, Session as RequestSession}
use Rattle.line_proto.specs.Forms.{Item, items}
use Rattle.line_proto.specs.Services.{Caller}
use Rattle.session.specs.Ends.{Serves, Stand}
use Rattle.session.specs.Laws.{AreCalls}
use Rattle.session.specs.Sessions.{Session}
use Rattle.session.specs.declared.serving.TheConstants.{MOST_BYTES}

-- a connection is served: its requests over HTTP are answered, or its lines
abbrev pub IsServed : Bool → Caller → Stand → Stand → End → Type 0
IsServed true caller old new end = ServesRequests caller MOST_BYTES old new end
IsServed false caller old new end = Serves caller MOST_BYTES old new end

-- the items that a session answered, of those that the bytes which it took have
abbrev pub answered : (caller : Caller) (before after : List Event) (taken written : List ℕ) (end : End) → Session caller before after taken written end → List Item
answered caller before after taken written end_of.Done session = items taken true
answered caller before after taken written end_of.ReadFault session = items taken false
answered caller before after taken written (end_of.ByteLimit limit) session = items taken false
answered caller before after taken written end_of.WriteFault session = session.first
answered caller before after taken written end_of.Memory session = []

-- the replies that it gave to them
abbrev pub replies_in : (caller : Caller) (before after : List Event) (taken written : List ℕ) (end : End) → Session caller before after taken written end → List Reply
replies_in caller before after taken written end_of.Done session = session.replies
replies_in caller before after taken written end_of.ReadFault session = session.replies
replies_in caller before after taken written (end_of.ByteLimit limit) session = session.1.replies
replies_in caller before after taken written end_of.WriteFault session = session.replies
replies_in caller before after taken written end_of.Memory session = []

-- the requests that were answered, with what was told
abbrev pub exchanges_in : (caller : Caller) (before after : List Event) (taken written : List ℕ) (end : End) → RequestSession caller before after taken written end → List Exchange
exchanges_in caller before after taken written end_of.Done session = session.exchanges
exchanges_in caller before after taken written end_of.ReadFault session = session.all.exchanges
exchanges_in caller before after taken written (end_of.ByteLimit limit) session = session.1.all.exchanges
exchanges_in caller before after taken written end_of.WriteFault session = session.first ++ session.last ∷ []
exchanges_in caller before after taken written end_of.Memory session = []

-- these are the calls that were asked by what a connection sent, in order, with their replies
abbrev pub AreItsCalls : (http : Bool) (caller : Caller) (old new : Stand) (end : End) → IsServed http caller old new end → List Call → List Reply → Type 0
AreItsCalls true caller old new end served calls replies =
    AreAsked caller.opening (exchanges_in caller old.front new.front served.taken served.written end served.session) calls replies
AreItsCalls false caller old new end served calls replies =
    AreCalls caller.opening (answered caller old.front new.front served.taken served.written end served.session)
    (replies_in caller old.front new.front served.taken served.written end served.session) calls replies
