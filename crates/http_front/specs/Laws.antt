-- What the laws of requests over HTTP say.
use Rattle.std.specs.Prelude.{◌≡◌, ◌⊎◌, ℕ, Bool, true, List, [], ◌∷◌}
use Rattle.std.specs.List.{list_any}
use Rattle.funnel_model.specs.declared.call.Call.{Call}
use Rattle.funnel_model.specs.declared.config.Config.{Config}
use Rattle.funnel_model.specs.declared.event.Event.{Event}
use Rattle.funnel_model.specs.declared.reply.Reply.{Reply}
use Rattle.funnel_model.specs.declared.reply.Reply.TheVariants as reply
use Rattle.funnel_model.specs.Steps.{Linear}
use Rattle.line_proto.specs.Forms as forms
use Rattle.line_proto.specs.Forms.{Asked}
use Rattle.line_proto.specs.Services.{Caller}
use Rattle.session.specs.Laws.{IsCallOf, IsNoCall}
use Rattle.http_front.specs.Entries.{AreRequests, Entry, Asks, Refused, is_last}
use Rattle.http_front.specs.Sessions.{Exchange, HasBody}
use Rattle.http_front.specs.declared.cause.Cause.{Cause}
use Rattle.http_front.specs.declared.outcome.Outcome.TheVariants as outcome
use Rattle.http_front.specs.declared.outcome.Shape.{Shape}
use Rattle.http_front.specs.declared.outcome.Shape.TheVariants as shape

-- the entry asks for this, and its response tells this reply
pub record Asking (exchange : Exchange) (asked : Asked) (given : Reply) : Type 0 where
  pub form : Shape
  pub closing : Bool
  pub entry : exchange.entry ≡ Asks asked form closing
  pub told : exchange.told ≡ outcome.Replied form given

-- the entry asks for nothing
pub record AsksNothing (exchange : Exchange) : Type 0 where
  pub why : Cause
  pub closing : Bool
  pub entry : exchange.entry ≡ Refused why closing

-- no memory was found for a body, whose call wasn't made
pub record AsksInVain (exchange : Exchange) : Type 0 where
  pub post : HasBody exchange.entry
  pub told : exchange.told ≡ outcome.Replied shape.Object reply.Memory

-- what the entry asks for was refused before anything was called: its text is no query, or no configuration that fits the opening one
pub record AsksNoCall (opening : Config) (exchange : Exchange) : Type 0 where
  pub asked : Asked
  pub given : Reply
  pub asks : Asking exchange asked given
  pub none : IsNoCall opening (forms.Asks asked) given

-- the first of the calls is that of the exchange, with its reply
pub record AsksFirst (opening : Config) (exchange : Exchange) (calls : List Call) (replies : List Reply) (later : List Call) (others : List Reply) : Type 0 where
  pub asked : Asked
  pub given : Reply
  pub asks : Asking exchange asked given
  pub made : Call
  pub is : IsCallOf opening (forms.Asks asked) made
  pub calls_are : calls ≡ made ∷ later
  pub replies_are : replies ≡ given ∷ others

-- these are the calls of the exchanges that were made, in order, and the replies to them
abbrev pub AreAsked : Config → List Exchange → List Call → List Reply → Type 0
AreAsked opening [] calls replies = (calls ≡ []) × (replies ≡ [])
AreAsked opening (exchange ∷ exchanges) calls replies =
    ((AsksNothing exchange ⊎ AsksInVain exchange ⊎ AsksNoCall opening exchange) × AreAsked opening exchanges calls replies)
    ⊎ ((later : List Call) × (others : List Reply) × AsksFirst opening exchange calls replies later others × AreAsked opening exchanges later others)

-- the calls of the exchanges lead from front to front, one step for each
pub record RunsCalls (caller : Caller) (before after : List Event) (exchanges : List Exchange) : Type 0 where
  pub asked : List Call
  pub replies : List Reply
  pub are : AreAsked caller.opening exchanges asked replies
  pub steps : Linear caller.limits caller.pass before after asked replies

-- the response to one of the requests of the bytes closes the connection
pub record HaveLastRequest (bytes : List ℕ) : Type 0 where
  pub entries : List Entry
  pub are : AreRequests bytes entries
  pub closes : list_any is_last entries ≡ true
