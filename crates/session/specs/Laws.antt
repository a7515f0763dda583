-- What the laws of sessions say.
use Rattle.std.specs.Prelude.{◌≡◌, ◌≢◌, ◌↔◌, ◌<◌, ◌⊎◌, ⊤, ℕ, List, [], ◌∷◌, ◌++◌, length}
use Rattle.std.specs.List.{AllZip}
use Rattle.funnel_io.specs.Calls.{Read}
use Rattle.funnel_io.specs.Counts.{Rose}
use Rattle.funnel_io.specs.declared.end.End.{End}
use Rattle.funnel_io.specs.declared.end.End.TheVariants as end_of
use Rattle.funnel_io.specs.declared.source.Got.TheVariants as got
use Rattle.funnel_model.specs.declared.call.Call.{Call}
use Rattle.funnel_model.specs.declared.call.Call.TheVariants as call
use Rattle.funnel_model.specs.declared.config.Config.{Config}
use Rattle.funnel_model.specs.declared.event.Event.{Event}
use Rattle.funnel_model.specs.declared.expr.Expr.{Expr}
use Rattle.funnel_model.specs.declared.reply.Reply.{Reply}
use Rattle.funnel_model.specs.declared.reply.Reply.TheVariants as reply
use Rattle.funnel_model.specs.Expressions.{tree_of}
use Rattle.funnel_model.specs.Steps.{AddsCall, AddsNone, Linear}
use Rattle.funnel_model.specs.Tokens.{HasToken}
use Rattle.funnel_stats.specs.Tunings.{Tuned, Gives, tuned}
use Rattle.line_proto.specs.Services.{Caller, IsSought, IsUnread, RefusesTuning, searched}
use Rattle.line_proto.specs.Forms.{Item, Asks, Malformed, TooLong, Calls, Searches, Tunes}
use Rattle.session.specs.Ends.{Serves, Stand}

-- the call that an item asks for, of an engine that was opened with this configuration; for a search, the one by an expression that keeps what
-- is sought; and for a tuning, the one by the configuration that its text gives
abbrev pub IsCallOf : Config → Item → Call → Type 0
IsCallOf opening (Asks (Calls asked)) made = made ≡ asked
IsCallOf opening (Asks (Searches told sought)) made = (expr : Expr) × IsSought sought (tree_of expr) × (made ≡ searched told expr)
IsCallOf opening (Asks (Tunes text)) made = (config : Config) × (tuned opening text ≡ Gives config) × (made ≡ call.Tune config)
IsCallOf opening Malformed made = ⊥
IsCallOf opening TooLong made = ⊥

-- an item that is answered so is no call: a line of no form, one that is too long, or a text that was refused before anything was called
abbrev pub IsNoCall : Config → Item → Reply → Type 0
IsNoCall opening (Asks (Calls asked)) given = ⊥
IsNoCall opening (Asks (Searches told sought)) given = IsUnread sought given
IsNoCall opening (Asks (Tunes text)) given = RefusesTuning (tuned opening text) given
IsNoCall opening Malformed given = ⊤
IsNoCall opening TooLong given = ⊤

-- of items and the replies to them, these are the calls in order, with the replies to those
abbrev pub AreCalls : Config → List Item → List Reply → List Call → List Reply → Type 0
AreCalls opening [] [] calls told = (calls ≡ []) × (told ≡ [])
AreCalls opening (item ∷ items) (given ∷ replies) calls told =
    (IsNoCall opening item given × AreCalls opening items replies calls told)
    ⊎ ((made : Call) × (rest : List Call) × (others : List Reply) × IsCallOf opening item made × AreCalls opening items replies rest others
    × (calls ≡ made ∷ rest) × (told ≡ given ∷ others))
AreCalls opening [] (given ∷ replies) calls told = ⊥
AreCalls opening (item ∷ items) [] calls told = ⊥

-- the items are answered by one run of calls: those of the items lead from front to front, one step for each
pub record RunsCalls (caller : Caller) (before after : List Event) (asked : List Item) (replies : List Reply) : Type 0 where
  pub calls : List Call
  pub told : List Reply
  pub are : AreCalls caller.opening asked replies calls told
  pub steps : Linear caller.limits caller.pass before after calls told

-- over a spent front what comes of a tuning's text is refused so: a configuration as each call is, as spent or for want of memory, and else
-- as over each front
abbrev pub IsTunedInVain : Tuned → Reply → Type 0
IsTunedInVain (Gives config) given = (given ≡ reply.Spent) ⊎ (given ≡ reply.Memory)
IsTunedInVain comes given = RefusesTuning comes given

-- over a spent front an item is refused so: a call as spent or for want of memory, a search as spent or before anything is called, a tuning by what comes of its text, and any other line as over each front
abbrev pub IsRefusedAs : Config → Item → Reply → Type 0
IsRefusedAs opening (Asks (Calls asked)) given = (given ≡ reply.Spent) ⊎ (given ≡ reply.Memory)
IsRefusedAs opening (Asks (Searches told sought)) given = (given ≡ reply.Spent) ⊎ IsUnread sought given
IsRefusedAs opening (Asks (Tunes text)) given = IsTunedInVain (tuned opening text) given
IsRefusedAs opening Malformed given = given ≡ reply.Line
IsRefusedAs opening TooLong given = given ≡ reply.Long

-- every item is refused so, and no call of the pass came into the history
pub record TakesNone (caller : Caller) (before after : List Event) (asked : List Item) (replies : List Reply) : Type 0 where
  pub refused : AllZip (IsRefusedAs caller.opening) asked replies
  pub none : AddsNone caller.pass before after

-- the bytes begin with these, and are more
pub record IsProperFront (front bytes : List ℕ) : Type 0 where
  pub missing : List ℕ
  pub whole : bytes ≡ front ++ missing
  pub some : 0 < length missing

-- no read and no write failed
abbrev pub NoFault : Stand → Stand → Type 0
NoFault old new = (Rose old.incoming.faults new.incoming.faults → ⊥) × (Rose old.outgoing.faults new.outgoing.faults → ⊥)

-- without a fault, and where there was memory to begin, a session ends with Done exactly where it took fewer bytes than the limit
abbrev pub EndsByCount : (caller : Caller) (limit : ℕ) (old new : Stand) (end : End) → Serves caller limit old new end → Type 0
EndsByCount caller limit old new end served = NoFault old new → end ≢ end_of.Memory → (end ≡ end_of.Done) ↔ (length served.taken < limit)

-- the pass has no token, and of its own it made the find or nothing
pub record FindIsOver (pass : ℕ) (before after : List Event) (query : List ℕ) : Type 0 where
  pub no_token : (number : ℕ) → HasToken after pass number → ⊥
  pub calls : AddsNone pass before after ⊎ AddsCall pass before after (call.Find query)

-- there is a last read, and it found the end
pub record FindsEnd (reads : List Read) : Type 0 where
  pub last : Read
  pub earlier : List Read
  pub reads_are : reads ≡ last ∷ earlier
  pub at_end : last.answer ≡ got.End
