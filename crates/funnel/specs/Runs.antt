-- A run: one session over a new engine, by its first pass.
use Rattle.std.specs.Prelude.{◌≡◌, [], Option, MatchOption, All}
use Rattle.engine.specs.Engines.{ClosedState, IsClosed}
use Rattle.funnel_io.specs.Borrowed.{Borrowed}
use Rattle.funnel_io.specs.Streams.{Incoming, Outgoing}
use Rattle.funnel_io.specs.declared.end.End.{End}
use Rattle.funnel_model.specs.declared.config.Config.{Config}
use Rattle.funnel_model.specs.Configuration.{IsValid}
use Rattle.funnel_model.specs.Events.{pass_of}
use Rattle.funnel_model.specs.History.{MovesAreCaused, base}
use Rattle.funnel_model.specs.Legal.{IsLegal, Limits}
use Rattle.funnel_model.specs.Sizes.{words_of_slice}
use Rattle.line_proto.specs.Services.{Caller}
use Rattle.row_layout.specs.Sound.{IsSound}
use Rattle.session.specs.Ends.{Serves}
use Rattle.slice_rule.specs.Pools.{PoolId, limits_of}
use Rattle.funnel.specs.Ends.{why_of_end}
use Rattle.funnel.specs.declared.ends.Why.{Why}
use Rattle.funnel.specs.declared.ends.Why.TheVariants as why_of
use Rattle.session.specs.declared.serving.TheConstants.{MOST_BYTES}

-- the limits of an engine with this configuration
abbrev pub limits_by : Config → Limits
limits_by config = limits_of config (words_of_slice config)

-- the blank is of the pool that the engine's type names, for this configuration, which is valid
pub record IsBlankFor (config : Config) (pool blank : PoolId) : Type 0 where
  pub valid : IsValid config
  pub made_with : blank.config ≡ config
  pub limits : blank.limits ≡ limits_by config
  pub named : blank ≡ pool

-- the input and the output hold the references that they held before
pub record HoldTheSame {S K : Type 0} (input_borrowed : S → Borrowed) (output_borrowed : K → Borrowed) (before after : S × K) : Type 0 where
  pub input : input_borrowed after.0 ≡ input_borrowed before.0
  pub output : output_borrowed after.1 ≡ output_borrowed before.1

-- what is left of an engine tells the last commits of its history, as many as the configuration says, how many came before these, and how
-- many events there were
pub record KeepsLast (config : Config) (closed : ClosedState) : Type 0 where
  pub tells : IsClosed closed
  pub before : closed.base ≡ base config.commits closed.history

-- the first pass of an engine with this opening configuration and these limits, which the session is on
abbrev pub first_caller : Config → Limits → Caller
first_caller opening limits = record { opening = opening; limits = limits; pass = 0 }

-- the history is legal, each move has its cause, each document has exactly its own bits, and all events are the first pass's
pub record IsOfFirst (config : Config) (closed : ClosedState) : Type 0 where
  pub legal : IsLegal (limits_by config) closed.history
  pub caused : MovesAreCaused closed.history
  pub sound : IsSound config closed.history
  pub alone : All (λ e. pass_of e ≡ 0) closed.history

-- what a session of the first pass takes and writes, over a history that is all its own: it begins with none, and this is what it leaves
pub record Ran (config : Config) (incoming later_incoming : Incoming) (outgoing later_outgoing : Outgoing) (why : Why) (closed : ClosedState) : Type 0 where
  pub end : End
  pub answered : why ≡ why_of_end end
  pub serves : Serves (first_caller config (limits_by config)) MOST_BYTES
      (record { front = []; incoming = incoming; outgoing = outgoing })
      (record { front = closed.history; incoming = later_incoming; outgoing = later_outgoing }) end
  pub of_first : IsOfFirst config closed

-- the run left its history, or there was no memory to open its engine
abbrev pub RanOrNot : Config → Incoming → Incoming → Outgoing → Outgoing → Why → Option ClosedState → Type 0
RanOrNot config incoming later_incoming outgoing later_outgoing why closed =
    MatchOption closed (why ≡ why_of.Memory) (λ left. Ran config incoming later_incoming outgoing later_outgoing why left)
