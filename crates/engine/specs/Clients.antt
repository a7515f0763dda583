-- A pass of an engine as the caller whose requests it answers.
use Rattle.line_proto.specs.Services.{Caller}
use Rattle.funnel_model.specs.declared.config.Config.{Config}
use Rattle.funnel_model.specs.Legal.{Limits}
use Rattle.engine.specs.Passes.{PassView}

-- its number, the limits of its engine, and the configuration that this was opened with
abbrev pub caller_of : Config → Limits → PassView → Caller
caller_of opening limits pass = record { opening = opening; limits = limits; pass = pass.number }
