-- A fit: lines of the input are read, and a configuration that is fitted to the add lines among them is written.
use Rattle.std.specs.Prelude.{◌≡◌}
use Rattle.fit.specs.Ends.{Fits}
use Rattle.fit.specs.declared.ends.FitEnd.{FitEnd}
use Rattle.funnel_io.specs.Streams.{Incoming, Outgoing}
use Rattle.funnel.specs.Ends.{why_of_fit}
use Rattle.command_line.specs.declared.command.FitCommand.{FitCommand}
use Rattle.funnel.specs.declared.ends.Why.{Why}
use Rattle.session.specs.declared.serving.TheConstants.{MOST_BYTES}

-- what a fit takes, which is no more than a run may, and what it writes
pub record EndsFit (fit : FitCommand) (incoming later_incoming : Incoming) (outgoing later_outgoing : Outgoing) (why : Why) : Type 0 where
  pub end : FitEnd
  pub fits : Fits fit.documents MOST_BYTES (record { incoming = incoming; outgoing = outgoing })
      (record { incoming = later_incoming; outgoing = later_outgoing }) end
  pub cause : why ≡ why_of_fit end
