use Rattle.std.proofs.Common.{◌≡◌}
use Rattle.funnel_io.specs.declared.end.End.TheVariants as end_of
use Rattle.session.proofs.TurnLaws.{done_finds_end}
use Rattle.session.proofs.laws.sessions_that_are_done_found_the_end.Goals as goal

pub returns : goal.returns
returns g c limit end before after stops done = done_finds_end g.C.Source.read_gives g.C.Sink.write_gives limit (end ≡ end_of.Done) before after stops done
