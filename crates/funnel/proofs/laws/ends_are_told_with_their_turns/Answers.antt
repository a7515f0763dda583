use Rattle.funnel.proofs.Endings.{plain_end}
use Rattle.funnel.proofs.laws.ends_are_told_with_their_turns.Goals as goal

pub returns : goal.returns
returns g c = plain_end g.G.Gate g.G.Conn.Source g.G.Conn.Sink
