use Rattle.funnel_server.proofs.Asked.{deleted-one}
use Rattle.funnel_server.proofs.share.delete.Goals as goal

pub returns-clause-done : goal.returns-clause-done
returns-clause-done g c = deleted-one _ _ _ _ _ c.call.ensures.answers
