use Rattle.http_front.proofs.TurnLaws.{requests_due}
use Rattle.http_front.proofs.laws.responses_come_after_their_requests.Goals as goal

pub returns : goal.returns
returns c = requests_due
