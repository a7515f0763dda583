use Rattle.session.proofs.Turns.{turns_write}
use Rattle.http_front.proofs.laws.turns_write_their_responses.Goals as goal
use Rattle.http_front.specs.Turns.{request_by_request}

pub returns : goal.returns
returns c = turns_write request_by_request
