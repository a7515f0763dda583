use Rattle.std.proofs.Common.{Result, Ok, Err, ◌≡◌, refl, ◌∙◌}
use Rattle.engine.proofs.SearchCalls.{client_told, reply_or}
use Rattle.engine.specs.declared.querying.SearchFault.{SearchFault}
use Rattle.engine.specs.Replies.{reply_of_some}
use Rattle.engine.specs.declared.querying.SomeFound.{SomeFound}
use Rattle.engine.specs.Searches.{first_of, reply_to_some}
use Rattle.line_proto.specs.Forms.{First}
use Rattle.line_proto.specs.Requests.{sought}
use Rattle.engine.proofs.client.Client.oldest.Goals as goal

as_told : (answer : Result SomeFound SearchFault) → reply_of_some answer ≡ reply_or reply_to_some answer
as_told (Ok found) = refl
as_told (Err fault) = refl

pub returns-clause-answers : goal.returns-clause-answers
returns-clause-answers g c =
    let pool = g.N.PoolName.pool in
    let pass = c.self.inside.pass in
    let next = c.oldest.new.pass in
    rw (← c.self.view_is)
    (client_told pool.config pool.limits pass.number next.number (First c.args.most) (sought c.args.kept) pass.front next.front (first_of c.args.most) reply_to_some c.oldest.result c.oldest.ensures.turns c.oldest.ensures.call c.reply_to_some.result
    (c.reply_to_some.ensures ∙ as_told c.oldest.result))
