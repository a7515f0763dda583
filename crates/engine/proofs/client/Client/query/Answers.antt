use Rattle.std.proofs.Common.{List, ℕ, Result, Ok, Err, ◌≡◌, refl, ◌∙◌}
use Rattle.engine.proofs.SearchCalls.{client_searches, reply_or}
use Rattle.engine.specs.declared.querying.SearchFault.{SearchFault}
use Rattle.engine.specs.Replies.{reply_of_query}
use Rattle.engine.specs.Searches.{reply_told}
use Rattle.line_proto.specs.Forms.{ByQuery, Ids}
use Rattle.engine.proofs.client.Client.query.Goals as goal

as_told : (answer : Result (List ℕ) SearchFault) → reply_of_query answer ≡ reply_or (reply_told Ids) answer
as_told (Ok ids) = refl
as_told (Err fault) = refl

pub returns-clause-answers : goal.returns-clause-answers
returns-clause-answers g c =
    let pool = g.N.PoolName.pool in
    let pass = c.self.inside.pass in
    let next = c.query.new.pass in
    rw (← c.self.view_is)
    (client_searches pool.config pool.limits pass.number next.number Ids (ByQuery c.args.text.now) pass.front next.front c.query.result c.query.ensures.turns c.query.ensures.call c.reply_to_query.result
    (c.reply_to_query.ensures ∙ as_told c.query.result))
