use Rattle.std.proofs.Common.{ℕ, length, Result, Ok, Err, ◌≡◌, refl, ◌∙◌}
use Rattle.engine.proofs.SearchCalls.{client_told, reply_or}
use Rattle.engine.specs.declared.querying.SearchFault.{SearchFault}
use Rattle.engine.specs.Replies.{reply_of_count}
use Rattle.funnel_model.specs.declared.reply.Reply.TheVariants as reply
use Rattle.line_proto.specs.Forms.{Amount}
use Rattle.line_proto.specs.Requests.{sought}
use Rattle.engine.proofs.client.Client.count.Goals as goal

as_told : (answer : Result ℕ SearchFault) → reply_of_count answer ≡ reply_or reply.Count answer
as_told (Ok found) = refl
as_told (Err fault) = refl

pub returns-clause-answers : goal.returns-clause-answers
returns-clause-answers g c =
    let pool = g.N.PoolName.pool in
    let pass = c.self.inside.pass in
    let next = c.count.new.pass in
    rw (← c.self.view_is)
    (client_told pool.config pool.limits pass.number next.number Amount (sought c.args.kept) pass.front next.front length reply.Count c.count.result c.count.ensures.turns c.count.ensures.call c.reply_to_count.result
    (c.reply_to_count.ensures ∙ as_told c.count.result))
