-- What the object gives is what the bytes give.
use Rattle.std.proofs.lemmas.Result.{err_from_is_err_and}
use Rattle.serde_json.specs.View.{members_view}
use Rattle.funnel_stats.proofs.ConfigurationLemmas.{configuration-none, no_object, object_answer}
use Rattle.funnel_stats.proofs.parsing.parse.Goals as goal

pub returns-in_err-object-clause-answer : goal.returns-in_err-object-clause-answer
returns-in_err-object-clause-answer c =
    let p = err_from_is_err_and c.from_residual.result c.from_residual.ensures.1 in
    rw (p.1, p.2) (no_object c.in_err-object.field-0.0 _ _ (configuration-none c.args.bytes.now c.requires) c.in_err-object.ensures.err)

pub returns-clause-answer : goal.returns-clause-answer
returns-clause-answer c =
    object_answer c.args.bytes.now (members_view c.in_ok-object.object.entries) c.config_from.result c.requires c.in_ok-object.ensures.ok c.config_from.ensures.answer
