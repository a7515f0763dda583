-- What the object gives is what the text gives.
use Rattle.std.proofs.Common.{◌∙◌, ap, subst, sym}
use Rattle.std.proofs.lemmas.Result.{err_from_is_err_and}
use Rattle.funnel_model.specs.Configuration.{with_statistics}
use Rattle.serde_json.specs.View.{members_view}
use Rattle.funnel_stats.specs.Configurations.{config_of, object_of}
use Rattle.funnel_stats.specs.Steps.{IsNoObject}
use Rattle.funnel_stats.specs.Tunings.{tuning_fault}
use Rattle.funnel_stats.proofs.ConfigurationLemmas.{answer_of, no_object}
use Rattle.funnel_stats.proofs.TuningLemmas.{tuning-none, tuning-object}
use Rattle.funnel_stats.proofs.tuning.read_tuning.Goals as goal

pub returns-in_err-object-clause-answer : goal.returns-in_err-object-clause-answer
returns-in_err-object-clause-answer c =
    let p = err_from_is_err_and c.from_residual.result c.from_residual.ensures.1 in
    rw (p.1, p.2) (no_object c.in_err-object.field-0.0 _ _ (tuning-none c.args.base.now c.args.text.now)
    (subst (λ text. IsNoObject c.in_err-object.field-0.0 (object_of text)) c.as_bytes.ensures.value c.in_err-object.ensures.err))

pub returns-clause-answer : goal.returns-clause-answer
returns-clause-answer c =
    let object = members_view c.in_ok-object.object.entries in
    let is = ap object_of (sym c.as_bytes.ensures.value) ∙ c.in_ok-object.ensures.ok in
    rw (tuning-object c.args.base.now c.args.text.now object is)
    (answer_of c.tuning_from.result (tuning_fault object) (with_statistics c.args.base.now (config_of object)) c.tuning_from.ensures.answer)
