-- Unknown keys come first, and then the faults of the values.
use Rattle.std.proofs.Common.{◌∙◌, None, refl, ap, sym, subst}
use Rattle.std.proofs.lemmas.Result.{err_from_is_err_and}
use Rattle.funnel_model.specs.Configuration.{IsTuning, with_statistics}
use Rattle.serde_json.specs.View.{members_view}
use Rattle.funnel_stats.specs.Configurations.{value_fault}
use Rattle.funnel_stats.specs.Faults.{unknown_key}
use Rattle.funnel_stats.specs.Keys.{statistic_keys}
use Rattle.funnel_stats.specs.Values.{entries}
use Rattle.funnel_stats.proofs.FaultOrder.{tuning_fault-parts, IsFault-first, IsFault-later, None-later}
use Rattle.funnel_stats.proofs.Validity.{with_statistics-tunes}
use Rattle.funnel_stats.proofs.tuning.tuning_from.Goals as goal

pub returns-in_err-check_keys-clause-answer : goal.returns-in_err-check_keys-clause-answer
returns-in_err-check_keys-clause-answer c =
    let object = members_view c.args.object.now.entries in
    let p = err_from_is_err_and c.from_residual.result c.from_residual.ensures.1 in
    rw (p.1, p.2, tuning_fault-parts object) (IsFault-first _ (unknown_key statistic_keys (entries object)) _ c.in_err-check_keys.ensures)

pub returns-in_err-statistics-clause-answer : goal.returns-in_err-statistics-clause-answer
returns-in_err-statistics-clause-answer c =
    let object = members_view c.args.object.now.entries in
    let p = err_from_is_err_and c.from_residual-in_err-statistics.result c.from_residual-in_err-statistics.ensures.1 in
    rw (p.1, p.2, tuning_fault-parts object)
    (IsFault-later _ (unknown_key statistic_keys (entries object)) _ c.in_ok-check_keys.ensures (IsFault-first _ (value_fault object) None c.in_err-statistics.ensures.answer))

pub returns-clause-answer : goal.returns-clause-answer
returns-clause-answer c =
    let object = members_view c.args.object.now.entries in (
      tuning_fault-parts object ∙ None-later (unknown_key statistic_keys (entries object)) _ c.in_ok-check_keys.ensures (None-later (value_fault object) None c.in_ok-statistics.ensures.answer.0 refl),
      c.with_statistics.ensures ∙ ap (with_statistics c.args.base.now) c.in_ok-statistics.ensures.answer.1,
    )

pub returns-clause-tuning : goal.returns-clause-tuning
returns-clause-tuning c range =
    let read = c.in_ok-statistics.ensures in
    subst (IsTuning c.args.base.now) (sym c.with_statistics.ensures)
    (with_statistics-tunes c.args.base.now c.in_ok-statistics.statistics range read.range read.ordered read.folded)
