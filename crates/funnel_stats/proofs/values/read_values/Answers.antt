-- The faults of the numbers come before those of the words.
use Rattle.std.proofs.Common.{◌≡◌, ◌∙◌, None, subst}
use Rattle.std.proofs.lemmas.Result.{err_from_is_err_and}
use Rattle.serde_json.specs.View.{members_view}
use Rattle.funnel_stats.specs.Steps.{IsFault}
use Rattle.funnel_stats.proofs.ConfigLemmas.{config_of-words, documents_of}
use Rattle.funnel_stats.proofs.FaultOrder.{number_fault, word_fault, value_fault-parts, IsFault-first, IsFault-later, None-later}
use Rattle.funnel_stats.proofs.Validity.{in_range, folded}
use Rattle.funnel_stats.proofs.values.read_values.Goals as goal

pub returns-in_err-config-clause-answer : goal.returns-in_err-config-clause-answer
returns-in_err-config-clause-answer c =
    let object = members_view c.args.object.now.entries in
    let p = err_from_is_err_and c.from_residual.result c.from_residual.ensures.1 in
    rw (p.1, p.2, value_fault-parts object) (IsFault-first _ (number_fault object) _ c.in_err-config.ensures.answer)

pub returns-in_err-config-2-clause-answer : goal.returns-in_err-config-2-clause-answer
returns-in_err-config-2-clause-answer c =
    let object = members_view c.args.object.now.entries in
    let p = err_from_is_err_and c.from_residual-in_err-config-2.result c.from_residual-in_err-config-2.ensures.1 in
    let documents = documents_of object c.in_ok-config.config c.in_ok-config.ensures.answer.1 in
    let found = subst (λ n. IsFault c.in_err-config-2.field-0.0 (word_fault object n)) documents c.in_err-config-2.ensures.answer in
    rw (p.1, p.2, value_fault-parts object) (IsFault-later _ (number_fault object) _ c.in_ok-config.ensures.answer.0 found)

pub returns-clause-answer : goal.returns-clause-answer
returns-clause-answer c =
    let object = members_view c.args.object.now.entries in
    let documents = documents_of object c.in_ok-config.config c.in_ok-config.ensures.answer.1 in
    let no_word_fault = subst (λ n. word_fault object n ≡ None) documents c.in_ok-config-2.ensures.answer.0 in (
      value_fault-parts object ∙ None-later (number_fault object) _ c.in_ok-config.ensures.answer.0 no_word_fault,
      config_of-words object c.in_ok-config.config c.in_ok-config-2.field-0 c.in_ok-config.ensures.answer.1 c.in_ok-config-2.ensures.answer.1,
    )

pub returns-clause-range : goal.returns-clause-range
returns-clause-range c =
    in_range (members_view c.args.object.now.entries) c.in_ok-config.config c.in_ok-config-2.field-0
    c.in_ok-config.ensures.range c.in_ok-config.ensures.few c.in_ok-config-2.ensures.answer.0 c.in_ok-config-2.ensures.answer.1

pub returns-clause-folded : goal.returns-clause-folded
returns-clause-folded c =
    folded (members_view c.args.object.now.entries) c.in_ok-config.config.documents c.in_ok-config-2.field-0
    c.in_ok-config-2.ensures.answer.0 c.in_ok-config-2.ensures.answer.1
