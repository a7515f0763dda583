-- Each step finds the faults that come next, and in a configuration that passed them all nothing is wrong.
use Rattle.std.proofs.Common.{◌≡◌, ◌∙◌, None, subst}
use Rattle.std.proofs.lemmas.Result.{err_from_is_err_and}
use Rattle.funnel_model.specs.declared.config.Config.{Config}
use Rattle.serde_json.specs.View.{members_view}
use Rattle.funnel_stats.specs.Configurations.{value_fault}
use Rattle.funnel_stats.specs.Faults.{unknown_key}
use Rattle.funnel_stats.specs.Keys.{keys}
use Rattle.funnel_stats.specs.Steps.{IsFault}
use Rattle.funnel_stats.specs.Values.{entries}
use Rattle.funnel_stats.proofs.FaultOrder.{size_fault, fault_of-parts, IsFault-first, IsFault-later, None-later}
use Rattle.funnel_stats.proofs.Validity.{is_valid}
use Rattle.funnel_stats.proofs.parsing.config_from.Goals as goal

pub returns-in_err-check_keys-clause-answer : goal.returns-in_err-check_keys-clause-answer
returns-in_err-check_keys-clause-answer c =
    let object = members_view c.args.object.now.entries in
    let p = err_from_is_err_and c.from_residual.result c.from_residual.ensures.1 in
    rw (p.1, p.2, fault_of-parts object) (IsFault-first _ (unknown_key keys (entries object)) _ c.in_err-check_keys.ensures)

pub returns-in_err-config-clause-answer : goal.returns-in_err-config-clause-answer
returns-in_err-config-clause-answer c =
    let object = members_view c.args.object.now.entries in
    let p = err_from_is_err_and c.from_residual-in_err-config.result c.from_residual-in_err-config.ensures.1 in
    rw (p.1, p.2, fault_of-parts object)
    (IsFault-later _ (unknown_key keys (entries object)) _ c.in_ok-check_keys.ensures (IsFault-first _ (value_fault object) _ c.in_err-config.ensures.answer))

pub returns-in_err-check_sizes-clause-answer : goal.returns-in_err-check_sizes-clause-answer
returns-in_err-check_sizes-clause-answer c =
    let object = members_view c.args.object.now.entries in
    let p = err_from_is_err_and c.from_residual-in_err-check_sizes.result c.from_residual-in_err-check_sizes.ensures.1 in
    let found = subst (λ (config : Config). IsFault c.in_err-check_sizes.field-0.0 (size_fault config)) c.in_ok-config.ensures.answer.1 c.in_err-check_sizes.ensures in
    rw (p.1, p.2, fault_of-parts object)
    (IsFault-later _ (unknown_key keys (entries object)) _ c.in_ok-check_keys.ensures (IsFault-later _ (value_fault object) _ c.in_ok-config.ensures.answer.0 found))

pub returns-clause-answer : goal.returns-clause-answer
returns-clause-answer c =
    let object = members_view c.args.object.now.entries in
    let no_size_fault = subst (λ (config : Config). size_fault config ≡ None) c.in_ok-config.ensures.answer.1 c.in_ok-check_sizes.ensures in (
      fault_of-parts object ∙ None-later (unknown_key keys (entries object)) _ c.in_ok-check_keys.ensures (None-later (value_fault object) _ c.in_ok-config.ensures.answer.0 no_size_fault),
      c.in_ok-config.ensures.answer.1,
    )

pub returns-clause-valid : goal.returns-clause-valid
returns-clause-valid c =
    is_valid c.in_ok-config.config c.in_ok-config.ensures.range c.in_ok-config.ensures.ordered c.in_ok-config.ensures.folded c.in_ok-check_sizes.ensures
