-- The number is that of the key's value, or its default where there is none.
use Rattle.std.proofs.Common.{◌∙◌, Option, ℕ, option_map, unwrap_or, ap, sym, subst}
use Rattle.serde_json.specs.View.{view, members_view}
use Rattle.funnel_stats.specs.Steps.{GivesOrFaults}
use Rattle.funnel_stats.specs.Values.{misfit_of_value}
use Rattle.funnel_stats.specs.declared.fault.ConfigFault.TheVariants.{BadValue}
use Rattle.funnel_stats.specs.declared.key.Limits.{Limits}
use Rattle.funnel_stats.proofs.ValueLemmas.{bad_value-absent, bad_value-present, number_at-absent, number_at-present}
use Rattle.funnel_stats.proofs.numbers.number_of.Goals as goal

pub returns-in-Some-clause-answer : goal.returns-in-Some-clause-answer
returns-in-Some-clause-answer c =
    let object = members_view c.args.object.now.entries in
    let key = c.args.key in
    let value = view c.in-Some.value.now in
    let present = sym c.in-Some.ensures in
    let here : (number : Option ℕ) → Type 0 = λ number.
    GivesOrFaults c.within_limits.result (unwrap_or number 0) (option_map (BadValue key) (misfit_of_value key number)) in
    rw (bad_value-present object key value present, number_at-present object key value present)
    (subst here c.quantity_of.ensures c.within_limits.ensures.answer)

pub returns-in-None-clause-answer : goal.returns-in-None-clause-answer
returns-in-None-clause-answer c =
    let absent = sym c.in-None.ensures in (
      bad_value-absent _ c.args.key absent,
      ap (λ (l : Limits). l.default) c.limits.ensures.value ∙ sym (number_at-absent _ c.args.key absent),
    )
