use Rattle.std.proofs.Common.{◌≡◌, false, refl, subst, sym, inr}
use Rattle.std.specs.Option.{IfSome}
use Rattle.funnel_model.specs.declared.event.Event.{Event}
use Rattle.funnel_model.specs.declared.event.Event.TheVariants as event
use Rattle.funnel_model.proofs.NextEvents.{awaited-push}
use Rattle.funnel_model.proofs.Progress.{allowed_by, take_ends}
use Rattle.funnel_model.proofs.Spans.{last_by-own}
use Rattle.funnel_model.proofs.laws.invariants.calls_can_go_on.Goals as goal

pub returns-clause-taken : goal.returns-clause-taken
returns-clause-taken c limits history pass slice column id text bits legal in' none taken inside in_word =
    take_ends limits history pass legal in' none slice column id text bits taken inside in_word

pub returns-clause-dropped : goal.returns-clause-dropped
returns-clause-dropped c limits history pass slice column id text in' none taken present =
    allowed_by limits history (event.Drop pass id text slice column) in' none (record { taken = taken; present = present })

pub returns-clause-cleared : goal.returns-clause-cleared
returns-clause-cleared c limits history pass slice alone in' none last =
    allowed_by limits history (event.Opened pass slice alone) in' none (record { cleared = last })

pub returns-clause-opened : goal.returns-clause-opened
returns-clause-opened c limits history pass slice in' some =
    let opened = event.Opened pass slice false in
    record {
      pass = in';
      at_once = subst (λ o. IfSome o (λ (next : Event). event.Take pass slice 0 ≡ next)) (sym (awaited-push history opened)) refl;
      rule = inr (record { opened = last_by-own pass history opened refl; first = refl; in_range = some });
    }

pub returns-clause-found : goal.returns-clause-found
returns-clause-found c limits history pass query in' none last =
    allowed_by limits history (event.End pass) in' none (record { query = query; begun = last })
