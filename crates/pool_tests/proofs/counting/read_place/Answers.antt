use Rattle.std.proofs.Common.{◌≡◌, ◌<◌, ℕ, Option, None, false, sym, ap, ◌∙◌, subst}
use Rattle.std.specs.Option.{IfSome}
use Rattle.funnel_model.specs.declared.call.Call.TheVariants as call
use Rattle.funnel_model.specs.declared.event.Event.{Event}
use Rattle.funnel_model.specs.declared.event.Event.TheVariants as event
use Rattle.funnel_model.specs.Events.{leaves_open}
use Rattle.funnel_model.specs.Legal.{IsIdle, awaited}
use Rattle.funnel_model.proofs.Clears.{last_by-front}
use Rattle.pool_tests.proofs.counting.read_place.Goals as goal

pub make_event-requires-clause-allowed : goal.make_event-requires-clause-allowed
make_event-requires-clause-allowed c =
    let history = c.catch_up.new.home.history in
    let seat = c.catch_up.new.seat in
    let same = c.catch_up.ensures in
    let idle_old : IsIdle seat.number c.args.seat.now.front = subst (λ (p : ℕ). IsIdle p c.args.seat.now.front) (sym same.seat.number) c.requires.rest.rest.idle in
    let idle : IsIdle seat.number seat.front = subst (λ (o : Option Event). IfSome o (λ e. leaves_open e ≡ false)) (sym (last_by-front seat.number c.args.seat.now.front seat.front same.none_since)) idle_old in
    let none : awaited history ≡ None = ap awaited same.home.history ∙ c.requires.rest.none_awaited in
    record {
      pass = subst (λ (p : ℕ). p < c.args.pool.now.limits.passes) (sym c.number.ensures.number) same.in_range;
      at_once = subst (λ (o : Option Event). IfSome o (λ next. event.Read c.number.result call.Place ≡ next)) (sym none) tt;
      rule = record {
        idle = subst (λ (p : ℕ). IsIdle p history) (sym c.number.ensures.number) (subst (IsIdle seat.number) same.front idle);
        reads = tt;
      };
    }
