use Rattle.std.proofs.Common.{◌≡◌, ◌+◌, ◌<◌, [], ◌∷◌, length, sym, ap, ◌∙◌, subst, arith}
use Rattle.funnel_model.specs.declared.event.Event.TheVariants as event
use Rattle.funnel_model.specs.Legal.{IsAllowed, IsIdle}
use Rattle.funnel_model.proofs.Histories.{legal-push}
use Rattle.slice_rule.specs.Pools.{PoolId}
use Rattle.commit_desk.specs.Desks.{DeskState, Makes}
use Rattle.commit_desk.specs.Layouts.{IsTuned, LayoutsState, TunesWith}
use Rattle.commit_desk.proofs.HandedBack.{handed_by_tune}
use Rattle.commit_desk.proofs.Inside.{books_of, desk_of}
use Rattle.commit_desk.proofs.MadeEvents.{desk_at, made_one}
use Rattle.commit_desk.proofs.PlainEvents.{allowed_now}
use Rattle.commit_desk.proofs.TuneEvents.{desk-tuned, few_tunings}
use Rattle.commit_desk.proofs.desk.Desk.make_tune.Goals as goal

pub make_event-self-inside-requires-clause-allowed : goal.make_event-self-inside-requires-clause-allowed
make_event-self-inside-requires-clause-allowed c =
    let i = c.self.inside in
    let e = event.Tune c.number-pass.result c.args.config.now in
    let same : i.home.pool ≡ c.args.pool.now = ap (λ (d : DeskState). d.pool) c.self.view_is ∙ sym c.requires.pool in
    subst (λ (p : PoolId). IsAllowed p.limits i.home.history e) same
    (allowed_now (desk_of i) c.args.self.now c.args.seat.now.number e c.self.view_is c.self.invariant.desk.none_awaited c.requires.caught_up.in_range c.number-pass.ensures.number
    (subst (λ n. IsIdle n c.args.self.now.history) (sym c.number-pass.ensures.number) c.requires.idle))

pub tune-requires-clause-some : goal.tune-requires-clause-some
tune-requires-clause-some c = (record { config = c.args.config.now; room = c.args.self.now.pool.limits.slice_words }, c.requires.tunes.laid)

pub tune-requires-clause-few : goal.tune-requires-clause-few
tune-requires-clause-few c =
    let i = c.self.inside in
    let below : length i.home.history < i.events_limit = subst (λ (d : DeskState). length d.history < d.events_limit) (sym c.self.view_is) c.requires.takes_calls in
    let bounded = c.self.invariant.desk.bounded in
    let count = c.self.invariant.desk.kept.layouts_are.tunings_are in
    let few = few_tunings i.home.history in
    omega (arith, below, bounded, count, few)

pub invariant_of-self : goal.invariant_of-self
invariant_of-self c =
    let i = c.self.inside in
    let home = c.make_event-self-inside.new.home in
    let made = c.make_event-self-inside.ensures in
    let e = event.Tune c.number-pass.result c.args.config.now in
    let tunes : TunesWith i.home.pool c.args.config.now c.args.layout.now =
    subst (λ (d : DeskState). TunesWith d.pool c.args.config.now c.args.layout.now) (sym c.self.view_is) c.requires.tunes in
    let below : length i.home.history < i.events_limit = subst (λ (d : DeskState). length d.history < d.events_limit) (sym c.self.view_is) c.requires.takes_calls in
    record {
      whole = c.self.invariant.whole;
      desk = desk-tuned i.home.pool i.events_limit i.home.history (books_of i c.self.invariant.whole) c.self.invariant.desk c.number-pass.result c.args.config.now c.args.layout.now tunes
          home.pool home.history c.make_event-self-inside.result c.tune.new.self
          (allowed_now (desk_of i) c.args.self.now c.args.seat.now.number e c.self.view_is c.self.invariant.desk.none_awaited c.requires.caught_up.in_range c.number-pass.ensures.number
          (subst (λ n. IsIdle n c.args.self.now.history) (sym c.number-pass.ensures.number) c.requires.idle))
          below made.home.pool made.home.history made.number c.tune.ensures.after;
      left = c.self.invariant.left;
      documents = c.self.invariant.documents;
    }

pub returns-clause-tuned : goal.returns-clause-tuned
returns-clause-tuned c =
    let i = c.self.inside in
    let are = c.self.invariant.desk.kept.layouts_are in
    subst (λ (d : DeskState). IsTuned d.pool d.history c.tunings.result c.tune.new.next) c.self.view_is (record {
      count_is = c.tunings.ensures ∙ ap (λ (k : LayoutsState). k.tunings) c.tune.ensures.after ∙ ap (λ n. n + 1) are.tunings_are;
      hands_back = handed_by_tune i.home.pool i.home.history i.layouts are c.tune.new.next c.tune.ensures.before c.tune.ensures.current;
    })

pub returns-clause-made : goal.returns-clause-made
returns-clause-made c =
    let i = c.self.inside in
    let made = c.make_event-self-inside.ensures in
    let home = c.make_event-self-inside.new.home in
    let seat = c.make_event-self-inside.new.seat in
    let e = event.Tune c.number-pass.result c.args.config.now in
    let allowed = allowed_now (desk_of i) c.args.self.now c.args.seat.now.number e c.self.view_is c.self.invariant.desk.none_awaited c.requires.caught_up.in_range c.number-pass.ensures.number
    (subst (λ n. IsIdle n c.args.self.now.history) (sym c.number-pass.ensures.number) c.requires.idle) in
    subst (λ n. Makes (event.Tune n c.args.config.now ∷ []) c.args.self.now (desk_at home i.events_limit) c.args.seat.now seat) c.number-pass.ensures.number
    (made_one c.args.self.now i.home home i.events_limit c.args.seat.now seat e c.self.view_is c.requires.caught_up made.home
    (legal-push i.home.pool.limits i.home.history e c.self.invariant.desk.kept.legal allowed) made.seat)
