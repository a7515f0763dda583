use Rattle.std.proofs.Common.{◌≡◌, ◌↔◌, ℕ, ◌+◌, ◌<◌, List, [], ◌∷◌, ◌++◌, length, get_or, Option, None, sym, ap, ◌∙◌, subst, arith, Contains}
use Rattle.funnel_model.specs.declared.claim.Token.{Token}
use Rattle.funnel_model.specs.declared.event.Event.TheVariants as event
use Rattle.funnel_model.specs.History.{place}
use Rattle.funnel_model.specs.Legal.{IsAllowed, IsIdle}
use Rattle.funnel_model.specs.Slices.{IsInUse}
use Rattle.slice_rule.specs.Pools.{PoolId}
use Rattle.commit_desk.specs.Answers.{TakesCalls}
use Rattle.commit_desk.specs.Desks.{DeskState, Makes}
use Rattle.commit_desk.specs.Leaving.{AreKept}
use Rattle.commit_desk.proofs.AskedDocuments.{over-before}
use Rattle.commit_desk.proofs.FindEvents.{desk-find, find_allowed, token_held}
use Rattle.commit_desk.proofs.Inside.{books_of, desk_of}
use Rattle.commit_desk.proofs.Keeping.{kept-opened}
use Rattle.commit_desk.proofs.MadeEvents.{desk_at, made_with, number_is}
use Rattle.commit_desk.proofs.StageFacts.{used_slices}
use Rattle.commit_desk.proofs.TokenEvents.{idle_has_none}
use Rattle.commit_desk.proofs.desk.Desk.make_find.Goals as goal

-- the pass is idle in the history of the desk that it is seen as
idle_in : (pass number : ℕ) (inside seen : DeskState) → pass ≡ number → inside ≡ seen → IsIdle number seen.history → IsIdle pass inside.history
idle_in pass number inside seen same is idle = subst (λ p. IsIdle p inside.history) (sym same) (subst (λ (d : DeskState). IsIdle number d.history) (sym is) idle)

-- so it has no token open
none_open : (c : goal.After-in_use) → get_or c.self.inside.tokens c.number-pass.result None ≡ None
none_open c =
    let i = c.self.inside in
    let kept = c.self.invariant.desk.kept in
    idle_has_none i.home.pool.limits i.home.history i.tokens c.number-pass.result kept.legal kept.tokens_are
    (idle_in c.number-pass.result c.args.seat.now.number (desk_of i) c.args.self.now c.number-pass.ensures.number c.self.view_is c.requires.idle)

pub open-requires-clause-none : goal.open-requires-clause-none
open-requires-clause-none c =
    let i = c.self.inside in
    let kept = c.self.invariant.desk.kept in
    idle_has_none i.home.pool.limits i.home.history i.tokens c.number-pass.result kept.legal kept.tokens_are
    (idle_in c.number-pass.result c.args.seat.now.number (desk_of i) c.args.self.now c.number-pass.ensures.number c.self.view_is c.requires.idle)

allowed_now : (c : goal.After-in_use) → IsAllowed c.self.inside.home.pool.limits c.self.inside.home.history (event.Find c.number-pass.result c.args.query.now)
allowed_now c =
    let i = c.self.inside in
    let pool : c.args.seat.now.pool ≡ i.home.pool = c.requires.caught_up.seated.same ∙ sym (ap (λ (d : DeskState). d.pool) c.self.view_is) in
    find_allowed i.home.pool.limits i.home.history c.number-pass.result c.args.query.now c.self.invariant.desk.none_awaited
    (subst (λ (p : PoolId). c.number-pass.result < p.limits.passes) pool c.number-pass.ensures.in_range)
    (idle_in c.number-pass.result c.args.seat.now.number (desk_of i) c.args.self.now c.number-pass.ensures.number c.self.view_is c.requires.idle)

pub invariant_of-self : goal.invariant_of-self
invariant_of-self c =
    let i = c.self.inside in
    let home = c.make_event-opened_at.new.home in
    let made = c.make_event-opened_at.ensures in
    let below : length i.home.history < i.events_limit =
    subst (λ (d : DeskState). TakesCalls d.events_limit d.history) (sym c.self.view_is) c.requires.takes_calls in
    let kept = c.self.invariant.desk.kept in
    let within : c.number-pass.result < length i.tokens = let h = kept.tokens_are.count in let p = (allowed_now c).pass in omega (arith, h, p) in
    let number = number_is i.home home (event.Find c.number-pass.result c.args.query.now) c.make_event-opened_at.result made.home made.number in
    record {
      whole = c.self.invariant.whole;
      desk = desk-find i.home.pool i.events_limit i.home.history (books_of i c.self.invariant.whole) c.self.invariant.desk home.pool home.history c.make_event-opened_at.result c.open.new.self made.home.pool
          c.number-pass.result c.args.query.now (allowed_now c) below made.home.history made.number c.open.ensures;
      left = c.self.invariant.left;
      documents = subst (λ (ts : List (Option ℕ)). AreKept ts i.records i.leaving) (sym c.open.ensures)
          (kept-opened i.tokens i.records i.leaving c.self.invariant.documents c.number-pass.result c.make_event-opened_at.result within (none_open c)
          (λ slice column since until at over. let h = over-before i.home.pool.limits i.home.history c.self.invariant.whole i.records kept.legal kept.recorded c.self.invariant.left slice column since until at over in omega (arith, h, number)));
    }

-- the number of the find, its place and the slices in use before it
opened_now : (c : goal.After-in_use) → c.make_event-opened_at.result ≡ length c.self.inside.home.history + 1
opened_now c =
    let i = c.self.inside in
    let made = c.make_event-opened_at.ensures in
    number_is i.home c.make_event-opened_at.new.home (event.Find c.number-pass.result c.args.query.now) c.make_event-opened_at.result made.home made.number

place_now : (c : goal.After-in_use) → c.place-place.result ≡ place c.self.inside.home.history
place_now c = c.place-place.ensures ∙ c.self.invariant.desk.kept.journal_is.place_is

slices_now : (c : goal.After-in_use) → (slice : ℕ) →
    Contains c.in_use.result slice ↔ ((slice < c.self.inside.home.pool.limits.slices) × IsInUse c.self.inside.home.pool.limits.columns slice c.self.inside.home.history)
slices_now c =
    let i = c.self.inside in
    let kept = c.self.invariant.desk.kept in
    used_slices i.home.pool.limits i.home.history c.self.invariant.whole i.tokens i.stages c.in_use.result kept.legal kept.recorded kept.staged c.in_use.ensures

pub returns-clause-answer : goal.returns-clause-answer
returns-clause-answer c =
    let token : Token = record { place = c.place-place.result; opened_at = c.make_event-opened_at.result; slices = c.in_use.result } in (
      c.requires.takes_calls,
      subst (λ (d : DeskState). token.place ≡ place d.history) c.self.view_is (place_now c),
      subst (λ (d : DeskState). token.opened_at ≡ length d.history + 1) c.self.view_is (opened_now c),
      subst (λ (d : DeskState). (slice : ℕ) → Contains token.slices slice ↔ ((slice < d.pool.limits.slices) × IsInUse d.pool.limits.columns slice d.history)) c.self.view_is (slices_now c),
    )

pub returns-clause-token : goal.returns-clause-token
returns-clause-token c =
    let i = c.self.inside in
    let made = c.make_event-opened_at.ensures in
    let seat = c.make_event-opened_at.new.seat in
    let token : Token = record { place = c.place-place.result; opened_at = c.make_event-opened_at.result; slices = c.in_use.result } in
    let number : c.number-pass.result ≡ seat.number = c.number-pass.ensures.number ∙ sym made.seat.number in
    let before : c.args.seat.now.front ≡ i.home.history = c.requires.caught_up.front ∙ sym (ap (λ (d : DeskState). d.history) c.self.view_is) in
    let pool : i.home.pool ≡ seat.pool = ap (λ (d : DeskState). d.pool) c.self.view_is ∙ sym c.requires.caught_up.seated.same ∙ sym made.seat.pool in
    token_held seat i.home.history c.args.query.now token
    (made.seat.front ∙ ap (λ h. h ++ event.Find c.number-pass.result c.args.query.now ∷ []) before ∙ ap (λ n. i.home.history ++ event.Find n c.args.query.now ∷ []) number)
    (opened_now c) (place_now c)
    (subst (λ (p : PoolId). (slice : ℕ) → Contains token.slices slice ↔ ((slice < p.limits.slices) × IsInUse p.limits.columns slice i.home.history)) pool (slices_now c))

pub returns-clause-made : goal.returns-clause-made
returns-clause-made c =
    let i = c.self.inside in
    let made = c.make_event-opened_at.ensures in
    let home = c.make_event-opened_at.new.home in
    let seat = c.make_event-opened_at.new.seat in
    subst (λ n. Makes (event.Find n c.args.query.now ∷ []) c.args.self.now (desk_at home i.events_limit) c.args.seat.now seat) c.number-pass.ensures.number
    (made_with c.args.self.now i.home home i.events_limit c.args.seat.now seat (event.Find c.number-pass.result c.args.query.now) c.self.view_is c.requires.caught_up made.home
    (invariant_of-self c).desk.kept.legal made.seat)
