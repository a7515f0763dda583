use Rattle.std.proofs.Common.{◌≡◌, ℕ, ◌<◌, List, [], ◌∷◌, length, set, Option, None, sym, ap, ◌∙◌, subst, arith}
use Rattle.funnel_model.specs.declared.event.Event.{Event}
use Rattle.funnel_model.specs.declared.event.Event.TheVariants as event
use Rattle.funnel_model.specs.Legal.{IsAllowed, IsLegal, awaited}
use Rattle.funnel_model.specs.Tokens.{HasToken}
use Rattle.slice_rule.specs.Pools.{PoolId}
use Rattle.slice_rule.specs.Seats.{PassState}
use Rattle.commit_desk.specs.Desks.{DeskState, IsCaughtUp, Makes}
use Rattle.commit_desk.specs.Leaving.{AreKept}
use Rattle.commit_desk.proofs.FindEvents.{desk-end, end_allowed}
use Rattle.commit_desk.proofs.Inside.{books_of, desk_of}
use Rattle.commit_desk.proofs.Keeping.{kept-ended}
use Rattle.commit_desk.proofs.MadeEvents.{desk_at, made_with}
use Rattle.commit_desk.proofs.TokenEvents.{token_is_kept}
use Rattle.commit_desk.proofs.desk.Desk.make_end.Goals as goal

begun_at : (desk now : DeskState) (seat : PassState) (pass number : ℕ) → desk ≡ now → pass ≡ seat.number → IsCaughtUp now seat → HasToken seat.front seat.number number → HasToken desk.history pass number
begun_at desk now seat pass number view of_pass caught begun =
    subst (λ (h : List Event). HasToken h pass number) (caught.front ∙ sym (ap (λ (d : DeskState). d.history) view))
    (subst (λ p. HasToken seat.front p number) (sym of_pass) begun)

allowed_at : (desk now : DeskState) (seat : PassState) (pass number : ℕ) → desk ≡ now → pass < seat.pool.limits.passes → IsLegal desk.pool.limits desk.history → awaited desk.history ≡ None →
    IsCaughtUp now seat → HasToken desk.history pass number → IsAllowed desk.pool.limits desk.history (event.End pass)
allowed_at desk now seat pass number view in' legal none caught begun =
    end_allowed desk.pool.limits desk.history pass number legal none
    (subst (λ (p : PoolId). pass < p.limits.passes) (caught.seated.same ∙ sym (ap (λ (d : DeskState). d.pool) view)) in') begun

pub make_event-self-inside-requires-clause-allowed : goal.make_event-self-inside-requires-clause-allowed
make_event-self-inside-requires-clause-allowed c =
    let i = c.self.inside in
    let desk = desk_of i in
    let pool : i.home.pool ≡ c.args.pool.now = ap (λ (d : DeskState). d.pool) c.self.view_is ∙ sym c.requires.pool in
    let begun = begun_at desk c.args.self.now c.args.seat.now c.number-pass.result c.args.token.opened_at c.self.view_is c.number-pass.ensures.number c.requires.caught_up c.requires.token.begun in
    subst (λ (p : PoolId). IsAllowed p.limits i.home.history (event.End c.number-pass.result)) pool
    (allowed_at desk c.args.self.now c.args.seat.now c.number-pass.result c.args.token.opened_at c.self.view_is c.number-pass.ensures.in_range c.self.invariant.desk.kept.legal
    c.self.invariant.desk.none_awaited c.requires.caught_up begun)

pub end-requires : goal.end-requires
end-requires c =
    let i = c.self.inside in
    let desk = desk_of i in
    let begun = begun_at desk c.args.self.now c.args.seat.now c.number-pass.result c.args.token.opened_at c.self.view_is c.number-pass.ensures.number c.requires.caught_up c.requires.token.begun in
    token_is_kept i.home.pool.limits i.home.history i.tokens c.number-pass.result c.args.token.opened_at c.self.invariant.desk.kept.tokens_are begun

pub invariant_of-self : goal.invariant_of-self
invariant_of-self c =
    let i = c.self.inside in
    let desk = desk_of i in
    let home = c.make_event-self-inside.new.home in
    let made = c.make_event-self-inside.ensures in
    let begun = begun_at desk c.args.self.now c.args.seat.now c.number-pass.result c.args.token.opened_at c.self.view_is c.number-pass.ensures.number c.requires.caught_up c.requires.token.begun in
    let allowed = allowed_at desk c.args.self.now c.args.seat.now c.number-pass.result c.args.token.opened_at c.self.view_is c.number-pass.ensures.in_range c.self.invariant.desk.kept.legal
    c.self.invariant.desk.none_awaited c.requires.caught_up begun in
    let within : c.number-pass.result < length i.tokens = let h = c.self.invariant.desk.kept.tokens_are.count in let p = allowed.pass in omega (arith, h, p) in
    record {
      whole = c.self.invariant.whole;
      desk = desk-end i.home.pool i.events_limit i.home.history (books_of i c.self.invariant.whole) c.self.invariant.desk home.pool home.history c.make_event-self-inside.result c.end.new.self made.home.pool
          c.number-pass.result allowed made.home.history made.number c.end.ensures;
      left = c.self.invariant.left;
      documents = subst (λ (ts : List (Option ℕ)). AreKept ts i.records c.end-2.new.self) (sym c.end.ensures)
          (subst (AreKept (set i.tokens c.number-pass.result None) i.records) (sym c.end-2.ensures) (kept-ended i.tokens i.records i.leaving c.self.invariant.documents c.number-pass.result within));
    }

pub returns-clause-made : goal.returns-clause-made
returns-clause-made c =
    let i = c.self.inside in
    let made = c.make_event-self-inside.ensures in
    let home = c.make_event-self-inside.new.home in
    let seat = c.make_event-self-inside.new.seat in
    subst (λ n. Makes (event.End n ∷ []) c.args.self.now (desk_at home i.events_limit) c.args.seat.now seat) c.number-pass.ensures.number
    (made_with c.args.self.now i.home home i.events_limit c.args.seat.now seat (event.End c.number-pass.result) c.self.view_is c.requires.caught_up made.home (invariant_of-self c).desk.kept.legal made.seat)
