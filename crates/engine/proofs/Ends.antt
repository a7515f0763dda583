-- What a pass has after it met a note, and what the history has of it once its engine is closed.
use Rattle.std.proofs.Common.{◌≡◌, false, List, sym, ap, ◌∙◌, subst}
use Rattle.std.specs.List.{All}
use Rattle.std.proofs.lemmas.List.Elements.{All-weaker}
use Rattle.std.specs.Prelude.{IfSome}
use mathlib.Core.List.{IsPrefix}
use Rattle.funnel_model.specs.declared.event.Event.{Event}
use Rattle.funnel_model.specs.Events.{leaves_open}
use Rattle.funnel_model.specs.History.{IsFrontOf, last_by}
use Rattle.funnel_model.specs.Steps.{AddsNone}
use Rattle.funnel_model.proofs.Clears.{last_by-front}
use Rattle.slice_rule.specs.declared.view.Fact.{Fact}
use Rattle.slice_rule.specs.Pools.{PoolId}
use Rattle.slice_rule.specs.Seats.{HasEnded, HasNoneOutstanding, IsSeated, PassState}
use Rattle.slice_rule.specs.Worlds.{LacksAtMostOne, made_by}
use Rattle.slice_rule.proofs.Prefixes.{front_is, none_since}
use Rattle.commit_desk.specs.Passes.{IsResting}
use Rattle.engine.specs.Engines.{EndsIn, HasItsCalls}
use Rattle.engine.specs.Passes.{PassView, view_of}
use Rattle.slice_recycler.proofs.Steps.{quiet_adds_none, quiet_front}

-- A pass that met a note has seen more events, none of its own.
module _ (before after : PassState) (front : List Event) (told : List Fact) (is : after ≡ record before { front = front; told = told }) (goes : IsFrontOf after.number before.front after.front) where
  pub same_number : after.number ≡ before.number
  same_number = ap (λ (p : PassState). p.number) is

  pub meets_others : IsFrontOf before.number before.front after.front
  meets_others = subst (λ n. IsFrontOf n before.front after.front) same_number goes

  pub meets_no_call : AddsNone before.number before.front after.front
  meets_no_call = quiet_adds_none before.number 0 before.front after.front (quiet_front before.number before.front after.front meets_others)

  pub rests_met : (pool : PoolId) → IsResting pool before → IsPrefix before.front after.front →
      LacksAtMostOne (made_by after.number after.front) after.asked → IsResting pool after
  rests_met pool rests grows lacks =
      let last : last_by after.number after.front ≡ last_by before.number before.front =
      last_by-front after.number before.front after.front goes ∙ ap (λ n. last_by n before.front) same_number in
      record {
        seated = record {
          same = ap (λ (p : PassState). p.pool) is ∙ rests.seated.same;
          none_outstanding = none_since after.number before.front after.front after.asked
              (ap (λ (p : PassState). p.asked) is ∙ rests.seated.none_outstanding ∙ ap (λ n. made_by n before.front) (sym same_number)) grows lacks;
        };
        idle = subst (λ o. IfSome o (λ e. leaves_open e ≡ false)) (sym last) rests.idle;
      }

-- a pass that rests can end
pub can_end : (pool named : PoolId) (seat : PassState) → pool ≡ named → IsResting named seat → IsSeated pool seat
can_end pool named seat is rests = record { same = rests.seated.same ∙ sym is; none_outstanding = rests.seated.none_outstanding }

-- the history has no further event of a pass that ended
pub ends_in : (history : List Event) (seat : PassState) → HasNoneOutstanding seat → HasEnded history seat → EndsIn history (view_of seat)
ends_in history seat none end = front_is seat.number seat.front history end.seen (end.made ∙ none)

-- and so each of its calls
pub has_calls : (history : List Event) (passes : List PassView) → All (EndsIn history) passes → All (HasItsCalls history) passes
has_calls history passes ends = All-weaker (EndsIn history) (HasItsCalls history) one passes ends
  where
    one : (pass : PassView) → EndsIn history pass → HasItsCalls history pass
    one pass end = quiet_adds_none pass.number 0 pass.front history (quiet_front pass.number pass.front history end)
