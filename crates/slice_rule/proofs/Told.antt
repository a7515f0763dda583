-- What a note that is joined changes of the home and of a pass.
use Rattle.std.proofs.Common.{◌≡◌, ℕ, List, ◌++◌, ap, sym, ◌∙◌}
use mathlib.Core.List.{IsPrefix}
use Rattle.funnel_model.specs.declared.event.Event.{Event}
use Rattle.funnel_model.specs.History.{IsFrontOf}
use Rattle.slice_rule.specs.declared.view.Fact.{Fact}
use Rattle.slice_rule.specs.Seats.{HasNoneOutstanding, HomeState, IsSameHome, PassState}
use Rattle.slice_rule.specs.Worlds.{LacksAtMostOne, made_by}
use Rattle.slice_rule.proofs.Prefixes.{front_is, none_since}

-- what the home was told stays

pub told_more : (before after : HomeState) (more : List Fact) → after ≡ record before { told = more ++ before.told } → IsSameHome before after
told_more before after more is = record {
  pool = ap (λ (h : HomeState). h.pool) is;
  history = ap (λ (h : HomeState). h.history) is;
  told = (more, ap (λ (h : HomeState). h.told) is);
}

-- a pass that had nothing outstanding has nothing outstanding still, and made no event that its front lacked
pub record HasJoined (before after : PassState) : Type 0 where
  pub none_outstanding : HasNoneOutstanding after
  pub front : IsFrontOf after.number before.front after.front

pub has_joined : (before after : PassState) {front : List Event} {told : List Fact} → after ≡ record before { front = front; told = told } → HasNoneOutstanding before
    → IsPrefix before.front after.front → LacksAtMostOne (made_by after.number after.front) after.asked → HasJoined before after
has_joined before after is none_outstanding grows lacks =
    let number : after.number ≡ before.number = ap (λ (p : PassState). p.number) is in
    let asked : after.asked ≡ before.asked = ap (λ (p : PassState). p.asked) is in
    let all : after.asked ≡ made_by after.number before.front = asked ∙ none_outstanding ∙ ap (λ (n : ℕ). made_by n before.front) (sym number) in
    let now = none_since after.number before.front after.front after.asked all grows lacks in
    record { none_outstanding = now; front = front_is after.number before.front after.front grows (sym now ∙ all) }
