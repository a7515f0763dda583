-- Which seats the passes have between any two steps, and what is outstanding of a pass.
use Rattle.std.specs.Prelude.{◌≡◌, ℕ, ◌+◌, ◌<◌, ◌⊎◌, [], ◌∷◌, ◌++◌, slice_index}
use mathlib.Core.Option.{some}
use lib.ListN.{get_elem?}
use Rattle.atomic_table.specs.Table.{State}
use Rattle.funnel_model.specs.declared.config.Config.{Config}
use Rattle.funnel_model.specs.declared.event.Event.{Event}
use Rattle.funnel_model.specs.Legal.{Limits}
use Rattle.slice_rule.specs.declared.view.View.{View}
use Rattle.slice_rule.specs.Rule.{IsKept, IsPassRole, IsSeatOfKind}
use Rattle.slice_rule.specs.Worlds.{made_by}

-- the pass asked for no event that its front lacks, or for one
abbrev pub AsksAtMostOne : ℕ → View → Type 0
AsksAtMostOne pass v = (v.asked ≡ made_by pass v.front) ⊎ ((e : Event) × (v.asked ≡ made_by pass v.front ++ e ∷ []))

-- each number that word 1 counts is that of a seat, but for the last, which may be about to get its own; no two seats have one number;
-- and at most one event of a pass is outstanding, which its seat knows
pub record EachHasOneSeat (s : State (Unit {0}) View) : Type 0 where
  pub seated : (pass : ℕ) → pass + 1 < slice_index s.words 1 → (id : ℕ) × IsSeatOfKind (IsPassRole pass) s.views id
  pub one : (pass id other : ℕ) → IsSeatOfKind (IsPassRole pass) s.views id → IsSeatOfKind (IsPassRole pass) s.views other → id ≡ other
  pub outstanding : (pass id : ℕ) (v : View) → get_elem? s.views id ≡ some v → IsPassRole pass v.role → AsksAtMostOne pass v

-- so it is wherever the rule holds
abbrev pub PassesHaveOneSeatEach : Type 0
PassesHaveOneSeatEach = (limits : Limits) (config : Config) (s : State (Unit {0}) View) → IsKept limits config s → EachHasOneSeat s
