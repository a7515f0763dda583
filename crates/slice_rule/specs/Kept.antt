-- After each legal history the rule holds of some pool, where there are row words that fit the history: one whose passes have all seen the whole history, asked nothing that it lacks,
-- and know nothing of bits and words.
use Rattle.std.specs.Prelude.{◌≡◌, ℕ, ◌*◌, ◌^◌, ◌<◌, List, [], ◌∷◌, ◌++◌, length, map, Some}
use Rattle.std.specs.List.{range_with_len}
use Rattle.atomic_table.specs.Table.{State}
use Rattle.funnel_model.specs.declared.bit_list.Bit.{Bit}
use Rattle.funnel_model.specs.declared.config.Config.{Config}
use Rattle.funnel_model.specs.declared.event.Event.{Event}
use Rattle.funnel_model.specs.declared.event.Event.TheVariants as event
use Rattle.funnel_model.specs.History.{last_by}
use Rattle.funnel_model.specs.Legal.{Limits, IsLegal}
use Rattle.funnel_model.specs.RowWords.{AreFresh, Covers, IsSetIn}
use Rattle.row_layout.specs.Owners.{KeepToOwners, Owns}
use Rattle.slice_rule.specs.declared.view.Role.TheVariants as role
use Rattle.slice_rule.specs.declared.view.View.{View}
use Rattle.slice_rule.specs.Rule.{IsKept}
use Rattle.slice_rule.specs.Views.{view_at_start}
use Rattle.slice_rule.specs.Worlds.{made_by}

-- the home, and a pass that made its events of the history and asked no more
abbrev pub home_after : Limits → Config → List Event → View
home_after limits config history = record (view_at_start limits config (role.Home limits.passes limits.passes)) { front = history }

abbrev pub pass_after : Limits → Config → List Event → ℕ → View
pass_after limits config history pass = record (view_at_start limits config (role.Pass pass)) { front = history; asked = made_by pass history }

-- the pool after the history, with these row words: each pass has its seat, and there is no note
abbrev pub pool_after : Limits → Config → List Event → List ℕ → State (Unit {0}) View
pool_after limits config history rows = record {
  words = (length history ∷ limits.passes ∷ map (λ pass. length (made_by pass history)) (range_with_len 0 limits.passes)) ++ rows;
  homes = [];
  views = home_after limits config history ∷ map (pass_after limits config history) (range_with_len 0 limits.passes);
}

-- a history that is legal, and row words that fit it: they cover it, keep to their owners and are fresh, and no bit is set in them that a
-- pending column owns
pub record CanBeKept (limits : Limits) (config : Config) (history : List Event) (rows : List ℕ) : Type 0 where
  pub legal : IsLegal limits history
  pub few : length history < 2 ^ 63
  pub laid : length rows ≡ limits.slices * limits.slice_words
  pub covers : Covers rows history
  pub owners : KeepToOwners limits config history (IsSetIn rows)
  pub unset : (pass slice column : ℕ) (b : Bit) → last_by pass history ≡ Some (event.Take pass slice column) → IsSetIn rows b
      → Owns limits config history slice column b → ⊥
  pub fresh : AreFresh limits rows history

-- the rule holds of that pool, whatever the history is
abbrev pub EachCanBeKept : Type 0
EachCanBeKept = (limits : Limits) (config : Config) (history : List Event) (rows : List ℕ) → CanBeKept limits config history rows
    → IsKept limits config (pool_after limits config history rows)
