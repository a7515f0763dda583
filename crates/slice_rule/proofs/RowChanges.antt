-- A row word changes.
use Rattle.std.proofs.Common.{◌≡◌, ℕ, ◌+◌, ◌*◌, ◌<◌, ◌≤◌, List, ◌∷◌, set, refl, sym, ◌∙◌, subst, arith, length-set, get_or-set_other}
use Rattle.std.proofs.lemmas.List.{drop-set-add}
use Rattle.std.proofs.lemmas.List.Elements.{All-cons}
use Rattle.std.proofs.lemmas.Nat.{mul-le}
use Rattle.std.specs.List.{All}
use mathlib.Core.Option.{some}
use lib.ListN.{get_elem?}
use Rattle.atomic_table.specs.Table.{State}
use Rattle.funnel_model.specs.declared.config.Config.{Config}
use Rattle.funnel_model.specs.declared.event.Event.{Event}
use Rattle.funnel_model.specs.Legal.{Limits, IsInSlice}
use Rattle.funnel_model.specs.RowWords.{AreFresh, Covers, IsSetIn}
use Rattle.row_layout.specs.Owners.{KeepToOwners}
use Rattle.slice_rule.specs.declared.view.Role.{Role}
use Rattle.slice_rule.specs.declared.view.Role.TheVariants as role
use Rattle.slice_rule.specs.declared.view.Fact.{Fact}
use Rattle.slice_rule.specs.declared.view.View.{View}
use Rattle.slice_rule.specs.Pools.{ask_word, first_row, pool_words, row_words}
use Rattle.slice_rule.specs.Rule.{CountsPasses, Fits, FitsRole, IsKept, IsTrueFact, KnowsByRole}
use Rattle.slice_rule.specs.Views.{with_own}
use Rattle.slice_rule.specs.Worlds.{World}
use Rattle.slice_rule.proofs.Facts.{KeepsFacts, all_in}
use Rattle.slice_rule.proofs.Prefixes.{prefix_self}
use Rattle.slice_rule.proofs.Seating.{each-set, given-set, refits, same_kind}

-- what a seat knows by its role doesn't speak of row words
role_kept : (world : World) (words : List ℕ) (i n j : ℕ) (front asked : List Event) → 2 ≤ i → (role : Role) → FitsRole world words j front asked role
    → FitsRole world (set words i n) j front asked role
role_kept world words i n j front asked row (role.Home numbered seats) fits = record {
  one = fits.one;
  whole = fits.whole;
  counts = get_or-set_other words i 1 n 0 (λ e. omega arith) ∙ fits.counts;
  seated = fits.seated;
}
role_kept world words i n j front asked row (role.Pass pass) fits = fits
role_kept world words i n j front asked row role.Note fits = tt
role_kept world words i n j front asked row role.Spent fits = tt

-- a word of a slice is one of the pool
pub in_pool : (limits : Limits) (slice word : ℕ) → slice < limits.slices → IsInSlice limits.slice_words slice word → first_row limits + word < pool_words limits
in_pool limits slice word in_range inside =
    let to = inside.to in
    let more : (slice + 1) * limits.slice_words ≤ limits.slices * limits.slice_words = mul-le (slice + 1) limits.slice_words limits.slices limits.slice_words (omega arith) (omega arith) in
    omega arith

module _ (limits : Limits) (config : Config) where
  -- the rule stays where a row word changes, by what that owes the facts, the history, and what each seat has to know of owned bits
  pub writes_row : (s : State (Unit {0}) View) (r : IsKept limits config s) (id : ℕ) (v : View) (word n : ℕ) (f : Fact) → get_elem? s.views id ≡ some v
      → KeepsFacts limits r.world.history (row_words limits s.words) (set (row_words limits s.words) word n)
      → Covers (set (row_words limits s.words) word n) r.world.history
      → KeepToOwners limits config r.world.history (IsSetIn (set (row_words limits s.words) word n))
      → AreFresh limits (set (row_words limits s.words) word n) r.world.history
      → IsTrueFact limits r.world (set (row_words limits s.words) word n) f
      → KnowsByRole limits config r.world.history (set (row_words limits s.words) word n) v.asked (f ∷ v.own) v.role
      → ((j : ℕ) (w : View) → (j ≡ id → ⊥) → get_elem? s.views j ≡ some w → KnowsByRole limits config r.world.history (set (row_words limits s.words) word n) w.asked w.own w.role)
      → IsKept limits config (record { words = set s.words (first_row limits + word) n; homes = s.homes; views = set s.views id (with_own v f) })
  writes_row s r id v word n f at keeps covers owners fresh now knows others =
      let i = first_row limits + word in
      let old = row_words limits s.words in
      let rows : row_words limits (set s.words i n) ≡ set old word n = drop-set-add (first_row limits) s.words word n in
      let laid = r.laid in
      let mine = r.seats id v at in
      let facts = λ (fs : List Fact) (known : All (IsTrueFact limits r.world old) fs).
      subst (λ (ws : List ℕ). All (IsTrueFact limits r.world ws) fs) (sym rows) (all_in limits r.world old (set old word n) keeps fs known) in
      record {
        world = r.world;
        laid = length-set s.words i n ∙ laid;
        events = record {
          events = get_or-set_other s.words i 0 n 0 (λ e. omega arith) ∙ r.events.events;
          few = r.events.few;
          legal = r.events.legal;
        };
        passes = subst (CountsPasses limits r.world.seated) (sym (get_or-set_other s.words i 1 n 0 (λ e. omega arith))) r.passes;
        asked = record {
          count = λ pass small. get_or-set_other s.words i (ask_word pass) n 0 (λ e. omega arith) ∙ r.asked.count pass small;
          made = r.asked.made;
          none = r.asked.none;
        };
        covers = subst (λ (ws : List ℕ). Covers ws r.world.history) (sym rows) covers;
        owners = subst (λ (ws : List ℕ). KeepToOwners limits config r.world.history (IsSetIn ws)) (sym rows) owners;
        fresh = subst (λ (ws : List ℕ). AreFresh limits ws r.world.history) (sym rows) fresh;
        given = given-set r.world s.views id v (with_own v f) at (same_kind v.role v.role refl) r.given;
        seats = each-set (Fits limits config r.world (set s.words i n)) s.views id (with_own v f)
            (record {
              sizes = mine.sizes;
              front = mine.front;
              met = mine.met;
              own = All-cons (IsTrueFact limits r.world (row_words limits (set s.words i n))) f v.own
                  (subst (λ (ws : List ℕ). IsTrueFact limits r.world ws f) (sym rows) now) (facts v.own mine.own);
              told = facts v.told mine.told;
              role = role_kept r.world s.words i n id v.front v.asked (omega arith) v.role mine.role;
              bits = subst (λ (ws : List ℕ). KnowsByRole limits config r.world.history ws v.asked (f ∷ v.own) v.role) (sym rows) knows;
            })
            (λ j w apart there. refits limits config r.world r.world s.words (set s.words i n) j w (prefix_self r.world.history) facts
            (role_kept r.world s.words i n j w.front w.asked (omega arith) w.role)
            (λ _. subst (λ (ws : List ℕ). KnowsByRole limits config r.world.history ws w.asked w.own w.role) (sym rows) (others j w apart there)) (r.seats j w there));
      }
