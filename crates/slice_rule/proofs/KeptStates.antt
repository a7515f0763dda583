-- Each legal history can be that of a pool.
use Rattle.std.proofs.Common.{◌≡◌, ℕ, zero, suc, ◌+◌, ◌<◌, ◌≤◌, ◌==◌, Bool, true, false, cond, List, [], ◌∷◌, ◌++◌, map, length, get_or, drop, refl, ap, sym, ◌∙◌, subst, arith, length-append}
use Rattle.std.proofs.lemmas.Bool.{ne_eqb}
use Rattle.std.proofs.lemmas.List.{get_or_append_left}
use Rattle.std.proofs.lemmas.List.Elements.{All-head, All-nil, All-tail}
use Rattle.std.proofs.lemmas.List.FromFn.{get_or-map-range_with_len, length-map-range_with_len}
use Rattle.std.proofs.Math.Seq.{drop-append_seam}
use Rattle.std.specs.List.{All, range_with_len}
use mathlib.Core.Option.{some, some-injective, some-ne-none}
use lib.ListN.{get_elem?}
use Rattle.funnel_model.specs.declared.config.Config.{Config}
use Rattle.funnel_model.specs.declared.event.Event.{Event}
use Rattle.funnel_model.specs.Events.{pass_of}
use Rattle.funnel_model.specs.Legal.{Limits}
use Rattle.funnel_model.specs.RowWords.{AreFresh, Covers, IsSetIn}
use Rattle.row_layout.specs.Owners.{KeepToOwners}
use Rattle.funnel_model.proofs.Invariants.{passes_in_range}
use Rattle.slice_rule.specs.declared.view.View.{View}
use Rattle.slice_rule.specs.Kept.{CanBeKept, EachCanBeKept, home_after, pass_after, pool_after}
use Rattle.slice_rule.specs.Pools.{ask_word, first_row, row_words}
use Rattle.slice_rule.specs.Rule.{Fits, HaveSeats, IsKept, IsTrueFact}
use Rattle.slice_rule.specs.Worlds.{LacksAtMostOne, World, made_by}
use Rattle.slice_rule.proofs.Owning.{none_further}
use Rattle.slice_rule.proofs.Prefixes.{prefix_self}

-- a pass that the engine lacks made no event
none_by : (b : Bool) → b ≡ false → (e : Event) (xs : List Event) → xs ≡ [] → cond b (e ∷ xs) xs ≡ []
none_by true is e xs none = absurd cc
none_by false is e xs none = none

none_made : (n pass : ℕ) (history : List Event) → n ≤ pass → All (λ e. pass_of e < n) history → made_by pass history ≡ []
none_made n pass [] above all = refl
none_made n pass (e ∷ history) above all =
    let small = All-head (λ (x : Event). pass_of x < n) e history all in
    none_by (pass_of e == pass) (ne_eqb (pass_of e) pass (λ is. omega arith)) e (made_by pass history)
    (none_made n pass history above (All-tail (λ (x : Event). pass_of x < n) e history all))

-- what stands in a list that is made of the numbers from a on
at_map_range : {A : Type 0} (f : ℕ → A) (a n j : ℕ) (x : A) → get_elem? (map f (range_with_len a n)) j ≡ some x → (j < n) × (x ≡ f (a + j))
at_map_range f a zero j x is = absurd (some-ne-none x (sym is))
at_map_range f a (suc n) zero x is = let e : a ≡ a + 0 = omega arith in (omega arith, sym (some-injective (f a) x is) ∙ ap f e)
at_map_range f a (suc n) (suc j) x is =
    let rest = at_map_range f (a + 1) n j x is in
    let small = rest.0 in
    let e : a + 1 + j ≡ a + suc j = omega arith in
    (omega arith, rest.1 ∙ ap f e)

map_range_at : {A : Type 0} (f : ℕ → A) (a n j : ℕ) → j < n → get_elem? (map f (range_with_len a n)) j ≡ some (f (a + j))
map_range_at f a zero j small = absurd (omega arith)
map_range_at f a (suc n) zero small = let e : a ≡ a + 0 = omega arith in ap (λ k. some (f k)) e
map_range_at f a (suc n) (suc j) small =
    let e : a + 1 + j ≡ a + suc j = omega arith in
    map_range_at f (a + 1) n j (omega arith) ∙ ap (λ k. some (f k)) e

lacks_none : (xs : List Event) → LacksAtMostOne xs xs
lacks_none xs = record { begins = prefix_self xs; few = omega arith }

module _ (limits : Limits) (config : Config) (history : List Event) (rows : List ℕ) (can : CanBeKept limits config history rows) (own : All (λ e. pass_of e < limits.passes) history) where
  abbrev counts : List ℕ
  counts = map (λ pass. length (made_by pass history)) (range_with_len 0 limits.passes)

  abbrev world : World
  world = record { history = history; asked = λ pass. made_by pass history; seat = λ pass. pass + 1; home = 0; seated = limits.passes }

  abbrev words : List ℕ
  words = (length history ∷ limits.passes ∷ counts) ++ rows

  rows_are : row_words limits words ≡ rows
  rows_are =
      let n : first_row limits ≡ length (length history ∷ limits.passes ∷ counts) = omega (arith, length-map-range_with_len (λ pass. length (made_by pass history)) 0 limits.passes) in
      ap (λ k. drop k words) n ∙ drop-append_seam (length history ∷ limits.passes ∷ counts) rows

  count_is : (pass : ℕ) → pass < limits.passes → get_or words (ask_word pass) 0 ≡ length (made_by pass history)
  count_is pass small =
      let n = length-map-range_with_len (λ p. length (made_by p history)) 0 limits.passes in
      let there : ask_word pass ≡ suc (suc pass) = omega arith in
      ap (λ k. get_or words k 0) there
      ∙ get_or_append_left counts rows 0 pass (omega arith)
      ∙ get_or-map-range_with_len (λ p. length (made_by p history)) 0 limits.passes pass pass 0 small (omega arith)

  pass_fits : (id pass : ℕ) → pass < limits.passes → id ≡ pass + 1 → Fits limits config world words id (pass_after limits config history pass)
  pass_fits id pass small is = record {
    sizes = refl;
    front = prefix_self history;
    met = (history, refl);
    own = All-nil (IsTrueFact limits world (row_words limits words));
    told = All-nil (IsTrueFact limits world (row_words limits words));
    role = record { seated = small; one = is; all = refl; seen = lacks_none (made_by pass history) };
    bits = record {
      pending = λ slice column b last set owns. absurd (can.unset pass slice column b last (subst (λ (ws : List ℕ). IsSetIn ws b) rows_are set) owns);
      outstanding = λ e more. absurd (none_further (made_by pass history) (made_by pass history) e refl more);
    };
  }

  home_fits : Fits limits config world words 0 (home_after limits config history)
  home_fits = record {
    sizes = refl;
    front = prefix_self history;
    met = (history, refl);
    own = All-nil (IsTrueFact limits world (row_words limits words));
    told = All-nil (IsTrueFact limits world (row_words limits words));
    role = record { one = refl; whole = refl; counts = refl; seated = refl };
    bits = tt;
  }

  seat_fits : (id : ℕ) (v : View) → get_elem? (home_after limits config history ∷ map (pass_after limits config history) (range_with_len 0 limits.passes)) id ≡ some v → Fits limits config world words id v
  seat_fits zero v at = subst (Fits limits config world words 0) (some-injective (home_after limits config history) v at) home_fits
  seat_fits (suc j) v at =
      let is = at_map_range (pass_after limits config history) 0 limits.passes j v at in
      let small : j < limits.passes = is.0 in
      let e : 0 + j ≡ j = omega arith in
      subst (Fits limits config world words (suc j)) (sym (is.1 ∙ ap (pass_after limits config history) e)) (pass_fits (suc j) j small (omega arith))

  have_seats : HaveSeats world (home_after limits config history ∷ map (pass_after limits config history) (range_with_len 0 limits.passes))
  have_seats = record {
    home = record { view = home_after limits config history; at = refl; kind = tt };
    passes = λ pass small.
        let e : 0 + pass ≡ pass = omega arith in
        let next : pass + 1 ≡ suc pass = omega arith in
        record {
          view = pass_after limits config history pass;
          at = ap (get_elem? (home_after limits config history ∷ map (pass_after limits config history) (range_with_len 0 limits.passes))) next
              ∙ map_range_at (pass_after limits config history) 0 limits.passes pass small ∙ ap (λ p. some (pass_after limits config history p)) e;
          kind = refl;
        };
  }

  kept : IsKept limits config (pool_after limits config history rows)
  kept = record {
    world = world;
    laid = omega (arith, length-append (length history ∷ limits.passes ∷ counts) rows, length-map-range_with_len (λ p. length (made_by p history)) 0 limits.passes, can.laid);
    events = record { events = refl; few = can.few; legal = can.legal };
    passes = record { in_range = omega arith; no_more = omega arith; all_but_last = omega arith };
    asked = record {
      count = count_is;
      made = λ pass. lacks_none (made_by pass history);
      none = λ pass above. none_made limits.passes pass history above own;
    };
    covers = subst (λ (ws : List ℕ). Covers ws history) (sym rows_are) can.covers;
    owners = subst (λ (ws : List ℕ). KeepToOwners limits config history (IsSetIn ws)) (sym rows_are) can.owners;
    fresh = subst (λ (ws : List ℕ). AreFresh limits ws history) (sym rows_are) can.fresh;
    given = have_seats;
    seats = seat_fits;
  }

pub each_can_be_kept : EachCanBeKept
each_can_be_kept limits config history rows can = kept limits config history rows can (passes_in_range limits history can.legal)
