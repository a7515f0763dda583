-- The home numbers a pass, and gives it its seat.
use Rattle.std.proofs.Common.{◌≡◌, ℕ, ◌+◌, ◌%◌, ◌^◌, ◌<◌, ◌==◌, if◌then◌else◌, Bool, cond, ⊎_elim, List, [], ◌∷◌, ◌++◌, length, get_or, set, refl, ap, sym, ◌∙◌, subst, arith, length-set, get_or-set_same, get_or-set_other}
use Rattle.std.proofs.lemmas.Bool.{cases_eq, eq-eqb, ne_eqb}
use Rattle.std.proofs.lemmas.List.Elements.{All-nil}
use mathlib.Core.Option.{none, some}
use lib.ListN.{get_elem?}
use Rattle.atomic_table.specs.Table.{State, Allows, Splits, keeps, step}
use Rattle.funnel_model.specs.declared.event.Event.{Event}
use Rattle.funnel_model.specs.Legal.{Limits}
use Rattle.slice_rule.specs.declared.view.Role.{Role}
use Rattle.slice_rule.specs.declared.view.Role.TheVariants as role
use Rattle.slice_rule.specs.declared.view.View.{View}
use Rattle.slice_rule.specs.Pools.{ask_word, first_row, row_words}
use Rattle.atomic_table.proofs.Lists.{at_last}
use Rattle.slice_rule.specs.Rule.{CountsPasses, Fits, FitsRole, HasSizes, HaveSeats, IsHome, IsHomeRole, IsKept, IsTrueFact, KnowsByRole}
use Rattle.slice_rule.specs.Tells.{Numbers, Seated}
use Rattle.slice_rule.specs.Views.{new_pass_view, new_role, numbered_role, seated_role, with_number, with_seat}
use Rattle.slice_rule.specs.Worlds.{LacksAtMostOne, World}
use Rattle.std.proofs.lemmas.List.{drop-set-lt}
use Rattle.std.specs.List.{All}
use Rattle.funnel_model.specs.declared.config.Config.{Config}
use Rattle.funnel_model.specs.RowWords.{AreFresh, Covers, IsSetIn}
use Rattle.row_layout.specs.Owners.{KeepToOwners}
use Rattle.slice_rule.specs.declared.view.Fact.{Fact}
use Rattle.slice_rule.proofs.Facts.{all_of_more}
use Rattle.slice_rule.proofs.Owning.{knows-nothing}
use Rattle.slice_rule.proofs.Prefixes.{prefix_self}
use Rattle.slice_rule.proofs.Seating.{each-set, each-snoc, given-set, given-snoc, home_kind, refits}

module _ (limits : Limits) (config : Config) where
  -- what the home's seat knows
  pub home_at : (s : State (Unit {0}) View) (r : IsKept limits config s) (id : ℕ) (v : View) (numbered seats : ℕ) → get_elem? s.views id ≡ some v → v.role ≡ role.Home numbered seats
      → IsHome r.world s.words id numbered seats v.front
  home_at s r id v numbered seats at is = subst (FitsRole r.world s.words id v.front v.asked) is (r.seats id v at).role

  -- what another seat knows when word 1 changes
  other_role : (world : World) (words : List ℕ) (id n j : ℕ) (front asked : List Event) → id ≡ world.home → (j ≡ id → ⊥) → (role : Role)
      → FitsRole world words j front asked role → FitsRole world (set words 1 n) j front asked role
  other_role world words id n j front asked home apart (role.Home numbered seats) fits = absurd (apart (fits.one ∙ sym home))
  other_role world words id n j front asked home apart (role.Pass pass) fits = fits
  other_role world words id n j front asked home apart role.Note fits = tt
  other_role world words id n j front asked home apart role.Spent fits = tt

  numbers_at : (s : State (Unit {0}) View) (r : IsKept limits config s) (id : ℕ) (v : View) (numbered seats n : ℕ) → get_elem? s.views id ≡ some v → v.role ≡ role.Home numbered seats → numbered ≡ seats → numbered < limits.passes → n ≡ numbered + 1
      → IsKept limits config (record { words = set s.words 1 n; homes = s.homes; views = set s.views id (with_number v) })
  numbers_at s r id v numbered seats n at is all in_range next =
      let mine = r.seats id v at in
      let home = home_at s r id v numbered seats at is in
      let sizes : v.limits ≡ limits = subst (HasSizes limits v.limits) is mine.sizes in
      let laid = r.laid in
      let at_one : 1 < length s.words = omega arith in
      let rows = drop-set-lt (first_row limits) s.words 1 n (omega arith) in
      let keeps = λ (facts : List Fact) (known : All (IsTrueFact limits r.world (row_words limits s.words)) facts). subst (λ (ws : List ℕ). All (IsTrueFact limits r.world ws) facts) (sym rows) known in
      let bits = λ (asked : List Event) (own : List Fact) (role : Role) (known : KnowsByRole limits config r.world.history (row_words limits s.words) asked own role).
      subst (λ (ws : List ℕ). KnowsByRole limits config r.world.history ws asked own role) (sym rows) known in
      record {
        world = r.world;
        laid = length-set s.words 1 n ∙ laid;
        events = record {
          events = get_or-set_other s.words 1 0 n 0 (λ e. omega arith) ∙ r.events.events;
          few = r.events.few;
          legal = r.events.legal;
        };
        passes = subst (CountsPasses limits r.world.seated) (sym (get_or-set_same s.words 1 n 0 at_one ∙ next)) (record { in_range = omega arith; no_more = omega arith; all_but_last = omega arith });
        asked = record {
          count = λ pass small. get_or-set_other s.words 1 (ask_word pass) n 0 (λ e. omega arith) ∙ r.asked.count pass small;
          made = r.asked.made;
          none = r.asked.none;
        };
        covers = subst (λ (ws : List ℕ). Covers ws r.world.history) (sym rows) r.covers;
        owners = subst (λ (ws : List ℕ). KeepToOwners limits config r.world.history (IsSetIn ws)) (sym rows) r.owners;
        fresh = subst (λ (ws : List ℕ). AreFresh limits ws r.world.history) (sym rows) r.fresh;
        given = given-set r.world s.views id v (with_number v) at (home_kind v.role (numbered_role v.role) numbered seats is (subst (λ (x : Role). IsHomeRole (numbered_role x)) (sym is) tt)) r.given;
        seats = each-set (Fits limits config r.world (set s.words 1 n)) s.views id (with_number v)
            (record {
              sizes = subst (λ (x : Role). HasSizes limits v.limits (numbered_role x)) (sym is) sizes;
              front = mine.front;
              met = mine.met;
              own = keeps v.own mine.own;
              told = keeps v.told mine.told;
              role = subst (λ (x : Role). FitsRole r.world (set s.words 1 n) id v.front v.asked (numbered_role x)) (sym is)
                  (record { one = home.one; whole = home.whole; counts = get_or-set_same s.words 1 n 0 at_one ∙ next; seated = home.seated });
              bits = subst (λ (x : Role). KnowsByRole limits config r.world.history (row_words limits (set s.words 1 n)) v.asked v.own (numbered_role x)) (sym is) tt;
            })
            (λ j w apart there. refits limits config r.world r.world s.words (set s.words 1 n) j w (prefix_self r.world.history) keeps
            (other_role r.world s.words id n j w.front w.asked home.one apart w.role) (bits w.asked w.own w.role) (r.seats j w there));
      }

  pub numbers : (slots id : ℕ) (me : Seated) (numbered seats : ℕ) → me.0.role ≡ role.Home numbered seats → numbered ≡ seats → numbered < limits.passes → numbered < 2 ^ 32
      → Allows (IsKept limits config) slots id me 1 (λ n. (n + 1) % 2 ^ 64) (Numbers (step slots 1 1 0 none) me)
  numbers slots id me numbered seats is all in_range fits s r homes at small =
      let home = home_at s r id me.0 numbered seats at is in
      let counts = home.counts in
      let next : (get_or s.words 1 0 + 1) % 2 ^ 64 ≡ numbered + 1 = omega arith in
      (with_number me.0, keeps, tt, numbers_at s r id me.0 numbered seats ((get_or s.words 1 0 + 1) % 2 ^ 64) at is all in_range next, refl)

  -- the world after one more pass has its seat
  seated_world : World → ℕ → World
  seated_world world id = record world { seat = λ pass. if pass == world.seated then id else world.seat pass; seated = world.seated + 1 }

  -- what another seat knows when a pass gets its seat
  unseated_role : (world : World) (words : List ℕ) (id new j : ℕ) (front asked : List Event) → id ≡ world.home → (j ≡ id → ⊥) → (role : Role)
      → FitsRole world words j front asked role → FitsRole (seated_world world new) words j front asked role
  unfolding seated_world
  unseated_role world words id new j front asked home apart (role.Home numbered seats) fits = absurd (apart (fits.one ∙ sym home))
  unseated_role world words id new j front asked home apart (role.Pass pass) fits =
      let seated = fits.seated in
      record {
        seated = omega arith;
        one = fits.one ∙ sym (ap (λ (b : Bool). cond b new (world.seat pass)) (ne_eqb pass world.seated (λ e. omega arith)));
        all = fits.all;
        seen = fits.seen;
      }
  unseated_role world words id new j front asked home apart role.Note fits = tt
  unseated_role world words id new j front asked home apart role.Spent fits = tt

  -- the home and each pass have their seats, with the new one
  have_seats : (s : State (Unit {0}) View) (r : IsKept limits config s) (id : ℕ) (v : View) (numbered seats : ℕ) → get_elem? s.views id ≡ some v → v.role ≡ role.Home numbered seats
      → HaveSeats (seated_world r.world (length (set s.views id (with_seat v)))) (set s.views id (with_seat v) ++ new_pass_view v ∷ [])
  unfolding seated_world
  have_seats s r id v numbered seats at is =
      let views = set s.views id (with_seat v) in
      let new = length views in
      let home = home_at s r id v numbered seats at is in
      let still : IsHomeRole (seated_role v.role) = subst (λ (x : Role). IsHomeRole (seated_role x)) (sym is) tt in
      let before = given-snoc r.world views (new_pass_view v) (given-set r.world s.views id v (with_seat v) at (home_kind v.role (seated_role v.role) numbered seats is still) r.given) in
      record {
        home = before.home;
        passes = λ pass small. ⊎_elim
            (λ (last : pass ≡ r.world.seated). record {
              view = new_pass_view v;
              at = at_last views (new_pass_view v) (cond (pass == r.world.seated) new (r.world.seat pass)) (sym (ap (λ (b : Bool). cond b new (r.world.seat pass)) (eq-eqb pass r.world.seated last)));
              kind = ap new_role is ∙ ap role.Pass (home.seated ∙ sym last);
            })
            (λ (other : pass ≡ r.world.seated → ⊥).
            let has = before.passes pass (omega arith) in
            record {
              view = has.view;
              at = ap (λ (b : Bool). get_elem? (views ++ new_pass_view v ∷ []) (cond b new (r.world.seat pass))) (ne_eqb pass r.world.seated other) ∙ has.at;
              kind = has.kind;
            })
            (cases_eq pass r.world.seated);
      }

  pub splits_pass : (id : ℕ) (v : View) (numbered seats : ℕ) → v.role ≡ role.Home numbered seats → numbered ≡ seats + 1 → Splits (IsKept limits config) id v (with_seat v) (new_pass_view v)
  unfolding seated_world
  splits_pass id v numbered seats is next s r at =
      let mine = r.seats id v at in
      let home = home_at s r id v numbered seats at is in
      let sizes : v.limits ≡ limits = subst (HasSizes limits v.limits) is mine.sizes in
      let new = length (set s.views id (with_seat v)) in
      let counts = home.counts in
      let now_seated = home.seated in
      let world = seated_world r.world new in
      let rows = row_words limits s.words in
      let keeps = all_of_more limits r.world world rows refl (λ pass. prefix_self (r.world.asked pass)) in
      record {
        world = world;
        laid = r.laid;
        events = record { events = r.events.events; few = r.events.few; legal = r.events.legal };
        passes = record { in_range = r.passes.in_range; no_more = omega arith; all_but_last = omega arith };
        asked = record { count = r.asked.count; made = r.asked.made; none = λ pass above. r.asked.none pass (omega arith) };
        covers = r.covers;
        owners = r.owners;
        fresh = r.fresh;
        given = have_seats s r id v numbered seats at is;
        seats = each-snoc (Fits limits config world s.words) (set s.views id (with_seat v)) (new_pass_view v)
            (each-set (Fits limits config world s.words) s.views id (with_seat v)
            (record {
              sizes = subst (λ (x : Role). HasSizes limits v.limits (seated_role x)) (sym is) sizes;
              front = mine.front;
              met = mine.met;
              own = keeps v.own mine.own;
              told = keeps v.told mine.told;
              role = subst (λ (x : Role). FitsRole world s.words id v.front v.asked (seated_role x)) (sym is)
                  (record { one = home.one; whole = home.whole; counts = home.counts; seated = ap (λ (n : ℕ). n + 1) home.seated });
              bits = subst (λ (x : Role). KnowsByRole limits config r.world.history rows v.asked v.own (seated_role x)) (sym is) tt;
            })
            (λ j w apart there. refits limits config r.world world s.words s.words j w (prefix_self r.world.history) keeps
            (unseated_role r.world s.words id new j w.front w.asked home.one apart w.role) (λ known. known) (r.seats j w there)))
            (record {
              sizes = subst (λ (x : Role). HasSizes limits v.limits (new_role x)) (sym is) sizes;
              front = (r.world.history, refl);
              met = (r.world.history, refl);
              own = All-nil (IsTrueFact limits world rows);
              told = All-nil (IsTrueFact limits world rows);
              role = subst (λ (x : Role). FitsRole world s.words new [] [] (new_role x)) (sym is)
                  (let none = r.asked.none seats (let same = home.seated in omega arith) in
                  let same = home.seated in
                  record {
                    seated = omega arith;
                    one = sym (ap (λ (b : Bool). cond b new (r.world.seat seats)) (eq-eqb seats r.world.seated same));
                    all = sym none;
                    seen = subst (LacksAtMostOne []) (sym none) (record { begins = ([], refl); few = omega arith });
                  });
              bits = subst (λ (x : Role). KnowsByRole limits config r.world.history rows [] [] (new_role x)) (sym is)
                  (knows-nothing limits config r.world.history rows seats (r.world.asked seats) (r.asked.none seats (let same = home.seated in omega arith)) (r.asked.made seats));
            });
      }
