-- A pass asks for an event.
use Rattle.std.proofs.Common.{◌≡◌, ℕ, ◌+◌, ◌<◌, ◌==◌, if◌then◌else◌, Bool, cond, List, [], ◌∷◌, ◌++◌, length, get_or, set, refl, ap, sym, ◌∙◌, subst, arith, ⊎_elim, length-append, length-set, get_or-set_same, get_or-set_other}
use Rattle.std.proofs.lemmas.Bool.{cases_eq, eq-eqb, ne_eqb}
use mathlib.Core.Option.{none, some}
use mathlib.Core.List.{IsPrefix}
use lib.ListN.{get_elem?}
use Rattle.atomic_table.specs.Table.{State, Allows, keeps, step}
use Rattle.funnel_model.specs.declared.event.Event.{Event}
use Rattle.funnel_model.specs.declared.config.Config.{Config}
use Rattle.funnel_model.specs.History.{IsFrontOf}
use Rattle.funnel_model.specs.Legal.{Limits}
use Rattle.slice_rule.specs.declared.view.Role.{Role}
use Rattle.slice_rule.specs.declared.view.Role.TheVariants as role
use Rattle.slice_rule.specs.declared.view.Fact.{Fact}
use Rattle.slice_rule.specs.declared.view.View.{View}
use Rattle.slice_rule.specs.Pools.{ask_word, first_row, row_words}
use Rattle.slice_rule.specs.Numbers.{last_number}
use Rattle.slice_rule.specs.Rule.{CountsPasses, Fits, FitsRole, HasKnownBits, IsKept, IsPassOf, IsTrueFact, KnowsByRole, KnowsItsBits}
use Rattle.slice_rule.specs.Tells.{AsksFor, Seated}
use Rattle.slice_rule.specs.Views.{with_asked}
use Rattle.slice_rule.specs.Worlds.{LacksAtMostOne, World, made_by}
use Rattle.funnel_model.proofs.StepLemmas.{prefix_trans}
use Rattle.slice_rule.proofs.Prefixes.{front_is, made_by-prefix, none_since, prefix_length, prefix_more, prefix_self}
use Rattle.std.proofs.lemmas.List.{drop-set-lt}
use Rattle.std.specs.List.{All}
use Rattle.funnel_model.specs.RowWords.{AreFresh, Covers, IsSetIn}
use Rattle.row_layout.specs.Owners.{KeepToOwners}
use Rattle.slice_rule.proofs.Facts.{all_of_more}
use Rattle.slice_rule.proofs.Owning.{knows-asked}
use Rattle.slice_rule.proofs.Since.{number-front}
use Rattle.slice_rule.proofs.Seating.{each-set, given-set, refits, same_kind}

-- the world after the pass asked one more event
abbrev pub asked_world : World → ℕ → Event → World
asked_world world pass e = record world { asked = λ other. if other == pass then world.asked pass ++ e ∷ [] else world.asked other }

asked_same : (world : World) (pass : ℕ) (e : Event) (other : ℕ) → other ≡ pass → (asked_world world pass e).asked other ≡ world.asked pass ++ e ∷ []
asked_same world pass e other is = ap (λ (b : Bool). cond b (world.asked pass ++ e ∷ []) (world.asked other)) (eq-eqb other pass is)

asked_other : (world : World) (pass : ℕ) (e : Event) (other : ℕ) → (other ≡ pass → ⊥) → (asked_world world pass e).asked other ≡ world.asked other
asked_other world pass e other not = ap (λ (b : Bool). cond b (world.asked pass ++ e ∷ []) (world.asked other)) (ne_eqb other pass not)

-- what was asked begins what is asked now
asked_begins : (world : World) (pass : ℕ) (e : Event) (other : ℕ) → IsPrefix (world.asked other) ((asked_world world pass e).asked other)
asked_begins world pass e other =
    ⊎_elim
    (λ (is : other ≡ pass). subst (IsPrefix (world.asked other)) (sym (asked_same world pass e other is))
    (subst (λ (q : ℕ). IsPrefix (world.asked q) (world.asked pass ++ e ∷ [])) (sym is) (prefix_more (world.asked pass) (e ∷ []))))
    (λ (not : other ≡ pass → ⊥). subst (IsPrefix (world.asked other)) (sym (asked_other world pass e other not)) (prefix_self (world.asked other)))
    (cases_eq other pass)

module _ (limits : Limits) (config : Config) where
  -- what the pass's seat knows
  pub pass_at : (s : State (Unit {0}) View) (r : IsKept limits config s) (id : ℕ) (v : View) (pass : ℕ) → get_elem? s.views id ≡ some v → v.role ≡ role.Pass pass
      → IsPassOf r.world id pass v.front v.asked
  pass_at s r id v pass at is = subst (FitsRole r.world s.words id v.front v.asked) is (r.seats id v at).role

  -- a pass that has a seat is one of those that the sizes have
  pub pass_in_range : (s : State (Unit {0}) View) (r : IsKept limits config s) (id : ℕ) (v : View) (pass : ℕ) → get_elem? s.views id ≡ some v → v.role ≡ role.Pass pass → pass < limits.passes
  pass_in_range s r id v pass at is =
      let seated = (pass_at s r id v pass at is).seated in
      let no_more = r.passes.no_more in
      let in_range = r.passes.in_range in
      omega arith

  -- the history has all that a pass asked, where the pass has nothing outstanding
  pub all_made : (s : State (Unit {0}) View) (r : IsKept limits config s) (id : ℕ) (v : View) (pass : ℕ) → get_elem? s.views id ≡ some v → v.role ≡ role.Pass pass
      → v.asked ≡ made_by pass v.front → v.asked ≡ made_by pass r.world.history
  all_made s r id v pass at is all =
      let mine = pass_at s r id v pass at is in
      mine.all ∙ none_since pass v.front r.world.history (r.world.asked pass) (sym mine.all ∙ all) (r.seats id v at).front (r.asked.made pass)

  -- and no event of the pass that its front lacks
  pub front_at : (s : State (Unit {0}) View) (r : IsKept limits config s) (id : ℕ) (v : View) (pass : ℕ) → get_elem? s.views id ≡ some v → v.role ≡ role.Pass pass
      → v.asked ≡ made_by pass v.front → IsFrontOf pass v.front r.world.history
  front_at s r id v pass at is all =
      front_is pass v.front r.world.history (r.seats id v at).front (sym (all_made s r id v pass at is all) ∙ all)

  -- what another seat knows when the pass asks
  other_role : (world : World) (words : List ℕ) (pass id n j : ℕ) (e : Event) (front asked : List Event) → id ≡ world.seat pass → (j ≡ id → ⊥) → (role : Role)
      → FitsRole world words j front asked role → FitsRole (asked_world world pass e) (set words (ask_word pass) n) j front asked role
  other_role world words pass id n j e front asked one apart (role.Home numbered seats) fits = record {
    one = fits.one;
    whole = fits.whole;
    counts = get_or-set_other words (ask_word pass) 1 n 0 (λ e. omega arith) ∙ fits.counts;
    seated = fits.seated;
  }
  other_role world words pass id n j e front asked one apart (role.Pass other) fits =
      let same = asked_other world pass e other (λ is. apart (fits.one ∙ ap world.seat is ∙ sym one)) in
      record {
        seated = fits.seated;
        one = fits.one;
        all = fits.all ∙ sym same;
        seen = subst (LacksAtMostOne (made_by other front)) (sym same) fits.seen;
      }
  other_role world words pass id n j e front asked one apart role.Note fits = tt
  other_role world words pass id n j e front asked one apart role.Spent fits = tt

  module _ (s : State (Unit {0}) View) (r : IsKept limits config s) (id : ℕ) (v : View) (pass n : ℕ) (e : Event) where
    -- the history has all but the last of what the pass asked now
    made_but_last : IsPassOf r.world id pass v.front v.asked → v.asked ≡ made_by pass v.front → IsPrefix v.front r.world.history → (history : List Event)
        → IsPrefix v.front history → IsPrefix (made_by pass history) (r.world.asked pass) → LacksAtMostOne (made_by pass history) (r.world.asked pass ++ e ∷ [])
    made_but_last mine all within history begins made =
        let few = prefix_length (made_by pass v.front) (made_by pass history) (made_by-prefix pass v.front history begins) in
        let same : length (r.world.asked pass) ≡ length (made_by pass v.front) = ap length (sym mine.all ∙ all) in
        let more = length-append (r.world.asked pass) (e ∷ []) in
        record {
          begins = prefix_trans (made_by pass history) (r.world.asked pass) (r.world.asked pass ++ e ∷ []) made (prefix_more (r.world.asked pass) (e ∷ []));
          few = omega arith;
        }

    asks_at : get_elem? s.views id ≡ some v → v.role ≡ role.Pass pass → v.asked ≡ made_by pass v.front → HasKnownBits (last_number pass v.front) v.own e → n ≡ length v.asked + 1
        → IsKept limits config (record { words = set s.words (ask_word pass) n; homes = s.homes; views = set s.views id (with_asked v e) })
    asks_at at is all known next =
        let seat = r.seats id v at in
        let mine = pass_at s r id v pass at is in
        let laid = r.laid in
        let given = given-set r.world s.views id v (with_asked v e) at (same_kind v.role v.role refl) r.given in
        let in_range : pass < limits.passes = pass_in_range s r id v pass at is in
        let world : World = asked_world r.world pass e in
        let same = asked_same r.world pass e pass refl in
        let within : ask_word pass < length s.words = omega arith in
        let rows = drop-set-lt (first_row limits) s.words (ask_word pass) n (omega arith) in
        let keeps = λ (facts : List Fact) (before : All (IsTrueFact limits r.world (row_words limits s.words)) facts).
        subst (λ (ws : List ℕ). All (IsTrueFact limits world ws) facts) (sym rows)
        (all_of_more limits r.world world (row_words limits s.words) refl (asked_begins r.world pass e) facts before) in
        let bits = λ (asked : List Event) (own : List Fact) (role : Role) (known : KnowsByRole limits config r.world.history (row_words limits s.words) asked own role).
        subst (λ (ws : List ℕ). KnowsByRole limits config r.world.history ws asked own role) (sym rows) known in
        let count : n ≡ length (r.world.asked pass ++ e ∷ []) = omega (arith, next, ap length mine.all, length-append (r.world.asked pass) (e ∷ [])) in
        record {
          world = world;
          laid = length-set s.words (ask_word pass) n ∙ laid;
          events = record {
            events = get_or-set_other s.words (ask_word pass) 0 n 0 (λ e. omega arith) ∙ r.events.events;
            few = r.events.few;
            legal = r.events.legal;
          };
          passes = subst (CountsPasses limits r.world.seated) (sym (get_or-set_other s.words (ask_word pass) 1 n 0 (λ e. omega arith))) r.passes;
          asked = record {
            count = λ other small. ⊎_elim
                (λ (own : other ≡ pass). subst (λ (q : ℕ). get_or (set s.words (ask_word pass) n) (ask_word q) 0 ≡ length (world.asked q)) (sym own)
                (get_or-set_same s.words (ask_word pass) n 0 within ∙ count ∙ ap length (sym same)))
                (λ (not : other ≡ pass → ⊥). get_or-set_other s.words (ask_word pass) (ask_word other) n 0 (λ e. not (omega arith)) ∙ r.asked.count other small
                ∙ ap length (sym (asked_other r.world pass e other not)))
                (cases_eq other pass);
            made = λ other. ⊎_elim
                (λ (own : other ≡ pass). subst (λ (q : ℕ). LacksAtMostOne (made_by q r.world.history) (world.asked q)) (sym own)
                (subst (LacksAtMostOne (made_by pass r.world.history)) (sym same)
                (made_but_last mine all seat.front r.world.history seat.front (r.asked.made pass).begins)))
                (λ (not : other ≡ pass → ⊥). subst (LacksAtMostOne (made_by other r.world.history)) (sym (asked_other r.world pass e other not)) (r.asked.made other))
                (cases_eq other pass);
            none = λ other above. asked_other r.world pass e other (λ own. let seated = mine.seated in omega arith) ∙ r.asked.none other above;
          };
          covers = subst (λ (ws : List ℕ). Covers ws r.world.history) (sym rows) r.covers;
          owners = subst (λ (ws : List ℕ). KeepToOwners limits config r.world.history (IsSetIn ws)) (sym rows) r.owners;
          fresh = subst (λ (ws : List ℕ). AreFresh limits ws r.world.history) (sym rows) r.fresh;
          given = record { home = given.home; passes = given.passes };
          seats = each-set (Fits limits config world (set s.words (ask_word pass) n)) s.views id (with_asked v e)
              (record {
                sizes = seat.sizes;
                front = seat.front;
                met = seat.met;
                own = keeps v.own seat.own;
                told = keeps v.told seat.told;
                role = subst (FitsRole world (set s.words (ask_word pass) n) id v.front (v.asked ++ e ∷ [])) (sym is)
                    (record {
                      seated = mine.seated;
                      one = mine.one;
                      all = ap (λ (xs : List Event). xs ++ e ∷ []) mine.all ∙ sym same;
                      seen = subst (LacksAtMostOne (made_by pass v.front)) (sym same)
                          (made_but_last mine all seat.front v.front (prefix_self v.front) (subst (IsPrefix (made_by pass v.front)) (sym all ∙ mine.all) (prefix_self (made_by pass v.front))));
                    });
                bits = subst (KnowsByRole limits config r.world.history (row_words limits (set s.words (ask_word pass) n)) (v.asked ++ e ∷ []) v.own) (sym is)
                    (subst (λ (ws : List ℕ). KnowsItsBits limits config r.world.history ws pass (v.asked ++ e ∷ []) v.own) (sym rows)
                    (knows-asked limits config r.world.history (row_words limits s.words) pass v.asked v.own (all_made s r id v pass at is all) e
                    (subst (λ k. HasKnownBits k v.own e) (sym (number-front pass v.front r.world.history (front_at s r id v pass at is all))) known)
                    (subst (KnowsByRole limits config r.world.history (row_words limits s.words) v.asked v.own) is seat.bits)));
              })
              (λ j w apart there. refits limits config r.world world s.words (set s.words (ask_word pass) n) j w (prefix_self r.world.history) keeps
              (other_role r.world s.words pass id n j e w.front w.asked mine.one apart w.role) (bits w.asked w.own w.role) (r.seats j w there));
        }

  pub asks : (slots id : ℕ) (me : Seated) (pass n : ℕ) (e : Event) → me.0.role ≡ role.Pass pass → me.0.asked ≡ made_by pass me.0.front
      → HasKnownBits (last_number pass me.0.front) me.0.own e → n ≡ length me.0.asked + 1
      → Allows (IsKept limits config) slots id me (2 + pass) (λ _. n) (λ _. AsksFor e (step slots (2 + pass) n 0 none) me n)
  asks slots id me pass n e is all known next s r homes at small = (
    with_asked me.0 e,
    keeps,
    tt,
    asks_at s r id me.0 pass n e at is all known next,
    refl,
  )
