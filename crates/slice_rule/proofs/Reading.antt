-- A pass reads a row word under its token.
use Rattle.std.proofs.Common.{◌≡◌, ℕ, ◌+◌, List, ◌∷◌, get_or, set, ap, sym, subst, arith}
use Rattle.std.proofs.lemmas.List.{get_or-drop, set-get_or}
use Rattle.std.proofs.lemmas.List.Elements.{All-cons}
use Rattle.std.specs.List.{Contains}
use Rattle.std.specs.Int.{IsBitSet}
use mathlib.Core.Option.{none, some}
use lib.ListN.{get_elem?}
use Rattle.atomic_table.specs.Table.{State, Allows, keeps, step}
use Rattle.funnel_model.specs.declared.bit_list.Bit.{Bit}
use Rattle.funnel_model.specs.declared.config.Config.{Config}
use Rattle.funnel_model.specs.declared.event.Event.{Event}
use Rattle.funnel_model.specs.Events.{bits_on}
use Rattle.funnel_model.specs.Legal.{Limits}
use Rattle.funnel_model.specs.RowWords.{IsCommitted}
use Rattle.funnel_model.specs.Tokens.{MayRead}
use Rattle.funnel_model.proofs.Clears.{read_stays}
use Rattle.funnel_model.proofs.RowWords.{reader_sees}
use Rattle.funnel_model.proofs.TuningLemmas.{treat_read}
use Rattle.row_layout.specs.Owners.{Owns, OwnsIn, StandsOn}
use Rattle.row_layout.proofs.Standing.{stands-later}
use Rattle.slice_rule.specs.declared.view.Role.TheVariants as role
use Rattle.slice_rule.specs.declared.view.Fact.TheVariants as fact
use Rattle.slice_rule.specs.declared.view.View.{View}
use Rattle.slice_rule.specs.Pools.{first_row, row_words}
use Rattle.slice_rule.specs.Rule.{IsKept, IsTrueFact, KnowsByRole}
use Rattle.slice_rule.specs.Tells.{ReadsWord, Seated}
use Rattle.slice_rule.specs.Views.{last_of, pass_of_role, with_own}
use Rattle.slice_rule.specs.Worlds.{made_by}
use Rattle.slice_rule.proofs.Asking.{all_made, front_at}
use Rattle.slice_rule.proofs.Owning.{knows-own}
use Rattle.slice_rule.proofs.Seating.{viewed}

module _ (limits : Limits) (config : Config) where
  -- a bit that the front has committed in a slice that the pass may read is set
  read_least : (s : State (Unit {0}) View) (r : IsKept limits config s) (id : ℕ) (v : View) (pass : ℕ) → get_elem? s.views id ≡ some v → v.role ≡ role.Pass pass → v.asked ≡ made_by pass v.front
      → (word slice bit : ℕ) → MayRead limits.columns v.front pass slice → IsCommitted v.front slice (record { word = word; bit = bit }) → IsBitSet (get_or s.words (first_row limits + word) 0) bit
  read_least s r id v pass at is all word slice bit read committed =
      let b : Bit = record { word = word; bit = bit } in
      let still = reader_sees limits v.front r.world.history pass slice b r.events.legal (front_at limits config s r id v pass at is all) read committed in
      subst (λ (n : ℕ). IsBitSet n bit) (get_or-drop (first_row limits) s.words word 0) (r.covers slice b still)

  -- and a set bit that a column of such a slice owns is one of the document that stands there
  read_owned : (s : State (Unit {0}) View) (r : IsKept limits config s) (id : ℕ) (v : View) (pass : ℕ) → get_elem? s.views id ≡ some v → v.role ≡ role.Pass pass → v.asked ≡ made_by pass v.front
      → (word slice column bit : ℕ) (e : Event) → MayRead limits.columns v.front pass slice → IsBitSet (get_or s.words (first_row limits + word) 0) bit
      → Owns limits config v.front slice column (record { word = word; bit = bit }) → StandsOn v.front slice column e → Contains (bits_on slice column e) (record { word = word; bit = bit })
  read_owned s r id v pass at is all word slice column bit e read set owns stands =
      let b : Bit = record { word = word; bit = bit } in
      let legal = r.events.legal in
      let goes = front_at limits config s r id v pass at is all in
      let same = treat_read limits config v.front r.world.history pass slice legal goes read in
      let kept = (read_stays limits v.front r.world.history pass slice legal goes read).0 in
      r.owners.among slice column b e (subst (λ (n : ℕ). IsBitSet n bit) (sym (get_or-drop (first_row limits) s.words word 0)) set)
      (record { in_engine = owns.in_engine; treated = subst (λ (k : Config). OwnsIn limits.slice_words k slice column b) (sym same) owns.treated })
      (subst (λ (h : List Event). StandsOn h slice column e) (sym goes.whole) (stands-later v.front goes.later slice column e kept stands))

  pub reads : (slots id : ℕ) (me : Seated) (pass word : ℕ) → me.0.limits ≡ limits → me.0.config ≡ config → me.0.role ≡ role.Pass pass → me.0.asked ≡ made_by pass me.0.front
      → Allows (IsKept limits config) slots id me (first_row limits + word) (λ n. n) (ReadsWord (step slots (first_row limits + word) 0 0 none) me)
  reads slots id me pass word sizes made is all s r homes at small =
      let i = first_row limits + word in
      let found = get_or s.words i 0 in
      let mine = r.seats id me.0 at in
      let f = fact.WordRead (last_of me.0) word found in
      let rows = ap (λ (l : Limits). first_row l) sizes in
      let now = viewed limits config s r id me.0 (with_own me.0 f) at (λ i. me.0.role) (record {
        sizes = mine.sizes;
        front = mine.front;
        met = mine.met;
        own = All-cons (IsTrueFact limits r.world (row_words limits s.words)) f me.0.own tt mine.own;
        told = mine.told;
        role = mine.role;
        bits = subst (KnowsByRole limits config r.world.history (row_words limits s.words) me.0.asked (f ∷ me.0.own)) (sym is)
            (knows-own limits config r.world.history (row_words limits s.words) pass me.0.asked me.0.own (all_made limits config s r id me.0 pass at is all) f
            (subst (KnowsByRole limits config r.world.history (row_words limits s.words) me.0.asked me.0.own) is mine.bits));
      }) in (
        with_own me.0 f,
        keeps,
        tt,
        subst (λ (words : List ℕ). IsKept limits config (record { words = words; homes = s.homes; views = set s.views id (with_own me.0 f) })) (sym (set-get_or s.words i 0)) now,
        record {
          view = λ other there. let words : word ≡ other = omega arith in ap (λ (w : ℕ). (with_own me.0 (fact.WordRead (last_of me.0) w found), me.1)) words;
          least = λ other slice bit there read committed.
              let words : other ≡ word = omega arith in
              let may : MayRead limits.columns me.0.front pass slice =
              subst (λ (l : Limits). MayRead l.columns me.0.front pass slice) sizes (subst (λ (p : ℕ). MayRead me.0.limits.columns me.0.front p slice) (ap pass_of_role is) read) in
              read_least s r id me.0 pass at is all word slice bit may (subst (λ (w : ℕ). IsCommitted me.0.front slice (record { word = w; bit = bit })) words committed);
          owned = λ other slice column bit e there read set owns stands.
              let words : other ≡ word = omega arith in
              let may : MayRead limits.columns me.0.front pass slice =
              subst (λ (l : Limits). MayRead l.columns me.0.front pass slice) sizes (subst (λ (p : ℕ). MayRead me.0.limits.columns me.0.front p slice) (ap pass_of_role is) read) in
              let here : Owns limits config me.0.front slice column (record { word = word; bit = bit }) =
              subst (λ (k : Config). Owns limits k me.0.front slice column (record { word = word; bit = bit })) made
              (subst (λ (l : Limits). Owns l me.0.config me.0.front slice column (record { word = word; bit = bit })) sizes
              (subst (λ (w : ℕ). Owns me.0.limits me.0.config me.0.front slice column (record { word = w; bit = bit })) words owns)) in
              subst (λ (w : ℕ). Contains (bits_on slice column e) (record { word = w; bit = bit })) (sym words)
              (read_owned s r id me.0 pass at is all word slice column bit e may set here stands);
        },
      )
