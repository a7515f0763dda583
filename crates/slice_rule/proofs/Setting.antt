-- A pass sets a bit of its pending column.
use Rattle.std.proofs.Common.{◌≡◌, ℕ, ◌+◌, ◌*◌, ◌%◌, ◌^◌, ◌<◌, ◌≤◌, ◌⊎◌, ⊎_elim, inl, inr, cond, bit_or, true, List, ◌∷◌, length, get_or, set, refl, ap, sym, ◌∙◌, subst, arith, get_or-set_same, get_or-set_other}
use Rattle.std.proofs.lemmas.Bool.{both_ways, cases_eq, cases_lt, eq-eqb}
use Rattle.std.proofs.lemmas.List.{get_or-drop, length-drop}
use Rattle.std.proofs.Math.Nat.{mod-eq_of_lt}
use Rattle.std.proofs.Math.Pow.{pow-lt}
use Rattle.std.proofs.lemmas.Nat.Bits.{bit_at-pow_same, bit_at-pow_other}
use Rattle.std.specs.Int.{IsBitSet, bit_at}
use Rattle.std.specs.List.{Contains, list_any}
use Rattle.std.specs.Option.{is_some}
use Rattle.std.specs.Prelude.{slice_index, Some, None}
use mathlib.Core.Option.{none, some}
use lib.ListN.{get_elem?}
use Rattle.atomic_table.specs.Table.{State, Allows, keeps, step}
use Rattle.funnel_model.specs.declared.bit_list.Bit.{Bit}
use Rattle.funnel_model.specs.declared.config.Config.{Config}
use Rattle.funnel_model.specs.declared.event.Event.{Event}
use Rattle.funnel_model.specs.declared.event.Event.TheVariants as event
use Rattle.funnel_model.specs.Events.{clears}
use Rattle.funnel_model.specs.History.{last_by}
use Rattle.funnel_model.specs.Legal.{Limits, IsInSlice, IsLegal}
use Rattle.funnel_model.specs.RowWords.{IsSetIn}
use Rattle.funnel_model.specs.Slices.{IsInState, Pending, Unclaimed, is_claimed}
use Rattle.funnel_model.proofs.Clears.{front_is_legal, last_by-front, pending_in_range}
use Rattle.funnel_model.proofs.Columns.{last_is_pending, one_state}
use Rattle.funnel_model.proofs.RowWords.{covers-more, fresh-set, slices_apart}
use Rattle.funnel_model.proofs.TuningLemmas.{treat_pending}
use Rattle.row_layout.specs.Owners.{KeepToOwners, Owns, OwnsIn, StandsOn}
use Rattle.row_layout.proofs.Standing.{pending_has_none}
use Rattle.std.proofs.lemmas.Bool.{true_from_ne_false}
use Rattle.slice_rule.specs.declared.view.Role.{Role}
use Rattle.slice_rule.specs.declared.view.Role.TheVariants as role
use Rattle.slice_rule.specs.declared.view.Fact.{Fact}
use Rattle.slice_rule.specs.declared.view.Fact.TheVariants as fact
use Rattle.slice_rule.specs.declared.view.View.{View}
use Rattle.slice_rule.specs.Numbers.{HasEvent, last_number, takes_in}
use Rattle.slice_rule.specs.Pools.{first_row, row_words}
use Rattle.slice_rule.specs.Rule.{IsKept, IsKnownSet, IsKnownZero, KnowsByRole, KnowsItsBits}
use Rattle.slice_rule.specs.Tells.{Seated, SetsBit}
use Rattle.slice_rule.specs.Views.{last_of, pass_of_role, with_own}
use Rattle.slice_rule.specs.Worlds.{made_by}
use Rattle.slice_rule.proofs.Facts.{KeepsFacts, still_set, still_zero}
use Rattle.slice_rule.proofs.Asking.{front_at, all_made, pass_at}
use Rattle.funnel_model.proofs.SetBits.{or_keeps, or_sets}
use Rattle.slice_rule.proofs.Bits.{or_has}
use Rattle.slice_rule.proofs.Owning.{knows-own}
use Rattle.slice_rule.proofs.RowChanges.{in_pool, writes_row}
use Rattle.slice_rule.proofs.Since.{comes_later, is_last, none_cleared, number-front, one_event}

-- a mask has one bit
one_mask : (bit other : ℕ) → ◌≡◌ {A = ℕ} (2 ^ bit) (2 ^ other) → bit ≡ other
one_mask bit other same = ⊎_elim
    (λ (is : bit ≡ other). is)
    (λ (apart : bit ≡ other → ⊥).
    let one = bit_at-pow_same bit in
    let none : bit_at (2 ^ other) bit ≡ 0 = bit_at-pow_other other bit apart in
    let both : bit_at (2 ^ bit) bit ≡ bit_at (2 ^ other) bit = ap (λ n. bit_at n bit) same in
    absurd (omega (arith, one, none, both)))
    (cases_eq bit other)

module _ (limits : Limits) (history : List Event) (rows : List ℕ) (legal : IsLegal limits history) (pass slice column : ℕ) (last : last_by pass history ≡ Some (event.Take pass slice column)) where
  -- the column is claimed
  claimed_now : is_claimed slice column history ≡ true
  claimed_now = true_from_ne_false (is_claimed slice column history)
      (λ unclaimed. let same = one_state limits history slice column (Pending pass) Unclaimed legal (last_is_pending limits history slice column pass legal last) unclaimed in cc)

  -- a Clear of the slice was before the column was taken, so a column was taken since
  taken_since : (number cleaner : ℕ) (clear : HasEvent history number (event.Clear cleaner slice)) → list_any (takes_in slice) clear.later ≡ true
  taken_since number cleaner clear =
      let is = is_last pass history (event.Take pass slice column) last in
      let claims : takes_in slice (event.Take pass slice column) ≡ true = ap (λ b. is_some (cond b (Some column) None)) (eq-eqb slice slice refl) in
      ⊎_elim
      (λ (less : number < last_number pass history). comes_later (takes_in slice) history number (last_number pass history) (event.Clear cleaner slice) (event.Take pass slice column) clear is.at less claims)
      (λ (least : last_number pass history ≤ number). ⊎_elim
      (λ (less : last_number pass history < number). absurd (both_ways (list_any (clears slice) is.at.later) (none_cleared limits history pass slice column legal is)
      (comes_later (clears slice) history (last_number pass history) number (event.Take pass slice column) (event.Clear cleaner slice) is.at clear less (eq-eqb slice slice refl))))
      (λ (most : number ≤ last_number pass history).
      let same : number ≡ last_number pass history = omega arith in
      let one = one_event history number (event.Clear cleaner slice) (event.Take pass slice column) clear (subst (λ (k : ℕ). HasEvent history k (event.Take pass slice column)) (sym same) is.at) in
      absurd (let h = one.0 in cc))
      (cases_lt (last_number pass history) number))
      (cases_lt number (last_number pass history))

  module _ (word bit : ℕ) (inside : IsInSlice limits.slice_words slice word) (small : word < length rows) where
    abbrev new_bit : Bit
    new_bit = record { word = word; bit = bit }

    abbrev more : List ℕ
    more = set rows word (bit_or (get_or rows word 0) (2 ^ bit))

    -- each bit stays set
    stays_set : (b : Bit) → IsSetIn rows b → IsSetIn more b
    stays_set b is = ⊎_elim
        (λ (here : b.word ≡ word). subst (λ (w : ℕ). IsBitSet (get_or more w 0) b.bit) (sym here)
        (subst (λ (n : ℕ). IsBitSet n b.bit) (sym (get_or-set_same rows word (bit_or (get_or rows word 0) (2 ^ bit)) 0 small))
        (or_keeps (get_or rows word 0) (2 ^ bit) b.bit (subst (λ (w : ℕ). IsBitSet (get_or rows w 0) b.bit) here is))))
        (λ (other : b.word ≡ word → ⊥). subst (λ (n : ℕ). IsBitSet n b.bit) (sym (get_or-set_other rows word b.word (bit_or (get_or rows word 0) (2 ^ bit)) 0 other)) is)
        (cases_eq b.word word)

    -- and no other is set
    was_set : (b : Bit) → IsSetIn more b → IsSetIn rows b ⊎ (b ≡ new_bit)
    was_set b is = ⊎_elim
        (λ (here : b.word ≡ word). ⊎_elim
        (λ old. inl (subst (λ (w : ℕ). IsBitSet (get_or rows w 0) b.bit) (sym here) old))
        (λ new. inr (ap (λ (w : ℕ). record { word = w; bit = b.bit }) here ∙ ap (λ (k : ℕ). record { word = word; bit = k }) new))
        (or_has (get_or rows word 0) bit b.bit
        (subst (λ (n : ℕ). IsBitSet n b.bit) (get_or-set_same rows word (bit_or (get_or rows word 0) (2 ^ bit)) 0 small) (subst (λ (w : ℕ). IsBitSet (get_or more w 0) b.bit) here is))))
        (λ (other : b.word ≡ word → ⊥). inl (subst (λ (n : ℕ). IsBitSet n b.bit) (get_or-set_other rows word b.word (bit_or (get_or rows word 0) (2 ^ bit)) 0 other) is))
        (cases_eq b.word word)

    -- and each word outside the slice stays zero
    stays_zero : (other : ℕ) → (IsInSlice limits.slice_words slice other → ⊥) → slice_index rows other ≡ 0 → slice_index more other ≡ 0
    stays_zero other outside zero =
        get_or-set_other rows word other (bit_or (get_or rows word 0) (2 ^ bit)) 0 (λ same. outside (subst (IsInSlice limits.slice_words slice) (sym same) inside)) ∙ zero

    keeps_set : (number : ℕ) (b : Bit) → IsKnownSet limits history rows number b → IsKnownSet limits history more number b
    keeps_set number b known = still_set limits known (λ set. inl (stays_set b set))

    keeps_zero : (number other : ℕ) → IsKnownZero limits history rows number other → IsKnownZero limits history more number other
    keeps_zero number other known = still_zero limits known
        (λ zero. ⊎_elim
        (λ (same : other ≡ word).
        let slices : slice ≡ known.slice = slices_apart limits.slice_words slice known.slice word inside (subst (IsInSlice limits.slice_words known.slice) same known.inside) in
        inr (taken_in known.slice slices number known.pass known.clear))
        (λ (apart : other ≡ word → ⊥). inl (get_or-set_other rows word other (bit_or (get_or rows word 0) (2 ^ bit)) 0 apart ∙ zero))
        (cases_eq other word)) where
          taken_in : (other_slice : ℕ) → slice ≡ other_slice → (k cleaner : ℕ) (clear : HasEvent history k (event.Clear cleaner other_slice)) → list_any (takes_in other_slice) clear.later ≡ true
          taken_in other_slice same k cleaner =
              subst (λ (t : ℕ). (clear : HasEvent history k (event.Clear cleaner t)) → list_any (takes_in t) clear.later ≡ true) same (taken_since k cleaner)

    pub set_keeps : KeepsFacts limits history rows more
    set_keeps = record { set = keeps_set; zero = keeps_zero }

    -- the bit is known set under the Take
    pub set_known : IsKnownSet limits history more (last_number pass history) (record { word = word; bit = bit })
    set_known = record {
      pass = pass;
      slice = slice;
      column = column;
      take = (is_last pass history (event.Take pass slice column) last).at;
      inside = inside;
      set = inl (subst (λ (n : ℕ). IsBitSet n bit) (sym (get_or-set_same rows word (bit_or (get_or rows word 0) (2 ^ bit)) 0 small)) (or_sets (get_or rows word 0) bit));
    }

    -- Where no column of the slice owns the bit but the pending one.
    module _ (config : Config) (only : (at : ℕ) → Owns limits config history slice at new_bit → at ≡ column) where
      -- the pending column alone owns it
      owner_is : (s at : ℕ) → Owns limits config history s at new_bit → (s ≡ slice) × (at ≡ column)
      owner_is s at owns =
          let same = slices_apart limits.slice_words s slice word owns.treated.inside inside in
          (same, only at (subst (λ t. Owns limits config history t at new_bit) same owns))

      pending : IsInState history slice column (Pending pass)
      pending = last_is_pending limits history slice column pass legal last

      new_claimed : (s at : ℕ) (b : Bit) → b ≡ new_bit → Owns limits config history s at b → is_claimed s at history ≡ true
      new_claimed s at b is owns =
          let owner = owner_is s at (subst (Owns limits config history s at) is owns) in
          ap (λ t. is_claimed t at history) owner.0 ∙ ap (λ t. is_claimed slice t history) owner.1 ∙ claimed_now

      new_stands : (s at : ℕ) (b : Bit) (e : Event) → b ≡ new_bit → Owns limits config history s at b → StandsOn history s at e → ⊥
      new_stands s at b e is owns stands =
          let owner = owner_is s at (subst (Owns limits config history s at) is owns) in
          pending_has_none limits history slice column pass e legal pending
          (subst (λ t. StandsOn history slice t e) owner.1 (subst (λ t. StandsOn history t at e) owner.0 stands))

      -- set bits keep to their owners
      pub set_owners : KeepToOwners limits config history (IsSetIn rows) → KeepToOwners limits config history (IsSetIn more)
      set_owners keep = record {
        claimed = λ s at b set owns. ⊎_elim (λ old. keep.claimed s at b old owns) (λ new. new_claimed s at b new owns) (was_set b set);
        among = λ s at b e set owns stands. ⊎_elim (λ old. keep.among s at b e old owns stands) (λ new. absurd (new_stands s at b e new owns stands)) (was_set b set);
      }

      -- the pass knows that it set the bit
      pub set_knows : (asked : List Event) (own : List Fact) → asked ≡ made_by pass history → KnowsItsBits limits config history rows pass asked own
          → KnowsItsBits limits config history more pass asked (fact.BitSet (last_number pass history) new_bit ∷ own)
      set_knows asked own all knows =
          let f = fact.BitSet (last_number pass history) new_bit in
          let still = knows-own limits config history rows pass asked own all f knows in
          record {
            pending = λ s at b taken set owns. ⊎_elim
                (λ old. still.pending s at b taken old owns)
                (λ new. subst (λ x. Contains (f ∷ own) (fact.BitSet (last_number pass history) x)) (sym new) (0, omega arith, refl))
                (was_set b set);
            outstanding = still.outstanding;
          }

      -- and no other pass has its column pending
      pub others_know : (other : ℕ) (asked : List Event) (own : List Fact) → (other ≡ pass → ⊥) → KnowsItsBits limits config history rows other asked own
          → KnowsItsBits limits config history more other asked own
      others_know other asked own apart knows = record {
        pending = λ s at b taken set owns. ⊎_elim
            (λ old. knows.pending s at b taken old owns)
            (λ new.
            let owner = owner_is s at (subst (Owns limits config history s at) new owns) in
            let theirs : last_by other history ≡ Some (event.Take other slice column) = taken ∙ ap (λ t. Some (event.Take other t at)) owner.0 ∙ ap (λ t. Some (event.Take other slice t)) owner.1 in
            absurd (apart (let same = one_state limits history slice column (Pending other) (Pending pass) legal (last_is_pending limits history slice column other legal theirs) pending in cc)))
            (was_set b set);
        outstanding = knows.outstanding;
      }

module _ (limits : Limits) (config : Config) where
  -- each other seat knows what it has to
  others_at : (s : State (Unit {0}) View) (r : IsKept limits config s) (id : ℕ) (v : View) (pass : ℕ) (more : List ℕ) → get_elem? s.views id ≡ some v → v.role ≡ role.Pass pass
      → ((other : ℕ) (asked : List Event) (own : List Fact) → (other ≡ pass → ⊥) → KnowsItsBits limits config r.world.history (row_words limits s.words) other asked own
      → KnowsItsBits limits config r.world.history more other asked own)
      → (j : ℕ) (w : View) → (j ≡ id → ⊥) → get_elem? s.views j ≡ some w → KnowsByRole limits config r.world.history more w.asked w.own w.role
  others_at s r id v pass more at is each j w apart there = by_role w.role refl (r.seats j w there).bits where
    mine : id ≡ r.world.seat pass
    mine = (pass_at limits config s r id v pass at is).one

    by_role : (role : Role) → w.role ≡ role → KnowsByRole limits config r.world.history (row_words limits s.words) w.asked w.own role
        → KnowsByRole limits config r.world.history more w.asked w.own role
    by_role (role.Home numbered seats) is knows = tt
    by_role (role.Pass other) is knows =
        each other w.asked w.own (λ same. apart ((pass_at limits config s r j w other there is).one ∙ ap r.world.seat same ∙ sym mine)) knows
    by_role role.Note is knows = tt
    by_role role.Spent is knows = tt

  sets_at : (s : State (Unit {0}) View) (r : IsKept limits config s) (id : ℕ) (v : View) (pass slice column word bit n : ℕ) → get_elem? s.views id ≡ some v → v.role ≡ role.Pass pass
      → last_by pass v.front ≡ Some (event.Take pass slice column) → v.asked ≡ made_by pass v.front → IsInSlice limits.slice_words slice word
      → ((other : ℕ) → Owns limits config v.front slice other (record { word = word; bit = bit }) → other ≡ column)
      → n ≡ bit_or (get_or s.words (first_row limits + word) 0) (2 ^ bit)
      → IsKept limits config (record { words = set s.words (first_row limits + word) n; homes = s.homes; views = set s.views id (with_own v (fact.BitSet (last_number pass v.front) (record { word = word; bit = bit }))) })
  sets_at s r id v pass slice column word bit n at is last all inside only new =
      let history = r.world.history in
      let rows = row_words limits s.words in
      let legal = r.events.legal in
      let goes = front_at limits config s r id v pass at is all in
      let now : last_by pass history ≡ Some (event.Take pass slice column) = last_by-front pass v.front history goes ∙ last in
      let range = pending_in_range limits history slice column pass legal (last_is_pending limits history slice column pass legal now) in
      let within = in_pool limits slice word range.0 inside in
      let laid = r.laid in
      let small : word < length rows = omega (arith, length-drop (first_row limits) s.words) in
      let value : n ≡ bit_or (get_or rows word 0) (2 ^ bit) = new ∙ ap (λ k. bit_or k (2 ^ bit)) (sym (get_or-drop (first_row limits) s.words word 0)) in
      let number = number-front pass v.front history goes in
      let b : Bit = record { word = word; bit = bit } in
      let pending = last_is_pending limits v.front slice column pass (front_is_legal limits pass v.front history legal goes) last in
      let same = treat_pending limits config v.front history pass slice column legal goes pending in
      let alone : (other : ℕ) → Owns limits config history slice other b → other ≡ column = λ other owns. only other (record {
        in_engine = owns.in_engine;
        treated = subst (λ (k : Config). OwnsIn limits.slice_words k slice other b) same owns.treated;
      }) in
      subst (λ (k : ℕ). IsKept limits config (record { words = set s.words (first_row limits + word) k; homes = s.homes; views = set s.views id (with_own v (fact.BitSet (last_number pass v.front) b)) })) (sym value)
      (writes_row limits config s r id v word (bit_or (get_or rows word 0) (2 ^ bit)) (fact.BitSet (last_number pass v.front) b) at
      (set_keeps limits history rows legal pass slice column now word bit inside small)
      (covers-more rows (set rows word (bit_or (get_or rows word 0) (2 ^ bit))) history (stays_set limits history rows legal pass slice column now word bit inside small) r.covers)
      (set_owners limits history rows legal pass slice column now word bit inside small config alone r.owners)
      (fresh-set limits rows (set rows word (bit_or (get_or rows word 0) (2 ^ bit))) history slice column (claimed_now limits history rows legal pass slice column now)
      (stays_zero limits history rows legal pass slice column now word bit inside small) r.fresh)
      (subst (λ (k : ℕ). IsKnownSet limits history (set rows word (bit_or (get_or rows word 0) (2 ^ bit))) k b) number
      (set_known limits history rows legal pass slice column now word bit inside small))
      (subst (KnowsByRole limits config history (set rows word (bit_or (get_or rows word 0) (2 ^ bit))) v.asked (fact.BitSet (last_number pass v.front) b ∷ v.own)) (sym is)
      (subst (λ (k : ℕ). KnowsItsBits limits config history (set rows word (bit_or (get_or rows word 0) (2 ^ bit))) pass v.asked (fact.BitSet k b ∷ v.own)) number
      (set_knows limits history rows legal pass slice column now word bit inside small config alone v.asked v.own (all_made limits config s r id v pass at is all)
      (subst (KnowsByRole limits config history rows v.asked v.own) is (r.seats id v at).bits))))
      (others_at s r id v pass (set rows word (bit_or (get_or rows word 0) (2 ^ bit))) at is
      (others_know limits history rows legal pass slice column now word bit inside small config alone)))

  pub sets : (slots id : ℕ) (me : Seated) (pass slice column word bit : ℕ) → me.0.limits ≡ limits → me.0.role ≡ role.Pass pass
      → last_by pass me.0.front ≡ Some (event.Take pass slice column) → me.0.asked ≡ made_by pass me.0.front → IsInSlice limits.slice_words slice word
      → ((other : ℕ) → Owns limits config me.0.front slice other (record { word = word; bit = bit }) → other ≡ column)
      → Allows (IsKept limits config) slots id me (first_row limits + word) (λ n. bit_or n (2 ^ bit)) (SetsBit (step slots (first_row limits + word) (2 ^ bit) 0 none) me)
  sets slots id me pass slice column word bit sizes is last all inside only s r homes at small =
      let number : last_number pass me.0.front ≡ last_of me.0 = ap (λ p. last_number p me.0.front) (ap pass_of_role (sym is)) in (
        with_own me.0 (fact.BitSet (last_number pass me.0.front) (record { word = word; bit = bit })),
        keeps,
        tt,
        sets_at s r id me.0 pass slice column word bit (bit_or (get_or s.words (first_row limits + word) 0) (2 ^ bit)) at is last all inside only refl,
        λ other mask there same.
            let rows = ap (λ (l : Limits). first_row l) sizes in
            let words : word ≡ other = omega arith in
            let bits : bit ≡ mask = one_mask bit mask same in
            cc (number, words, bits),
      )

-- a one that is shifted to a bit below 64
pub one_shifted : (bit : ℕ) → bit < 64 → 1 * 2 ^ bit % 2 ^ 64 ≡ 2 ^ bit
one_shifted bit small =
    let fits : 2 ^ bit < 2 ^ 64 = pow-lt small in
    let one : 1 * 2 ^ bit ≡ 2 ^ bit = omega arith in
    ap (λ n. n % 2 ^ 64) one ∙ mod-eq_of_lt fits
