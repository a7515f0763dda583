-- The home appends an event.
use Rattle.std.proofs.Common.{◌≡◌, ◌==◌, Bool, true, false, cond, Some, None, ℕ, ◌+◌, ◌-◌, ◌%◌, ◌^◌, ◌<◌, ◌≤◌, List, [], ◌∷◌, ◌++◌, length, get_or, set, refl, ap, sym, ◌∙◌, subst, arith, ⊎_elim, length-append, length-set, get_or-set_same, get_or-set_other}
use Rattle.std.proofs.lemmas.Bool.{both_ways, cases_eq, cases_lt, eq-eqb, eqb-true, false≢true, false_from_ne_true, or_from, or_parts}
use Rattle.std.proofs.lemmas.List.{drop-set-lt}
use Rattle.std.proofs.lemmas.List.Elements.{All-contains, All-weaker}
use Rattle.std.specs.List.{All, Contains, list_any}
use Rattle.std.specs.Option.{is_some}
use Rattle.std.specs.Prelude.{slice_index}
use mathlib.Core.Option.{none, some}
use mathlib.Core.List.{IsPrefix}
use lib.ListN.{get_elem?}
use Rattle.atomic_table.specs.Table.{State, Allows, keeps, step}
use Rattle.funnel_model.specs.declared.event.Event.{Event}
use Rattle.funnel_model.specs.declared.event.Event.TheVariants as event
use Rattle.funnel_model.specs.declared.bit_list.Bit.{Bit}
use Rattle.funnel_model.specs.Events.{bits_on, clears, fills, opens, pass_of, put_on}
use Rattle.funnel_model.specs.History.{last_by}
use Rattle.funnel_model.specs.declared.config.Config.{Config}
use Rattle.funnel_model.specs.Legal.{Limits, IsAllowed, IsInSlice, IsLegal}
use Rattle.funnel_model.specs.RowWords.{AreFresh, Covers, IsSetIn, IsZeroIn}
use Rattle.row_layout.specs.Owners.{KeepToOwners, Owns}
use Rattle.funnel_model.proofs.RowWords.{covers-add, covers-move, covers-silent, fresh-opened, fresh-push}
use Rattle.funnel_model.proofs.Histories.{legal-push}
use Rattle.slice_rule.specs.declared.view.Role.{Role}
use Rattle.slice_rule.specs.declared.view.Role.TheVariants as role
use Rattle.slice_rule.specs.declared.view.Fact.{Fact}
use Rattle.slice_rule.specs.declared.view.Fact.TheVariants as fact
use Rattle.slice_rule.specs.declared.view.View.{View}
use Rattle.slice_rule.specs.Pools.{ask_word, first_row, row_words}
use Rattle.slice_rule.specs.Rule.{CountsPasses, Fits, FitsRole, IsKept, IsKnownSet, IsKnownZero, IsTrueFact, KnowsByRole}
use Rattle.slice_rule.specs.Numbers.{last_number, takes_in}
use Rattle.slice_rule.specs.Seats.{IsBacked}
use Rattle.slice_rule.proofs.Asking.{pass_at}
use Rattle.slice_rule.proofs.Facts.{all_later}
use Rattle.slice_rule.proofs.Owning.{keep-push, known_among, knows-push}
use Rattle.slice_rule.proofs.Since.{is_last, none_cleared, none_filled, one_event}
use Rattle.slice_rule.specs.Tells.{AppendsEvent, Seated}
use Rattle.slice_rule.specs.Views.{with_event}
use Rattle.slice_rule.specs.Worlds.{LacksAtMostOne, World, made_by}
use Rattle.slice_rule.proofs.Numbering.{home_at}
use Rattle.funnel_model.proofs.StepLemmas.{prefix_trans}
use Rattle.slice_rule.proofs.Prefixes.{made_by-other, made_by-own, prefix_more, prefix_self, prefix_whole}
use Rattle.slice_rule.proofs.Seating.{each-set, given-set, refits, same_kind}

-- the world after the event
abbrev pub longer_world : World → Event → World
longer_world world e = record world { history = world.history ++ e ∷ [] }

-- what claims a column fills its slice
takes_fill_by : (column : ℕ) (b : Bool) → is_some (cond b (Some column) None) ≡ true → b ≡ true
takes_fill_by column true is = refl
takes_fill_by column false is = absurd (false≢true is)

takes_fill : (slice : ℕ) (e : Event) → takes_in slice e ≡ true → fills slice e ≡ true
takes_fill slice (event.Take pass taken column) is = takes_fill_by column (taken == slice) is
takes_fill slice _ is = absurd (false≢true is)

-- where nothing fills a slice nothing is taken in it
none_taken : (slice : ℕ) (later : List Event) → list_any (fills slice) later ≡ false → list_any (takes_in slice) later ≡ false
none_taken slice [] is = refl
none_taken slice (e ∷ later) is =
    let parts = or_parts (fills slice e) (list_any (fills slice) later) is in
    or_from (takes_in slice e) (list_any (takes_in slice) later)
    (false_from_ne_true (takes_in slice e) (λ taken. both_ways (fills slice e) parts.0 (takes_fill slice e taken)))
    (none_taken slice later parts.1)

module _ (limits : Limits) (history : List Event) (rows : List ℕ) (legal : IsLegal limits history) where
  -- a bit that is known set under the Take of a pending column is set
  pub known_is_set : (pass slice column : ℕ) (b : Bit) → last_by pass history ≡ Some (event.Take pass slice column) → IsKnownSet limits history rows (last_number pass history) b → IsSetIn rows b
  known_is_set pass slice column b last known =
      let is = is_last pass history (event.Take pass slice column) last in
      let same = one_event history (last_number pass history) (event.Take known.pass known.slice known.column) (event.Take pass slice column) known.take is.at in
      let slices : known.slice ≡ slice = let h = same.0 in cc in
      ⊎_elim
      (λ set. set)
      (λ cleared. absurd (both_ways (list_any (clears slice) is.at.later) (none_cleared limits history pass slice column legal is)
      (subst (λ (later : List Event). list_any (clears slice) later ≡ true) same.1 (subst (λ (s : ℕ). list_any (clears s) known.take.later ≡ true) slices cleared))))
      known.set

  -- a word that is known zero under the Clear of a slice that is being cleared is zero
  pub known_is_zero : (pass slice word : ℕ) → last_by pass history ≡ Some (event.Clear pass slice) → IsKnownZero limits history rows (last_number pass history) word → slice_index rows word ≡ 0
  known_is_zero pass slice word last known =
      let is = is_last pass history (event.Clear pass slice) last in
      let same = one_event history (last_number pass history) (event.Clear known.pass known.slice) (event.Clear pass slice) known.clear is.at in
      let slices : known.slice ≡ slice = let h = same.0 in cc in
      ⊎_elim
      (λ zero. zero)
      (λ taken. absurd (both_ways (list_any (takes_in slice) is.at.later) (none_taken slice is.at.later (none_filled limits history pass slice legal is))
      (subst (λ (later : List Event). list_any (takes_in slice) later ≡ true) same.1 (subst (λ (s : ℕ). list_any (takes_in s) known.clear.later ≡ true) slices taken))))
      known.zero

  module _ (world : World) (here : world.history ≡ history) (told : List Fact) (known : All (IsTrueFact limits world rows) told) where
    known_set : (number : ℕ) (b : Bit) → Contains told (fact.BitSet number b) → IsKnownSet limits history rows number b
    known_set number b has = subst (λ (h : List Event). IsKnownSet limits h rows number b) here (All-contains (IsTrueFact limits world rows) told (fact.BitSet number b) known has)

    known_zero : (number word : ℕ) → Contains told (fact.WordZero number word) → IsKnownZero limits history rows number word
    known_zero number word has = subst (λ (h : List Event). IsKnownZero limits h rows number word) here (All-contains (IsTrueFact limits world rows) told (fact.WordZero number word) known has)

    -- the words cover the history with the event
    pub covers_next : (e : Event) → IsAllowed limits history e → IsBacked limits told history e → Covers rows history → Covers rows (history ++ e ∷ [])
    covers_next (event.Add pass id text slice column bits) allowed backed covers =
        covers-add rows history pass id text slice column bits covers
        (All-weaker (λ b. Contains told (fact.BitSet (last_number pass history) b)) (IsSetIn rows)
        (λ b has. known_is_set pass slice column b allowed.rule.taken (known_set (last_number pass history) b has)) bits backed)
    covers_next (event.Move pass id slice column bits) allowed backed covers =
        covers-move rows history pass id slice column bits covers
        (All-weaker (λ b. Contains told (fact.BitSet (last_number pass history) b)) (IsSetIn rows)
        (λ b has. known_is_set pass slice column b allowed.rule.taken (known_set (last_number pass history) b has)) bits backed)
    covers_next (event.Take p t c) allowed backed covers = covers-silent rows history (event.Take p t c) covers (λ s. refl)
    covers_next (event.Drop p id text t c) allowed backed covers = covers-silent rows history (event.Drop p id text t c) covers (λ s. refl)
    covers_next (event.Del p id) allowed backed covers = covers-silent rows history (event.Del p id) covers (λ s. refl)
    covers_next (event.Void p t c) allowed backed covers = covers-silent rows history (event.Void p t c) covers (λ s. refl)
    covers_next (event.Find p query) allowed backed covers = covers-silent rows history (event.Find p query) covers (λ s. refl)
    covers_next (event.End p) allowed backed covers = covers-silent rows history (event.End p) covers (λ s. refl)
    covers_next (event.Clear p t) allowed backed covers = covers-silent rows history (event.Clear p t) covers (λ s. refl)
    covers_next (event.Opened p t alone) allowed backed covers = covers-silent rows history (event.Opened p t alone) covers (λ s. refl)
    covers_next (event.Tune p config) allowed backed covers = covers-silent rows history (event.Tune p config) covers (λ s. refl)
    covers_next (event.No p asked) allowed backed covers = covers-silent rows history (event.No p asked) covers (λ s. refl)
    covers_next (event.Read p asked) allowed backed covers = covers-silent rows history (event.Read p asked) covers (λ s. refl)

    -- the words of a slice that is opened are zero
    pub opened_zero : (e : Event) → IsAllowed limits history e → IsBacked limits told history e → (slice : ℕ) → opens slice e ≡ true → IsZeroIn limits rows slice
    opened_zero (event.Opened pass opened alone) allowed backed slice is = λ word inside.
        known_is_zero pass opened word allowed.rule.cleared
        (known_zero (last_number pass history) word (backed word (subst (λ s. IsInSlice limits.slice_words s word) (sym (eqb-true opened slice is)) inside)))
    opened_zero _ allowed backed slice is = absurd (false≢true is)

    -- and unclaimed slices stay fresh
    pub fresh_next : (e : Event) → IsAllowed limits history e → IsBacked limits told history e → AreFresh limits rows history → AreFresh limits rows (history ++ e ∷ [])
    fresh_next (event.Opened pass slice alone) allowed backed fresh =
        fresh-opened limits rows history pass slice alone fresh (opened_zero (event.Opened pass slice alone) allowed backed slice (eq-eqb slice slice refl))
    fresh_next (event.Add p id text t c bits) allowed backed fresh = fresh-push limits rows history (event.Add p id text t c bits) (λ s. refl) fresh
    fresh_next (event.Take p t c) allowed backed fresh = fresh-push limits rows history (event.Take p t c) (λ s. refl) fresh
    fresh_next (event.Drop p id text t c) allowed backed fresh = fresh-push limits rows history (event.Drop p id text t c) (λ s. refl) fresh
    fresh_next (event.Del p id) allowed backed fresh = fresh-push limits rows history (event.Del p id) (λ s. refl) fresh
    fresh_next (event.Move p id t c bits) allowed backed fresh = fresh-push limits rows history (event.Move p id t c bits) (λ s. refl) fresh
    fresh_next (event.Void p t c) allowed backed fresh = fresh-push limits rows history (event.Void p t c) (λ s. refl) fresh
    fresh_next (event.Find p query) allowed backed fresh = fresh-push limits rows history (event.Find p query) (λ s. refl) fresh
    fresh_next (event.End p) allowed backed fresh = fresh-push limits rows history (event.End p) (λ s. refl) fresh
    fresh_next (event.Clear p t) allowed backed fresh = fresh-push limits rows history (event.Clear p t) (λ s. refl) fresh
    fresh_next (event.Tune p config) allowed backed fresh = fresh-push limits rows history (event.Tune p config) (λ s. refl) fresh
    fresh_next (event.No p asked) allowed backed fresh = fresh-push limits rows history (event.No p asked) (λ s. refl) fresh
    fresh_next (event.Read p asked) allowed backed fresh = fresh-push limits rows history (event.Read p asked) (λ s. refl) fresh

-- the history has all that the pass asked, or all but the last, also with an event that was asked next
made_push : (world : World) (e : Event) (pass : ℕ) → LacksAtMostOne (made_by pass world.history) (world.asked pass)
    → IsPrefix (made_by (pass_of e) world.history ++ e ∷ []) (world.asked (pass_of e))
    → LacksAtMostOne (made_by pass (world.history ++ e ∷ [])) (world.asked pass)
made_push world e pass lacks asked =
    ⊎_elim
    (λ (own : pass_of e ≡ pass).
    let begins : IsPrefix (made_by pass world.history ++ e ∷ []) (world.asked pass) = subst (λ (q : ℕ). IsPrefix (made_by q world.history ++ e ∷ []) (world.asked q)) own asked in
    let few = lacks.few in
    let more = length-append (made_by pass world.history) (e ∷ []) in
    subst (λ (xs : List Event). LacksAtMostOne xs (world.asked pass)) (sym (made_by-own pass world.history e own)) (record { begins = begins; few = omega arith }))
    (λ (other : pass_of e ≡ pass → ⊥). subst (λ (xs : List Event). LacksAtMostOne xs (world.asked pass)) (sym (made_by-other pass world.history e other)) lacks)
    (cases_eq (pass_of e) pass)

module _ (limits : Limits) (config : Config) where
  -- what another seat knows when the history has one more event
  other_role : (world : World) (words : List ℕ) (id n j : ℕ) (e : Event) (front asked : List Event) → id ≡ world.home → (j ≡ id → ⊥) → (role : Role)
      → FitsRole world words j front asked role → FitsRole (longer_world world e) (set words 0 n) j front asked role
  other_role world words id n j e front asked home apart (role.Home numbered seats) fits = absurd (apart (fits.one ∙ sym home))
  other_role world words id n j e front asked home apart (role.Pass pass) fits = record { seated = fits.seated; one = fits.one; all = fits.all; seen = fits.seen }
  other_role world words id n j e front asked home apart role.Note fits = tt
  other_role world words id n j e front asked home apart role.Spent fits = tt

  -- the pass whose event is appended asked it last, and has its seat
  asked_last : (world : World) (e : Event) → LacksAtMostOne (made_by (pass_of e) world.history) (world.asked (pass_of e))
      → IsPrefix (made_by (pass_of e) world.history ++ e ∷ []) (world.asked (pass_of e)) → world.asked (pass_of e) ≡ made_by (pass_of e) world.history ++ e ∷ []
  asked_last world e lacks asked =
      let few = lacks.few in
      let more = length-append (made_by (pass_of e) world.history) (e ∷ []) in
      sym (prefix_whole (made_by (pass_of e) world.history ++ e ∷ []) (world.asked (pass_of e)) asked (omega arith))

  is_seated : (world : World) (e : Event) → ((pass : ℕ) → world.seated ≤ pass → world.asked pass ≡ []) → world.asked (pass_of e) ≡ made_by (pass_of e) world.history ++ e ∷ []
      → pass_of e < world.seated
  is_seated world e unseated asked = ⊎_elim
      (λ small. small)
      (λ above. absurd (omega (arith, ap length (sym (unseated (pass_of e) above) ∙ asked), length-append (made_by (pass_of e) world.history) (e ∷ []))))
      (cases_lt (pass_of e) world.seated)

  -- so an add or a move that is appended has each set bit that its column owns
  puts_owned : (s : State (Unit {0}) View) (r : IsKept limits config s) (e : Event) → IsAllowed limits r.world.history e
      → r.world.asked (pass_of e) ≡ made_by (pass_of e) r.world.history ++ e ∷ [] → (slice column : ℕ) (b : Bit) → is_some (put_on slice column e) ≡ true
      → IsSetIn (row_words limits s.words) b → Owns limits config r.world.history slice column b → Contains (bits_on slice column e) b
  puts_owned s r e allowed asked =
      let p = pass_of e in
      let has = r.given.passes p (is_seated r.world e r.asked.none asked) in
      let mine = pass_at limits config s r (r.world.seat p) has.view p has.at has.kind in
      known_among limits config r.world.history (row_words limits s.words) p has.view.asked has.view.own e
      (subst (KnowsByRole limits config r.world.history (row_words limits s.words) has.view.asked has.view.own) has.kind (r.seats (r.world.seat p) has.view has.at).bits)
      refl allowed (mine.all ∙ asked)

  -- each other seat knows what it has to
  role_push : (world : World) (words rows : List ℕ) (e : Event) → IsLegal limits world.history → IsAllowed limits world.history e → KeepToOwners limits config world.history (IsSetIn rows)
      → ((pass : ℕ) → LacksAtMostOne (made_by pass world.history) (world.asked pass)) → (id : ℕ) (v : View) (role : Role) → FitsRole world words id v.front v.asked role
      → KnowsByRole limits config world.history rows v.asked v.own role → KnowsByRole limits config (world.history ++ e ∷ []) rows v.asked v.own role
  role_push world words rows e legal allowed keep lacks id v (role.Home numbered seats) fits knows = tt
  role_push world words rows e legal allowed keep lacks id v (role.Pass pass) fits knows =
      knows-push limits config world.history rows e legal allowed keep pass v.asked v.own (subst (LacksAtMostOne (made_by pass world.history)) (sym fits.all) (lacks pass)) knows
  role_push world words rows e legal allowed keep lacks id v role.Note fits knows = tt
  role_push world words rows e legal allowed keep lacks id v role.Spent fits knows = tt

  appends_at : (s : State (Unit {0}) View) (r : IsKept limits config s) (id : ℕ) (v : View) (numbered seats n : ℕ) (e : Event) → get_elem? s.views id ≡ some v → v.role ≡ role.Home numbered seats
      → n ≡ length v.front + 1 → n < 2 ^ 63 → IsAllowed limits v.front e → IsBacked limits v.told v.front e → Contains v.told (fact.Asked (pass_of e) (made_by (pass_of e) v.front ++ e ∷ []))
      → IsKept limits config (record { words = set s.words 0 n; homes = s.homes; views = set s.views id (with_event v e) })
  appends_at s r id v numbered seats n e at is next few allowed backed known =
      let mine = r.seats id v at in
      let home = home_at limits config s r id v numbered seats at is in
      let laid = r.laid in
      let whole = home.whole in
      let world : World = longer_world r.world e in
      let more = prefix_more r.world.history (e ∷ []) in
      let count : n ≡ length (r.world.history ++ e ∷ []) = omega (arith, next, ap length whole, length-append r.world.history (e ∷ [])) in
      let asked : IsPrefix (made_by (pass_of e) r.world.history ++ e ∷ []) (r.world.asked (pass_of e)) =
      subst (λ (h : List Event). IsPrefix (made_by (pass_of e) h ++ e ∷ []) (r.world.asked (pass_of e))) whole
      (All-contains (IsTrueFact limits r.world (row_words limits s.words)) v.told (fact.Asked (pass_of e) (made_by (pass_of e) v.front ++ e ∷ [])) mine.told known) in
      let rows = drop-set-lt (first_row limits) s.words 0 n (omega arith) in
      let keeps = λ (facts : List Fact) (before : All (IsTrueFact limits r.world (row_words limits s.words)) facts).
      subst (λ (ws : List ℕ). All (IsTrueFact limits world ws) facts) (sym rows)
      (all_later limits r.world world (row_words limits s.words) (e ∷ []) refl (λ pass. refl) facts before) in
      let next_allowed = subst (λ (h : List Event). IsAllowed limits h e) whole allowed in
      let given = given-set r.world s.views id v (with_event v e) at (same_kind v.role v.role refl) r.given in
      let next_backed = subst (λ (h : List Event). IsBacked limits v.told h e) whole backed in
      let old = row_words limits s.words in
      let last = asked_last r.world e (r.asked.made (pass_of e)) asked in
      let owners = keep-push limits config r.world.history old e r.events.legal next_allowed r.owners (puts_owned s r e next_allowed last)
      (opened_zero limits r.world.history old r.events.legal r.world refl v.told mine.told e next_allowed next_backed) in
      record {
        world = world;
        laid = length-set s.words 0 n ∙ laid;
        events = record {
          events = get_or-set_same s.words 0 n 0 (omega arith) ∙ count;
          few = subst (λ (k : ℕ). k < 2 ^ 63) count few;
          legal = legal-push limits r.world.history e r.events.legal next_allowed;
        };
        passes = subst (CountsPasses limits r.world.seated) (sym (get_or-set_other s.words 0 1 n 0 (λ e. omega arith))) r.passes;
        asked = record {
          count = λ pass small. get_or-set_other s.words 0 (ask_word pass) n 0 (λ e. omega arith) ∙ r.asked.count pass small;
          made = λ pass. made_push r.world e pass (r.asked.made pass) asked;
          none = r.asked.none;
        };
        covers = subst (λ (ws : List ℕ). Covers ws (r.world.history ++ e ∷ [])) (sym rows)
            (covers_next limits r.world.history (row_words limits s.words) r.events.legal r.world refl v.told mine.told e next_allowed next_backed r.covers);
        owners = subst (λ (ws : List ℕ). KeepToOwners limits config (r.world.history ++ e ∷ []) (IsSetIn ws)) (sym rows) owners;
        fresh = subst (λ (ws : List ℕ). AreFresh limits ws (r.world.history ++ e ∷ [])) (sym rows)
            (fresh_next limits r.world.history (row_words limits s.words) r.events.legal r.world refl v.told mine.told e next_allowed next_backed r.fresh);
        given = record { home = given.home; passes = given.passes };
        seats = each-set (Fits limits config world (set s.words 0 n)) s.views id (with_event v e)
            (record {
              sizes = mine.sizes;
              front = subst (λ (h : List Event). IsPrefix (h ++ e ∷ []) (r.world.history ++ e ∷ [])) (sym whole) (prefix_self (r.world.history ++ e ∷ []));
              met = prefix_trans v.met r.world.history (r.world.history ++ e ∷ []) mine.met more;
              own = keeps v.own mine.own;
              told = keeps v.told mine.told;
              role = subst (FitsRole world (set s.words 0 n) id (v.front ++ e ∷ []) v.asked) (sym is)
                  (record {
                    one = home.one;
                    whole = ap (λ (h : List Event). h ++ e ∷ []) whole;
                    counts = get_or-set_other s.words 0 1 n 0 (λ e. omega arith) ∙ home.counts;
                    seated = home.seated;
                  });
              bits = subst (KnowsByRole limits config (r.world.history ++ e ∷ []) (row_words limits (set s.words 0 n)) v.asked v.own) (sym is) tt;
            })
            (λ j w apart there. refits limits config r.world world s.words (set s.words 0 n) j w more keeps
            (other_role r.world s.words id n j e w.front w.asked home.one apart w.role)
            (λ knows. subst (λ (ws : List ℕ). KnowsByRole limits config (r.world.history ++ e ∷ []) ws w.asked w.own w.role) (sym rows)
            (role_push r.world s.words old e r.events.legal next_allowed r.owners r.asked.made j w w.role (r.seats j w there).role knows))
            (r.seats j w there));
      }

  pub appends : (slots id : ℕ) (me : Seated) (numbered seats : ℕ) (e : Event) → me.0.role ≡ role.Home numbered seats → length me.0.front < 2 ^ 63 - 1 → IsAllowed limits me.0.front e → IsBacked limits me.0.told me.0.front e
      → Contains me.0.told (fact.Asked (pass_of e) (made_by (pass_of e) me.0.front ++ e ∷ []))
      → Allows (IsKept limits config) slots id me 0 (λ n. (n + 1) % 2 ^ 64) (AppendsEvent e (step slots 0 1 0 none) me)
  appends slots id me numbered seats e is room allowed backed known s r homes at small =
      let home = home_at limits config s r id me.0 numbered seats at is in
      let found : get_or s.words 0 0 ≡ length me.0.front = r.events.events ∙ ap length (sym home.whole) in
      let next : (get_or s.words 0 0 + 1) % 2 ^ 64 ≡ length me.0.front + 1 = omega arith in (
        with_event me.0 e,
        keeps,
        tt,
        appends_at s r id me.0 numbered seats ((get_or s.words 0 0 + 1) % 2 ^ 64) e at is next (omega arith) allowed backed known,
        record { view = refl; number = found },
      )
