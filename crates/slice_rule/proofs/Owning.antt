-- Set bits keep to their owners, and passes know what they have to of owned bits: with fewer set bits, with one more event, and where a pass
-- did or asked something.
use Rattle.std.proofs.Common.{◌≡◌, ℕ, ⊎_elim, Bool, true, false, cond, ◌==◌, List, [], ◌∷◌, ◌++◌, length, refl, ap, sym, ◌∙◌, subst, arith, length-append}
use Rattle.std.proofs.lemmas.Bool.{both_ways, cases_eq, eq-eqb, false≢true, or_from, or_left}
use Rattle.std.proofs.lemmas.List.Elements.{Contains-append_right}
use Rattle.std.specs.List.{Contains}
use Rattle.std.specs.Int.{IsBitSet}
use Rattle.std.specs.Option.{is_some}
use Rattle.std.specs.Prelude.{Some, ◌&&◌}
use Rattle.funnel_model.specs.declared.bit_list.Bit.{Bit}
use Rattle.funnel_model.specs.declared.config.Config.{Config}
use Rattle.funnel_model.specs.declared.event.Event.{Event}
use Rattle.funnel_model.specs.declared.event.Event.TheVariants as event
use Rattle.funnel_model.specs.Events.{bits_on, clears, opens, pass_of, put_on}
use Rattle.funnel_model.specs.History.{last_by}
use Rattle.funnel_model.specs.Legal.{Limits, IsAllowed, IsLegal}
use Rattle.funnel_model.specs.RowWords.{IsSetIn, IsZeroIn}
use Rattle.funnel_model.specs.Slices.{is_claimed}
use Rattle.funnel_model.proofs.Claims.{take_is_unclaimed}
use Rattle.funnel_model.proofs.Clears.{last_by-later, pending_not_retired}
use Rattle.funnel_model.proofs.Columns.{last_is_pending, over_is_claimed}
use Rattle.funnel_model.proofs.LastEvents.{clears_is}
use Rattle.funnel_model.proofs.Spans.{claims, is_claimed-push, last_by-other, last_by-own}
use Rattle.funnel_model.proofs.TuningLemmas.{treat-later}
use Rattle.row_layout.specs.Owners.{KeepToOwners, Owns, OwnsIn}
use Rattle.row_layout.proofs.Standing.{put_there, puts_there, stands_before}
use Rattle.slice_rule.specs.declared.view.Role.{Role}
use Rattle.slice_rule.specs.declared.view.Role.TheVariants as role
use Rattle.slice_rule.specs.declared.view.Fact.{Fact}
use Rattle.slice_rule.specs.declared.view.Fact.TheVariants as fact
use Rattle.slice_rule.specs.Numbers.{last_number}
use Rattle.slice_rule.specs.Rule.{HasKnownBits, KnowsByRole, KnowsItsBits}
use Rattle.slice_rule.specs.Worlds.{LacksAtMostOne, made_by}
use Rattle.slice_rule.proofs.Bits.{zero_has_none}
use Rattle.slice_rule.proofs.Prefixes.{made_by-other, made_by-own, prefix_length, silent_where_none}
use Rattle.slice_rule.proofs.Since.{number-other, split_same}
use Rattle.funnel_model.proofs.Absence.{empty_by_length}

-- a pass that asked what it made has asked no further event
pub none_further : (made asked : List Event) (e : Event) → asked ≡ made → asked ≡ made ++ e ∷ [] → ⊥
none_further made asked e all more = omega (arith, ap length (sym all ∙ more), length-append made (e ∷ []))

-- a pass that made no event has no last one
no_last : (pass : ℕ) (history : List Event) (e : Event) → made_by pass history ≡ [] → last_by pass history ≡ Some e → ⊥
no_last pass history e none last = let is = sym (last_by-later pass [] history (silent_where_none pass history none)) ∙ last in cc

module _ (limits : Limits) (config : Config) where
  -- a pass that asked nothing has nothing to know
  pub knows-nothing : (history : List Event) (rows : List ℕ) (pass : ℕ) (asked : List Event) → asked ≡ [] → LacksAtMostOne (made_by pass history) asked
      → KnowsItsBits limits config history rows pass [] []
  knows-nothing history rows pass asked none lacks =
      let few = prefix_length (made_by pass history) asked lacks.begins in
      let made = empty_by_length (made_by pass history) (omega (arith, few, ap length none)) in
      record {
        pending = λ slice column b last. absurd (no_last pass history (event.Take pass slice column) made last);
        outstanding = λ e more. absurd (none_further (made_by pass history) [] e (sym made) more);
      }

  -- with fewer set bits they keep to their owners
  pub keep-fewer : (history : List Event) (rows less : List ℕ) → ((b : Bit) → IsSetIn less b → IsSetIn rows b) → KeepToOwners limits config history (IsSetIn rows)
      → KeepToOwners limits config history (IsSetIn less)
  keep-fewer history rows less fewer keep = record {
    claimed = λ slice column b set. keep.claimed slice column b (fewer b set);
    among = λ slice column b e set. keep.among slice column b e (fewer b set);
  }

  -- and each pass knows what it has to
  pub knows-fewer : (history : List Event) (rows less : List ℕ) (pass : ℕ) (asked : List Event) (own : List Fact) → ((b : Bit) → IsSetIn less b → IsSetIn rows b)
      → KnowsItsBits limits config history rows pass asked own → KnowsItsBits limits config history less pass asked own
  knows-fewer history rows less pass asked own fewer knows = record {
    pending = λ slice column b last set. knows.pending slice column b last (fewer b set);
    outstanding = knows.outstanding;
  }

  pub role-fewer : (history : List Event) (rows less : List ℕ) (asked : List Event) (own : List Fact) → ((b : Bit) → IsSetIn less b → IsSetIn rows b) → (role : Role)
      → KnowsByRole limits config history rows asked own role → KnowsByRole limits config history less asked own role
  role-fewer history rows less asked own fewer (role.Home numbered seats) knows = tt
  role-fewer history rows less asked own fewer (role.Pass pass) knows = knows-fewer history rows less pass asked own fewer knows
  role-fewer history rows less asked own fewer role.Note knows = tt
  role-fewer history rows less asked own fewer role.Spent knows = tt

  module _ (history : List Event) (rows : List ℕ) (pass : ℕ) (asked : List Event) (own : List Fact) (all : asked ≡ made_by pass history) where
    -- a pass with nothing outstanding that did one thing more
    pub knows-own : (f : Fact) → KnowsItsBits limits config history rows pass asked own → KnowsItsBits limits config history rows pass asked (f ∷ own)
    knows-own f knows = record {
      pending = λ slice column b last set owns.
          Contains-append_right (f ∷ []) own (fact.BitSet (last_number pass history) b) (knows.pending slice column b last set owns);
      outstanding = λ e more. absurd (none_further (made_by pass history) asked e all more);
    }

    -- or that asked an event, which has the bits that it knows if it is an add or a move
    pub knows-asked : (e : Event) → HasKnownBits (last_number pass history) own e → KnowsItsBits limits config history rows pass asked own
        → KnowsItsBits limits config history rows pass (asked ++ e ∷ []) own
    knows-asked e known knows = record {
      pending = knows.pending;
      outstanding = λ x more.
          let rest : e ∷ [] ≡ x ∷ [] = (split_same asked (made_by pass history) (e ∷ []) (x ∷ []) (ap length all) more).1 in
          subst (HasKnownBits (last_number pass history) own) (cc rest) known;
    }

  -- an add or a move that a pass asked has each set bit that its column owns
  pub known_among : (history : List Event) (rows : List ℕ) (pass : ℕ) (asked : List Event) (own : List Fact) (e : Event) → KnowsItsBits limits config history rows pass asked own
      → pass_of e ≡ pass → IsAllowed limits history e → asked ≡ made_by pass history ++ e ∷ []
      → (slice column : ℕ) (b : Bit) → is_some (put_on slice column e) ≡ true → IsSetIn rows b → Owns limits config history slice column b → Contains (bits_on slice column e) b
  known_among history rows pass asked own (event.Add p id text s c bits) knows its allowed more slice column b puts set owns =
      let at = put_there s c slice column id puts in
      let taken : last_by pass history ≡ Some (event.Take pass slice column) = let last = allowed.rule.taken in cc (last, its, at.0, at.1) in
      subst (λ t. Contains (cond t bits []) b) (sym (ap (λ t. t && c == column) (eq-eqb s slice at.0) ∙ eq-eqb c column at.1))
      (knows.outstanding (event.Add p id text s c bits) more b (knows.pending slice column b taken set owns))
  known_among history rows pass asked own (event.Move p id s c bits) knows its allowed more slice column b puts set owns =
      let at = put_there s c slice column id puts in
      let taken : last_by pass history ≡ Some (event.Take pass slice column) = let last = allowed.rule.taken in cc (last, its, at.0, at.1) in
      subst (λ t. Contains (cond t bits []) b) (sym (ap (λ t. t && c == column) (eq-eqb s slice at.0) ∙ eq-eqb c column at.1))
      (knows.outstanding (event.Move p id s c bits) more b (knows.pending slice column b taken set owns))
  known_among history rows pass asked own _ knows its allowed more slice column b puts set owns = absurd (false≢true puts)

  -- what owns a bit after an event that doesn't clear the slice owned it before
  owns_before : (history : List Event) (e : Event) (slice column : ℕ) (b : Bit) → clears slice e ≡ false → Owns limits config (history ++ e ∷ []) slice column b
      → Owns limits config history slice column b
  owns_before history e slice column b stays owns = record {
    in_engine = owns.in_engine;
    treated = subst (λ (k : Config). OwnsIn limits.slice_words k slice column b) (treat-later config slice history (e ∷ []) (or_from (clears slice e) false stays refl)) owns.treated;
  }

  module _ (history : List Event) (rows : List ℕ) (e : Event) (legal : IsLegal limits history) (allowed : IsAllowed limits history e)
      (keep : KeepToOwners limits config history (IsSetIn rows)) where
    -- a column of a slice that is cleared next is claimed
    cleared_claimed : (slice column : ℕ) (b : Bit) → clears slice e ≡ true → Owns limits config (history ++ e ∷ []) slice column b → is_claimed slice column history ≡ true
    cleared_claimed slice column b cleared owns =
        let clear : IsAllowed limits history (event.Clear (pass_of e) slice) = subst (IsAllowed limits history) (clears_is slice e cleared) allowed in
        let over = clear.rule.can_clear.retired.over column owns.in_engine in
        over_is_claimed limits history slice column over.0 legal over.1 over.2

    -- the column that owns a set bit was claimed before the event
    was_claimed : (slice column : ℕ) (b : Bit) (cleared : Bool) → clears slice e ≡ cleared → IsSetIn rows b → Owns limits config (history ++ e ∷ []) slice column b
        → is_claimed slice column history ≡ true
    was_claimed slice column b true is set owns = cleared_claimed slice column b is owns
    was_claimed slice column b false is set owns = keep.claimed slice column b set (owns_before history e slice column b is owns)

    -- and is so after it: where a slice is opened none of its bits is set
    still_claimed : ((slice : ℕ) → opens slice e ≡ true → IsZeroIn limits rows slice) → (slice column : ℕ) (b : Bit) (opened : Bool) → opens slice e ≡ opened → IsSetIn rows b
        → Owns limits config (history ++ e ∷ []) slice column b → is_claimed slice column (history ++ e ∷ []) ≡ true
    still_claimed zero slice column b true is set owns =
        absurd (zero_has_none b.bit (subst (λ n. IsBitSet n b.bit) (zero slice is b.word owns.treated.inside) set))
    still_claimed zero slice column b false is set owns =
        is_claimed-push slice column history e is
        ∙ or_left (is_claimed slice column history) (claims slice column e) (was_claimed slice column b (clears slice e) refl set owns)

    -- set bits keep to their owners with an event that has those of the column on which it puts a document
    pub keep-push :
        ((slice column : ℕ) (b : Bit) → is_some (put_on slice column e) ≡ true → IsSetIn rows b → Owns limits config history slice column b → Contains (bits_on slice column e) b)
        → ((slice : ℕ) → opens slice e ≡ true → IsZeroIn limits rows slice) → KeepToOwners limits config (history ++ e ∷ []) (IsSetIn rows)
    keep-push puts zero = record {
      claimed = λ slice column b. still_claimed zero slice column b (opens slice e) refl;
      among = λ slice column b x set owns stands. ⊎_elim
          (λ now. subst (λ y. Contains (bits_on slice column y) b) now.0
          (puts slice column b now.1 set (owns_before history e slice column b ((puts_there slice column e now.1).clears_none slice) owns)))
          (λ was. keep.among slice column b x set (owns_before history e slice column b was.1 owns) was.0)
          (stands_before history e slice column x stands);
    }

    -- a pass whose last event isn't the new one owns what it owned, since its slice isn't cleared
    owned_before : (pass slice column : ℕ) (b : Bit) (cleared : Bool) → clears slice e ≡ cleared → last_by pass history ≡ Some (event.Take pass slice column)
        → Owns limits config (history ++ e ∷ []) slice column b → Owns limits config history slice column b
    owned_before pass slice column b true is last owns =
        let clear : IsAllowed limits history (event.Clear (pass_of e) slice) = subst (IsAllowed limits history) (clears_is slice e is) allowed in
        absurd (pending_not_retired limits history slice column pass legal (last_is_pending limits history slice column pass legal last) clear.rule.can_clear.retired)
    owned_before pass slice column b false is last owns = owns_before history e slice column b is owns

    -- a column that is taken next owns no set bit
    taken_unset : (pass slice column : ℕ) (b : Bit) → e ≡ event.Take pass slice column → IsSetIn rows b → Owns limits config (history ++ e ∷ []) slice column b → ⊥
    taken_unset pass slice column b is set owns =
        both_ways (is_claimed slice column history)
        (take_is_unclaimed limits history pass slice column legal (subst (IsAllowed limits history) is allowed))
        (keep.claimed slice column b set (owns_before history e slice column b (ap (clears slice) is) owns))

    -- each pass knows what it has to after the event
    pub knows-push : (pass : ℕ) (asked : List Event) (own : List Fact) → LacksAtMostOne (made_by pass history) asked → KnowsItsBits limits config history rows pass asked own
        → KnowsItsBits limits config (history ++ e ∷ []) rows pass asked own
    knows-push pass asked own lacks knows = ⊎_elim
        (λ (mine : pass_of e ≡ pass). record {
          pending = λ slice column b last set owns.
              absurd (taken_unset pass slice column b (let now = sym (last_by-own pass history e mine) ∙ last in cc) set owns);
          outstanding = λ x more.
              let few = lacks.few in
              let now = more ∙ ap (λ xs. xs ++ x ∷ []) (made_by-own pass history e mine) in
              absurd (omega (arith, ap length now, length-append (made_by pass history ++ e ∷ []) (x ∷ []), length-append (made_by pass history) (e ∷ [])));
        })
        (λ (other : pass_of e ≡ pass → ⊥).
        let number = number-other pass history e other in
        record {
          pending = λ slice column b last set owns.
              let was = sym (last_by-other pass history e other) ∙ last in
              subst (λ n. Contains own (fact.BitSet n b)) (sym number)
              (knows.pending slice column b was set (owned_before pass slice column b (clears slice e) refl was owns));
          outstanding = λ x more.
              subst (λ n. HasKnownBits n own x) (sym number) (knows.outstanding x (more ∙ ap (λ xs. xs ++ x ∷ []) (made_by-other pass history e other)));
        })
        (cases_eq (pass_of e) pass)
