-- What a find with an open token sees of a column is there still.
use Rattle.std.proofs.Common.{◌≡◌, ◌⊎◌, ⊎_elim, inl, inr, ℕ, suc, ◌<◌, Bool, true, false, cond, ◌&&◌, List, [], ◌∷◌, filter_map, Option, Some, None, Contains, refl, sym, ap, ◌∙◌, arith}
use Rattle.std.specs.List.{cons_option}
use Rattle.std.specs.Option.{option_and_then, option_map_or}
use Rattle.std.specs.Prelude.{nat_lt}
use Rattle.std.proofs.lemmas.Bool.{and_parts, ltb-true}
use Rattle.document_store.specs.Documents.{Parts}
use Rattle.document_store.specs.Finding.{kept_at, kept_in, looked_at, looked_in, place_if_live}
use Rattle.document_store.specs.Leaving.{LeavingState}
use Rattle.document_store.specs.Slots.{IsColumn, Table, is_over_in, slot_at}
use Rattle.document_store.specs.declared.column.Column.{Column}
use Rattle.document_store.specs.declared.column.Column.TheVariants as became
use Rattle.document_store.specs.declared.slots.Slot.{Slot}
use Rattle.funnel_model.specs.declared.event.Event.{Event}
use Rattle.token_manager.specs.Guarding.{HasOpened}
use Rattle.commit_desk.specs.Leaving.{AreKept, IsLeftOf}
use Rattle.commit_desk.specs.Resolving.{AreLookedFor}
use Rattle.commit_desk.proofs.Keeping.{column-left}

-- a slot is told by its parts
same_slot : (x y : Slot) → x.column ≡ y.column → x.doc ≡ y.doc → x ≡ y
same_slot x y column doc = ap (λ (c : Column). record { column = c; doc = x.doc }) column ∙ ap (λ (d : Option Parts). record { column = y.column; doc = d }) doc

-- a column that is over has no document for a find that may not ask for it
not_live : (number : ℕ) (c : Column) → is_over_in c ≡ true → ((added since until : ℕ) → c ≡ became.Over added since until → since < number → number < until → ⊥) → place_if_live c number ≡ None
not_live number became.Free over none = refl
not_live number (became.Pending pass) over none = refl
not_live number (became.Live added since) over none = cc
not_live number became.Dropped over none = refl
not_live number (became.Over added since until) over none = by (nat_lt since number && nat_lt number until) refl where
  by : (b : Bool) → (nat_lt since number && nat_lt number until) ≡ b → cond {A = Option ℕ} b (Some added) None ≡ None
  by true is =
      let both = and_parts (nat_lt since number) (nat_lt number until) is in
      absurd (none added since until refl (ltb-true since number both.0) (ltb-true number until both.1))
  by false is = refl

module _ (tokens : List (Option ℕ)) (whole left : Table) (leaving : LeavingState) (is : IsLeftOf whole left) (are : AreKept tokens left leaving) (pass number : ℕ) (opened : HasOpened tokens pass number) where
  -- the column is kept whole, or had no document that the find sees
  whole-or-not-live : (slice column : ℕ) → IsColumn whole slice column →
      (slot_at left slice column ≡ slot_at whole slice column) ⊎ ((place_if_live (slot_at left slice column).column number ≡ None) × (place_if_live (slot_at whole slice column).column number ≡ None))
  whole-or-not-live slice column here =
      let one = is.each slice column here in
      ⊎_elim (λ same. inl (same_slot (slot_at left slice column) (slot_at whole slice column) one.column same))
      (λ gone.
      let none : place_if_live (slot_at whole slice column).column number ≡ None =
      not_live number (slot_at whole slice column).column gone.0
      (λ added since until over after before.
      let there = are.there slice column pass (column-left whole left slice column is here) (record {
        since = since;
        until = until;
        event = number;
        over = (added, one.column ∙ over);
        may_ask = record { opened = opened; after = after; before = before };
      }) in
      none_some there.0 (sym gone.1 ∙ there.1)) in
      inr (ap (λ (c : Column). place_if_live c number) one.column ∙ none, none))
      one.doc
    where
      none_some : (d : Parts) → None ≡ Some d → ⊥
      none_some d is = cc

  -- so the find is given the same of it
  pub kept-same : (test : List ℕ → Bool) (slice column : ℕ) → IsColumn whole slice column → kept_at left test number (slice, column) ≡ kept_at whole test number (slice, column)
  kept-same test slice column here =
      ⊎_elim (λ same. ap (λ (x : Slot). kept_in x test number) same)
      (λ none.
      ap (option_and_then (λ (place : ℕ). option_and_then (λ (doc : Parts). cond {A = Option (ℕ × ℕ)} (test doc.text) (Some (place, doc.id)) None) (slot_at left slice column).doc)) none.0
      ∙ sym (ap (option_and_then (λ (place : ℕ). option_and_then (λ (doc : Parts). cond {A = Option (ℕ × ℕ)} (test doc.text) (Some (place, doc.id)) None) (slot_at whole slice column).doc)) none.1))
      (whole-or-not-live slice column here)

  pub looked-same : (cost slice column : ℕ) → IsColumn whole slice column → looked_at left cost number (slice, column) ≡ looked_at whole cost number (slice, column)
  looked-same cost slice column here =
      ⊎_elim (λ same. ap (λ (x : Slot). looked_in x cost number) same)
      (λ none.
      ap (λ (o : Option ℕ). option_map_or (λ (place : ℕ). option_map_or (λ (doc : Parts). cost) (slot_at left slice column).doc 0) o 0) none.0
      ∙ sym (ap (λ (o : Option ℕ). option_map_or (λ (place : ℕ). option_map_or (λ (doc : Parts). cost) (slot_at whole slice column).doc 0) o 0) none.1))
      (whole-or-not-live slice column here)

  -- and of several
  pub kept-each : (test : List ℕ → Bool) (candidates : List (ℕ × ℕ)) → ((slice column : ℕ) → Contains candidates (slice, column) → IsColumn whole slice column) →
      filter_map (kept_at left test number) candidates ≡ filter_map (kept_at whole test number) candidates
  kept-each test [] each = refl
  kept-each test (candidate ∷ later) each =
      ap (λ (o : Option (ℕ × ℕ)). cons_option o (filter_map (kept_at left test number) later)) (kept-same test candidate.0 candidate.1 (each candidate.0 candidate.1 (0, omega arith, refl)))
      ∙ ap (cons_option (kept_at whole test number candidate)) (kept-each test later (λ slice column has. each slice column (suc has.0, let below = has.1 in omega (arith, below), has.2)))

  pub looked-each : (earlier : List Event) (cost : ℕ) (candidates : List (ℕ × ℕ)) → ((slice column : ℕ) → Contains candidates (slice, column) → IsColumn whole slice column) →
      AreLookedFor earlier cost candidates (looked_at whole cost number) → AreLookedFor earlier cost candidates (looked_at left cost number)
  looked-each earlier cost candidates each looks = record {
    where_live = λ candidate has d since lives. looked-same cost candidate.0 candidate.1 (each candidate.0 candidate.1 has) ∙ looks.where_live candidate has d since lives;
    elsewhere = λ candidate has none. looked-same cost candidate.0 candidate.1 (each candidate.0 candidate.1 has) ∙ looks.elsewhere candidate has none;
  }
