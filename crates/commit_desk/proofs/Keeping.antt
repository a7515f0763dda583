-- Which documents of columns that are over are kept, once a column's record is another, a find begins or ends, and a document goes.
use Rattle.std.proofs.Common.{◌≡◌, ◌≢◌, ◌⊎◌, ⊎_elim, inl, inr, ℕ, zero, suc, ◌+◌, ◌*◌, ◌<◌, ◌≤◌, true, false, cond, List, [], ◌∷◌, length, get_or, set, Option, Some, None, Contains, refl, sym, ap, ◌∙◌, subst, arith}
use Rattle.std.specs.Prelude.{◌==◌, ◌&&◌, replicate, sum_by}
use Rattle.std.proofs.lemmas.Bool.{and_from, both_ways, cases_eq, cases_lt, eq-eqb}
use Rattle.std.proofs.lemmas.List.{get_or-replicate, get_or-set_other, get_or-set_same, get_or_past, length-replicate, length-set}
use Rattle.std.proofs.lemmas.Nat.{mul-add-lt}
use Rattle.std.proofs.lemmas.List.Sums.{get_or-le-sum_by, sum_by-set}
use Rattle.document_store.proofs.LinkLemmas.{one_or_none, times-append, times-cons}
use Rattle.document_store.proofs.SlotLemmas.{apart, length-without_slice, slot_at-with_slot}
use Rattle.document_store.specs.Documents.{Parts}
use Rattle.document_store.specs.Leaving.{IsLeaving, LeavingState, TakesFirst, kept_for, times_in, times_on, with_ended, with_kept}
use Rattle.document_store.specs.Slots.{IsColumn, Table, free_slot, is_out, is_over, slot_at, with_slice, with_slot, without_doc, without_slice}
use Rattle.document_store.specs.declared.column.Column.{Column}
use Rattle.document_store.specs.declared.column.Column.TheVariants as became
use Rattle.document_store.specs.declared.slots.Slot.{Slot}
use Rattle.token_manager.proofs.Newest.{pass_within}
use Rattle.token_manager.specs.Guarding.{IsNewestAsker, MayAsk}
use Rattle.commit_desk.specs.Leaving.{AreKept, IsKeptFor, IsLeft, IsLeftOf, IsOverFrom, IsTaken, LetsGo, MayAskFor, number_in}
use Rattle.commit_desk.proofs.Slots.{with_slot-cases, without_slice-cases}

-- a column of the whole records is one of those that are left, and the other way round
pub column-left : (whole left : Table) (s c : ℕ) → IsLeftOf whole left → IsColumn whole s c → IsColumn left s c
column-left whole left s c is at = record {
  slice_in_range = let h = is.slices in let k = at.slice_in_range in omega (arith, h, k);
  column_in_range = let h = is.columns in let k = at.column_in_range in omega (arith, h, k);
}

pub column-whole : (whole left : Table) (s c : ℕ) → IsLeftOf whole left → IsColumn left s c → IsColumn whole s c
column-whole whole left s c is at = record {
  slice_in_range = let h = is.slices in let k = at.slice_in_range in omega (arith, h, k);
  column_in_range = let h = is.columns in let k = at.column_in_range in omega (arith, h, k);
}

-- and is over where that is
pub over-left : (whole left : Slot) → IsLeft whole left → is_over left ≡ is_over whole
over-left whole left is = ap (λ c. is_over (record { column = c; doc = None })) is.column

-- the slots of a slice are out of those that are left where they are out of the whole records
pub out-left : (whole left : Table) (slice : ℕ) → IsLeftOf whole left → is_out left slice ≡ is_out whole slice
out-left whole left slice is = ap (λ bs. get_or bs slice false) is.out

-- a column is recorded with the same state
pub same-column : (whole left : Table) (s c : ℕ) → IsLeftOf whole left → IsColumn whole s c → (slot_at left s c).column ≡ (slot_at whole s c).column
same-column whole left s c is here = (is.each s c here).column

-- all of the records is left where nothing has gone
pub left-same : (table : Table) → IsLeftOf table table
left-same table = record { slices = refl; columns = refl; out = refl; size = refl; each = λ slice column at. record { column = refl; doc = inl refl } }

-- and nothing is kept where each column is free
pub kept-none : (tokens : List (Option ℕ)) (table : Table) (leaving : LeavingState) (passes : ℕ) → tokens ≡ replicate passes None → leaving.asked ≡ replicate passes [] →
    leaving.columns ≡ table.slices * table.columns → table.slots ≡ replicate (table.slices * table.columns) free_slot → AreKept tokens table leaving
kept-none tokens table leaving passes none empty columns free = record {
  passes_are = ap length empty ∙ length-replicate passes [] ∙ sym (length-replicate passes None) ∙ ap length (sym none);
  columns_are = columns;
  there = λ slice column pass at asks. absurd (free_is_none (slot_at table slice column) pass (slot_free slice column at) asks);
  listed = λ slice column doc at over has. absurd (both_ways (is_over (slot_at table slice column)) (ap is_over (slot_free slice column at)) over);
  asked = λ pass slice column at has.
      absurd
      (⊎_elim
      (λ (below : pass < passes).
      let list : kept_for leaving pass ≡ [] = ap (λ (xs : List (List ℕ)). get_or xs pass []) empty ∙ get_or-replicate passes pass [] [] below in
      let in_none : Contains [] (number_in table slice column) = subst (λ (xs : List ℕ). Contains xs (number_in table slice column)) list has in
      let low = in_none.1 in omega (arith, low))
      (λ (past : passes ≤ pass).
      let list : kept_for leaving pass ≡ [] = ap (λ (xs : List (List ℕ)). get_or xs pass []) empty ∙ get_or_past (replicate passes []) pass [] (let h = length-replicate {A = List ℕ} passes [] in omega (arith, h, past)) in
      let in_none : Contains [] (number_in table slice column) = subst (λ (xs : List ℕ). Contains xs (number_in table slice column)) list has in
      let low = in_none.1 in omega (arith, low))
      (cases_lt pass passes));
} where
  slot_free : (slice column : ℕ) → IsColumn table slice column → slot_at table slice column ≡ free_slot
  slot_free slice column at =
      ap (λ (xs : List Slot). get_or xs (slice * table.columns + column) free_slot) free
      ∙ get_or-replicate (table.slices * table.columns) (slice * table.columns + column) free_slot free_slot (let below = mul-add-lt slice table.columns column table.slices at.slice_in_range at.column_in_range in omega (arith, below))

  free_not_over : (added since until : ℕ) → became.Free ≡ became.Over added since until → ⊥
  free_not_over added since until is = cc

  free_is_none : (slot : Slot) (pass : ℕ) → slot ≡ free_slot → MayAskFor tokens slot pass → ⊥
  free_is_none slot pass is asks = free_not_over asks.over.0 asks.since asks.until (sym (ap (λ (x : Slot). x.column) is) ∙ asks.over.1)

-- the record of a column is another
module _ (whole left : Table) (is : IsLeftOf whole left) (size : length whole.slots ≡ whole.slices * whole.columns) where
  pub size-left : length left.slots ≡ left.slices * left.columns
  size-left = is.size ∙ size ∙ ap (λ n. n * whole.columns) (sym is.slices) ∙ ap (λ n. left.slices * n) (sym is.columns)

  pub left-slot : (s c : ℕ) (y z : Slot) → IsColumn whole s c → IsLeft y z → IsLeftOf (with_slot whole s c y) (with_slot left s c z)
  left-slot s c y z here new = record {
    slices = is.slices;
    columns = is.columns;
    out = is.out;
    size = length-set left.slots (s * left.columns + c) z ∙ is.size ∙ sym (length-set whole.slots (s * whole.columns + c) y);
    each = λ slice column at'.
        let at : IsColumn whole slice column = record { slice_in_range = at'.slice_in_range; column_in_range = at'.column_in_range } in
        let here_left = column-left whole left s c is here in
        let at_left = column-left whole left slice column is at in
        ⊎_elim
        (λ one.
        let own : IsLeft y z = new in
        subst (λ (x : Slot). IsLeft x (slot_at (with_slot left s c z) slice column)) (sym one.3)
        (subst (IsLeft y)
        (sym (subst (λ k. slot_at (with_slot left s c z) k column ≡ z) (sym one.1)
        (subst (λ k. slot_at (with_slot left s c z) s k ≡ z) (sym one.2) (slot_at-with_slot left s c z here_left size-left)))) own))
        (λ other.
        ⊎_elim (λ one. absurd (both_ways (s == slice && c == column) other.0 one.0))
        (λ too. subst (λ (x : Slot). IsLeft x (slot_at (with_slot left s c z) slice column)) (sym other.1) (subst (IsLeft (slot_at whole slice column)) (sym too.1) (is.each slice column at)))
        (with_slot-cases left s c z slice column here_left at_left size-left))
        (with_slot-cases whole s c y slice column here at size);
  }

  -- the slots of a slice are taken out
  pub left-out : (s : ℕ) → s < whole.slices → IsLeftOf (without_slice whole s) (without_slice left s)
  left-out s in' = record {
    slices = is.slices;
    columns = is.columns;
    out = ap (λ bs. set bs s true) is.out;
    size = length-without_slice left s within size-left ∙ is.size ∙ sym (length-without_slice whole s in' size);
    each = λ slice column at'.
        let at : IsColumn whole slice column = record { slice_in_range = at'.slice_in_range; column_in_range = at'.column_in_range } in
        let at_left = column-left whole left slice column is at in
        ⊎_elim
        (λ one.
        ⊎_elim
        (λ too.
        subst (λ (x : Slot). IsLeft x (slot_at (without_slice left s) slice column)) (sym one.1)
        (subst (IsLeft free_slot) (sym too.1) (record { column = refl; doc = inl refl })))
        (λ apart. absurd (apart.0 one.0))
        (without_slice-cases left s slice column within at_left size-left))
        (λ other.
        ⊎_elim (λ too. absurd (other.0 too.0))
        (λ apart. subst (λ (x : Slot). IsLeft x (slot_at (without_slice left s) slice column)) (sym other.1) (subst (IsLeft (slot_at whole slice column)) (sym apart.1) (is.each slice column at)))
        (without_slice-cases left s slice column within at_left size-left))
        (without_slice-cases whole s slice column in' at size);
  } where
    within : s < left.slices
    within = let h = is.slices in omega (arith, h, in')

  -- and put back
  pub left-back : (s : ℕ) → IsLeftOf (with_slice whole s) (with_slice left s)
  left-back s = record {
    slices = is.slices;
    columns = is.columns;
    out = ap (λ bs. set bs s false) is.out;
    size = is.size;
    each = λ slice column at. is.each slice column (record { slice_in_range = at.slice_in_range; column_in_range = at.column_in_range });
  }

module _ (tokens : List (Option ℕ)) (table : Table) (leaving : LeavingState) (are : AreKept tokens table leaving) where
  -- no find may ask for the document of a column that isn't over
  pub none-asks-for : (slot : Slot) (pass : ℕ) → is_over slot ≡ false → MayAskFor tokens slot pass → ⊥
  none-asks-for slot pass not_over asks = both_ways (is_over slot) not_over (ap (λ c. is_over (record { column = c; doc = None })) asks.over.1)

  -- so a column that isn't over is on no pass's list
  pub kept_is_over : (pass slice column : ℕ) → IsColumn table slice column → is_over (slot_at table slice column) ≡ false → Contains (kept_for leaving pass) (number_in table slice column) → ⊥
  kept_is_over pass slice column at not_over has = none-asks-for (slot_at table slice column) pass not_over (are.asked pass slice column at has)

  -- a column's record that wasn't over is another, for whose document no find may ask, and which has none if it is over
  pub kept-slot : (s c : ℕ) (y : Slot) → length table.slots ≡ table.slices * table.columns → IsColumn table s c → is_over (slot_at table s c) ≡ false →
      ((since until : ℕ) → IsOverFrom y since until → ⊥) → ((doc : Parts) → is_over y ≡ true → y.doc ≡ Some doc → ⊥) → AreKept tokens (with_slot table s c y) leaving
  kept-slot s c y size here not_over none_over none_there = record {
    passes_are = are.passes_are;
    columns_are = are.columns_are;
    there = λ slice column pass at' asks.
        let at : IsColumn table slice column = record { slice_in_range = at'.slice_in_range; column_in_range = at'.column_in_range } in
        ⊎_elim
        (λ one. let is = subst (λ (x : Slot). MayAskFor tokens x pass) one.3 asks in absurd (none_over is.since is.until is.over))
        (λ other. subst (λ (x : Slot). (doc : Parts) × (x.doc ≡ Some doc)) (sym other.1) (are.there slice column pass at (subst (λ (x : Slot). MayAskFor tokens x pass) other.1 asks)))
        (with_slot-cases table s c y slice column here at size);
    listed = λ slice column doc at' over has.
        let at : IsColumn table slice column = record { slice_in_range = at'.slice_in_range; column_in_range = at'.column_in_range } in
        ⊎_elim
        (λ one. absurd (none_there doc (sym (ap is_over one.3) ∙ over) (sym (ap (λ (x : Slot). x.doc) one.3) ∙ has)))
        (λ other. are.listed slice column doc at (sym (ap is_over other.1) ∙ over) (sym (ap (λ (x : Slot). x.doc) other.1) ∙ has))
        (with_slot-cases table s c y slice column here at size);
    asked = λ pass slice column at' has.
        let at : IsColumn table slice column = record { slice_in_range = at'.slice_in_range; column_in_range = at'.column_in_range } in
        ⊎_elim
        (λ one.
        absurd (kept_is_over pass s c here not_over (subst (λ n. Contains (kept_for leaving pass) n) (ap (λ k. number_in table k column) one.1 ∙ ap (λ k. number_in table s k) one.2) has)))
        (λ other. subst (λ (x : Slot). MayAskFor tokens x pass) (sym other.1) (are.asked pass slice column at has))
        (with_slot-cases table s c y slice column here at size);
  }

  -- the slots of a slice are taken out, for none of whose documents a find may ask
  pub kept-out : (s : ℕ) → length table.slots ≡ table.slices * table.columns → s < table.slices →
      ((column pass : ℕ) → IsColumn table s column → MayAskFor tokens (slot_at table s column) pass → ⊥) → AreKept tokens (without_slice table s) leaving
  kept-out s size in' none = record {
    passes_are = are.passes_are;
    columns_are = are.columns_are;
    there = λ slice column pass at' asks.
        let at : IsColumn table slice column = record { slice_in_range = at'.slice_in_range; column_in_range = at'.column_in_range } in
        ⊎_elim
        (λ one. absurd (none-asks-for free_slot pass refl (subst (λ (x : Slot). MayAskFor tokens x pass) one.1 asks)))
        (λ other. subst (λ (x : Slot). (doc : Parts) × (x.doc ≡ Some doc)) (sym other.1) (are.there slice column pass at (subst (λ (x : Slot). MayAskFor tokens x pass) other.1 asks)))
        (without_slice-cases table s slice column in' at size);
    listed = λ slice column doc at' over has.
        let at : IsColumn table slice column = record { slice_in_range = at'.slice_in_range; column_in_range = at'.column_in_range } in
        ⊎_elim
        (λ one. absurd (both_ways (is_over (slot_at (without_slice table s) slice column)) (ap is_over one.1) over))
        (λ other. are.listed slice column doc at (sym (ap is_over other.1) ∙ over) (sym (ap (λ (x : Slot). x.doc) other.1) ∙ has))
        (without_slice-cases table s slice column in' at size);
    asked = λ pass slice column at' has.
        let at : IsColumn table slice column = record { slice_in_range = at'.slice_in_range; column_in_range = at'.column_in_range } in
        ⊎_elim
        (λ one. absurd (none column pass (subst (λ k. IsColumn table k column) one.0 at) (subst (λ k. MayAskFor tokens (slot_at table k column) pass) one.0 (are.asked pass slice column at has))))
        (λ other. subst (λ (x : Slot). MayAskFor tokens x pass) (sym other.1) (are.asked pass slice column at has))
        (without_slice-cases table s slice column in' at size);
  }

  -- and put back
  pub kept-back : (s : ℕ) → AreKept tokens (with_slice table s) leaving
  kept-back s = record {
    passes_are = are.passes_are;
    columns_are = are.columns_are;
    there = λ slice column pass at. are.there slice column pass (record { slice_in_range = at.slice_in_range; column_in_range = at.column_in_range });
    listed = λ slice column doc at. are.listed slice column doc (record { slice_in_range = at.slice_in_range; column_in_range = at.column_in_range });
    asked = λ pass slice column at. are.asked pass slice column (record { slice_in_range = at.slice_in_range; column_in_range = at.column_in_range });
  }

  -- a pass that has no find open begins one, after all documents that have left their columns
  pub kept-opened : (pass event : ℕ) → pass < length tokens → get_or tokens pass None ≡ None →
      ((slice column since until : ℕ) → IsColumn table slice column → IsOverFrom (slot_at table slice column) since until → until ≤ event) → AreKept (set tokens pass (Some event)) table leaving
  kept-opened pass event in' none latest = record {
    passes_are = are.passes_are ∙ sym (length-set tokens pass (Some event));
    columns_are = are.columns_are;
    there = λ slice column other at asks.
        ⊎_elim
        (λ (same : other ≡ pass).
        let opened : Some event ≡ Some asks.event = sym (get_or-set_same tokens pass (Some event) None in') ∙ ap (λ k. get_or (set tokens pass (Some event)) k None) (sym same) ∙ asks.may_ask.opened in
        let late = latest slice column asks.since asks.until at asks.over in
        let before = asks.may_ask.before in
        let e : event ≡ asks.event = cc in
        absurd (omega (arith, late, before, e)))
        (λ (apart : other ≢ pass).
        are.there slice column other at (record {
          since = asks.since;
          until = asks.until;
          event = asks.event;
          over = asks.over;
          may_ask = record { opened = sym (get_or-set_other tokens pass other (Some event) None apart) ∙ asks.may_ask.opened; after = asks.may_ask.after; before = asks.may_ask.before };
        }))
        (cases_eq other pass);
    listed = are.listed;
    asked = λ other slice column at has.
        let asks = are.asked other slice column at has in
        let apart : other ≢ pass = λ same. none_some asks.event (sym none ∙ ap (λ k. get_or tokens k None) (sym same) ∙ asks.may_ask.opened) in record {
          since = asks.since;
          until = asks.until;
          event = asks.event;
          over = asks.over;
          may_ask = record { opened = get_or-set_other tokens pass other (Some event) None apart ∙ asks.may_ask.opened; after = asks.may_ask.after; before = asks.may_ask.before };
        };
  } where
    none_some : (y : ℕ) → None ≡ Some y → ⊥
    none_some y is = cc

  -- a pass's find ends, and the columns that were kept for it are to be freed
  times-ended : (pass d : ℕ) → pass < length leaving.asked → times_on (with_ended leaving pass) d ≡ times_on leaving d
  times-ended pass d in' =
      let h = sum_by-set (times_in d) leaving.asked pass [] [] in' in
      let k = times-append d (kept_for leaving pass) leaving.to_free in
      omega (arith, h, k)

  pub kept-ended : (pass : ℕ) → pass < length tokens → AreKept (set tokens pass None) table (with_ended leaving pass)
  kept-ended pass in' =
      let within : pass < length leaving.asked = let h = are.passes_are in omega (arith, h, in') in record {
        passes_are = length-set leaving.asked pass [] ∙ are.passes_are ∙ sym (length-set tokens pass None);
        columns_are = are.columns_are;
        there = λ slice column other at asks.
            ⊎_elim
            (λ (same : other ≡ pass).
            absurd (none_some asks.event (sym (get_or-set_same tokens pass None None in') ∙ ap (λ k. get_or (set tokens pass None) k None) (sym same) ∙ asks.may_ask.opened)))
            (λ (apart : other ≢ pass).
            are.there slice column other at (record {
              since = asks.since;
              until = asks.until;
              event = asks.event;
              over = asks.over;
              may_ask = record { opened = sym (get_or-set_other tokens pass other None None apart) ∙ asks.may_ask.opened; after = asks.may_ask.after; before = asks.may_ask.before };
            }))
            (cases_eq other pass);
        listed = λ slice column doc at over has. let h = are.listed slice column doc at over has in let k = times-ended pass (number_in table slice column) within in omega (arith, h, k);
        asked = λ other slice column at has.
            ⊎_elim
            (λ (same : other ≡ pass).
            let empty : get_or (set leaving.asked pass []) other [] ≡ [] = ap (λ k. get_or (set leaving.asked pass []) k []) same ∙ get_or-set_same leaving.asked pass [] [] within in
            let none : Contains [] (number_in table slice column) = subst (λ (xs : List ℕ). Contains xs (number_in table slice column)) empty has in
            absurd (let below = none.1 in omega (arith, below)))
            (λ (apart : other ≢ pass).
            let asks = are.asked other slice column at (subst (λ (xs : List ℕ). Contains xs (number_in table slice column)) (get_or-set_other leaving.asked pass other [] [] apart) has) in record {
              since = asks.since;
              until = asks.until;
              event = asks.event;
              over = asks.over;
              may_ask = record { opened = get_or-set_other tokens pass other None None apart ∙ asks.may_ask.opened; after = asks.may_ask.after; before = asks.may_ask.before };
            })
            (cases_eq other pass);
      }
    where
      none_some : (y : ℕ) → None ≡ Some y → ⊥
      none_some y is = cc

-- The documents are kept rightly but for one column, which is on no pass's list.
pub record AreKeptBut (tokens : List (Option ℕ)) (table : Table) (leaving : LeavingState) (s c : ℕ) : Type 0 where
  pub passes_are : length leaving.asked ≡ length tokens
  pub columns_are : leaving.columns ≡ table.slices * table.columns
  pub there : (slice column pass : ℕ) → IsColumn table slice column → MayAskFor tokens (slot_at table slice column) pass → (doc : Parts) × ((slot_at table slice column).doc ≡ Some doc)
  pub listed : (slice column : ℕ) (doc : Parts) → IsColumn table slice column → (s ≡ slice → c ≡ column → ⊥) → is_over (slot_at table slice column) ≡ true →
      (slot_at table slice column).doc ≡ Some doc → IsLeaving leaving (number_in table slice column)
  pub asked : (pass slice column : ℕ) → IsColumn table slice column → (s ≡ slice → c ≡ column → ⊥) → Contains (kept_for leaving pass) (number_in table slice column) →
      MayAskFor tokens (slot_at table slice column) pass
  pub not_asked : (pass : ℕ) → Contains (kept_for leaving pass) (number_in table s c) → ⊥

-- a column is on a list that has it
pub contains-times : (xs : List ℕ) (n : ℕ) → Contains xs n → 1 ≤ times_in n xs
contains-times [] n has = absurd (let below = has.1 in omega (arith, below))
contains-times (x ∷ xs) n (zero, in', is) =
    ⊎_elim (λ one. omega (arith, one.1, times-cons n x xs)) (λ apart. absurd (apart.0 (sym is))) (one_or_none n x)
contains-times (x ∷ xs) n (suc k, in', is) = let h = contains-times xs n (k, omega (arith, in'), is) in let t = times-cons n x xs in omega (arith, h, t)

-- and such a column is that one or is on the rest
pub contains-cons : (x : ℕ) (xs : List ℕ) (n : ℕ) → Contains (x ∷ xs) n → (n ≡ x) ⊎ Contains xs n
contains-cons x xs n (zero, in', is) = inl (sym is)
contains-cons x xs n (suc k, in', is) = inr (k, omega (arith, in'), is)

-- two columns stand apart
not_both : (s slice c column : ℕ) → (s == slice && c == column) ≡ false → s ≡ slice → c ≡ column → ⊥
not_both s slice c column not one two = both_ways (s == slice && c == column) not (and_from (s == slice) (c == column) (eq-eqb s slice one) (eq-eqb c column two))

-- two columns with one number are one
pub one-column : (table : Table) (slice column s c : ℕ) → IsColumn table slice column → IsColumn table s c → number_in table slice column ≡ number_in table s c → (slice ≡ s) × (column ≡ c)
one-column table slice column s c at here same =
    ⊎_elim
    (λ (is : slice ≡ s).
    let e : slice * table.columns ≡ s * table.columns = ap (λ k. k * table.columns) is in
    (is, omega (arith, e, same)))
    (λ (ne : slice ≢ s). absurd (apart table.columns slice column s c at.column_in_range here.column_in_range (λ one two. ne one) same))
    (cases_eq slice s)

-- the numbers of a column that is over are its own
abbrev since_of : Column → ℕ
since_of (became.Over added since until) = since
since_of c = 0

abbrev until_of : Column → ℕ
until_of (became.Over added since until) = until
until_of c = 0

over_same : (slot : Slot) (since until other later : ℕ) → IsOverFrom slot since until → IsOverFrom slot other later → (since ≡ other) × (until ≡ later)
over_same slot since until other later one two = (ap since_of (sym one.1 ∙ two.1), ap until_of (sym one.1 ∙ two.1))

module _ (tokens : List (Option ℕ)) (table : Table) (leaving : LeavingState) (s c since until : ℕ) (are : AreKeptBut tokens table leaving s c) (size : length table.slots ≡ table.slices * table.columns)
    (here : IsColumn table s c) (over : IsOverFrom (slot_at table s c) since until) where
  is_over_here : is_over (slot_at table s c) ≡ true
  is_over_here = ap (λ k. is_over (record { column = k; doc = None })) over.1

  -- the find of a pass may ask for the document of the column
  asks_here : (pass : ℕ) → IsNewestAsker tokens since until pass → MayAskFor tokens (slot_at table s c) pass
  asks_here pass asker = record { since = since; until = until; event = asker.event; over = over; may_ask = asker.may_ask }

  -- its document is taken
  pub goes : (after : LeavingState) (next : Table) (gone : Option Parts) → IsTaken tokens s c since until leaving after table next gone → AreKept tokens next after
  goes after next _ is =
      let y = without_doc (slot_at table s c) in
      subst (λ (l : LeavingState). AreKept tokens next l) (sym is.leaving)
      (subst (λ (t : Table). AreKept tokens t leaving) (sym is.table_is)
      (record {
        passes_are = are.passes_are;
        columns_are = are.columns_are;
        there = λ slice column pass at' asks.
            let at : IsColumn table slice column = record { slice_in_range = at'.slice_in_range; column_in_range = at'.column_in_range } in
            ⊎_elim
            (λ one.
            let own = subst (λ (x : Slot). MayAskFor tokens x pass) one.3 asks in
            let same = over_same (slot_at table s c) own.since own.until since until own.over over in
            absurd (is.none_asks pass own.event (subst (λ n. MayAsk tokens n until pass own.event) same.0 (subst (λ n. MayAsk tokens own.since n pass own.event) same.1 own.may_ask))))
            (λ other. subst (λ (x : Slot). (doc : Parts) × (x.doc ≡ Some doc)) (sym other.1) (are.there slice column pass at (subst (λ (x : Slot). MayAskFor tokens x pass) other.1 asks)))
            (with_slot-cases table s c y slice column here at size);
        listed = λ slice column doc at' over_there has.
            let at : IsColumn table slice column = record { slice_in_range = at'.slice_in_range; column_in_range = at'.column_in_range } in
            ⊎_elim
            (λ one. absurd (none_some doc (sym (ap (λ (x : Slot). x.doc) one.3) ∙ has)))
            (λ other. are.listed slice column doc at (not_both s slice c column other.0) (sym (ap is_over other.1) ∙ over_there) (sym (ap (λ (x : Slot). x.doc) other.1) ∙ has))
            (with_slot-cases table s c y slice column here at size);
        asked = λ pass slice column at' has.
            let at : IsColumn table slice column = record { slice_in_range = at'.slice_in_range; column_in_range = at'.column_in_range } in
            ⊎_elim
            (λ one. absurd (are.not_asked pass (subst (λ n. Contains (kept_for leaving pass) n) (ap (λ k. number_in table k column) one.1 ∙ ap (λ k. number_in table s k) one.2) has)))
            (λ other. subst (λ (x : Slot). MayAskFor tokens x pass) (sym other.1) (are.asked pass slice column at (not_both s slice c column other.0) has))
            (with_slot-cases table s c y slice column here at size);
      }))
    where
      none_some : (d : Parts) → None ≡ Some d → ⊥
      none_some d is = cc

  -- or it is kept, and the column is on a list already
  kept_before : IsLeaving leaving (number_in table s c) → AreKept tokens table leaving
  kept_before on = record {
    passes_are = are.passes_are;
    columns_are = are.columns_are;
    there = are.there;
    listed = λ slice column doc at over_there has.
        ⊎_elim
        (λ (one : slice ≡ s).
        ⊎_elim
        (λ (two : column ≡ c). subst (λ k. IsLeaving leaving (number_in table k column)) (sym one) (subst (λ k. IsLeaving leaving (number_in table s k)) (sym two) on))
        (λ ne. are.listed slice column doc at (λ same too. ne (sym too)) over_there has) (cases_eq column c))
        (λ ne. are.listed slice column doc at (λ same too. ne (sym same)) over_there has) (cases_eq slice s);
    asked = λ pass slice column at has.
        ⊎_elim
        (λ (one : slice ≡ s).
        ⊎_elim
        (λ (two : column ≡ c). absurd (are.not_asked pass (subst (λ n. Contains (kept_for leaving pass) n) (ap (λ k. number_in table k column) one ∙ ap (λ k. number_in table s k) two) has)))
        (λ ne. are.asked pass slice column at (λ same too. ne (sym too)) has) (cases_eq column c))
        (λ ne. are.asked pass slice column at (λ same too. ne (sym same)) has) (cases_eq slice s);
  }

  -- or it is put on a pass's list
  module _ (pass : ℕ) (asker : IsNewestAsker tokens since until pass) where
    abbrev n : ℕ
    n = number_in table s c

    within : pass < length leaving.asked
    within = let h = are.passes_are in let k = pass_within tokens pass asker.event asker.may_ask.opened in omega (arith, h, k)

    times_more : (d : ℕ) → times_on (with_kept leaving pass n) d ≡ times_on leaving d + cond (d == n) 1 0
    times_more d =
        let h = sum_by-set (times_in d) leaving.asked pass (n ∷ kept_for leaving pass) [] within in
        let k = times-cons d n (kept_for leaving pass) in
        omega (arith, h, k)

    kept_now : (other m : ℕ) → Contains (kept_for (with_kept leaving pass n) other) m → ((other ≡ pass) × (m ≡ n)) ⊎ Contains (kept_for leaving other) m
    kept_now other m has =
        ⊎_elim
        (λ (same : other ≡ pass).
        let list : kept_for (with_kept leaving pass n) other ≡ n ∷ kept_for leaving pass =
        ap (kept_for (with_kept leaving pass n)) same ∙ get_or-set_same leaving.asked pass (n ∷ kept_for leaving pass) [] within in
        ⊎_elim (λ first. inl (same, first)) (λ rest. inr (subst (λ k. Contains (kept_for leaving k) m) (sym same) rest))
        (contains-cons n (kept_for leaving pass) m (subst (λ (xs : List ℕ). Contains xs m) list has)))
        (λ (ne : other ≢ pass). inr (subst (λ (xs : List ℕ). Contains xs m) (get_or-set_other leaving.asked pass other (n ∷ kept_for leaving pass) [] ne) has))
        (cases_eq other pass)

    kept_then : AreKept tokens table (with_kept leaving pass n)
    kept_then = record {
      passes_are = length-set leaving.asked pass (n ∷ kept_for leaving pass) ∙ are.passes_are;
      columns_are = are.columns_are;
      there = are.there;
      listed = λ slice column doc at over_there has.
          let m = number_in table slice column in
          let more = times_more m in
          ⊎_elim (λ one. omega (arith, one.1, more))
          (λ other.
          let before = are.listed slice column doc at (λ same too. other.0 (ap (λ k. number_in table k column) (sym same) ∙ ap (λ k. number_in table s k) (sym too))) over_there has in
          omega (arith, before, more)) (one_or_none m n);
      asked = λ other slice column at has.
          ⊎_elim
          (λ own.
          let one = one-column table slice column s c at here own.1 in
          subst (λ p. MayAskFor tokens (slot_at table slice column) p) (sym own.0)
          (subst (λ k. MayAskFor tokens (slot_at table k column) pass) (sym one.0) (subst (λ k. MayAskFor tokens (slot_at table s k) pass) (sym one.1) (asks_here pass asker))))
          (λ rest.
          are.asked other slice column at
          (λ same too. are.not_asked other (subst (λ k. Contains (kept_for leaving other) k) (ap (λ k. number_in table k column) (sym same) ∙ ap (λ k. number_in table s k) (sym too)) rest)) rest)
          (kept_now other (number_in table slice column) has);
    }

  pub stays : (after : LeavingState) (next : Table) (gone : Option Parts) → IsKeptFor tokens s c since until leaving after table next gone → AreKept tokens next after
  stays after next _ is =
      subst (λ (t : Table). AreKept tokens t after) (sym is.table_is)
      (⊎_elim
      (λ already. subst (AreKept tokens table) (sym already.1) (kept_before already.0))
      (λ new. subst (AreKept tokens table) (sym new.1) (kept_then is.pass is.asker))
      is.once)

  -- so the documents are kept rightly once it goes or stays
  pub let-go : (after : LeavingState) (next : Table) (gone : Option Parts) → LetsGo tokens s c since until leaving after table next gone → AreKept tokens next after
  let-go after next gone lets = ⊎_elim (goes after next gone) (stays after next gone) lets

-- The first column is taken off those whose documents are to be freed, and is on no list then. So the documents are kept rightly but for it.
module _ (tokens : List (Option ℕ)) (table : Table) (before after : LeavingState) (s c : ℕ) (are : AreKept tokens table before) (first : TakesFirst before (number_in table s c) after)
    (off : times_on after (number_in table s c) ≡ 0) (here : IsColumn table s c) where
  times-left : (d : ℕ) → times_on before d ≡ times_on after d + cond (d == number_in table s c) 1 0
  times-left d =
      let h = ap (times_in d) first.was ∙ times-cons d (number_in table s c) after.to_free in
      let k : sum_by (times_in d) before.asked ≡ sum_by (times_in d) after.asked = ap (sum_by (times_in d)) (sym first.asked) in
      omega (arith, h, k)

  same_asked : (pass : ℕ) → kept_for after pass ≡ kept_for before pass
  same_asked pass = ap (λ (xs : List (List ℕ)). get_or xs pass []) first.asked

  pub kept-but : AreKeptBut tokens table after s c
  kept-but = record {
    passes_are = ap length first.asked ∙ are.passes_are;
    columns_are = first.columns ∙ are.columns_are;
    there = are.there;
    listed = λ slice column doc at apart over has.
        let on = are.listed slice column doc at over has in
        let times = times-left (number_in table slice column) in
        ⊎_elim
        (λ one. let same = one-column table slice column s c at here one.0 in absurd (apart (sym same.0) (sym same.1)))
        (λ other. omega (arith, on, times, other.1)) (one_or_none (number_in table slice column) (number_in table s c));
    asked = λ pass slice column at apart has. are.asked pass slice column at (subst (λ (xs : List ℕ). Contains xs (number_in table slice column)) (same_asked pass) has);
    not_asked = λ pass has.
        ⊎_elim
        (λ (within : pass < length after.asked).
        let some = contains-times (kept_for after pass) (number_in table s c) has in
        let most = get_or-le-sum_by (times_in (number_in table s c)) after.asked pass [] within in
        omega (arith, some, most, off))
        (λ (past : length after.asked ≤ pass).
        let in_none : Contains [] (number_in table s c) = subst (λ (xs : List ℕ). Contains xs (number_in table s c)) (get_or_past after.asked pass [] past) has in
        let low = in_none.1 in omega (arith, low))
        (cases_lt pass (length after.asked));
  }

  -- and rightly where it isn't over, or has no document
  pub kept-passed : ((doc : Parts) → is_over (slot_at table s c) ≡ true → (slot_at table s c).doc ≡ Some doc → ⊥) → AreKept tokens table after
  kept-passed none = record {
    passes_are = kept-but.passes_are;
    columns_are = kept-but.columns_are;
    there = are.there;
    listed = λ slice column doc at over has.
        ⊎_elim
        (λ (one : slice ≡ s).
        ⊎_elim
        (λ (two : column ≡ c).
        absurd (none doc (subst (λ k. is_over (slot_at table s k) ≡ true) two (subst (λ k. is_over (slot_at table k column) ≡ true) one over))
        (subst (λ k. (slot_at table s k).doc ≡ Some doc) two (subst (λ k. (slot_at table k column).doc ≡ Some doc) one has))))
        (λ ne. kept-but.listed slice column doc at (λ same too. ne (sym too)) over has) (cases_eq column c))
        (λ ne. kept-but.listed slice column doc at (λ same too. ne (sym same)) over has) (cases_eq slice s);
    asked = λ pass slice column at has. are.asked pass slice column at (subst (λ (xs : List ℕ). Contains xs (number_in table slice column)) (same_asked pass) has);
  }
