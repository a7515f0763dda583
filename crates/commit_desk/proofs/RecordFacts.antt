-- What follows for a history from the records of its columns and the list of its live numbers.
use Rattle.std.proofs.Common.{◌≡◌, ◌≢◌, ℕ, zero, suc, ◌<◌, Bool, true, false, cond, List, [], ◌∷◌, length, get_or, Option, Some, None, Contains, sym, refl, ap, ◌∙◌, subst, arith}
use Rattle.std.proofs.lemmas.Bool.{eq-eqb, false_from_ne_true, ne_eqb}
use Rattle.std.proofs.lemmas.List.{get_or-replicate}
use Rattle.std.specs.List.{find}
use Rattle.std.specs.Option.{is_some, option_map}
use Rattle.std.specs.Prelude.{◌==◌}
use Rattle.document_store.proofs.SlotLemmas.{slot_at-slots_of}
use Rattle.document_store.specs.Documents.{Parts}
use Rattle.document_store.specs.Entries.{Entries}
use Rattle.document_store.specs.Entries.{column_of as entry_of}
use Rattle.document_store.specs.Slots.{FitsColumn, IsColumn, Table, free_slot, is_out, slot_at}
use Rattle.document_store.specs.declared.column.Column.{Column}
use Rattle.document_store.specs.declared.column.Column.TheVariants as became
use Rattle.document_store.specs.declared.slots.Slot.{Slot}
use Rattle.funnel_model.specs.declared.event.Event.{Event}
use Rattle.funnel_model.specs.declared.event.Event.TheVariants as event
use Rattle.funnel_model.specs.History.{Document, document_with, is_live, last_by, live, live_place}
use Rattle.funnel_model.specs.Legal.{CanClear, IsAllowed, IsLegal, Limits}
use Rattle.funnel_model.specs.Slices.{ColumnState, Unclaimed, Pending, Live, IsInState, IsOver, is_clearing}
use Rattle.funnel_model.proofs.Claims.{take_follows, take_is_unclaimed}
use Rattle.funnel_model.proofs.Clears.{pending_not_clearing}
use Rattle.funnel_model.proofs.Columns.{cleared_is_over, clearing_is_over, last_is_pending, one_state}
use Rattle.funnel_model.proofs.LiveColumns.{live_column_is_live, live_has_column, live_number}
use Rattle.funnel_model.proofs.LiveLemmas.{is_live-from_place, live_once, no_place}
use Rattle.commit_desk.specs.Records.{AreListed, AreRecorded, IsLiveIn, document_added_at, state_of}
use Rattle.commit_desk.proofs.Options.{free_not_live, none_some}
use Rattle.commit_desk.proofs.Slots.{LiveSlot, free_by_state, live_by_state, pending_by_state, state-live}

-- the first document of the list with its number is found by the number
find_first : (ds : List Document) (k : ℕ) (d : Document) → k < length ds → get_or ds k d ≡ d → ((j : ℕ) → j < k → (get_or ds j d).id ≢ d.id) →
    find (λ x. x.id == d.id) ds ≡ Some d
find_first [] k d in' is before = absurd (omega arith)
find_first (x ∷ xs) zero d in' is before = here (x.id == d.id) (eq-eqb x.id d.id (ap (λ (y : Document). y.id) is)) where
  here : (b : Bool) → b ≡ true → cond b (Some x) (find (λ y. y.id == d.id) xs) ≡ Some d
  here true up = ap (λ y. Some y) is
  here false up = cc
find_first (x ∷ xs) (suc k) d in' is before = later (x.id == d.id) (ne_eqb x.id d.id (before 0 (omega arith))) (find_first xs k d (omega arith) is (λ j lt. before (suc j) (omega arith))) where
  later : (b : Bool) → b ≡ false → find (λ y. y.id == d.id) xs ≡ Some d → cond b (Some x) (find (λ y. y.id == d.id) xs) ≡ Some d
  later true up rest = cc
  later false up rest = rest

-- a live document is found by its number
pub found_live : (limits : Limits) (history : List Event) (d : Document) → IsLegal limits history → Contains (live history) d → document_with d.id history ≡ Some d
found_live limits history d legal (k, in', is) =
    find_first (live history) k d in' is (λ j lt same. live_once history j k d lt in' (same ∙ ap (λ (x : Document). x.id) (sym is)))

-- the place of the add of a live document
pub place_of_live : (limits : Limits) (history : List Event) (d : Document) → IsLegal limits history → Contains (live history) d → live_place d.id history ≡ Some d.place
place_of_live limits history d legal contained = ap (option_map (λ (x : Document). x.place)) (found_live limits history d legal contained)

number_of_slot : (slot : Slot) (d : Document) (since : ℕ) (l : LiveSlot slot d since) (id : ℕ) → d.id ≡ id → l.doc.id ≡ id
number_of_slot slot d since l id is = ap (λ (x : Document). x.id) l.is ∙ is

some_place : (n : ℕ) → is_some (Some n) ≡ false → ⊥
some_place n is = cc

pending_not_live : (pass added since : ℕ) → became.Pending pass ≡ became.Live added since → ⊥
pending_not_live pass added since is = cc

-- the slice of a live column isn't being cleared
pub live_not_clearing : (limits : Limits) (history : List Event) (slice column : ℕ) (d : Document) (since : ℕ) → IsLegal limits history → column < limits.columns →
    IsInState history slice column (Live d since) → is_clearing slice history ≡ false
live_not_clearing limits history slice column d since legal below lives =
    false_from_ne_true (is_clearing slice history) (λ clearing. clearing_is_over limits history slice column (Live d since) legal clearing below lives)

module _ (limits : Limits) (history : List Event) (table : Table) (legal : IsLegal limits history) (recorded : AreRecorded limits history table) where
  -- a column of the table
  pub is_column : (slice column : ℕ) → slice < limits.slices → column < limits.columns → IsColumn table slice column
  is_column slice column in' below = record { slice_in_range = let h = recorded.slices_are in omega arith; column_in_range = let h = recorded.columns_are in omega arith }

  -- the columns of a slice that is being cleared are recorded as free
  pub clearing_is_free : (slice column : ℕ) → IsColumn table slice column → is_clearing slice history ≡ true → slot_at table slice column ≡ free_slot
  clearing_is_free slice column at clearing =
      slot_at-slots_of table slice column at.column_in_range
      ∙ ap (λ (slots : List Slot). get_or slots column free_slot) (recorded.cleared slice at.slice_in_range clearing)
      ∙ get_or-replicate table.columns column free_slot free_slot at.column_in_range

  -- so the slice of one that is recorded as live isn't being cleared
  column_is_open : (slice column added since : ℕ) → IsColumn table slice column → (slot_at table slice column).column ≡ became.Live added since → is_clearing slice history ≡ false
  column_is_open slice column added since at lives =
      false_from_ne_true (is_clearing slice history)
      (λ clearing. free_not_live added since (sym (ap (λ (slot : Slot). slot.column) (clearing_is_free slice column at clearing)) ∙ lives))

  pub live_is_open : (slice column : ℕ) (doc : Parts) → IsColumn table slice column → IsLiveIn (slot_at table slice column) doc → is_clearing slice history ≡ false
  live_is_open slice column doc at l = column_is_open slice column l.added l.since at l.column

  -- and it is live
  pub live_recorded : (slice column : ℕ) (doc : Parts) → IsColumn table slice column → (l : IsLiveIn (slot_at table slice column) doc) →
      IsInState history slice column (Live (document_added_at l.added doc) l.since)
  live_recorded slice column doc at l =
      subst (IsInState history slice column) (state-live (slot_at table slice column) doc l) (recorded.each slice column at (live_is_open slice column doc at l)).state

  -- with its document
  pub live_has_doc : (slice column added since : ℕ) → IsColumn table slice column → (slot_at table slice column).column ≡ became.Live added since →
      (doc : Parts) × ((slot_at table slice column).doc ≡ Some doc)
  live_has_doc slice column added since at lives =
      let slot = slot_at table slice column in
      subst (λ (x : Column). FitsColumn x slot.doc) lives (recorded.each slice column at (column_is_open slice column added since at lives)).fits

  -- a column is in the state that is recorded
  pub state_is : (slice column : ℕ) (x : ColumnState) → IsColumn table slice column → is_clearing slice history ≡ false → IsInState history slice column x →
      state_of (slot_at table slice column) ≡ x
  state_is slice column x at uncleared holds = one_state limits history slice column (state_of (slot_at table slice column)) x legal (recorded.each slice column at uncleared).state holds

  -- the column that a pass may take is free
  pub taken_is_free : (pass slice column : ℕ) → IsAllowed limits history (event.Take pass slice column) → IsColumn table slice column → (slot_at table slice column).column ≡ became.Free
  taken_is_free pass slice column allowed at =
      let uncleared = (take_follows limits history pass slice column legal allowed).not_clearing in
      free_by_state (slot_at table slice column) (recorded.each slice column at uncleared).fits
      (state_is slice column Unclaimed at uncleared (take_is_unclaimed limits history pass slice column legal allowed))

  -- its slice's slots are in the records
  pub taken_is_there : (pass slice column : ℕ) → IsAllowed limits history (event.Take pass slice column) → IsColumn table slice column → is_out table slice ≡ false
  taken_is_there pass slice column allowed at = recorded.out slice at.slice_in_range ∙ (take_follows limits history pass slice column legal allowed).not_clearing

  -- and it has no live document
  pub none_live_in_free : (pass slice column : ℕ) → IsAllowed limits history (event.Take pass slice column) → IsColumn table slice column → (doc : Parts) → IsLiveIn (slot_at table slice column) doc → ⊥
  none_live_in_free pass slice column allowed at doc l = free_not_live l.added l.since (sym (taken_is_free pass slice column allowed at) ∙ l.column)

  -- the column of a pass's last take is pending by it
  pub taken_is_pending : (pass slice column : ℕ) → last_by pass history ≡ Some (event.Take pass slice column) → IsColumn table slice column → (slot_at table slice column).column ≡ became.Pending pass
  taken_is_pending pass slice column last at =
      let pending = last_is_pending limits history slice column pass legal last in
      let uncleared = pending_not_clearing limits history slice column pass legal pending in
      pending_by_state (slot_at table slice column) pass (recorded.each slice column at uncleared).fits (state_is slice column (Pending pass) at uncleared pending)

  -- and has no live document
  pub none_live_in_pending : (pass slice column : ℕ) → last_by pass history ≡ Some (event.Take pass slice column) → IsColumn table slice column → (doc : Parts) → IsLiveIn (slot_at table slice column) doc → ⊥
  none_live_in_pending pass slice column last at doc l = pending_not_live pass l.added l.since (sym (taken_is_pending pass slice column last at) ∙ l.column)

  -- a slice that can be cleared has no live document
  pub none_live_to_clear : (slice column : ℕ) (doc : Parts) → IsColumn table slice column → CanClear limits.columns history slice → IsLiveIn (slot_at table slice column) doc → ⊥
  none_live_to_clear slice column doc at can l =
      subst IsOver (state-live (slot_at table slice column) doc l)
      (cleared_is_over limits history slice column (state_of (slot_at table slice column)) legal can (let h = at.column_in_range in let k = recorded.columns_are in omega arith)
      (recorded.each slice column at (live_is_open slice column doc at l)).state)

  module _ (live_list : Entries) (listed : AreListed table live_list) where
    -- a live number has an entry with its column
    pub record LiveEntry (id : ℕ) : Type 0 where
      pub slice : ℕ
      pub column : ℕ
      pub in_table : IsColumn table slice column
      pub doc : Parts
      pub live_there : IsLiveIn (slot_at table slice column) doc
      pub number : doc.id ≡ id
      pub entry : entry_of live_list id ≡ Some (slice, column)

    pub live_entry : (id : ℕ) → is_live id history ≡ true → LiveEntry id
    live_entry id some =
        let d = (live_number history id).0 some in
        let at = live_has_column limits history d.0 legal d.1 in
        let column = is_column at.0 at.1 at.3 at.4 in
        let uncleared = live_not_clearing limits history at.0 at.1 d.0 at.2 legal at.4 at.5 in
        let slot = live_by_state (slot_at table at.0 at.1) d.0 at.2 (recorded.each at.0 at.1 column uncleared).fits (state_is at.0 at.1 (Live d.0 at.2) column uncleared at.5) in
        let same = number_of_slot (slot_at table at.0 at.1) d.0 at.2 slot id d.2 in
        record {
          slice = at.0;
          column = at.1;
          in_table = column;
          doc = slot.doc;
          live_there = slot.live;
          number = same;
          entry = subst (λ n. entry_of live_list n ≡ Some (at.0, at.1)) same (listed.every at.0 at.1 slot.doc column slot.live);
        }

    -- an entry is that of a live document, and its column has the place of the add
    pub record EntryPlace (id slice column : ℕ) : Type 0 where
      pub in_table : IsColumn table slice column
      pub added : ℕ
      pub since : ℕ
      pub column_is : (slot_at table slice column).column ≡ became.Live added since
      pub place_is : live_place id history ≡ Some added

    pub entry_place : (id slice column : ℕ) → entry_of live_list id ≡ Some (slice, column) → EntryPlace id slice column
    entry_place id slice column found =
        let r = listed.listed id slice column found in
        let d = document_added_at r.live.added r.doc in
        let holds : IsInState history slice column (Live d r.live.since) = live_recorded slice column r.doc r.in_table r.live in
        record {
          in_table = r.in_table;
          added = r.live.added;
          since = r.live.since;
          column_is = r.live.column;
          place_is = ap (λ k. live_place k history) (sym r.number) ∙ place_of_live limits history d legal (live_column_is_live history slice column d r.live.since holds);
        }

    -- and its document is the live one with the number
    pub entry_document : (id slice column added since : ℕ) (doc : Parts) → entry_of live_list id ≡ Some (slice, column) → (slot_at table slice column).column ≡ became.Live added since →
        (slot_at table slice column).doc ≡ Some doc → document_with id history ≡ Some (record { id = id; text = doc.text; place = added })
    entry_document id slice column added since doc found lives has =
        let r = listed.listed id slice column found in
        let d = document_added_at added doc in
        let holds : IsInState history slice column (Live d since) =
        live_recorded slice column doc r.in_table (record { added = added; since = since; column = lives; doc_is = has }) in
        let same : doc ≡ r.doc = let h = sym has ∙ r.live.doc_is in cc in
        let number : doc.id ≡ id = ap (λ (p : Parts). p.id) same ∙ r.number in
        subst (λ n. document_with n history ≡ Some (record { id = n; text = doc.text; place = added })) number
        (found_live limits history d legal (live_column_is_live history slice column d since holds))

    -- a number without an entry is not live
    pub absent_without : (id : ℕ) → entry_of live_list id ≡ None → is_live id history ≡ false
    absent_without id none = decided (is_live id history) refl where
      decided : (b : Bool) → is_live id history ≡ b → is_live id history ≡ false
      decided true some = let e = live_entry id some in absurd (none_some (e.slice, e.column) (sym none ∙ e.entry))
      decided false up = up

    pub no_place_without : (id : ℕ) → entry_of live_list id ≡ None → live_place id history ≡ None
    no_place_without id none = no_place id history (absent_without id none)

    pub no_document_without : (id : ℕ) → entry_of live_list id ≡ None → document_with id history ≡ None
    no_document_without id none = no_document (document_with id history) (no_place_without id none) where
      no_document : (o : Option Document) → option_map (λ (d : Document). d.place) o ≡ None → o ≡ None
      no_document None is = refl
      no_document (Some d) is = cc

    -- a number that is not live has no entry
    pub no_entry : (id : ℕ) → is_live id history ≡ false → entry_of live_list id ≡ None
    no_entry id absent = decided (entry_of live_list id) refl where
      decided : (o : Option (ℕ × ℕ)) → entry_of live_list id ≡ o → entry_of live_list id ≡ None
      decided None is_none = is_none
      decided (Some at) found =
          let e = entry_place id at.0 at.1 found in
          absurd (some_place e.added (ap is_some (sym e.place_is) ∙ sym (is_live-from_place id (live history)) ∙ absent))
