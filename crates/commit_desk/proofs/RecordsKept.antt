-- The records of the columns, after one more event.
use Rattle.std.proofs.Common.{◌≡◌, ◌≢◌, ℕ, ◌+◌, ◌*◌, ◌<◌, ⊎_elim, Bool, true, false, ◌&&◌, List, [], ◌∷◌, ◌++◌, length, Some, None, sym, refl, ap, ◌∙◌, subst, arith}
use Rattle.std.proofs.Math.Bool.{or-false}
use Rattle.std.proofs.lemmas.Bool.{both_ways, cases_eq, cond-false, cond-true, eq-eqb, false_from_ne_true, ne_eqb}
use Rattle.std.proofs.lemmas.List.{get_or-set_other, get_or-set_same, length-set}
use Rattle.std.specs.Prelude.{◌==◌, ◌||◌}
use Rattle.document_store.proofs.SlotLemmas.{slot_at-without_slice_other, slots_of-without_slice}
use Rattle.document_store.specs.Documents.{Parts}
use Rattle.document_store.specs.Slots.{FitsColumn, IsColumn, Table, is_out, slot_at, slots_of, with_slice, with_slot, without_slice}
use Rattle.document_store.specs.declared.column.Column.TheVariants as became
use Rattle.document_store.specs.declared.slots.Slot.{Slot}
use Rattle.funnel_model.specs.declared.bit_list.Bit.{Bit}
use Rattle.funnel_model.specs.declared.event.Event.{Event}
use Rattle.funnel_model.specs.declared.event.Event.TheVariants as event
use Rattle.funnel_model.specs.Events.{clears, opens}
use Rattle.funnel_model.specs.History.{Document, is_live, last_by, place}
use Rattle.funnel_model.specs.Legal.{IsAllowed, IsLegal, Limits}
use Rattle.funnel_model.specs.Slices.{ColumnState, Unclaimed, Pending, Dropped, Live, Deleted, IsInState, is_clearing}
use Rattle.funnel_model.specs.Words.{AreWordsOf}
use Rattle.funnel_model.proofs.Claims.{take_follows}
use Rattle.funnel_model.proofs.Clears.{pending_not_clearing}
use Rattle.funnel_model.proofs.Columns.{in_state-push, last_is_pending, some_state}
use Rattle.funnel_model.proofs.ColumnStates.{after, after-add, after-drop, after-take, after-void, after_taken_off, this_column}
use Rattle.funnel_model.proofs.LastEvents.{cleared_now, last_is_clearing, not_clearing_opened}
use Rattle.funnel_model.proofs.LiveColumns.{live_column_is_live, live_number, live_on_one_column}
use Rattle.funnel_model.proofs.Spans.{in_span-push}
use Rattle.commit_desk.specs.Records.{AreRecorded, IsLiveIn, IsRecorded, document_added_at, state_of}
use Rattle.commit_desk.proofs.Options.{some_same}
use Rattle.commit_desk.proofs.RecordFacts.{clearing_is_free, live_is_open}
use Rattle.commit_desk.proofs.Slots.{size-without, slots_of-other, slots_of-without_other, state-live, with_slot-cases}

unclaimed_not_live : (d : Document) (since : ℕ) → Unclaimed ≡ Live d since → ⊥
unclaimed_not_live d since is = cc

-- the event neither begins to clear the slice nor opens it
abbrev pub Spares : Event → ℕ → Type 0
Spares e slice = (opens slice e ≡ false) × (clears slice e ≡ false)

-- so the slice is being cleared as before
pub clearing-still : (history : List Event) (e : Event) (slice : ℕ) → Spares e slice → is_clearing slice (history ++ e ∷ []) ≡ is_clearing slice history
clearing-still history e slice spares =
    in_span-push (clears slice) slice history e spares.0 ∙ ap (λ b. is_clearing slice history || b) spares.1 ∙ or-false (is_clearing slice history)

-- an event that takes another document off leaves the state of a column
pub not_taken_off : (id until : ℕ) (x : ColumnState) → ((d : Document) (since : ℕ) → x ≡ Live d since → id ≢ d.id) → after_taken_off id until x ≡ x
not_taken_off id until Unclaimed other = refl
not_taken_off id until (Pending pass) other = refl
not_taken_off id until Dropped other = refl
not_taken_off id until (Live d since) other = cond-false (id == d.id) (Deleted d since until) (Live d since) (ne_eqb id d.id (other d since refl))
not_taken_off id until (Deleted d since at) other = refl

module _ (limits : Limits) (history : List Event) (e : Event) (legal : IsLegal limits history) (allowed : IsAllowed limits history e) where
  -- a column that is recorded with the state after the event
  pub recorded_now : (slice column : ℕ) (x y : Slot) → IsRecorded history slice column x → FitsColumn y.column y.doc →
      state_of y ≡ after slice column history (state_of x) e → ((doc : Parts) → y.doc ≡ Some doc → AreWordsOf doc.words doc.text) →
      IsRecorded (history ++ e ∷ []) slice column y
  recorded_now slice column x y was fits is words = record {
    fits = fits;
    state = subst (IsInState (history ++ e ∷ []) slice column) (sym is) (in_state-push limits history e legal allowed slice column (state_of x) was.state);
    words_of_text = words;
  }

  -- a column that the event leaves
  pub recorded_still : (slice column : ℕ) (x : Slot) → IsRecorded history slice column x → after slice column history (state_of x) e ≡ state_of x →
      IsRecorded (history ++ e ∷ []) slice column x
  recorded_still slice column x was same = recorded_now slice column x x was was.fits (sym same) was.words_of_text

  -- an event that changes no column leaves the records
  pub recorded-same : (table : Table) → ((slice column : ℕ) (h : List Event) (x : ColumnState) → after slice column h x e ≡ x) → ((slice : ℕ) → Spares e slice) → AreRecorded limits history table →
      AreRecorded limits (history ++ e ∷ []) table
  recorded-same table stays spares are = record {
    slices_are = are.slices_are;
    columns_are = are.columns_are;
    size = are.size;
    out_size = are.out_size;
    each = λ slice column in' uncleared.
        let at : IsColumn table slice column = record { slice_in_range = in'.slice_in_range; column_in_range = in'.column_in_range } in
        recorded_still slice column (slot_at table slice column) (are.each slice column at (sym (clearing-still history e slice (spares slice)) ∙ uncleared))
        (stays slice column history (state_of (slot_at table slice column)));
    out = λ slice in'. are.out slice in' ∙ sym (clearing-still history e slice (spares slice));
    cleared = λ slice in' clearing. are.cleared slice in' (sym (clearing-still history e slice (spares slice)) ∙ clearing);
  }

  -- an event that changes one column changes its record
  pub recorded-one : (table : Table) (s c : ℕ) (y : Slot) → AreRecorded limits history table → IsColumn table s c → is_clearing s history ≡ false → ((slice : ℕ) → Spares e slice) →
      FitsColumn y.column y.doc →
      state_of y ≡ after s c history (state_of (slot_at table s c)) e → ((doc : Parts) → y.doc ≡ Some doc → AreWordsOf doc.words doc.text) →
      ((slice column : ℕ) → IsColumn table slice column → (s == slice && c == column) ≡ false →
      after slice column history (state_of (slot_at table slice column)) e ≡ state_of (slot_at table slice column)) →
      AreRecorded limits (history ++ e ∷ []) (with_slot table s c y)
  recorded-one table s c y are here uncleared spares fits is words same =
      let here' : IsColumn table s c = record { slice_in_range = here.slice_in_range; column_in_range = here.column_in_range } in
      let new = recorded_now s c (slot_at table s c) y (are.each s c here' uncleared) fits is words in
      record {
        slices_are = are.slices_are;
        columns_are = are.columns_are;
        size = length-set table.slots (s * table.columns + c) y ∙ are.size;
        out_size = are.out_size;
        each = λ slice column in' open_now.
            let at : IsColumn table slice column = record { slice_in_range = in'.slice_in_range; column_in_range = in'.column_in_range } in
            ⊎_elim
            (λ one. subst (IsRecorded (history ++ e ∷ []) slice column) (sym one.3)
            (subst (λ k. IsRecorded (history ++ e ∷ []) k column y) (sym one.1) (subst (λ k. IsRecorded (history ++ e ∷ []) s k y) (sym one.2) new)))
            (λ other. subst (IsRecorded (history ++ e ∷ []) slice column) (sym other.1)
            (recorded_still slice column (slot_at table slice column) (are.each slice column at (sym (clearing-still history e slice (spares slice)) ∙ open_now)) (same slice column at other.0)))
            (with_slot-cases table s c y slice column here' at are.size);
        out = λ slice in'. are.out slice in' ∙ sym (clearing-still history e slice (spares slice));
        cleared = λ slice in' clearing.
            let was = sym (clearing-still history e slice (spares slice)) ∙ clearing in
            slots_of-other table s c y slice here' in' (λ same_slice. both_ways (is_clearing s history) uncleared (ap (λ k. is_clearing k history) (sym same_slice) ∙ was)) are.size ∙ are.cleared slice in' was;
      }

module _ (limits : Limits) (history : List Event) (table : Table) (legal : IsLegal limits history) (are : AreRecorded limits history table) where
  -- a pass claims a column
  pub recorded-take : (pass s c : ℕ) → IsAllowed limits history (event.Take pass s c) → IsColumn table s c →
      AreRecorded limits (history ++ event.Take pass s c ∷ []) (with_slot table s c (record { column = became.Pending pass; doc = None }))
  recorded-take pass s c allowed here =
      recorded-one limits history (event.Take pass s c) legal allowed table s c (record { column = became.Pending pass; doc = None }) are here
      (take_follows limits history pass s c legal allowed).not_clearing (λ slice. (refl, refl)) refl
      (sym (after-take s c history pass (state_of (slot_at table s c)))) (λ doc none. cc)
      (λ slice column at apart. cond-false (s == slice && c == column) (Pending pass) (state_of (slot_at table slice column)) apart)

  -- the slice of a column that its pass took isn't being cleared
  pub taken_is_open : (pass s c : ℕ) → last_by pass history ≡ Some (event.Take pass s c) → is_clearing s history ≡ false
  taken_is_open pass s c last = pending_not_clearing limits history s c pass legal (last_is_pending limits history s c pass legal last)

  -- the document that is recorded as live on a column is
  recorded_is_live : (slice column : ℕ) (d : Document) (since : ℕ) → IsColumn table slice column → state_of (slot_at table slice column) ≡ Live d since → IsInState history slice column (Live d since)
  recorded_is_live slice column d since at is =
      let uncleared = false_from_ne_true (is_clearing slice history)
      (λ clearing. unclaimed_not_live d since (sym (ap state_of (clearing_is_free limits history table legal are slice column at clearing)) ∙ is)) in
      subst (IsInState history slice column) is (are.each slice column at uncleared).state

  -- a document whose number is not live goes live on a column
  pub recorded-add : (pass s c : ℕ) (doc : Parts) (bits : List Bit) → IsAllowed limits history (event.Add pass doc.id doc.text s c bits) → is_live doc.id history ≡ false →
      AreWordsOf doc.words doc.text → IsColumn table s c →
      AreRecorded limits (history ++ event.Add pass doc.id doc.text s c bits ∷ []) (with_slot table s c (record { column = became.Live (place history + 1) (length history + 1); doc = Some doc }))
  recorded-add pass s c doc bits allowed absent of_text here =
      let live = Live (document_added_at (place history + 1) doc) (length history + 1) in
      recorded-one limits history (event.Add pass doc.id doc.text s c bits) legal allowed table s c (record { column = became.Live (place history + 1) (length history + 1); doc = Some doc }) are here
      (taken_is_open pass s c allowed.rule.taken) (λ slice. (refl, refl)) (doc, refl)
      (sym (after-add s c history pass doc.id doc.text bits (state_of (slot_at table s c))))
      (λ d same. subst (λ (p : Parts). AreWordsOf p.words p.text) (some_same doc d same) of_text)
      (λ slice column at apart.
      cond-false (s == slice && c == column) live (after_taken_off doc.id (length history + 1) (state_of (slot_at table slice column))) apart
      ∙ not_taken_off doc.id (length history + 1) (state_of (slot_at table slice column))
      (λ d since is same. both_ways (is_live doc.id history) absent
      ((live_number history doc.id).1 (d, live_column_is_live history slice column d since (recorded_is_live slice column d since at is), sym same))))

  -- a column is left without a document
  pub recorded-void : (pass s c : ℕ) → IsAllowed limits history (event.Void pass s c) → IsColumn table s c →
      AreRecorded limits (history ++ event.Void pass s c ∷ []) (with_slot table s c (record { column = became.Dropped; doc = None }))
  recorded-void pass s c allowed here =
      recorded-one limits history (event.Void pass s c) legal allowed table s c (record { column = became.Dropped; doc = None }) are here
      (taken_is_open pass s c allowed.rule.taken) (λ slice. (refl, refl)) refl
      (sym (after-void s c history pass (state_of (slot_at table s c)))) (λ doc none. cc)
      (λ slice column at apart. cond-false (s == slice && c == column) Dropped (state_of (slot_at table slice column)) apart)

  -- a document is dropped for its column
  pub recorded-drop : (pass id : ℕ) (text : List ℕ) (s c : ℕ) → IsAllowed limits history (event.Drop pass id text s c) → IsColumn table s c →
      AreRecorded limits (history ++ event.Drop pass id text s c ∷ []) (with_slot table s c (record { column = became.Dropped; doc = None }))
  recorded-drop pass id text s c allowed here =
      recorded-one limits history (event.Drop pass id text s c) legal allowed table s c (record { column = became.Dropped; doc = None }) are here
      (taken_is_open pass s c allowed.rule.taken) (λ slice. (refl, refl)) refl
      (sym (after-drop s c history pass id text (state_of (slot_at table s c)))) (λ doc none. cc)
      (λ slice column at apart. cond-false (s == slice && c == column) Dropped (state_of (slot_at table slice column)) apart)

  -- a live document of the same number is on the same column
  pub live_apart : (s c slice column : ℕ) (doc : Parts) (d : Document) (since : ℕ) → IsColumn table s c → IsColumn table slice column → IsLiveIn (slot_at table s c) doc →
      state_of (slot_at table slice column) ≡ Live d since → doc.id ≡ d.id → (s == slice && c == column) ≡ true
  live_apart s c slice column doc d since here at l is same =
      let first : IsInState history s c (Live (document_added_at l.added doc) l.since) = subst (IsInState history s c) (state-live (slot_at table s c) doc l) (are.each s c here (live_is_open limits history table legal are s c doc here l)).state in
      let second = recorded_is_live slice column d since at is in
      let one = live_on_one_column limits history s c slice column l.since since (document_added_at l.added doc) d legal first second same in
      subst (λ k. (s == k && c == column) ≡ true) one.0 (subst (λ k. (s == s && c == k) ≡ true) one.1 (this_column s c))

  -- the live document of a column is deleted
  pub recorded-delete : (pass s c : ℕ) (doc : Parts) (l : IsLiveIn (slot_at table s c) doc) → IsAllowed limits history (event.Del pass doc.id) → IsColumn table s c →
      AreRecorded limits (history ++ event.Del pass doc.id ∷ []) (with_slot table s c (record { column = became.Over l.added l.since (length history + 1); doc = Some doc }))
  recorded-delete pass s c doc l allowed here =
      let d = document_added_at l.added doc in
      let x = slot_at table s c in
      let uncleared = live_is_open limits history table legal are s c doc here l in
      recorded-one limits history (event.Del pass doc.id) legal allowed table s c (record { column = became.Over l.added l.since (length history + 1); doc = Some doc }) are here uncleared (λ slice. (refl, refl)) (doc, refl)
      (sym (ap (after_taken_off doc.id (length history + 1)) (state-live x doc l)
      ∙ cond-true (doc.id == doc.id) (Deleted d l.since (length history + 1)) (Live d l.since) (eq-eqb doc.id doc.id refl)))
      (λ other same. (are.each s c here uncleared).words_of_text other (l.doc_is ∙ same))
      (λ slice column at apart. not_taken_off doc.id (length history + 1) (state_of (slot_at table slice column))
      (λ other since is same. both_ways (s == slice && c == column) apart (live_apart s c slice column doc other since here at l is same)))

  -- a pass begins to clear a slice
  pub recorded-clear : (pass s : ℕ) → IsAllowed limits history (event.Clear pass s) → s < limits.slices → AreRecorded limits (history ++ event.Clear pass s ∷ []) (without_slice table s)
  recorded-clear pass s allowed in' =
      let e = event.Clear pass s in
      let next = history ++ e ∷ [] in
      let within : s < table.slices = let h = are.slices_are in omega arith in
      let still = λ (slice : ℕ) (apart : slice ≢ s). clearing-still history e slice (refl, ne_eqb s slice (λ same. apart (sym same))) in
      record {
        slices_are = are.slices_are;
        columns_are = are.columns_are;
        size = size-without table s within are.size;
        out_size = length-set table.out s true ∙ are.out_size;
        each = λ slice column at' uncleared.
            let at : IsColumn table slice column = record { slice_in_range = at'.slice_in_range; column_in_range = at'.column_in_range } in
            let apart : slice ≢ s = λ same. both_ways (is_clearing s next) (ap (λ k. is_clearing k next) (sym same) ∙ uncleared) (cleared_now s pass history) in
            subst (IsRecorded next slice column) (sym (slot_at-without_slice_other table s slice column within at.column_in_range are.size apart))
            (recorded_still limits history e legal allowed slice column (slot_at table slice column) (are.each slice column at (sym (still slice apart) ∙ uncleared)) refl);
        out = λ slice at.
            ⊎_elim
            (λ (same : slice ≡ s). ap (is_out (without_slice table s)) same ∙ get_or-set_same table.out s true false (let h = are.out_size in omega (arith, h, within))
            ∙ sym (ap (λ k. is_clearing k next) same ∙ cleared_now s pass history))
            (λ (apart : slice ≢ s). get_or-set_other table.out s slice true false apart ∙ are.out slice at ∙ sym (still slice apart))
            (cases_eq slice s);
        cleared = λ slice at clearing.
            ⊎_elim
            (λ (same : slice ≡ s). ap (slots_of (without_slice table s)) same ∙ slots_of-without_slice table s within are.size)
            (λ (apart : slice ≢ s). slots_of-without_other table s slice within at apart are.size ∙ are.cleared slice at (sym (still slice apart) ∙ clearing))
            (cases_eq slice s);
      }

  -- a pass opens the slice that it cleared
  pub recorded-opened : (pass s : ℕ) (alone : Bool) → IsAllowed limits history (event.Opened pass s alone) → s < limits.slices →
      AreRecorded limits (history ++ event.Opened pass s alone ∷ []) (with_slice table s)
  recorded-opened pass s alone allowed in' =
      let e = event.Opened pass s alone in
      let next = history ++ e ∷ [] in
      let within : s < table.slices = let h = are.slices_are in omega arith in
      let was = last_is_clearing limits history pass s legal allowed.rule.cleared in
      let opened = not_clearing_opened s history e (eq-eqb s s refl) in
      let still = λ (slice : ℕ) (apart : slice ≢ s). clearing-still history e slice (ne_eqb s slice (λ same. apart (sym same)), refl) in
      record {
        slices_are = are.slices_are;
        columns_are = are.columns_are;
        size = are.size;
        out_size = length-set table.out s false ∙ are.out_size;
        each = λ slice column at' uncleared.
            let at : IsColumn table slice column = record { slice_in_range = at'.slice_in_range; column_in_range = at'.column_in_range } in
            ⊎_elim
            (λ (same : slice ≡ s).
            let free = clearing_is_free limits history table legal are slice column at (ap (λ k. is_clearing k history) same ∙ was) in
            let x = some_state limits history slice column legal in
            let state : IsInState next slice column Unclaimed =
            subst (IsInState next slice column) (cond-true (s == slice) Unclaimed x.0 (eq-eqb s slice (sym same))) (in_state-push limits history e legal allowed slice column x.0 x.1) in
            subst (IsRecorded next slice column) (sym free) (record { fits = refl; state = state; words_of_text = λ doc none. cc }))
            (λ (apart : slice ≢ s).
            let x = slot_at table slice column in
            recorded_still limits history e legal allowed slice column x (are.each slice column at (sym (still slice apart) ∙ uncleared))
            (cond-false (s == slice) Unclaimed (state_of x) (ne_eqb s slice (λ same. apart (sym same)))))
            (cases_eq slice s);
        out = λ slice at.
            ⊎_elim
            (λ (same : slice ≡ s). ap (is_out (with_slice table s)) same ∙ get_or-set_same table.out s false false (let h = are.out_size in omega (arith, h, within))
            ∙ sym (ap (λ k. is_clearing k next) same ∙ opened))
            (λ (apart : slice ≢ s). get_or-set_other table.out s slice false false apart ∙ are.out slice at ∙ sym (still slice apart))
            (cases_eq slice s);
        cleared = λ slice at clearing.
            let apart : slice ≢ s = λ same. both_ways (is_clearing s next) opened (ap (λ k. is_clearing k next) (sym same) ∙ clearing) in
            are.cleared slice at (sym (still slice apart) ∙ clearing);
      }
