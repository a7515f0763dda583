-- The list of live numbers, after one more event.
use Rattle.std.proofs.Common.{◌≡◌, ℕ, ◌*◌, ◌<◌, ⊎_elim, true, ◌&&◌, cond, length, Option, Some, None, sym, refl, ap, ◌∙◌, subst, arith}
use Rattle.std.proofs.lemmas.Bool.{both_ways, cond-false, cond-true, eq-eqb, ne_eqb}
use Rattle.std.proofs.lemmas.Bool.Decides.{eqb_tells}
use Rattle.std.specs.Option.{option_map_or}
use Rattle.std.specs.Prelude.{◌==◌, ◌↔◌}
use Rattle.document_store.specs.Documents.{Parts}
use Rattle.document_store.specs.Entries.{Entries}
use Rattle.document_store.specs.Entries.{column_of as entry_of}
use Rattle.document_store.specs.Slots.{IsColumn, Table, slot_at, with_slice, with_slot, without_slice}
use Rattle.document_store.specs.declared.column.Column.TheVariants as became
use Rattle.document_store.specs.declared.slots.Slot.{Slot}
use Rattle.funnel_model.proofs.ColumnStates.{this_column}
use Rattle.commit_desk.specs.Records.{AreListed, IsLiveIn}
use Rattle.commit_desk.proofs.Options.{free_not_live, none_some, some_same}
use Rattle.commit_desk.proofs.Slots.{with_slot-cases, without_slice-cases}

pair_same : (a b c d : ℕ) → (let x : Option (ℕ × ℕ) = Some (a, b) in let y : Option (ℕ × ℕ) = Some (c, d) in x ≡ y) → (a ≡ c) × (b ≡ d)
pair_same a b c d is = (ap (λ (o : Option (ℕ × ℕ)). option_map_or (λ (p : ℕ × ℕ). p.0) o a) is, ap (λ (o : Option (ℕ × ℕ)). option_map_or (λ (p : ℕ × ℕ). p.1) o b) is)

over_not_live : (added since until other after : ℕ) → became.Over added since until ≡ became.Live other after → ⊥
over_not_live added since until other after is = cc

-- the list stays, where the same columns have the same live documents
pub listed-same : (table next : Table) (live : Entries) → AreListed table live → next.slices ≡ table.slices → next.columns ≡ table.columns →
    ((slice column : ℕ) (doc : Parts) → IsColumn table slice column → IsLiveIn (slot_at next slice column) doc ↔ IsLiveIn (slot_at table slice column) doc) →
    AreListed next live
listed-same table next live are slices columns same = record {
  slices_are = are.slices_are ∙ sym slices;
  columns_are = are.columns_are ∙ sym columns;
  listed = λ id slice column is.
      let r = are.listed id slice column is in
      record {
        in_table = record { slice_in_range = let h = r.in_table.slice_in_range in omega arith; column_in_range = let h = r.in_table.column_in_range in omega arith };
        doc = r.doc;
        live = (same slice column r.doc r.in_table).1 r.live;
        number = r.number;
      };
  every = λ slice column doc in' is.
      let at : IsColumn table slice column = record { slice_in_range = let h = in'.slice_in_range in omega arith; column_in_range = let h = in'.column_in_range in omega arith } in
      are.every slice column doc at ((same slice column doc at).0 is);
}

module _ (table : Table) (live : Entries) (size : length table.slots ≡ table.slices * table.columns) (are : AreListed table live) where
  -- where the slot of one column has no live document before and after, as with a take and a drop
  pub listed-one : (s c : ℕ) (y : Slot) → IsColumn table s c → ((doc : Parts) → IsLiveIn y doc → ⊥) → ((doc : Parts) → IsLiveIn (slot_at table s c) doc → ⊥) →
      AreListed (with_slot table s c y) live
  listed-one s c y here not_new not_old =
      listed-same table (with_slot table s c y) live are refl refl
      (λ slice column doc at.
      ⊎_elim
      (λ one. (
        λ new. absurd (not_new doc (subst (λ z. IsLiveIn z doc) one.3 new)),
        λ old. absurd (not_old doc (subst (λ k. IsLiveIn (slot_at table k c) doc) one.1 (subst (λ k. IsLiveIn (slot_at table slice k) doc) one.2 old))),
      ))
      (λ other. (
        λ new. subst (λ z. IsLiveIn z doc) other.1 new,
        λ old. subst (λ z. IsLiveIn z doc) (sym other.1) old,
      ))
      (with_slot-cases table s c y slice column here at size))

  -- the slots of a slice without a live document are taken out
  pub listed-clear : (s : ℕ) → s < table.slices → ((column : ℕ) (doc : Parts) → column < table.columns → IsLiveIn (slot_at table s column) doc → ⊥) → AreListed (without_slice table s) live
  listed-clear s in' none_live =
      listed-same table (without_slice table s) live are refl refl
      (λ slice column doc at.
      ⊎_elim
      (λ one. (
        λ new. absurd (free_not_live new.added new.since (let f : became.Free ≡ became.Live new.added new.since = sym (ap (λ (z : Slot). z.column) one.1) ∙ new.column in f)),
        λ old. absurd (none_live column doc at.column_in_range (subst (λ k. IsLiveIn (slot_at table k column) doc) one.0 old)),
      ))
      (λ other. (
        λ new. subst (λ z. IsLiveIn z doc) other.1 new,
        λ old. subst (λ z. IsLiveIn z doc) (sym other.1) old,
      ))
      (without_slice-cases table s slice column in' at size))

  -- free slots are put back for a slice
  pub listed-opened : (s : ℕ) → AreListed (with_slice table s) live
  listed-opened s = listed-same table (with_slice table s) live are refl refl (λ slice column doc at. (λ is. is, λ is. is))

  -- a document goes live on a column that has none
  pub listed-add : (s c added since : ℕ) (doc : Parts) (next : Entries) → IsColumn table s c → ((d : Parts) → IsLiveIn (slot_at table s c) d → ⊥) → entry_of live doc.id ≡ None →
      ((other : ℕ) → entry_of next other ≡ cond (other == doc.id) (Some (s, c)) (entry_of live other)) → next.slices ≡ live.slices → next.columns ≡ live.columns →
      AreListed (with_slot table s c (record { column = became.Live added since; doc = Some doc })) next
  listed-add s c added since doc next here not_old absent entries next_slices next_columns =
      let y : Slot = record { column = became.Live added since; doc = Some doc } in
      let new_live : IsLiveIn y doc = record { added = added; since = since; column = refl; doc_is = refl } in
      let cases = λ (slice column : ℕ) (at : IsColumn table slice column). with_slot-cases table s c y slice column here at size in
      record {
        slices_are = next_slices ∙ are.slices_are;
        columns_are = next_columns ∙ are.columns_are;
        listed = λ id slice column found.
            ⊎_elim
            (λ same.
            let both = pair_same s c slice column (sym (entries id ∙ cond-true (id == doc.id) (Some (s, c)) (entry_of live id) same.0) ∙ found) in
            let at_s = both.0 in
            let at_c = both.1 in
            let at : IsColumn table slice column = record { slice_in_range = let h = here.slice_in_range in omega arith; column_in_range = let h = here.column_in_range in omega arith } in
            record {
              in_table = record { slice_in_range = at.slice_in_range; column_in_range = at.column_in_range };
              doc = doc;
              live = ⊎_elim (λ one. subst (λ z. IsLiveIn z doc) (sym one.3) new_live)
                  (λ other. absurd (both_ways (s == slice && c == column) other.0 (subst (λ k. (s == k && c == column) ≡ true) at_s (subst (λ k. (s == s && c == k) ≡ true) at_c (this_column s c)))))
                  (cases slice column at);
              number = sym same.1;
            })
            (λ other.
            let old = are.listed id slice column (sym (entries id ∙ cond-false (id == doc.id) (Some (s, c)) (entry_of live id) other.0) ∙ found) in
            record {
              in_table = record { slice_in_range = old.in_table.slice_in_range; column_in_range = old.in_table.column_in_range };
              doc = old.doc;
              live = ⊎_elim (λ one. absurd (not_old old.doc (subst (λ k. IsLiveIn (slot_at table k c) old.doc) one.1 (subst (λ k. IsLiveIn (slot_at table slice k) old.doc) one.2 old.live))))
                  (λ apart. subst (λ z. IsLiveIn z old.doc) (sym apart.1) old.live) (cases slice column old.in_table);
              number = old.number;
            })
            (eqb_tells id doc.id);
        every = λ slice column d at' l.
            let at : IsColumn table slice column = record { slice_in_range = at'.slice_in_range; column_in_range = at'.column_in_range } in
            ⊎_elim
            (λ one.
            let is_new : IsLiveIn y d = subst (λ z. IsLiveIn z d) one.3 l in
            let same : doc ≡ d = some_same doc d is_new.doc_is in
            entries d.id ∙ cond-true (d.id == doc.id) (Some (s, c)) (entry_of live d.id) (eq-eqb d.id doc.id (sym (ap (λ (p : Parts). p.id) same)))
            ∙ ap (λ k. Some (k, c)) (sym one.1) ∙ ap (λ k. Some (slice, k)) (sym one.2))
            (λ other.
            let old : IsLiveIn (slot_at table slice column) d = subst (λ z. IsLiveIn z d) other.1 l in
            let found = are.every slice column d at old in
            entries d.id ∙ cond-false (d.id == doc.id) (Some (s, c)) (entry_of live d.id)
            (ne_eqb d.id doc.id (λ same. none_some (slice, column) (sym absent ∙ ap (entry_of live) (sym same) ∙ found))) ∙ found)
            (cases slice column at);
      }

  -- a column with a live document of the same number is the same column
  live_apart : (s c slice column : ℕ) (doc d : Parts) → IsColumn table s c → IsColumn table slice column → IsLiveIn (slot_at table s c) doc → IsLiveIn (slot_at table slice column) d →
      d.id ≡ doc.id → (s == slice && c == column) ≡ true
  live_apart s c slice column doc d here at l other same =
      let both = pair_same s c slice column (sym (are.every s c doc here l) ∙ ap (entry_of live) (sym same) ∙ are.every slice column d at other) in
      subst (λ k. (s == k && c == column) ≡ true) both.0 (subst (λ k. (s == s && c == k) ≡ true) both.1 (this_column s c))

  -- the live document of a column is deleted
  pub listed-delete : (s c until : ℕ) (doc : Parts) (l : IsLiveIn (slot_at table s c) doc) (next : Entries) → IsColumn table s c →
      ((other : ℕ) → entry_of next other ≡ cond (other == doc.id) None (entry_of live other)) → next.slices ≡ live.slices → next.columns ≡ live.columns →
      AreListed (with_slot table s c (record { column = became.Over l.added l.since until; doc = Some doc })) next
  listed-delete s c until doc l next here entries next_slices next_columns =
      let y : Slot = record { column = became.Over l.added l.since until; doc = Some doc } in
      let not_new : (d : Parts) → IsLiveIn y d → ⊥ = λ d new. over_not_live l.added l.since until new.added new.since new.column in
      let cases = λ (slice column : ℕ) (at : IsColumn table slice column). with_slot-cases table s c y slice column here at size in
      record {
        slices_are = next_slices ∙ are.slices_are;
        columns_are = next_columns ∙ are.columns_are;
        listed = λ id slice column found.
            ⊎_elim
            (λ same. absurd (none_some (slice, column) (sym (entries id ∙ cond-true (id == doc.id) None (entry_of live id) same.0) ∙ found)))
            (λ other.
            let old = are.listed id slice column (sym (entries id ∙ cond-false (id == doc.id) None (entry_of live id) other.0) ∙ found) in
            record {
              in_table = record { slice_in_range = old.in_table.slice_in_range; column_in_range = old.in_table.column_in_range };
              doc = old.doc;
              live = ⊎_elim
                  (λ one.
                  let there : IsLiveIn (slot_at table s c) old.doc = subst (λ k. IsLiveIn (slot_at table k c) old.doc) one.1 (subst (λ k. IsLiveIn (slot_at table slice k) old.doc) one.2 old.live) in
                  absurd (other.1 (sym old.number ∙ ap (λ (p : Parts). p.id) (some_same old.doc doc (sym there.doc_is ∙ l.doc_is)))))
                  (λ apart. subst (λ z. IsLiveIn z old.doc) (sym apart.1) old.live) (cases slice column old.in_table);
              number = old.number;
            })
            (eqb_tells id doc.id);
        every = λ slice column d at' lives.
            let at : IsColumn table slice column = record { slice_in_range = at'.slice_in_range; column_in_range = at'.column_in_range } in
            ⊎_elim
            (λ one. absurd (not_new d (subst (λ z. IsLiveIn z d) one.3 lives)))
            (λ other.
            let old : IsLiveIn (slot_at table slice column) d = subst (λ z. IsLiveIn z d) other.1 lives in
            entries d.id ∙ cond-false (d.id == doc.id) None (entry_of live d.id)
            (ne_eqb d.id doc.id (λ same. both_ways (s == slice && c == column) other.0 (live_apart s c slice column doc d here at l old same)))
            ∙ are.every slice column d at old)
            (cases slice column at);
      }
