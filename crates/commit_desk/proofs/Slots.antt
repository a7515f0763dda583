-- What is recorded of a column, and the state that it stands for.
use Rattle.std.proofs.Common.{◌≡◌, ◌≢◌, ℕ, zero, suc, ◌+◌, ◌*◌, ◌<◌, ◌⊎◌, ⊎_elim, Bool, true, false, ◌&&◌, length, set, cond, count_by, Option, Some, sym, refl, ap, ◌∙◌, subst, arith, inl, inr}
use Rattle.std.proofs.lemmas.Bool.{cases_eq}
use Rattle.std.proofs.lemmas.Bool.Decides.{eqb_tells}
use Rattle.std.specs.Prelude.{◌==◌, replicate}
use Rattle.document_store.proofs.CountLemmas.{count_by-set}
use Rattle.document_store.proofs.SlotLemmas.{length-slots_of, length-without_slice, slot_at-slots_of, slot_at-without_slice, slot_at-without_slice_other, slot_at-with_slot, slot_at-with_slot_other, slots_of-without_slice_other, slots_of-with_slot, slots_of-with_slot_other}
use Rattle.document_store.specs.Documents.{Parts}
use Rattle.document_store.specs.Slots.{FitsColumn, IsColumn, Table, free_slot, slot_at, slots_of, with_slot, without_slice, is_over, is_over_in}
use Rattle.document_store.specs.declared.column.Column.{Column}
use Rattle.document_store.specs.declared.column.Column.TheVariants as became
use Rattle.document_store.specs.declared.slots.Slot.{Slot}
use Rattle.funnel_model.specs.History.{Document}
use Rattle.funnel_model.specs.Slices.{ColumnState, Unclaimed, Pending, Live, IsOver}
use Rattle.commit_desk.specs.Records.{IsLiveIn, document_added_at, state_in, state_of}

-- a column in the state `Unclaimed` is recorded as free
free_in : (c : Column) (doc : Option Parts) → FitsColumn c doc → state_in c doc ≡ Unclaimed → c ≡ became.Free
free_in became.Free doc fits is = refl
free_in (became.Pending pass) doc fits is = cc
free_in (became.Live added since) doc fits is = cc (ap (state_in (became.Live added since)) fits.1)
free_in (became.Over added since until) doc fits is = cc (ap (state_in (became.Over added since until)) fits.1)
free_in became.Dropped doc fits is = cc

pub free_by_state : (slot : Slot) → FitsColumn slot.column slot.doc → state_of slot ≡ Unclaimed → slot.column ≡ became.Free
free_by_state slot fits is = free_in slot.column slot.doc fits is

-- and one that is pending by a pass as pending by it
pending_in : (pass : ℕ) (c : Column) (doc : Option Parts) → FitsColumn c doc → state_in c doc ≡ Pending pass → c ≡ became.Pending pass
pending_in pass became.Free doc fits is = cc
pending_in pass (became.Pending other) doc fits is = cc
pending_in pass (became.Live added since) doc fits is = cc (ap (state_in (became.Live added since)) fits.1)
pending_in pass (became.Over added since until) doc fits is = cc (ap (state_in (became.Over added since until)) fits.1)
pending_in pass became.Dropped doc fits is = cc

pub pending_by_state : (slot : Slot) (pass : ℕ) → FitsColumn slot.column slot.doc → state_of slot ≡ Pending pass → slot.column ≡ became.Pending pass
pending_by_state slot pass fits is = pending_in pass slot.column slot.doc fits is

-- a column with a live document has the state of it
pub state-live : (slot : Slot) (doc : Parts) (live : IsLiveIn slot doc) → state_of slot ≡ Live (document_added_at live.added doc) live.since
state-live slot doc live = ap (λ c. state_in c slot.doc) live.column ∙ ap (state_in (became.Live live.added live.since)) live.doc_is

-- and the other way round
since_of : ColumnState → ℕ → ℕ
since_of (Live d since) other = since
since_of x other = other

live_in : (d : Document) (at : ℕ) (c : Column) (doc : Option Parts) → FitsColumn c doc → state_in c doc ≡ Live d at →
    (added : ℕ) × (p : Parts) × (c ≡ became.Live added at) × (doc ≡ Some p) × (document_added_at added p ≡ d)
unfolding since_of
live_in d at became.Free doc fits is = cc
live_in d at (became.Pending pass) doc fits is = cc
live_in d at (became.Live added since) doc fits is =
    let same : Live (document_added_at added fits.0) since ≡ Live d at = sym (ap (state_in (became.Live added since)) fits.1) ∙ is in
    (added, fits.0, ap (became.Live added) (ap (λ x. since_of x 0) same), fits.1, cc)
live_in d at (became.Over added since until) doc fits is = cc (ap (state_in (became.Over added since until)) fits.1)
live_in d at became.Dropped doc fits is = cc

pub record LiveSlot (slot : Slot) (d : Document) (at : ℕ) : Type 0 where
  pub doc : Parts
  pub live : IsLiveIn slot doc
  pub is : document_added_at live.added doc ≡ d
  pub since_is : live.since ≡ at

pub live_by_state : (slot : Slot) (d : Document) (at : ℕ) → FitsColumn slot.column slot.doc → state_of slot ≡ Live d at → LiveSlot slot d at
live_by_state slot d at fits is =
    let r = live_in d at slot.column slot.doc fits is in
    record { doc = r.1; live = record { added = r.0; since = at; column = r.2; doc_is = r.3 }; is = r.4; since_is = refl }

-- a column is recorded as over exactly where its state is
over_in : (c : Column) (doc : Option Parts) → FitsColumn c doc → is_over_in c ≡ true → IsOver (state_in c doc)
over_in became.Free doc fits is = cc
over_in (became.Pending pass) doc fits is = cc
over_in (became.Live added since) doc fits is = cc
over_in (became.Over added since until) doc fits is = subst IsOver (sym (ap (state_in (became.Over added since until)) fits.1)) tt
over_in became.Dropped doc fits is = tt

pub over_by_column : (slot : Slot) → FitsColumn slot.column slot.doc → is_over slot ≡ true → IsOver (state_of slot)
over_by_column slot fits is = over_in slot.column slot.doc fits is

in_over : (c : Column) (doc : Option Parts) → FitsColumn c doc → IsOver (state_in c doc) → is_over_in c ≡ true
in_over became.Free doc fits over = absurd over
in_over (became.Pending pass) doc fits over = absurd over
in_over (became.Live added since) doc fits over = absurd (subst IsOver (ap (state_in (became.Live added since)) fits.1) over)
in_over (became.Over added since until) doc fits over = refl
in_over became.Dropped doc fits over = refl

pub column_by_over : (slot : Slot) → FitsColumn slot.column slot.doc → IsOver (state_of slot) → is_over slot ≡ true
column_by_over slot fits over = in_over slot.column slot.doc fits over

-- a column with a live document is not over
pub live_not_over : (slot : Slot) (doc : Parts) → IsLiveIn slot doc → is_over slot ≡ false
live_not_over slot doc live = ap is_over_in live.column

both_equal : (a b c d : ℕ) → (bs : Bool) → (cs : Bool) → (a == b) ≡ bs → (c == d) ≡ cs → (a == b && c == d) ≡ (bs && cs)
both_equal a b c d bs cs first second = ap (λ x. x && c == d) first ∙ ap (λ x. bs && x) second

-- the slot of one column is another, and those of the others stay
pub with_slot-cases : (table : Table) (s c : ℕ) (y : Slot) (slice column : ℕ) → IsColumn table s c → IsColumn table slice column → length table.slots ≡ table.slices * table.columns →
    (((s == slice && c == column) ≡ true) × (slice ≡ s) × (column ≡ c) × (slot_at (with_slot table s c y) slice column ≡ y))
    ⊎ (((s == slice && c == column) ≡ false) × (slot_at (with_slot table s c y) slice column ≡ slot_at table slice column))
with_slot-cases table s c y slice column here at size =
    ⊎_elim
    (λ same_slice.
    ⊎_elim
    (λ same_column. inl (
      both_equal s slice c column true true same_slice.0 same_column.0,
      sym same_slice.1,
      sym same_column.1,
      subst (λ k. slot_at (with_slot table s c y) k column ≡ y) same_slice.1
          (subst (λ k. slot_at (with_slot table s c y) s k ≡ y) same_column.1 (slot_at-with_slot table s c y here size)),
    ))
    (λ other. inr (
      both_equal s slice c column true false same_slice.0 other.0,
      slot_at-with_slot_other table s c slice column y here.column_in_range at.column_in_range (λ _ same. other.1 same),
    ))
    (eqb_tells c column))
    (λ other. inr (
      ap (λ x. x && c == column) other.0,
      slot_at-with_slot_other table s c slice column y here.column_in_range at.column_in_range (λ same _. other.1 same),
    ))
    (eqb_tells s slice)

-- the slots of one slice were taken out, and those of the others stay
pub without_slice-cases : (table : Table) (s slice column : ℕ) → s < table.slices → IsColumn table slice column → length table.slots ≡ table.slices * table.columns →
    ((slice ≡ s) × (slot_at (without_slice table s) slice column ≡ free_slot)) ⊎ ((slice ≢ s) × (slot_at (without_slice table s) slice column ≡ slot_at table slice column))
without_slice-cases table s slice column in' at size =
    ⊎_elim
    (λ same. inl (same, subst (λ k. slot_at (without_slice table k) slice column ≡ free_slot) same (slot_at-without_slice table slice column at size)))
    (λ ne. inr (ne, slot_at-without_slice_other table s slice column in' at.column_in_range size ne))
    (cases_eq slice s)

pub slots_of-other : (table : Table) (s c : ℕ) (y : Slot) (slice : ℕ) → IsColumn table s c → slice < table.slices → slice ≢ s → length table.slots ≡ table.slices * table.columns →
    slots_of (with_slot table s c y) slice ≡ slots_of table slice
slots_of-other table s c y slice here in' ne size = slots_of-with_slot_other table s c slice y here.column_in_range ne

pub slots_of-without_other : (table : Table) (s slice : ℕ) → s < table.slices → slice < table.slices → slice ≢ s → length table.slots ≡ table.slices * table.columns →
    slots_of (without_slice table s) slice ≡ slots_of table slice
slots_of-without_other table s slice in' below ne size = slots_of-without_slice_other table s slice in' size ne

-- the count of the columns that are over, where one column's slot is another
pub count-with_slot : (table : Table) (s c : ℕ) (y : Slot) (before after : Bool) → IsColumn table s c → length table.slots ≡ table.slices * table.columns →
    is_over (slot_at table s c) ≡ before → is_over y ≡ after →
    count_by is_over (slots_of (with_slot table s c y) s) + cond before 1 0 ≡ count_by is_over (slots_of table s) + cond after 1 0
count-with_slot table s c y before after here size was is =
    ap (λ n. n + cond before 1 0) (ap (count_by is_over) (slots_of-with_slot table s c y here.column_in_range))
    ∙ ap (λ b. count_by is_over (set (slots_of table s) c y) + cond b 1 0) (sym was ∙ ap is_over (slot_at-slots_of table s c here.column_in_range))
    ∙ count_by-set is_over (slots_of table s) c y free_slot (let h = length-slots_of table s here.slice_in_range size in let k = here.column_in_range in omega arith)
    ∙ ap (λ b. count_by is_over (slots_of table s) + cond b 1 0) is

-- no free column is over
pub none_over : (n : ℕ) → count_by is_over (replicate n free_slot) ≡ 0
none_over zero = refl
none_over (suc n) = none_over n

pub size-without : (table : Table) (s : ℕ) → s < table.slices → length table.slots ≡ table.slices * table.columns → length (without_slice table s).slots ≡ table.slices * table.columns
size-without table s in' size = length-without_slice table s in' size ∙ size
