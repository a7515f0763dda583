-- Columns that are live or pending, by their records.
use Rattle.std.proofs.Common.{◌≡◌, ⊎_elim, ℕ, ◌+◌, ◌<◌, ◌≤◌, true, false, List, Option, ap, subst, arith, refl}
use Rattle.std.proofs.lemmas.Bool.{both_ways, cases_lt, true_from_ne_false}
use Rattle.document_store.specs.Documents.{Parts}
use Rattle.document_store.specs.Slots.{FitsColumn, IsColumn, Table, is_over, is_over_in, slot_at}
use Rattle.document_store.specs.declared.column.Column.{Column}
use Rattle.document_store.specs.declared.column.Column.TheVariants as became
use Rattle.funnel_model.specs.Blocks.{IsHeld}
use Rattle.funnel_model.specs.declared.event.Event.{Event}
use Rattle.funnel_model.specs.Legal.{IsLegal, Limits}
use Rattle.funnel_model.specs.Slices.{ColumnState, Unclaimed, IsFilled, IsInState, IsRetired, is_claimed, is_clearing}
use Rattle.funnel_model.proofs.Claims.{claimed_in_range}
use Rattle.funnel_model.proofs.Columns.{one_state, some_state}
use Rattle.commit_desk.specs.Records.{AreRecorded, state_in, state_of}
use Rattle.commit_desk.proofs.StageFacts.{in_table}
use Rattle.funnel_model.proofs.Blocks.{over_unless_held}

-- no column of the slice below this one is live or pending
abbrev pub NoneHeldBelow : List Event → ℕ → ℕ → Type 0
NoneHeldBelow history slice column = (lower : ℕ) → lower < column → (other : ColumnState) → IsInState history slice lower other → IsHeld other → ⊥

-- a column is recorded as live or pending where its state is that
held_in : (c : Column) (doc : Option Parts) → FitsColumn c doc → ((added since : ℕ) → c ≡ became.Live added since → ⊥) → ((pass : ℕ) → c ≡ became.Pending pass → ⊥) → IsHeld (state_in c doc) → ⊥
held_in became.Free doc fits not_live not_pending held = held
held_in (became.Pending pass) doc fits not_live not_pending held = not_pending pass refl
held_in (became.Live added since) doc fits not_live not_pending held = not_live added since refl
held_in (became.Over added since until) doc fits not_live not_pending held = subst IsHeld (ap (state_in (became.Over added since until)) fits.1) held
held_in became.Dropped doc fits not_live not_pending held = held

-- one more column that isn't recorded as live or pending
pub none_held-next : (limits : Limits) (history : List Event) (table : Table) (slice column : ℕ) → IsLegal limits history → AreRecorded limits history table → slice < limits.slices →
    column < limits.columns → is_clearing slice history ≡ false → ((added since : ℕ) → (slot_at table slice column).column ≡ became.Live added since → ⊥) → ((pass : ℕ) → (slot_at table slice column).column ≡ became.Pending pass → ⊥) →
    NoneHeldBelow history slice column → NoneHeldBelow history slice (column + 1)
none_held-next limits history table slice column legal recorded in' below uncleared not_live not_pending before lower low other is held =
    ⊎_elim
    (λ (less : lower < column). before lower less other is held)
    (λ (high : column ≤ lower).
    let same : lower ≡ column = omega arith in
    let slot = slot_at table slice column in
    let at = recorded.each slice column (in_table limits history table legal recorded slice column in' below) uncleared in
    let here : IsInState history slice column other = subst (λ k. IsInState history slice k other) same is in
    held_in slot.column slot.doc at.fits not_live not_pending (subst IsHeld (one_state limits history slice column other (state_of slot) legal here at.state) held))
    (cases_lt lower column)

-- none of the first columns of a slice is that are recorded as over
pub none_held-over : (limits : Limits) (history : List Event) (table : Table) (slice column : ℕ) → IsLegal limits history → AreRecorded limits history table → is_clearing slice history ≡ false →
    ((at : ℕ) → IsColumn table slice at → at < column → is_over (slot_at table slice at) ≡ true) → NoneHeldBelow history slice column
none_held-over limits history table slice column legal recorded uncleared over lower low other is held =
    let claimed =
    true_from_ne_false (is_claimed slice lower history) (λ unclaimed. subst IsHeld (one_state limits history slice lower other Unclaimed legal is unclaimed) held) in
    let in' = claimed_in_range limits history slice lower legal claimed in
    let here = in_table limits history table legal recorded slice lower in'.0 in'.1 in
    let slot = slot_at table slice lower in
    let at = recorded.each slice lower here uncleared in
    held_in slot.column slot.doc at.fits
    (λ added since live. both_ways (is_over slot) (ap is_over_in live) (over lower here low))
    (λ pass pending. both_ways (is_over slot) (ap is_over_in pending) (over lower here low))
    (subst IsHeld (one_state limits history slice lower other (state_of slot) legal is at.state) held)

-- a filled slice without a column that is held is retired, unless it is being cleared
pub retired_unless_held : (limits : Limits) (columns slice : ℕ) (history : List Event) → IsLegal limits history → IsFilled columns slice history → is_clearing slice history ≡ false →
    NoneHeldBelow history slice columns → IsRetired columns slice history
retired_unless_held limits columns slice history legal filled not_clearing none = record {
  over = λ column below.
      let is = some_state limits history slice column legal in (is.0, is.1, over_unless_held history slice column is.0 (filled column below) is.1 (none column below is.0 is.1));
  not_clearing = not_clearing;
}
