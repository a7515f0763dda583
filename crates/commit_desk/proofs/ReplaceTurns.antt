-- What a pass knows at the desk when its document takes the place of a live one.
use Rattle.std.proofs.Common.{◌≡◌, ⊎_elim, ℕ, ◌<◌, All, List, sym, ap, ◌∙◌, subst}
use Rattle.document_store.specs.Documents.{Parts}
use Rattle.document_store.specs.Slots.{IsColumn, Table, slot_at, with_slot}
use Rattle.document_store.specs.declared.column.Column.TheVariants as became
use Rattle.document_store.specs.declared.slots.Slot.{Slot}
use Rattle.funnel_model.specs.declared.bit_list.Bit.{Bit}
use Rattle.funnel_model.specs.declared.claim.Claim.{Claim}
use Rattle.funnel_model.specs.declared.event.Event.TheVariants as event
use Rattle.funnel_model.specs.Legal.{IsAllowed, IsInSlice}
use Rattle.funnel_model.proofs.Progress.{allowed_by}
use Rattle.slice_rule.specs.Seats.{HoldsClaim, HomeState, PassState}
use Rattle.slice_stages.specs.Stages.{stage_of}
use Rattle.slice_stages.specs.declared.stage.Stage.TheVariants as stage
use Rattle.commit_desk.specs.Desks.{DeskState, IsCaughtUp}
use Rattle.commit_desk.specs.Kept.{Books, IsDesk}
use Rattle.commit_desk.specs.Records.{IsEntry, IsLiveIn}
use Rattle.commit_desk.proofs.DocumentEvents.{live_stage}
use Rattle.commit_desk.proofs.MadeEvents.{desk_at}
use Rattle.commit_desk.proofs.RecordFacts.{none_live_in_pending}
use Rattle.commit_desk.proofs.Slots.{with_slot-cases}
use Rattle.commit_desk.proofs.TakenColumns.{HasTaken, has_taken}

module _ (before : DeskState) (home : HomeState) (most : ℕ) (books : Books) (desk : IsDesk home.pool most home.history books) (view : desk_at home most ≡ before) (seat : PassState) (caught : IsCaughtUp before seat)
    (pass : ℕ) (number : pass ≡ seat.number) (claim : Claim) (holds : HoldsClaim seat claim) where
  -- what is kept of the column that it has claimed
  pub taken_now : HasTaken home.history books pass claim
  taken_now = has_taken before home most books desk view seat caught pass number claim holds

  -- which has no live document
  pub none_there : (doc : Parts) → IsLiveIn (slot_at books.table claim.slice claim.column) doc → ⊥
  none_there = none_live_in_pending home.pool.limits home.history books.table desk.kept.legal desk.kept.recorded pass claim.slice claim.column taken_now.taken taken_now.column

  pub add_allowed : (id : ℕ) (text : List ℕ) (bits : List Bit) → All (λ b. IsInSlice before.pool.limits.slice_words claim.slice b.word) bits → All (λ b. b.bit < 64) bits →
      IsAllowed home.pool.limits home.history (event.Add pass id text claim.slice claim.column bits)
  add_allowed id text bits inside of_words =
      allowed_by home.pool.limits home.history (event.Add pass id text claim.slice claim.column bits)
      (subst (λ n. n < home.pool.limits.passes) (sym number) (subst (λ (d : DeskState). seat.number < d.pool.limits.passes) (sym view) caught.in_range)) desk.none_awaited
      (record {
        taken = taken_now.taken;
        inside = subst (λ (d : DeskState). All (λ (b : Bit). IsInSlice d.pool.limits.slice_words claim.slice b.word) bits) (sym view) inside;
        in_word = of_words;
      })

  module _ (id f l : ℕ) (entry : IsEntry books.table id f l) where
    -- the slice of the old document is in use
    pub old_stage : (first : ℕ) × (over : ℕ) × (stage_of books.stages f ≡ stage.InUse first over)
    old_stage = live_stage home.pool most home.history books desk f l entry.doc entry.in_table entry.live

    columns_apart : claim.slice ≡ f → claim.column ≡ l → ⊥
    columns_apart one two =
        none_there entry.doc (subst (λ k. IsLiveIn (slot_at books.table k claim.column) entry.doc) (sym one)
        (subst (λ k. IsLiveIn (slot_at books.table f k) entry.doc) (sym two) entry.live))

    -- the column is pending still once the old document was taken off its own
    pub pending_after : (table : Table) (y : Slot) → table ≡ with_slot books.table f l y → (slot_at table claim.slice claim.column).column ≡ became.Pending pass
    pending_after table y is =
        ap (λ (t : Table). (slot_at t claim.slice claim.column).column) is
        ∙ ap (λ (x : Slot). x.column)
        (⊎_elim (λ one. absurd (columns_apart one.1 one.2)) (λ other. other.1)
        (with_slot-cases books.table f l y claim.slice claim.column entry.in_table taken_now.column desk.kept.recorded.size))
        ∙ taken_now.pending

    pub column_after : (table : Table) (y : Slot) → table ≡ with_slot books.table f l y → IsColumn table claim.slice claim.column
    column_after table y is =
        let to = taken_now.column in
        subst (λ (t : Table). IsColumn t claim.slice claim.column) (sym is) (record { slice_in_range = to.slice_in_range; column_in_range = to.column_in_range })
