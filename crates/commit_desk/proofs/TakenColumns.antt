-- What the desk keeps of a column that a pass has claimed, while the pass has made no further event.
use Rattle.std.proofs.Common.{◌≡◌, ℕ, List, Some, sym, ap, ◌∙◌, subst}
use Rattle.document_store.specs.Slots.{IsColumn, slot_at}
use Rattle.document_store.specs.declared.column.Column.TheVariants as became
use Rattle.funnel_model.specs.declared.claim.Claim.{Claim}
use Rattle.funnel_model.specs.declared.event.Event.{Event}
use Rattle.funnel_model.specs.declared.event.Event.TheVariants as event
use Rattle.funnel_model.specs.History.{last_by}
use Rattle.slice_rule.specs.Seats.{HoldsClaim, HomeState, PassState}
use Rattle.slice_stages.specs.Stages.{stage_of}
use Rattle.slice_stages.specs.declared.stage.Stage.TheVariants as stage
use Rattle.commit_desk.specs.Desks.{DeskState, IsCaughtUp}
use Rattle.commit_desk.specs.Kept.{Books, IsDesk}
use Rattle.commit_desk.proofs.DocumentEvents.{taken_column, taken_stage}
use Rattle.commit_desk.proofs.MadeEvents.{desk_at}
use Rattle.commit_desk.proofs.RecordFacts.{taken_is_pending}

-- the claim is the pass's last event, and its column is pending, in a slice that is in use
pub record HasTaken (history : List Event) (books : Books) (pass : ℕ) (claim : Claim) : Type 0 where
  pub taken : last_by pass history ≡ Some (event.Take pass claim.slice claim.column)
  pub column : IsColumn books.table claim.slice claim.column
  pub pending : (slot_at books.table claim.slice claim.column).column ≡ became.Pending pass
  pub stage : (first : ℕ) × (over : ℕ) × (stage_of books.stages claim.slice ≡ stage.InUse first over)

-- so it is for a pass that has caught up and holds the claim
pub has_taken : (before : DeskState) (home : HomeState) (most : ℕ) (books : Books) → IsDesk home.pool most home.history books → desk_at home most ≡ before → (seat : PassState) → IsCaughtUp before seat →
    (pass : ℕ) → pass ≡ seat.number → (claim : Claim) → HoldsClaim seat claim → HasTaken home.history books pass claim
has_taken before home most books desk view seat caught pass number claim holds =
    let front : seat.front ≡ home.history = caught.front ∙ sym (ap (λ (d : DeskState). d.history) view) in
    let taken : last_by pass home.history ≡ Some (event.Take pass claim.slice claim.column) =
    subst (λ n. last_by n home.history ≡ Some (event.Take n claim.slice claim.column)) (sym number)
    (subst (λ (h : List Event). last_by seat.number h ≡ Some (event.Take seat.number claim.slice claim.column)) front holds) in
    let column : IsColumn books.table claim.slice claim.column = taken_column home.pool most home.history books desk pass claim.slice claim.column taken in
    record {
      taken = taken;
      column = column;
      pending = taken_is_pending home.pool.limits home.history books.table desk.kept.legal desk.kept.recorded pass claim.slice claim.column taken column;
      stage = taken_stage home.pool most home.history books desk pass claim.slice claim.column taken;
    }
