-- What a pass knows at the desk when it ends a move.
use Rattle.std.proofs.Common.{◌≡◌, ⊎_elim, Contains, ℕ, ◌<◌, true, All, List, [], ◌∷◌, ◌++◌, length, Some, sym, refl, ap, ◌∙◌, subst, append_assoc, arith}
use mathlib.Core.List.{IsPrefix}
use Rattle.document_store.specs.Documents.{Parts}
use Rattle.document_store.specs.Slots.{IsColumn, Table, slot_at, with_slot}
use Rattle.document_store.specs.declared.column.Column.TheVariants as became
use Rattle.document_store.specs.declared.slots.Slot.{Slot}
use Rattle.funnel_model.specs.declared.bit_list.Bit.{Bit}
use Rattle.funnel_model.specs.declared.claim.Claim.{Claim}
use Rattle.funnel_model.specs.declared.event.Event.{Event}
use Rattle.funnel_model.specs.declared.event.Event.TheVariants as event
use Rattle.funnel_model.specs.Events.{put_on}
use Rattle.funnel_model.specs.History.{Document, has_cause, live}
use Rattle.funnel_model.specs.Legal.{IsAllowed, IsInSlice, IsLegal, Limits}
use Rattle.funnel_model.specs.Slices.{IsInState, IsLiveOn, Live}
use Rattle.funnel_model.proofs.Histories.{legal_before}
use Rattle.funnel_model.proofs.LiveColumns.{live_column_is_live, live_has_column, live_number, live_on_one_column}
use Rattle.funnel_model.proofs.LivesOn.{one_live}
use Rattle.funnel_model.proofs.Progress.{allowed_by}
use Rattle.slice_rule.specs.Seats.{HoldsClaim, HomeState, PassState}
use Rattle.slice_stages.specs.Stages.{stage_of}
use Rattle.slice_stages.specs.declared.stage.Stage.TheVariants as stage
use Rattle.commit_desk.specs.Desks.{DeskState, IsCaughtUp}
use Rattle.commit_desk.specs.Kept.{Books, IsDesk}
use Rattle.commit_desk.specs.Moving.{HoldsLook, IsThereStill, document_of}
use Rattle.commit_desk.specs.Records.{AreRecorded, IsLiveIn, document_added_at}
use Rattle.commit_desk.specs.declared.look.Look.{Look}
use Rattle.commit_desk.proofs.DocumentEvents.{live_stage}
use Rattle.commit_desk.proofs.MadeEvents.{desk_at}
use Rattle.commit_desk.proofs.RecordFacts.{is_column, live_not_clearing, none_live_in_pending, state_is}
use Rattle.commit_desk.proofs.Slots.{live_by_state, with_slot-cases}
use Rattle.commit_desk.proofs.TakenColumns.{HasTaken, has_taken}

-- of two ways to take a list apart the first parts and the items after them are the same where the first parts are as long
one_split : {X : Type 0} → (xs ys : List X) (x y : X) (later more : List X) → xs ++ x ∷ later ≡ ys ++ y ∷ more → length xs ≡ length ys → (xs ≡ ys) × (x ≡ y)
one_split [] [] x y later more same long = (refl, cc)
one_split [] (b ∷ ys) x y later more same long = absurd (omega arith)
one_split (a ∷ xs) [] x y later more same long = absurd (omega arith)
one_split (a ∷ xs) (b ∷ ys) x y later more same long =
    let first : a ≡ b = cc in
    let rest : xs ++ x ∷ later ≡ ys ++ y ∷ more = cc in
    let both = one_split xs ys x y later more rest (omega (arith, long)) in
    (ap (λ z. z ∷ xs) first ∙ ap (λ zs. b ∷ zs) both.0, both.1)

same_number : (m n : ℕ) → Some m ≡ Some n → m ≡ n
same_number m n is = cc

-- what one event put on a column is one document, however much of the history was seen
pub same_document : (limits : Limits) (earlier history : List Event) (slice column since : ℕ) (d e : Document) → IsLegal limits history → IsPrefix earlier history →
    IsLiveOn earlier slice column d since → IsLiveOn history slice column e since → d ≡ e
same_document limits earlier history slice column since d e legal goes was is =
    let a = was.put in
    let b = is.put in
    let whole : a.earlier ++ a.event ∷ (was.later ++ goes.0) ≡ b.earlier ++ b.event ∷ is.later =
    sym (append_assoc a.earlier (a.event ∷ was.later) goes.0) ∙ ap (λ h. h ++ goes.0) (sym a.whole) ∙ goes.1 ∙ b.whole in
    let one = one_split a.earlier b.earlier a.event b.event (was.later ++ goes.0) is.later whole (let m = a.count in let n = b.count in omega arith) in
    let front : a.earlier ++ a.event ∷ [] ≡ b.earlier ++ b.event ∷ [] = ap (λ h. h ++ a.event ∷ []) one.0 ∙ ap (λ x. b.earlier ++ x ∷ []) one.1 in
    let legal_then : IsLegal limits (b.earlier ++ b.event ∷ []) =
    legal_before limits (b.earlier ++ b.event ∷ []) is.later (subst (IsLegal limits) (b.whole ∙ sym (append_assoc b.earlier (b.event ∷ []) is.later)) legal) in
    one_live limits (b.earlier ++ b.event ∷ []) d e legal_then (subst (λ h. Contains (live h) d) front a.lives) b.lives
    (same_number d.id e.id (sym a.puts ∙ ap (put_on slice column) one.1 ∙ b.puts))

-- a live document is recorded in its column
pub record IsMovable (table : Table) (slice column : ℕ) (d : Document) (since : ℕ) : Type 0 where
  pub from : IsColumn table slice column
  pub doc : Parts
  pub lives : IsLiveIn (slot_at table slice column) doc
  pub is : document_added_at lives.added doc ≡ d

pub movable : (limits : Limits) (history : List Event) (table : Table) (slice column : ℕ) (d : Document) (since : ℕ) → IsLegal limits history → AreRecorded limits history table →
    IsInState history slice column (Live d since) → IsMovable table slice column d since
movable limits history table slice column d since legal recorded lives =
    let at = live_has_column limits history d legal (live_column_is_live history slice column d since lives) in
    let one = live_on_one_column limits history at.0 at.1 slice column at.2 since d d legal at.5 lives refl in
    let here = is_column limits history table legal recorded slice column (subst (λ s. s < limits.slices) one.0 at.3) (subst (λ c. c < limits.columns) one.1 at.4) in
    let from : IsColumn table slice column = record { slice_in_range = here.slice_in_range; column_in_range = here.column_in_range } in
    let uncleared = live_not_clearing limits history slice column d since legal (subst (λ c. c < limits.columns) one.1 at.4) lives in
    let slot = live_by_state (slot_at table slice column) d since (recorded.each slice column here uncleared).fits (state_is limits history table legal recorded slice column (Live d since) from uncleared lives) in
    record { from = from; doc = slot.doc; lives = slot.live; is = slot.is }

module _ (before : DeskState) (home : HomeState) (most : ℕ) (books : Books) (desk : IsDesk home.pool most home.history books) (view : desk_at home most ≡ before) (seat : PassState) (caught : IsCaughtUp before seat)
    (pass : ℕ) (number : pass ≡ seat.number) (claim : Claim) (holds : HoldsClaim seat claim) (look : Look) (held : HoldsLook seat look) (there : IsThereStill before.history look) where
  history_now : before.history ≡ home.history
  history_now = sym (ap (λ (d : DeskState). d.history) view)

  front_now : seat.front ≡ home.history
  front_now = caught.front ∙ history_now

  held_now : HasTaken home.history books pass claim
  held_now = has_taken before home most books desk view seat caught pass number claim holds

  pub to_now : IsColumn books.table claim.slice claim.column
  to_now = held_now.column

  pub there_now : IsThereStill home.history look
  there_now = subst (λ h. IsThereStill h look) history_now there

  -- the document is the one that was looked at
  document_now : document_of look ≡ there_now.0
  document_now =
      same_document home.pool.limits held.earlier home.history look.slice look.column look.since (document_of look) there_now.0 desk.kept.legal
      (subst (λ h. IsPrefix held.earlier h) front_now held.seen) held.live there_now.2

  pub from_now : IsMovable books.table look.slice look.column there_now.0 look.since
  from_now = movable home.pool.limits home.history books.table look.slice look.column there_now.0 look.since desk.kept.legal desk.kept.recorded there_now.2

  pub same_now : document_added_at look.place look.doc ≡ document_added_at from_now.lives.added from_now.doc
  same_now = document_now ∙ sym from_now.is

  pub id_now : look.doc.id ≡ from_now.doc.id
  id_now = ap (λ (d : Document). d.id) same_now

  pub stage_now : (first : ℕ) × (over : ℕ) × (stage_of books.stages look.slice ≡ stage.InUse first over)
  stage_now = live_stage home.pool most home.history books desk look.slice look.column from_now.doc from_now.from from_now.lives

  pub cause_now : has_cause home.history ≡ true
  cause_now = ap has_cause (sym front_now) ∙ held.cause

  -- the claimed column is another one
  pub none_there : (doc : Parts) → IsLiveIn (slot_at books.table claim.slice claim.column) doc → ⊥
  none_there = none_live_in_pending home.pool.limits home.history books.table desk.kept.legal desk.kept.recorded pass claim.slice claim.column held_now.taken to_now

  apart_now : claim.slice ≡ look.slice → claim.column ≡ look.column → ⊥
  apart_now one two =
      none_there from_now.doc (subst (λ k. IsLiveIn (slot_at books.table k claim.column) from_now.doc) (sym one) (subst (λ k. IsLiveIn (slot_at books.table look.slice k) from_now.doc) (sym two) from_now.lives))

  -- it is so still once the document was taken off its column
  pub pending_then : (table : Table) (y : Slot) → table ≡ with_slot books.table look.slice look.column y → (slot_at table claim.slice claim.column).column ≡ became.Pending pass
  pending_then table y is =
      ap (λ (t : Table). (slot_at t claim.slice claim.column).column) is
      ∙ ap (λ (x : Slot). x.column)
      (⊎_elim (λ one. absurd (apart_now one.1 one.2)) (λ other. other.1) (with_slot-cases books.table look.slice look.column y claim.slice claim.column from_now.from to_now desk.kept.recorded.size))
      ∙ held_now.pending

  pub column_then : (table : Table) (y : Slot) → table ≡ with_slot books.table look.slice look.column y → IsColumn table claim.slice claim.column
  column_then table y is =
      subst (λ (t : Table). IsColumn t claim.slice claim.column) (sym is) (record { slice_in_range = to_now.slice_in_range; column_in_range = to_now.column_in_range })

  pub allowed_now : (bits : List Bit) → All (λ b. IsInSlice before.pool.limits.slice_words claim.slice b.word) bits → All (λ b. b.bit < 64) bits →
      IsAllowed home.pool.limits home.history (event.Move pass look.doc.id claim.slice claim.column bits)
  allowed_now bits inside of_words =
      allowed_by home.pool.limits home.history (event.Move pass look.doc.id claim.slice claim.column bits)
      (subst (λ n. n < home.pool.limits.passes) (sym number) (subst (λ (d : DeskState). seat.number < d.pool.limits.passes) (sym view) caught.in_range)) desk.none_awaited
      (record {
        taken = held_now.taken;
        present = (live_number home.history look.doc.id).1 (there_now.0, live_column_is_live home.history look.slice look.column there_now.0 look.since there_now.2, there_now.1);
        inside = subst (λ (d : DeskState). All (λ (b : Bit). IsInSlice d.pool.limits.slice_words claim.slice b.word) bits) (sym view) inside;
        in_word = of_words;
      })
