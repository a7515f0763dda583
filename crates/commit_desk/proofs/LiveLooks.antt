-- Which columns the desk finds live.
use Rattle.std.proofs.Common.{◌≡◌, true, ⊎_elim, ℕ, ◌+◌, ◌<◌, ◌≤◌, sym, ap, ◌∙◌, subst, arith}
use Rattle.std.proofs.lemmas.Bool.{both_ways, cases_lt}
use Rattle.document_store.specs.Slots.{IsColumn, is_over, slot_at}
use Rattle.document_store.specs.declared.column.Column.{Column}
use Rattle.document_store.specs.declared.column.Column.TheVariants as became
use Rattle.funnel_model.specs.History.{Document}
use Rattle.funnel_model.specs.Slices.{IsInState, Live}
use Rattle.slice_rule.specs.Seats.{HomeState}
use Rattle.slice_stages.specs.declared.stage.Stage.{Stage}
use Rattle.slice_stages.specs.declared.stage.Stage.TheVariants as stage
use Rattle.commit_desk.specs.Desks.{DeskState}
use Rattle.commit_desk.specs.Kept.{Books, IsDesk}
use Rattle.commit_desk.proofs.MadeEvents.{desk_at}
use Rattle.commit_desk.specs.Records.{document_added_at}
use Rattle.commit_desk.proofs.MoveTurns.{movable}
use Rattle.commit_desk.proofs.RecordFacts.{is_column, live_has_doc, live_recorded}
use Rattle.commit_desk.proofs.Slots.{live_not_over}

module _ (before : DeskState) (home : HomeState) (most : ℕ) (books : Books) (desk : IsDesk home.pool most home.history books) (view : desk_at home most ≡ before) where
  -- a column that isn't recorded as live has no live document
  pub none_live : (slice column : ℕ) (x : Column) → x ≡ (slot_at books.table slice column).column → ((added since : ℕ) → x ≡ became.Live added since → ⊥) →
      (d : Document) (since : ℕ) → IsInState before.history slice column (Live d since) → ⊥
  none_live slice column x is unless d since lives =
      let here : IsInState home.history slice column (Live d since) = subst (λ (b : DeskState). IsInState b.history slice column (Live d since)) (sym view) lives in
      let m = movable home.pool.limits home.history books.table slice column d since desk.kept.legal desk.kept.recorded here in
      unless m.lives.added m.lives.since (is ∙ m.lives.column)

  -- nor has one that is over
  pub none_live_over : (slice column : ℕ) → (IsColumn books.table slice column → is_over (slot_at books.table slice column) ≡ true) → (d : Document) (since : ℕ) → IsInState before.history slice column (Live d since) → ⊥
  none_live_over slice column over d since lives =
      let here : IsInState home.history slice column (Live d since) = subst (λ (b : DeskState). IsInState b.history slice column (Live d since)) (sym view) lives in
      let m = movable home.pool.limits home.history books.table slice column d since desk.kept.legal desk.kept.recorded here in
      both_ways (is_over (slot_at books.table slice column)) (live_not_over (slot_at books.table slice column) m.doc m.lives) (over m.from)

  -- one that is recorded as live has one
  pub live_found : (slice column added since : ℕ) → slice < before.pool.limits.slices → column < before.pool.limits.columns → became.Live added since ≡ (slot_at books.table slice column).column →
      (d : Document) × IsInState before.history slice column (Live d since)
  live_found slice column added since of_slice of_column is =
      let kept = desk.kept in
      let limits = home.pool.limits in
      let at = is_column limits home.history books.table kept.legal kept.recorded slice column (subst (λ (b : DeskState). slice < b.pool.limits.slices) (sym view) of_slice)
      (subst (λ (b : DeskState). column < b.pool.limits.columns) (sym view) of_column) in
      let found = live_has_doc limits home.history books.table kept.legal kept.recorded slice column added since at (sym is) in
      let lives = live_recorded limits home.history books.table kept.legal kept.recorded slice column found.0 at (record { added = added; since = since; column = sym is; doc_is = found.1 }) in
      (document_added_at added found.0, subst (λ (b : DeskState). IsInState b.history slice column (Live (document_added_at added found.0) since)) view lives)

-- what none of the lower numbers has, and the next has not, none of one more has
pub none_next : (P : ℕ → Type 0) (n : ℕ) → ((k : ℕ) → k < n → P k → ⊥) → (P n → ⊥) → (k : ℕ) → k < n + 1 → P k → ⊥
none_next P n none next k in' has =
    ⊎_elim (λ (lower : k < n). none k lower has)
    (λ (last : n ≤ k). let is : k ≡ n = omega (arith, in', last) in next (subst P is has))
    (cases_lt k n)

-- ---- stages in use

claimed_of : Stage → ℕ
claimed_of (stage.InUse first over) = first
claimed_of _ = 0

over_of : Stage → ℕ
over_of (stage.InUse first over) = over
over_of _ = 0

pub same_claimed : (a b m n : ℕ) → stage.InUse a b ≡ stage.InUse m n → a ≡ m
unfolding claimed_of
same_claimed a b m n is = ap claimed_of is

pub same_over : (a b m n : ℕ) → stage.InUse a b ≡ stage.InUse m n → b ≡ n
unfolding over_of
same_over a b m n is = ap over_of is
