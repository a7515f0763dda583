-- A document that leaves its column is given back where no open find may ask for it.
use Rattle.std.proofs.Common.{◌≡◌, ⊎_elim, ℕ, ◌+◌, ◌<◌, ◌≤◌, List, ◌∷◌, length, Option, sym, ap, ◌∙◌, subst, length-append, arith, MatchOption}
use Rattle.document_store.specs.Documents.{Parts}
use Rattle.document_store.specs.Leaving.{LeavingState}
use Rattle.document_store.specs.Slots.{IsColumn, Table, slot_at, with_slot}
use Rattle.document_store.specs.declared.column.Column.TheVariants as became
use Rattle.funnel_model.specs.declared.event.Event.{Event}
use Rattle.funnel_model.specs.declared.event.Event.TheVariants as event
use Rattle.funnel_model.specs.History.{Document}
use Rattle.funnel_model.specs.Slices.{ColumnState, IsInState, Live}
use Rattle.funnel_model.specs.Tokens.{HasToken}
use Rattle.funnel_model.proofs.Columns.{one_state}
use Rattle.funnel_model.proofs.LiveColumns.{live_on_one_column}
use Rattle.slice_rule.specs.Pools.{PoolId}
use Rattle.commit_desk.specs.Kept.{Books}
use Rattle.commit_desk.specs.Leaving.{GivesBackOld, IsKeepingDesk, LetsGo}
use Rattle.commit_desk.specs.Records.{IsLiveIn, document_added_at}
use Rattle.commit_desk.proofs.KeepingDesks.{gone-or-stays}
use Rattle.commit_desk.proofs.RecordFacts.{live_is_open}
use Rattle.commit_desk.proofs.Slots.{state-live}

-- a find that is open began with an event of the history
pub token-within : (history : List Event) (pass number : ℕ) → HasToken history pass number → number ≤ length history
token-within history pass number token =
    let whole = ap length token.whole ∙ length-append token.earlier (event.Find pass token.query ∷ token.later) in
    let count = token.count in
    omega (arith, whole, count)

abbrev document_in : ColumnState → Document → Document
document_in (Live d since) other = d
document_in x other = other

abbrev since_in : ColumnState → ℕ
since_in (Live d since) = since
since_in x = 0

same_live : (d other : Document) (since later : ℕ) → Live d since ≡ Live other later → (d ≡ other) × (since ≡ later)
same_live d other since later is = (ap (λ x. document_in x d) is, ap since_in is)

-- how a document that was in its column since an event is given back
abbrev Goes : List Event → Document → ℕ → Option Parts → Type 0
Goes history document since gone = MatchOption gone ((pass : ℕ) × (number : ℕ) × HasToken history pass number × (since < number))
    (λ d. (d.id ≡ document.id) × (d.text ≡ document.text) × ((pass number : ℕ) → HasToken history pass number → since < number → ⊥))

module _ (pool : PoolId) (most : ℕ) (history : List Event) (books : Books) (leaving : LeavingState) (is : IsKeepingDesk pool most history books leaving) (s c : ℕ) (doc : Parts)
    (l : IsLiveIn (slot_at is.whole s c) doc) (here : IsColumn is.whole s c) (after : LeavingState) (middle next : Table) (gone : Option Parts)
    (table : middle ≡ with_slot books.table s c (record { column = became.Over l.added l.since (length history + 1); doc = (slot_at books.table s c).doc }))
    (lets : LetsGo books.tokens s c l.since (length history + 1) leaving after middle next gone) where
  lives_here : IsInState history s c (Live (document_added_at l.added doc) l.since)
  lives_here =
      let kept = is.desk.kept in
      subst (IsInState history s c) (state-live (slot_at is.whole s c) doc l) (kept.recorded.each s c here (live_is_open pool.limits history is.whole kept.legal kept.recorded s c doc here l)).state

  pub gives-back : (id : ℕ) → doc.id ≡ id → GivesBackOld history id gone
  gives-back id same slice column document since lives of_id =
      let kept = is.desk.kept in
      let mine = document_added_at l.added doc in
      let one = live_on_one_column pool.limits history s c slice column l.since since mine document kept.legal lives_here lives (same ∙ sym of_id) in
      let there : IsInState history s c (Live document since) = subst (λ k. IsInState history s k (Live document since)) (sym one.1) (subst (λ k. IsInState history k column (Live document since)) (sym one.0) lives) in
      let state = same_live mine document l.since since (one_state pool.limits history s c (Live mine l.since) (Live document since) kept.legal lives_here there) in
      let tokens_are = kept.tokens_are in
      record {
        goes = ⊎_elim
            (λ went.
            subst (λ (o : Option Parts). Goes history document since o) (sym went.0) (
              ap (λ (d : Document). d.id) state.0,
              ap (λ (d : Document). d.text) state.0,
              λ pass number token later.
                  went.1 pass number ((tokens_are.each pass number).1 token) (subst (λ n. n < number) (sym state.1) later) (let h = token-within history pass number token in omega (arith, h)),
            ))
            (λ stays.
            subst (λ (o : Option Parts). Goes history document since o) (sym stays.0)
            (stays.1, stays.2, (tokens_are.each stays.1 stays.2).0 stays.3, subst (λ n. n < stays.2) state.1 stays.4))
            (gone-or-stays pool most history books leaving is s c doc l here (length history + 1) after middle next gone table lets);
      }
