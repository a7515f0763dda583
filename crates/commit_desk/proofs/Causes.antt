-- Why a slice can be emptied: a document was deleted, dropped or replaced before.
use Rattle.std.proofs.Common.{◌≡◌, ◌⊎◌, ⊎_elim, inl, inr, ℕ, zero, suc, ◌<◌, Bool, true, false, cond, List, [], ◌∷◌, ◌++◌, Contains, append_assoc, subst, sym, refl, ap, ◌∙◌, arith}
use Rattle.std.proofs.lemmas.Bool.{both_ways, eqb-true, false_from_ne_true, false≢true, or_from, or_parts}
use Rattle.std.proofs.lemmas.List.Folds.{list_any-append}
use Rattle.std.specs.List.{fold, list_any, range_with_len}
use Rattle.std.specs.Prelude.{count_by}
use Rattle.funnel_model.specs.declared.event.Event.{Event}
use Rattle.funnel_model.specs.declared.event.Event.TheVariants as event
use Rattle.funnel_model.specs.Events.{drops_on, moves, opens, takes_off}
use Rattle.funnel_model.specs.History.{Document, MovesNothing, has_cause, has_cause_from, is_cause, live}
use Rattle.funnel_model.specs.Reserve.{IsSource}
use Rattle.funnel_model.specs.Slices.{ColumnState, Deleted, Dropped, Live, Pending, Unclaimed, IsDeletedOn, IsInState, is_claimed, span}
use Rattle.funnel_model.proofs.CausedMoves.{no_cause_at, uncaused}
use Rattle.funnel_model.proofs.LiveColumns.{live_number}
use Rattle.funnel_model.proofs.LivesOn.{lives-later, none_ends}
use Rattle.funnel_model.proofs.NothingMoved.{moves_nothing-before}
use Rattle.slice_rule.specs.Pools.{PoolId}
use Rattle.funnel_model.proofs.Columns.{some_state}
use Rattle.commit_desk.specs.Kept.{Books, IsDesk}
use Rattle.funnel_model.proofs.Ranges.{counted_more}

-- where fewer than all pass, one doesn't
some_fails : (p : ℕ → Bool) (n : ℕ) → count_by p (range_with_len 0 n) < n → (k : ℕ) × (k < n) × (p k ≡ false)
some_fails p zero few = absurd (omega arith)
some_fails p (suc n) few = by (p n) refl (some_fails p n) where
  by : (b : Bool) → p n ≡ b → (count_by p (range_with_len 0 n) < n → (k : ℕ) × (k < n) × (p k ≡ false)) → (k : ℕ) × (k < suc n) × (p k ≡ false)
  by false is lower = (n, omega arith, is)
  by true is lower =
      let one : cond {A = ℕ} (p n) 1 0 ≡ 1 = ap (λ b. cond {A = ℕ} b 1 0) is in
      let more = counted_more p n in
      let earlier = lower (omega (arith, few, more, one)) in
      (earlier.0, let below = earlier.1 in omega (arith, below), earlier.2)

-- an event that leaves a column without a document is a cause to move others, or it moves something itself
drops_caused : (history : List Event) (slice column : ℕ) (e : Event) → drops_on slice column e ≡ true → (is_cause history e ≡ true) ⊎ (moves e ≡ true)
drops_caused history slice column (event.Drop pass id text dropped at) is = inl refl
drops_caused history slice column (event.Void pass voided at) is = inr refl
drops_caused history slice column _ is = absurd (false≢true is)

-- and so is one that takes a live document off its column
off_caused : (history : List Event) (d : Document) (e : Event) → Contains (live history) d → takes_off d.id e ≡ true → (is_cause history e ≡ true) ⊎ (moves e ≡ true)
off_caused history d (event.Del pass id) lives off = inl refl
off_caused history d (event.Add pass id text slice column bits) lives off = inl ((live_number history id).1 (d, lives, sym (eqb-true id d.id off)))
off_caused history d (event.Move pass id slice column bits) lives off = inr refl
off_caused history d _ lives off = absurd (false≢true off)

-- where nothing is a cause and nothing moves, no event leaves a column without a document
none_drops : (slice column : ℕ) (before later : List Event) → has_cause_from before later ≡ false → list_any moves later ≡ false → list_any (drops_on slice column) later ≡ false
none_drops slice column before [] none unmoved = refl
none_drops slice column before (e ∷ later) none unmoved =
    let causes = or_parts (is_cause before e) (has_cause_from (before ++ e ∷ []) later) none in
    let moved = or_parts (moves e) (list_any moves later) unmoved in
    or_from (drops_on slice column e) (list_any (drops_on slice column) later)
    (false_from_ne_true (drops_on slice column e) (λ drops. ⊎_elim
    (λ cause. both_ways (is_cause before e) causes.0 cause)
    (λ move. both_ways (moves e) moved.0 move)
    (drops_caused before slice column e drops)))
    (none_drops slice column (before ++ e ∷ []) later causes.1 moved.1)

-- what no event of a history passes none of a slice's span does
none_in_span : (f : Event → Bool) (slice : ℕ) (before later : List Event) → list_any f before ≡ false → list_any f later ≡ false →
    list_any f (fold (λ events e. cond (opens slice e) [] (events ++ e ∷ [])) before later) ≡ false
none_in_span f slice before [] none rest = none
none_in_span f slice before (e ∷ later) none rest =
    let parts = or_parts (f e) (list_any f later) rest in
    none_in_span f slice (cond (opens slice e) [] (before ++ e ∷ [])) later (by (opens slice e) parts.0) parts.1 where
      by : (b : Bool) → f e ≡ false → list_any f (cond b [] (before ++ e ∷ [])) ≡ false
      by true is = refl
      by false is = list_any-append f before (e ∷ []) ∙ or_from (list_any f before) (list_any f (e ∷ [])) none (or_from (f e) false is refl)

module _ (history : List Event) (none : has_cause history ≡ false) (unmoved : MovesNothing history) where
  none_dropped : (slice column : ℕ) → list_any (drops_on slice column) (span slice history) ≡ true → ⊥
  none_dropped slice column dropped =
      both_ways (list_any (drops_on slice column) (span slice history))
      (none_in_span (drops_on slice column) slice [] history refl (none_drops slice column [] history none unmoved)) dropped

  none_deleted : (slice column : ℕ) (document : Document) (since until : ℕ) → IsDeletedOn history slice column document since until → ⊥
  none_deleted slice column document since until is =
      let put = is.put in
      let before = put.earlier ++ put.event ∷ is.between in
      let whole : history ≡ before ++ is.event ∷ is.later = put.whole ∙ sym (append_assoc put.earlier (put.event ∷ is.between) (is.event ∷ is.later)) in
      let lives : Contains (live before) document =
      subst (λ h. Contains (live h) document) (append_assoc put.earlier (put.event ∷ []) is.between)
      (lives-later (put.earlier ++ put.event ∷ []) is.between document put.lives (none_ends document.id is.between is.not_before)) in
      ⊎_elim
      (λ cause. both_ways (is_cause before is.event) (no_cause_at history before is.event is.later whole none) cause)
      (λ move. both_ways (moves is.event) (moves_nothing-before history before is.event is.later whole unmoved).1 move)
      (off_caused before document is.event lives is.takes_it_off)

-- a column of the source is claimed and not held, so it was left without a document, or its document was taken off
pub source_is_caused : (pool : PoolId) (most : ℕ) (history : List Event) (books : Books) (slice held : ℕ) → IsDesk pool most history books → IsSource pool.limits history slice held →
    has_cause history ≡ true
source_is_caused pool most history books slice held desk source = by (has_cause history) refl where
  at : (k : ℕ) × (k < pool.limits.columns) × (source.can.holds.test k ≡ false)
  at = some_fails source.can.holds.test pool.limits.columns (let count = source.can.holds.count in let fewer = source.can.fewer in omega (arith, count, fewer))

  by_state : has_cause history ≡ false → MovesNothing history → (x : ColumnState) → IsInState history slice at.0 x → ⊥
  by_state none unmoved Unclaimed is = both_ways (is_claimed slice at.0 history) is (source.can.filled at.0 at.1)
  by_state none unmoved (Pending pass) is = false≢true (sym at.2 ∙ (source.can.holds.tells at.0 at.1).1 (Pending pass, is, tt))
  by_state none unmoved Dropped is = none_dropped history none unmoved slice at.0 is
  by_state none unmoved (Live d since) is = false≢true (sym at.2 ∙ (source.can.holds.tells at.0 at.1).1 (Live d since, is, tt))
  by_state none unmoved (Deleted d since until) is = none_deleted history none unmoved slice at.0 d since until is

  by : (b : Bool) → has_cause history ≡ b → has_cause history ≡ true
  by true is = is
  by false is =
      let state = some_state pool.limits history slice at.0 desk.kept.legal in
      absurd (by_state is (uncaused history desk.kept.caused is) state.0 state.1)
