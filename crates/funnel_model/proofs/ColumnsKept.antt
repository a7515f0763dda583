-- What holds of all columns of a legal history together, and stays with each event.
use Rattle.std.proofs.Common.{◌≡◌, ℕ, ◌+◌, ◌<◌, ⊎_elim, Bool, true, false, cond, ◌||◌, List, [], ◌∷◌, ◌++◌, length, Some, None, sym, refl, ap, ◌∙◌, subst}
use Rattle.std.proofs.lemmas.Bool.{and_parts, both_ways, cases_eq, eq-eqb, eqb-true, false≢true, false_from_ne_true, or_cases, or_from, or_parts, or_right, true_from_ne_false}
use Rattle.std.proofs.Math.Bool.{or-false}
use Rattle.std.specs.List.{Contains, list_any}
use Rattle.std.specs.Option.{is_some}
use Rattle.std.specs.Prelude.{◌==◌, ◌&&◌}
use Rattle.funnel_model.specs.declared.event.Event.{Event}
use Rattle.funnel_model.specs.declared.event.Event.TheVariants as event
use Rattle.funnel_model.specs.Events.{clears, drops_on, opens, pass_of, put_on, takes, takes_off}
use Rattle.funnel_model.specs.History.{Document, last_by, live}
use Rattle.funnel_model.specs.Legal.{Limits, IsAllowed, IsLegal}
use Rattle.funnel_model.specs.Slices.{ColumnState, Unclaimed, Pending, Dropped, Live, Deleted, IsInState, IsLiveOn, IsOver, IsPending, is_claimed, is_clearing, span}
use Rattle.funnel_model.proofs.Claims.{claimed_in_range, take_follows, take_is_unclaimed}
use Rattle.funnel_model.proofs.ColumnStates.{Drops, DroppedBy, OpenedBy, PutBy, Puts, Quiet, Silent, TakenBy, Touch, after, after-opened, after-take, deleted_before, has_document, has_document-unless_taken_off, has_put, live_before, live_now_or_before, none_put_opened, over-unless_taken_off, quiet-push, quiet_before, state_of, state_of-push, state_of-start, this_column, touch, unless_taken_off}
use Rattle.funnel_model.proofs.Histories.{holds_of_legal, legal-push}
use Rattle.funnel_model.proofs.LastEvents.{clears_is, last_is_clearing, not_clearing_opened}
use Rattle.funnel_model.proofs.LivesOn.{one_live}
use Rattle.funnel_model.proofs.NextEvents.{last_by_before, next_of_take}
use Rattle.funnel_model.proofs.Spans.{claims, in_span-push, is_claimed-opens, is_claimed-push, last_by-other, last_by-own, not_empty, span-opened}

-- each column is in the state to which the events take it, and in no other; it is pending by the pass whose last event is the
-- take of it; and the columns of a slice that is being cleared are over
pub record Kept (limits : Limits) (history : List Event) : Type 0 where
  pub holds : (slice column : ℕ) → IsInState history slice column (state_of slice column history)
  pub only : (slice column : ℕ) (y : ColumnState) → IsInState history slice column y → y ≡ state_of slice column history
  pub put : (slice column : ℕ) → has_put slice column history ≡ has_document (state_of slice column history)
  pub taken : (pass slice column : ℕ) → last_by pass history ≡ Some (event.Take pass slice column) → state_of slice column history ≡ Pending pass
  pub over : (slice column : ℕ) → is_clearing slice history ≡ true → column < limits.columns → IsOver (state_of slice column history)

-- the column that is taken is unclaimed
pub take_from : (limits : Limits) (history : List Event) (pass slice column : ℕ) → IsLegal limits history → Kept limits history →
    IsAllowed limits history (event.Take pass slice column) → state_of slice column history ≡ Unclaimed
take_from limits history pass slice column legal kept allowed =
    sym (kept.only slice column Unclaimed (take_is_unclaimed limits history pass slice column legal allowed))

-- the column after each event that concerns it
taken_column : (limits : Limits) (history : List Event) (pass slice column : ℕ) → IsLegal limits history → Kept limits history →
    IsAllowed limits history (event.Take pass slice column) → IsPending (history ++ event.Take pass slice column ∷ []) slice column pass
taken_column limits history pass slice column legal kept allowed =
    let from = take_from limits history pass slice column legal kept allowed in
    record {
      taken = in_span-push (takes pass slice column) slice history (event.Take pass slice column) refl
          ∙ or_right (list_any (takes pass slice column) (span slice history)) (takes pass slice column (event.Take pass slice column))
          (ap (λ b. b && (slice == slice && column == column)) (eq-eqb pass pass refl) ∙ this_column slice column);
      not_put = in_span-push (λ x. is_some (put_on slice column x)) slice history (event.Take pass slice column) refl
          ∙ or_from (has_put slice column history) false (kept.put slice column ∙ ap has_document from) refl;
      not_dropped = in_span-push (drops_on slice column) slice history (event.Take pass slice column) refl
          ∙ or_from (list_any (drops_on slice column) (span slice history)) false
          (false_from_ne_true (list_any (drops_on slice column) (span slice history)) (λ dropped. let same = kept.only slice column Dropped dropped in cc)) refl;
    }

-- a column is live after an event that puts a live document there
put_column : (history : List Event) (slice column id : ℕ) (e : Event) (d : Document) → put_on slice column e ≡ Some id → d.id ≡ id →
    Contains (live (history ++ e ∷ [])) d → IsLiveOn (history ++ e ∷ []) slice column d (length history + 1)
put_column history slice column id e d puts same lives = record {
  later = [];
  put = record { earlier = history; event = e; whole = refl; count = refl; puts = puts ∙ ap Some (sym same); lives = lives; stays = refl };
  not_taken_off = refl;
}

-- a column is dropped after an event that leaves it without a document
dropped_column : (history : List Event) (slice column : ℕ) (e : Event) → Drops slice column e →
    list_any (drops_on slice column) (span slice (history ++ e ∷ [])) ≡ true
dropped_column history slice column e drops =
    in_span-push (drops_on slice column) slice history e drops.not_opened
    ∙ or_right (list_any (drops_on slice column) (span slice history)) (drops_on slice column e) drops.drops

-- an event that is allowed takes a column to the state after, by how it concerns it
in_state_by : (limits : Limits) (history : List Event) (e : Event) (slice column : ℕ) (x : ColumnState) → IsLegal limits history → Kept limits history →
    IsAllowed limits history e → IsInState history slice column x → Touch slice column e →
    IsInState (history ++ e ∷ []) slice column (after slice column history x e)
in_state_by limits history e slice column x legal kept allowed is (TakenBy pass same) =
    subst (λ f. IsInState (history ++ f ∷ []) slice column (after slice column history x f)) (sym same)
    (subst (IsInState (history ++ event.Take pass slice column ∷ []) slice column) (sym (after-take slice column history pass x))
    (taken_column limits history pass slice column legal kept (subst (IsAllowed limits history) same allowed)))
in_state_by limits history e slice column x legal kept allowed is (PutBy id puts) =
    let live_one = puts.becomes limits history allowed in
    subst (IsInState (history ++ e ∷ []) slice column) (sym (live_one.3 x))
    (put_column history slice column id e live_one.0 puts.puts live_one.2 live_one.1)
in_state_by limits history e slice column x legal kept allowed is (DroppedBy drops) =
    subst (IsInState (history ++ e ∷ []) slice column) (sym (drops.becomes history x)) (dropped_column history slice column e drops)
in_state_by limits history e slice column x legal kept allowed is (OpenedBy pass alone same) =
    subst (λ f. IsInState (history ++ f ∷ []) slice column (after slice column history x f)) (sym same)
    (subst (IsInState (history ++ event.Opened pass slice alone ∷ []) slice column) (sym (after-opened slice column history pass alone x))
    (is_claimed-opens slice column history (event.Opened pass slice alone) (eq-eqb slice slice refl)))
in_state_by limits history e slice column x legal kept allowed is (Silent quiet) =
    subst (IsInState (history ++ e ∷ []) slice column) (sym (quiet.leaves history x)) (quiet-push history slice column e quiet x is)

-- an event that is allowed takes a column from its state to the state after
pub kept_in_state : (limits : Limits) (history : List Event) (e : Event) → IsLegal limits history → Kept limits history → IsAllowed limits history e →
    (slice column : ℕ) (x : ColumnState) → IsInState history slice column x →
    IsInState (history ++ e ∷ []) slice column (after slice column history x e)
kept_in_state limits history e legal kept allowed slice column x is = in_state_by limits history e slice column x legal kept allowed is (touch slice column e)

-- after a take of a column it is in no other state
only_taken : (limits : Limits) (history : List Event) (pass slice column : ℕ) → Kept limits history → state_of slice column history ≡ Unclaimed →
    (y : ColumnState) → IsInState (history ++ event.Take pass slice column ∷ []) slice column y → y ≡ Pending pass
only_taken limits history pass slice column kept from Unclaimed is =
    absurd (both_ways (is_claimed slice column (history ++ event.Take pass slice column ∷ [])) is
    (is_claimed-push slice column history (event.Take pass slice column) refl
    ∙ or_right (is_claimed slice column history) (slice == slice && column == column) (this_column slice column)))
only_taken limits history pass slice column kept from (Pending p) is =
    let e = event.Take pass slice column in
    ⊎_elim
    (λ before.
    let pending : IsPending history slice column p = record {
      taken = before;
      not_put = (or_parts (has_put slice column history) false
          (sym (in_span-push (λ x. is_some (put_on slice column x)) slice history e refl) ∙ is.not_put)).0;
      not_dropped = (or_parts (list_any (drops_on slice column) (span slice history)) false
          (sym (in_span-push (drops_on slice column) slice history e refl) ∙ is.not_dropped)).0;
    } in
    let same = kept.only slice column (Pending p) pending in cc)
    (λ now. sym (ap Pending (eqb-true pass p (and_parts (pass == p) (slice == slice && column == column) now).0)))
    (or_cases (list_any (takes p slice column) (span slice history)) (takes p slice column e)
    (sym (in_span-push (takes p slice column) slice history e refl) ∙ is.taken))
only_taken limits history pass slice column kept from Dropped is =
    ⊎_elim
    (λ before. let same = kept.only slice column Dropped before in cc)
    (λ now. absurd (false≢true now))
    (or_cases (list_any (drops_on slice column) (span slice history)) false
    (sym (in_span-push (drops_on slice column) slice history (event.Take pass slice column) refl) ∙ is))
only_taken limits history pass slice column kept from (Live d since) is =
    let same = kept.only slice column (Live d since) (live_before history slice column d since (event.Take pass slice column) is refl).0 in cc
only_taken limits history pass slice column kept from (Deleted d since until) is =
    ⊎_elim
    (λ before. let same = kept.only slice column (Deleted d since until) before in cc)
    (λ live. absurd (false≢true live.1))
    (deleted_before history slice column d since until (event.Take pass slice column) is)

-- after an event that puts a document on a column it is in no other state
only_put : (limits : Limits) (history : List Event) (slice column id pass : ℕ) (e : Event) (d : Document) → IsLegal limits (history ++ e ∷ []) → Kept limits history →
    Puts slice column id e → d.id ≡ id → Contains (live (history ++ e ∷ [])) d → state_of slice column history ≡ Pending pass →
    (y : ColumnState) → IsInState (history ++ e ∷ []) slice column y → y ≡ Live d (length history + 1)
only_put limits history slice column id pass e d legal kept puts same lives from Unclaimed is =
    let before = or_parts (is_claimed slice column history) (claims slice column e) (sym (is_claimed-push slice column history e puts.not_opened) ∙ is) in
    let state = kept.only slice column Unclaimed before.0 in cc
only_put limits history slice column id pass e d legal kept puts same lives from (Pending p) is =
    let none = or_parts (has_put slice column history) (is_some (put_on slice column e))
    (sym (in_span-push (λ x. is_some (put_on slice column x)) slice history e puts.not_opened) ∙ is.not_put) in
    absurd (both_ways (is_some (put_on slice column e)) none.1 (ap is_some puts.puts))
only_put limits history slice column id pass e d legal kept puts same lives from Dropped is =
    ⊎_elim
    (λ before. let state = kept.only slice column Dropped before in cc)
    (λ now. absurd (both_ways (drops_on slice column e) puts.not_dropped now))
    (or_cases (list_any (drops_on slice column) (span slice history)) (drops_on slice column e)
    (sym (in_span-push (drops_on slice column) slice history e puts.not_opened) ∙ is))
only_put limits history slice column id pass e d legal kept puts same lives from (Live other since) is =
    ⊎_elim
    (λ now.
    let ids : Some id ≡ Some other.id = sym puts.puts ∙ now.0 in
    let number : id ≡ other.id = cc in
    let one : other ≡ d = one_live limits (history ++ e ∷ []) other d legal now.2 lives (sym number ∙ sym same) in
    ap (λ x. Live x since) one ∙ ap (Live d) now.1)
    (λ before. let state = kept.only slice column (Live other since) before.0 in cc)
    (live_now_or_before history slice column other since e is)
only_put limits history slice column id pass e d legal kept puts same lives from (Deleted other since until) is =
    ⊎_elim
    (λ before. let state = kept.only slice column (Deleted other since until) before in cc)
    (λ live. let state = kept.only slice column (Live other since) live.0 in cc)
    (deleted_before history slice column other since until e is)

-- after an event that leaves a column without a document it is in no other state
only_dropped : (limits : Limits) (history : List Event) (slice column pass : ℕ) (e : Event) → Kept limits history → Drops slice column e →
    state_of slice column history ≡ Pending pass → (y : ColumnState) → IsInState (history ++ e ∷ []) slice column y → y ≡ Dropped
only_dropped limits history slice column pass e kept drops from Unclaimed is =
    let before = or_parts (is_claimed slice column history) (claims slice column e) (sym (is_claimed-push slice column history e drops.not_opened) ∙ is) in
    let state = kept.only slice column Unclaimed before.0 in cc
only_dropped limits history slice column pass e kept drops from (Pending p) is =
    absurd (both_ways (list_any (drops_on slice column) (span slice (history ++ e ∷ []))) is.not_dropped (dropped_column history slice column e drops))
only_dropped limits history slice column pass e kept drops from Dropped is = refl
only_dropped limits history slice column pass e kept drops from (Live d since) is =
    let state = kept.only slice column (Live d since) (live_before history slice column d since e is drops.not_put).0 in cc
only_dropped limits history slice column pass e kept drops from (Deleted d since until) is =
    ⊎_elim
    (λ before. let state = kept.only slice column (Deleted d since until) before in cc)
    (λ live. absurd (both_ways (takes_off d.id e) (drops.takes_none d.id) live.1))
    (deleted_before history slice column d since until e is)

-- after an Opened of its slice a column is in no other state
only_opened : (history : List Event) (pass slice column : ℕ) (alone : Bool) (y : ColumnState) →
    IsInState (history ++ event.Opened pass slice alone ∷ []) slice column y → y ≡ Unclaimed
only_opened history pass slice column alone Unclaimed is = refl
only_opened history pass slice column alone (Pending p) is =
    absurd (false≢true (sym (ap (list_any (takes p slice column)) (span-opened slice history (event.Opened pass slice alone) (eq-eqb slice slice refl))) ∙ is.taken))
only_opened history pass slice column alone Dropped is =
    absurd (false≢true (sym (ap (list_any (drops_on slice column)) (span-opened slice history (event.Opened pass slice alone) (eq-eqb slice slice refl))) ∙ is))
only_opened history pass slice column alone (Live d since) is =
    absurd (none_put_opened history slice column d since is.later (event.Opened pass slice alone) is.put (eq-eqb slice slice refl) refl)
only_opened history pass slice column alone (Deleted d since until) is =
    absurd (none_put_opened history slice column d since (is.between ++ is.event ∷ is.later) (event.Opened pass slice alone) is.put (eq-eqb slice slice refl) refl)

-- after an event that is allowed a column is in no other state, by how the event concerns it
only_by : (limits : Limits) (history : List Event) (e : Event) (slice column : ℕ) (y : ColumnState) → IsLegal limits history → Kept limits history →
    IsAllowed limits history e → IsInState (history ++ e ∷ []) slice column y → Touch slice column e →
    y ≡ after slice column history (state_of slice column history) e
only_by limits history e slice column y legal kept allowed is (TakenBy pass same) =
    let from = take_from limits history pass slice column legal kept (subst (IsAllowed limits history) same allowed) in
    only_taken limits history pass slice column kept from y (subst (λ f. IsInState (history ++ f ∷ []) slice column y) same is)
    ∙ sym (after-take slice column history pass (state_of slice column history))
    ∙ ap (after slice column history (state_of slice column history)) (sym same)
only_by limits history e slice column y legal kept allowed is (PutBy id puts) =
    let live_one = puts.becomes limits history allowed in
    let from = kept.taken (pass_of e) slice column (puts.taken limits history allowed) in
    only_put limits history slice column id (pass_of e) e live_one.0 (legal-push limits history e legal allowed) kept puts live_one.2 live_one.1 from y is
    ∙ sym (live_one.3 (state_of slice column history))
only_by limits history e slice column y legal kept allowed is (DroppedBy drops) =
    let from = kept.taken (pass_of e) slice column (drops.taken limits history allowed) in
    only_dropped limits history slice column (pass_of e) e kept drops from y is ∙ sym (drops.becomes history (state_of slice column history))
only_by limits history e slice column y legal kept allowed is (OpenedBy pass alone same) =
    only_opened history pass slice column alone y (subst (λ f. IsInState (history ++ f ∷ []) slice column y) same is)
    ∙ sym (after-opened slice column history pass alone (state_of slice column history))
    ∙ ap (after slice column history (state_of slice column history)) (sym same)
only_by limits history e slice column y legal kept allowed is (Silent quiet) =
    let before = quiet_before history slice column e quiet y is in
    before.2 ∙ ap (unless_taken_off (length history + 1) e) (kept.only slice column before.0 before.1)
    ∙ sym (quiet.leaves history (state_of slice column history))

-- whether a document was put there stays told by the state, by how the event concerns the column
put_by_touch : (limits : Limits) (history : List Event) (e : Event) (slice column : ℕ) → IsLegal limits history → Kept limits history →
    IsAllowed limits history e → Touch slice column e →
    has_put slice column (history ++ e ∷ []) ≡ has_document (after slice column history (state_of slice column history) e)
put_by_touch limits history e slice column legal kept allowed (TakenBy pass same) =
    let x = state_of slice column history in
    let from = take_from limits history pass slice column legal kept (subst (IsAllowed limits history) same allowed) in
    subst (λ f. has_put slice column (history ++ f ∷ []) ≡ has_document (after slice column history x f)) (sym same)
    (in_span-push (λ f. is_some (put_on slice column f)) slice history (event.Take pass slice column) refl
    ∙ or-false (has_put slice column history) ∙ kept.put slice column ∙ ap has_document from
    ∙ ap has_document (sym (after-take slice column history pass x)))
put_by_touch limits history e slice column legal kept allowed (PutBy id puts) =
    let live_one = puts.becomes limits history allowed in
    in_span-push (λ f. is_some (put_on slice column f)) slice history e puts.not_opened
    ∙ or_right (has_put slice column history) (is_some (put_on slice column e)) (ap is_some puts.puts)
    ∙ ap has_document (sym (live_one.3 (state_of slice column history)))
put_by_touch limits history e slice column legal kept allowed (DroppedBy drops) =
    let from = kept.taken (pass_of e) slice column (drops.taken limits history allowed) in
    in_span-push (λ f. is_some (put_on slice column f)) slice history e drops.not_opened
    ∙ ap (λ b. has_put slice column history || b) (ap is_some drops.not_put) ∙ or-false (has_put slice column history)
    ∙ kept.put slice column ∙ ap has_document from ∙ ap has_document (sym (drops.becomes history (state_of slice column history)))
put_by_touch limits history e slice column legal kept allowed (OpenedBy pass alone same) =
    let x = state_of slice column history in
    subst (λ f. has_put slice column (history ++ f ∷ []) ≡ has_document (after slice column history x f)) (sym same)
    (ap (list_any (λ f. is_some (put_on slice column f))) (span-opened slice history (event.Opened pass slice alone) (eq-eqb slice slice refl))
    ∙ ap has_document (sym (after-opened slice column history pass alone x)))
put_by_touch limits history e slice column legal kept allowed (Silent quiet) =
    in_span-push (λ f. is_some (put_on slice column f)) slice history e quiet.not_opened
    ∙ ap (λ b. has_put slice column history || b) (ap is_some quiet.not_put) ∙ or-false (has_put slice column history)
    ∙ kept.put slice column ∙ sym (has_document-unless_taken_off (length history + 1) e (state_of slice column history))
    ∙ ap has_document (sym (quiet.leaves history (state_of slice column history)))

-- a pending column is claimed, so it is one of a slice of the engine
pending_within : (limits : Limits) (history : List Event) (slice column pass : ℕ) → IsLegal limits history → Kept limits history →
    state_of slice column history ≡ Pending pass → column < limits.columns
pending_within limits history slice column pass legal kept is =
    (claimed_in_range limits history slice column legal
    (true_from_ne_false (is_claimed slice column history) (λ unclaimed. let same = kept.only slice column Unclaimed unclaimed in cc))).1

-- a pending column stays so with an event of another pass, by how the event concerns it
taken_by_touch : (limits : Limits) (history : List Event) (e : Event) (pass slice column : ℕ) → IsLegal limits history → Kept limits history →
    IsAllowed limits history e → (pass_of e ≡ pass → ⊥) → state_of slice column history ≡ Pending pass → Touch slice column e →
    after slice column history (state_of slice column history) e ≡ Pending pass
taken_by_touch limits history e pass slice column legal kept allowed other is (TakenBy q same) =
    let from = take_from limits history q slice column legal kept (subst (IsAllowed limits history) same allowed) in cc
taken_by_touch limits history e pass slice column legal kept allowed other is (PutBy id puts) =
    let from : Pending (pass_of e) ≡ Pending pass = sym (kept.taken (pass_of e) slice column (puts.taken limits history allowed)) ∙ is in
    let own : pass_of e ≡ pass = cc in
    absurd (other own)
taken_by_touch limits history e pass slice column legal kept allowed other is (DroppedBy drops) =
    let from : Pending (pass_of e) ≡ Pending pass = sym (kept.taken (pass_of e) slice column (drops.taken limits history allowed)) ∙ is in
    let own : pass_of e ≡ pass = cc in
    absurd (other own)
taken_by_touch limits history e pass slice column legal kept allowed other is (OpenedBy q alone same) =
    let now : IsAllowed limits history (event.Opened q slice alone) = subst (IsAllowed limits history) same allowed in
    let over = kept.over slice column (last_is_clearing limits history q slice legal now.rule.cleared) (pending_within limits history slice column pass legal kept is) in
    absurd (subst IsOver is over)
taken_by_touch limits history e pass slice column legal kept allowed other is (Silent quiet) =
    quiet.leaves history (state_of slice column history) ∙ ap (unless_taken_off (length history + 1) e) is

-- a column of a slice that is being cleared stays over, by how the event concerns it
over_by_touch : (limits : Limits) (history : List Event) (e : Event) (slice column : ℕ) → IsLegal limits history → Kept limits history →
    IsAllowed limits history e → is_clearing slice history ≡ true → opens slice e ≡ false → IsOver (state_of slice column history) → Touch slice column e →
    IsOver (after slice column history (state_of slice column history) e)
over_by_touch limits history e slice column legal kept allowed clearing stays over (TakenBy pass same) =
    let follows = take_follows limits history pass slice column legal (subst (IsAllowed limits history) same allowed) in
    absurd (both_ways (is_clearing slice history) follows.not_clearing clearing)
over_by_touch limits history e slice column legal kept allowed clearing stays over (PutBy id puts) =
    absurd (subst IsOver (kept.taken (pass_of e) slice column (puts.taken limits history allowed)) over)
over_by_touch limits history e slice column legal kept allowed clearing stays over (DroppedBy drops) =
    absurd (subst IsOver (kept.taken (pass_of e) slice column (drops.taken limits history allowed)) over)
over_by_touch limits history e slice column legal kept allowed clearing stays over (OpenedBy pass alone same) =
    absurd (both_ways (opens slice e) stays (ap (opens slice) same ∙ eq-eqb slice slice refl))
over_by_touch limits history e slice column legal kept allowed clearing stays over (Silent quiet) =
    subst IsOver (sym (quiet.leaves history (state_of slice column history)))
    (over-unless_taken_off (length history + 1) e (state_of slice column history) over)

-- a slice that can be cleared has only columns that are over
pub retired_is_over : (limits : Limits) (history : List Event) (pass slice column : ℕ) → Kept limits history →
    IsAllowed limits history (event.Clear pass slice) → column < limits.columns → IsOver (state_of slice column history)
retired_is_over limits history pass slice column kept allowed in' =
    let over = allowed.rule.can_clear.retired.over column in' in
    subst IsOver (kept.only slice column over.0 over.1) over.2

-- the columns of a slice that is being cleared are over after an event that is allowed
over-push : (limits : Limits) (history : List Event) (e : Event) (slice column : ℕ) → IsLegal limits history → Kept limits history →
    IsAllowed limits history e → (opened : Bool) → opens slice e ≡ opened → is_clearing slice (history ++ e ∷ []) ≡ true → column < limits.columns →
    IsOver (after slice column history (state_of slice column history) e)
over-push limits history e slice column legal kept allowed true opened clearing in' =
    absurd (both_ways (is_clearing slice (history ++ e ∷ [])) (not_clearing_opened slice history e opened) clearing)
over-push limits history e slice column legal kept allowed false opened clearing in' =
    ⊎_elim
    (λ was. over_by_touch limits history e slice column legal kept allowed was opened (kept.over slice column was in') (touch slice column e))
    (λ now.
    let same = clears_is slice e now in
    subst (λ f. IsOver (after slice column history (state_of slice column history) f)) (sym same)
    (retired_is_over limits history (pass_of e) slice column kept (subst (IsAllowed limits history) same allowed) in'))
    (or_cases (is_clearing slice history) (clears slice e) (sym (in_span-push (clears slice) slice history e opened) ∙ clearing))

-- all of it stays with an event that is allowed
kept-push : (limits : Limits) (history : List Event) (e : Event) → IsLegal limits history → Kept limits history → IsAllowed limits history e →
    Kept limits (history ++ e ∷ [])
kept-push limits history e legal kept allowed = record {
  holds = λ slice column.
      subst (IsInState (history ++ e ∷ []) slice column) (sym (state_of-push slice column history e))
      (kept_in_state limits history e legal kept allowed slice column (state_of slice column history) (kept.holds slice column));
  only = λ slice column y is. only_by limits history e slice column y legal kept allowed is (touch slice column e) ∙ sym (state_of-push slice column history e);
  put = λ slice column.
      put_by_touch limits history e slice column legal kept allowed (touch slice column e) ∙ ap has_document (sym (state_of-push slice column history e));
  taken = λ pass slice column last.
      state_of-push slice column history e
      ∙ ⊎_elim
      (λ own. ap (after slice column history (state_of slice column history)) own.1 ∙ after-take slice column history pass (state_of slice column history))
      (λ other. taken_by_touch limits history e pass slice column legal kept allowed other.0 (kept.taken pass slice column other.1) (touch slice column e))
      (last_by_before pass history e (event.Take pass slice column) last);
  over = λ slice column clearing in'.
      subst IsOver (sym (state_of-push slice column history e)) (over-push limits history e slice column legal kept allowed (opens slice e) refl clearing in');
}

-- before the first event a column is in no other state
only_start : (slice column : ℕ) (y : ColumnState) → IsInState [] slice column y → y ≡ Unclaimed
only_start slice column Unclaimed is = refl
only_start slice column (Pending pass) is = absurd (false≢true is.taken)
only_start slice column Dropped is = absurd (false≢true is)
only_start slice column (Live d since) is = absurd (not_empty is.put.earlier is.later is.put.event (sym is.put.whole))
only_start slice column (Deleted d since until) is = absurd (not_empty is.put.earlier (is.between ++ is.event ∷ is.later) is.put.event (sym is.put.whole))

-- all of it holds of each legal history of slices that have columns
pub kept : (limits : Limits) (history : List Event) → IsLegal limits history → Kept limits history
kept limits history =
    holds_of_legal limits (Kept limits)
    (record {
      holds = λ slice column. subst (IsInState [] slice column) (sym (state_of-start slice column)) refl;
      only = λ slice column y is. only_start slice column y is ∙ sym (state_of-start slice column);
      put = λ slice column. ap has_document (sym (state_of-start slice column));
      taken = λ pass slice column last. cc;
      over = λ slice column clearing in'. absurd (false≢true clearing);
    })
    (λ h e legal before allowed. kept-push limits h e legal before allowed) history

-- each pending column's pass has the take of it as its last event
abbrev HaveTakes : List Event → Type 0
HaveTakes history = (pass slice column : ℕ) → state_of slice column history ≡ Pending pass → last_by pass history ≡ Some (event.Take pass slice column)

-- a column that is pending after an event that doesn't concern it was so before
pending_before : (until : ℕ) (e : Event) (x : ColumnState) (pass : ℕ) → unless_taken_off until e x ≡ Pending pass → x ≡ Pending pass
pending_before until e (Live d since) pass is = by_test (takes_off d.id e) is where
  by_test : (b : Bool) → cond b (Deleted d since until) (Live d since) ≡ Pending pass → Live d since ≡ Pending pass
  by_test true same = cc
  by_test false same = cc
pending_before until e Unclaimed pass is = is
pending_before until e (Pending taker) pass is = is
pending_before until e Dropped pass is = is
pending_before until e (Deleted d since at) pass is = is

-- a pass whose column is pending makes no event that doesn't concern the column
not_quiet : (limits : Limits) (history : List Event) (e : Event) (pass slice column : ℕ) → IsAllowed limits history e →
    last_by (pass_of e) history ≡ Some (event.Take pass slice column) → Quiet slice column e → ⊥
not_quiet limits history e pass slice column allowed last quiet =
    let puts_none : is_some (put_on slice column e) ≡ false = ap is_some quiet.not_put in
    let put_here : (id : ℕ) → is_some (cond (slice == slice && column == column) (Some id) None) ≡ true =
    λ id. ap (λ b. is_some (cond b (Some id) None)) (this_column slice column) in
    ⊎_elim
    (λ add. both_ways (is_some (put_on slice column e)) puts_none (ap (λ x. is_some (put_on slice column x)) add.3 ∙ put_here add.0))
    (λ rest. ⊎_elim
    (λ drop. both_ways (drops_on slice column e) quiet.not_dropped (ap (drops_on slice column) drop.2 ∙ this_column slice column))
    (λ more. ⊎_elim
    (λ move. both_ways (is_some (put_on slice column e)) puts_none (ap (λ x. is_some (put_on slice column x)) move.2 ∙ put_here move.0))
    (λ void. both_ways (drops_on slice column e) quiet.not_dropped (ap (drops_on slice column) void ∙ this_column slice column))
    more)
    rest)
    (next_of_take limits history e pass slice column allowed last)

-- the last event of a pending column's pass stays the take of it, by how the event concerns the column
takes_by_touch : (limits : Limits) (history : List Event) (e : Event) (pass slice column : ℕ) → HaveTakes history → IsAllowed limits history e →
    after slice column history (state_of slice column history) e ≡ Pending pass → Touch slice column e →
    last_by pass (history ++ e ∷ []) ≡ Some (event.Take pass slice column)
takes_by_touch limits history e pass slice column before allowed is (TakenBy q same) =
    let x = state_of slice column history in
    let now = sym (after-take slice column history q x) ∙ ap (after slice column history x) (sym same) ∙ is in
    let own : q ≡ pass = cc in
    last_by-own pass history e (ap pass_of same ∙ own) ∙ ap Some same ∙ ap (λ p. Some (event.Take p slice column)) own
takes_by_touch limits history e pass slice column before allowed is (PutBy id puts) =
    let live_one = puts.becomes limits history allowed in
    let now = sym (live_one.3 (state_of slice column history)) ∙ is in cc
takes_by_touch limits history e pass slice column before allowed is (DroppedBy drops) =
    let now = sym (drops.becomes history (state_of slice column history)) ∙ is in cc
takes_by_touch limits history e pass slice column before allowed is (OpenedBy q alone same) =
    let x = state_of slice column history in
    let now = sym (after-opened slice column history q alone x) ∙ ap (after slice column history x) (sym same) ∙ is in cc
takes_by_touch limits history e pass slice column before allowed is (Silent quiet) =
    let x = state_of slice column history in
    let last = before pass slice column (pending_before (length history + 1) e x pass (sym (quiet.leaves history x) ∙ is)) in
    ⊎_elim
    (λ own. absurd (not_quiet limits history e pass slice column allowed (ap (λ p. last_by p history) own ∙ last) quiet))
    (λ other. last_by-other pass history e other ∙ last)
    (cases_eq (pass_of e) pass)

-- a pass whose column is pending has made no event since its take
pub take_of_pending : (limits : Limits) (history : List Event) (pass slice column : ℕ) → IsLegal limits history →
    state_of slice column history ≡ Pending pass → last_by pass history ≡ Some (event.Take pass slice column)
take_of_pending limits history pass slice column legal =
    holds_of_legal limits HaveTakes (λ p s c is. let start = state_of-start s c in cc)
    (λ h e is_legal before allowed p s c is. takes_by_touch limits h e p s c before allowed (sym (state_of-push s c h e) ∙ is) (touch s c e))
    history legal pass slice column
