-- When slices retire, and that none is cleared under a reader.
use Rattle.std.proofs.Common.{◌≡◌, ℕ, zero, suc, ◌+◌, ◌<◌, ◌≤◌, ⊎_elim, Bool, true, false, List, [], ◌∷◌, ◌++◌, length, sym, refl, ap, ◌∙◌, subst, append_assoc, arith, inl, inr}
use Rattle.std.proofs.lemmas.Bool.{both_ways, cases_lt, cases_order, or_from, or_left, or_parts}
use Rattle.std.proofs.lemmas.List.{append-nil}
use Rattle.std.proofs.lemmas.List.Folds.{list_any-append}
use Rattle.std.specs.List.{list_any}
use Rattle.std.specs.Prelude.{◌⊎◌}
use Rattle.funnel_model.specs.declared.event.Event.{Event}
use Rattle.funnel_model.specs.declared.event.Event.TheVariants as event
use Rattle.funnel_model.specs.Events.{drops_on, opens}
use Rattle.funnel_model.specs.Legal.{Limits, IsAllowed, IsFull, IsLegal}
use Rattle.funnel_model.specs.Slices.{AllOver, ColumnState, Unclaimed, Pending, Dropped, Live, Deleted, HasUnclaimed, IsInState, IsOver, IsRetired, IsRetiredAt, is_claimed, span}
use Rattle.funnel_model.specs.Tokens.{Guards, MayRead}
use Rattle.funnel_model.proofs.Columns.{clearing_is_over, one_state, over_is_claimed, some_state}
use Rattle.funnel_model.proofs.ColumnStates.{deleted-push, state_of, state_of-push}
use Rattle.funnel_model.proofs.ColumnsKept.{kept}
use Rattle.funnel_model.proofs.Histories.{allowed_within, holds_of_legal, legal-push, legal_before}
use Rattle.funnel_model.proofs.Spans.{in_span-push, is_claimed-opens, none-push}

-- a column that is over stays in its state with an event that doesn't open its slice
over_state-push : (history : List Event) (slice column : ℕ) (e : Event) (x : ColumnState) → opens slice e ≡ false → IsInState history slice column x → IsOver x →
    IsInState (history ++ e ∷ []) slice column x
over_state-push history slice column e Dropped stays is over =
    in_span-push (drops_on slice column) slice history e stays ∙ or_left (list_any (drops_on slice column) (span slice history)) (drops_on slice column e) is
over_state-push history slice column e (Deleted d since until) stays is over = deleted-push history slice column d since until e is stays
over_state-push history slice column e Unclaimed stays is over = absurd over
over_state-push history slice column e (Pending pass) stays is over = absurd over
over_state-push history slice column e (Live d since) stays is over = absurd over

-- a slice that is all over stays so with events that don't open it
all_over-push : (columns slice : ℕ) (history : List Event) (e : Event) → opens slice e ≡ false → AllOver columns slice history →
    AllOver columns slice (history ++ e ∷ [])
all_over-push columns slice history e stays over column in' =
    let is = over column in' in (is.0, over_state-push history slice column e is.0 stays is.1 is.2, is.2)

-- and with any number of them
pub all_over-append : (columns slice : ℕ) (history later : List Event) → list_any (opens slice) later ≡ false → AllOver columns slice history →
    AllOver columns slice (history ++ later)
all_over-append columns slice history [] stays over = subst (AllOver columns slice) (sym (append-nil history)) over
all_over-append columns slice history (e ∷ later) stays over =
    let parts = or_parts (opens slice e) (list_any (opens slice) later) stays in
    subst (AllOver columns slice) (append_assoc history (e ∷ []) later)
    (all_over-append columns slice (history ++ e ∷ []) later parts.1 (all_over-push columns slice history e parts.0 over))

-- where a list is split at an element, a longer front of it has the element too
pub split_front : {A : Type 0} (front rest earlier later : List A) (x : A) → front ++ rest ≡ earlier ++ x ∷ later → length earlier < length front →
    (between : List A) × (front ≡ (earlier ++ x ∷ []) ++ between) × (later ≡ between ++ rest)
split_front [] rest earlier later x is less = absurd (omega arith)
split_front (y ∷ ys) rest [] later x is less = let same : y ≡ x = cc in (ys, cc, cc)
split_front (y ∷ ys) rest (z ∷ zs) later x is less =
    let same : y ≡ z = cc in
    let more = split_front ys rest zs later x (cc) (omega arith) in
    let whole = more.1 in
    (more.0, cc, more.2)

-- splits of a list at one length are one split
pub same_split : {A : Type 0} (xs ys more later : List A) (a b : A) → xs ++ a ∷ more ≡ ys ++ b ∷ later → length xs ≡ length ys → (xs ≡ ys) × (a ≡ b)
same_split [] [] more later a b is same = (refl, cc)
same_split [] (y ∷ ys) more later a b is same = absurd (omega arith)
same_split (x ∷ xs) [] more later a b is same = absurd (omega arith)
same_split (x ∷ xs) (y ∷ ys) more later a b is same =
    let first : x ≡ y = cc in
    let rest = same_split xs ys more later a b (cc) (omega arith) in
    let front = rest.0 in
    (cc, rest.1)

-- the events between two places after a retirement don't open the slice
between_stays : (slice : ℕ) (e : Event) (between rest : List Event) → list_any (opens slice) (e ∷ (between ++ rest)) ≡ false → list_any (opens slice) between ≡ false
between_stays slice e between rest stays =
    let parts = or_parts (opens slice e) (list_any (opens slice) (between ++ rest)) stays in
    (or_parts (list_any (opens slice) between) (list_any (opens slice) rest) (sym (list_any-append (opens slice) between rest) ∙ parts.1)).0

-- since the event at which a slice retired it is all over
pub over_since : (columns slice number : ℕ) (front later : List Event) → IsRetiredAt columns slice (front ++ later) number → number ≤ length front →
    AllOver columns slice front
over_since columns slice number front later at reached =
    let count = at.count in
    let split = split_front front later at.earlier at.later at.event at.whole (omega arith) in
    subst (AllOver columns slice) (sym split.1)
    (all_over-append columns slice (at.earlier ++ at.event ∷ []) split.0
    (between_stays slice at.event split.0 later (ap (λ l. list_any (opens slice) (at.event ∷ l)) (sym split.2) ∙ at.stays)) at.over)

-- where a list is split twice, a front that is not longer is a front of the other
shorter_front : {A : Type 0} (front rest earlier later : List A) → front ++ rest ≡ earlier ++ later → length front ≤ length earlier →
    (between : List A) × (earlier ≡ front ++ between) × (rest ≡ between ++ later)
shorter_front [] rest earlier later is short = (earlier, refl, is)
shorter_front (y ∷ ys) rest [] later is short = absurd (omega arith)
shorter_front (y ∷ ys) rest (z ∷ zs) later is short =
    let same : y ≡ z = cc in
    let more = shorter_front ys rest zs later (cc) (omega arith) in
    let whole = more.1 in
    (more.0, cc, more.2)

-- before that event it is not all over, from the last opening of the slice on
pub not_over_before : (columns slice number : ℕ) (front later : List Event) → IsRetiredAt columns slice (front ++ later) number → length front < number →
    list_any (opens slice) later ≡ false → AllOver columns slice front → ⊥
not_over_before columns slice number front later at less stays over =
    let count = at.count in
    let split = shorter_front front later at.earlier (at.event ∷ at.later) at.whole (omega arith) in
    let parts = or_parts (list_any (opens slice) split.0) (list_any (opens slice) (at.event ∷ at.later))
    (sym (list_any-append (opens slice) split.0 (at.event ∷ at.later)) ∙ ap (list_any (opens slice)) (sym split.2) ∙ stays) in
    at.not_before (subst (AllOver columns slice) (sym split.1) (all_over-append columns slice front split.0 parts.0 over))

-- a slice doesn't retire at two events
not_earlier : (columns slice number other : ℕ) (history : List Event) → IsRetiredAt columns slice history number → IsRetiredAt columns slice history other →
    number < other → ⊥
not_earlier columns slice number other history at later less =
    let count = later.count in
    later.not_before (over_since columns slice number later.earlier (later.event ∷ later.later)
    (subst (λ h. IsRetiredAt columns slice h number) later.whole at) (omega arith))

-- a slice retires at one event
pub retires_once : (columns slice number other : ℕ) (history : List Event) → IsRetiredAt columns slice history number → IsRetiredAt columns slice history other →
    number ≡ other
retires_once columns slice number other history at other_at =
    ⊎_elim
    (λ same. same)
    (λ order. ⊎_elim
    (λ less. absurd (not_earlier columns slice number other history at other_at less))
    (λ more. absurd (not_earlier columns slice other number history other_at at more))
    order)
    (cases_order number other)

-- the event at which a slice retired stays that with an event that doesn't open it
pub retired_at-push : (columns slice number : ℕ) (history : List Event) (e : Event) → IsRetiredAt columns slice history number → opens slice e ≡ false →
    IsRetiredAt columns slice (history ++ e ∷ []) number
retired_at-push columns slice number history e at stays = record {
  earlier = at.earlier;
  event = at.event;
  later = at.later ++ e ∷ [];
  whole = ap (λ h. h ++ e ∷ []) at.whole ∙ append_assoc at.earlier (at.event ∷ at.later) (e ∷ []);
  count = at.count;
  stays = none-push (opens slice) (at.event ∷ at.later) e at.stays stays;
  not_before = at.not_before;
  over = at.over;
}

-- whether a state is over
over_cases : (x : ColumnState) → IsOver x ⊎ (IsOver x → ⊥)
over_cases Dropped = inl tt
over_cases (Deleted d since until) = inl tt
over_cases Unclaimed = inr (λ h. h)
over_cases (Pending pass) = inr (λ h. h)
over_cases (Live d since) = inr (λ h. h)

-- in a legal history a slice is all over or not
pub all_over_cases : (limits : Limits) (slice : ℕ) (history : List Event) → IsLegal limits history → (columns : ℕ) →
    AllOver columns slice history ⊎ (AllOver columns slice history → ⊥)
all_over_cases limits slice history legal zero = inl (λ column in'. absurd (omega arith))
all_over_cases limits slice history legal (suc columns) =
    ⊎_elim
    (λ below. by_last (some_state limits history slice columns legal) below)
    (λ not_below. inr (λ all. not_below (λ column in'. all column (omega arith))))
    (all_over_cases limits slice history legal columns) where
      by_last : (x : ColumnState) × IsInState history slice columns x → AllOver columns slice history →
          AllOver (suc columns) slice history ⊎ (AllOver (suc columns) slice history → ⊥)
      by_last last below =
          ⊎_elim
          (λ over. inl (λ column in'. ⊎_elim
          (λ less. below column less)
          (λ high. let same : columns ≡ column = omega arith in
          subst (λ c. (x : ColumnState) × IsInState history slice c x × IsOver x) same (last.0, last.1, over))
          (cases_lt column columns)))
          (λ not_over. inr (λ all.
          let is = all columns (omega arith) in
          not_over (subst IsOver (one_state limits history slice columns is.0 last.0 legal is.1 last.1) is.2)))
          (over_cases last.0)

-- no slice is all over where one of its columns is unclaimed
pub not_all_over : (limits : Limits) (history : List Event) (slice column : ℕ) → IsLegal limits history → column < limits.columns →
    is_claimed slice column history ≡ false → AllOver limits.columns slice history → ⊥
not_all_over limits history slice column legal in' unclaimed over =
    let is = over column in' in
    both_ways (is_claimed slice column history) unclaimed (over_is_claimed limits history slice column is.0 legal is.1 is.2)

-- each slice that is all over became so at some event
abbrev HaveRetired : Limits → List Event → Type 0
HaveRetired limits history = (slice : ℕ) → AllOver limits.columns slice history → (number : ℕ) × IsRetiredAt limits.columns slice history number

-- each slice that is all over became so at some event, after an event that is allowed
have_retired-push : (limits : Limits) (history : List Event) (e : Event) (slice : ℕ) → 0 < limits.columns → IsLegal limits history → HaveRetired limits history →
    IsAllowed limits history e → (opened : Bool) → opens slice e ≡ opened → AllOver limits.columns slice (history ++ e ∷ []) →
    (number : ℕ) × IsRetiredAt limits.columns slice (history ++ e ∷ []) number
have_retired-push limits history e slice some legal before allowed true opened over =
    absurd (not_all_over limits (history ++ e ∷ []) slice 0 (legal-push limits history e legal allowed) some (is_claimed-opens slice 0 history e opened) over)
have_retired-push limits history e slice some legal before allowed false opened over =
    ⊎_elim
    (λ was. let at = before slice was in (at.0, retired_at-push limits.columns slice at.0 history e at.1 opened))
    (λ was_not. (
      length history + 1,
      record {
        earlier = history;
        event = e;
        later = [];
        whole = refl;
        count = refl;
        stays = or_from (opens slice e) false opened refl;
        not_before = was_not;
        over = over;
      },
    ))
    (all_over_cases limits slice history legal limits.columns)

-- a slice that is all over became so at some event
pub retired_at_some : (limits : Limits) (history : List Event) (slice : ℕ) → IsLegal limits history → 0 < limits.columns → AllOver limits.columns slice history →
    (number : ℕ) × IsRetiredAt limits.columns slice history number
retired_at_some limits history slice legal some =
    holds_of_legal limits (HaveRetired limits) (λ s over. absurd (not_all_over limits [] s 0 tt some refl over))
    (λ h e is_legal before allowed s over. have_retired-push limits h e s some is_legal before allowed (opens s e) refl over) history legal slice

-- a full engine has no unclaimed column
pub full_has_no_room : (limits : Limits) (history : List Event) (slice : ℕ) → IsLegal limits history → IsFull limits history → slice < limits.slices →
    HasUnclaimed limits.columns slice history → ⊥
full_has_no_room limits history slice legal full in' room =
    let column = room.0 in
    let within : column < limits.columns = room.1 in
    ⊎_elim
    (λ filled. both_ways (is_claimed slice column history) room.2 (filled.0 column within))
    (λ gone. ⊎_elim
    (λ retired. not_all_over limits history slice column legal within room.2 (retired.0).over)
    (λ clearing.
    let is = some_state limits history slice column legal in
    both_ways (is_claimed slice column history) room.2
    (over_is_claimed limits history slice column is.0 legal is.1 (clearing_is_over limits history slice column is.0 legal clearing within is.1)))
    gone)
    (full slice in')

-- a find changes no column
over_before_find : (limits : Limits) (history : List Event) (pass slice : ℕ) (query : List ℕ) →
    IsLegal limits (history ++ event.Find pass query ∷ []) → AllOver limits.columns slice (history ++ event.Find pass query ∷ []) → AllOver limits.columns slice history
over_before_find limits history pass slice query legal over column in' =
    let find = event.Find pass query in
    let is = over column in' in
    let same = (kept limits (history ++ find ∷ []) legal).only slice column is.0 is.1 ∙ state_of-push slice column history find in (
      state_of slice column history,
      (kept limits history (legal_before limits history (find ∷ []) legal)).holds slice column,
      subst IsOver same is.2,
    )

-- a find that may read a slice began before the slice retired
began_before : (limits : Limits) (history : List Event) (reader slice retired_at : ℕ) → IsLegal limits history →
    IsRetiredAt limits.columns slice history retired_at → (read : MayRead limits.columns history reader slice) → read.number < retired_at
began_before limits history reader slice retired_at legal at read =
    let token = read.token in
    let count = token.count in
    let not_over : AllOver limits.columns slice token.earlier → ⊥ =
    λ over. read.in_use.not_retired (record { over = over; not_clearing = read.in_use.not_clearing }) in
    let find = event.Find reader token.query in
    let at_count = at.count in
    ⊎_elim
    (λ before. before)
    (λ not_after. ⊎_elim
    (λ early.
    absurd (not_over (over_since limits.columns slice retired_at token.earlier (find ∷ token.later)
    (subst (λ h. IsRetiredAt limits.columns slice h retired_at) token.whole at) (omega arith))))
    (λ late.
    let split = same_split at.earlier token.earlier at.later token.later at.event find (sym at.whole ∙ token.whole) (omega arith) in
    let there = subst (λ h. AllOver limits.columns slice (h ++ find ∷ [])) split.0
    (subst (λ e. AllOver limits.columns slice (at.earlier ++ e ∷ [])) split.1 at.over) in
    let legal_there = legal_before limits (token.earlier ++ find ∷ []) token.later
    (subst (IsLegal limits) (token.whole ∙ sym (append_assoc token.earlier (find ∷ []) token.later)) legal) in
    absurd (not_over (over_before_find limits token.earlier reader slice token.query legal_there there)))
    (cases_lt retired_at read.number))
    (cases_lt read.number retired_at)

-- an open token that may read a retired slice guards it
pub reader_guards : (limits : Limits) (history : List Event) (reader slice : ℕ) → IsLegal limits history → IsRetired limits.columns slice history →
    (read : MayRead limits.columns history reader slice) → Guards limits.columns history slice reader read.number
reader_guards limits history reader slice legal retired read =
    ⊎_elim
    (λ (some : 0 < limits.columns).
    let at = retired_at_some limits history slice legal some retired.over in
    record {
      token = read.token;
      retired = retired;
      retired_at = at.0;
      at_event = at.1;
      before = began_before limits history reader slice at.0 legal at.1 read;
    })
    (λ (none : limits.columns ≤ 0). absurd (read.in_use.not_retired (record {
      over = λ column in'. absurd (omega arith);
      not_clearing = read.in_use.not_clearing;
    })))
    (cases_lt 0 limits.columns)

-- a slice that a token may read isn't cleared by the next event
pub reader_blocks_clear : (limits : Limits) (history : List Event) (pass slice reader : ℕ) → IsLegal limits history →
    IsAllowed limits history (event.Clear pass slice) → MayRead limits.columns history reader slice → ⊥
reader_blocks_clear limits history pass slice reader legal allowed read =
    allowed.rule.can_clear.unguarded
    (reader, read.number, reader_guards limits history reader slice legal allowed.rule.can_clear.retired read)

-- no slice is cleared that an open token may read
pub not_cleared_under_reader : (limits : Limits) (before later : List Event) (pass slice reader : ℕ) → IsLegal limits (before ++ event.Clear pass slice ∷ later) →
    MayRead limits.columns before reader slice → ⊥
not_cleared_under_reader limits before later pass slice reader legal read =
    reader_blocks_clear limits before pass slice reader (legal_before limits before (event.Clear pass slice ∷ later) legal)
    (allowed_within limits (before ++ event.Clear pass slice ∷ later) before (event.Clear pass slice) later legal refl) read
