-- What clearing a slice keeps: its columns are over, nothing is taken in it, and no open token may read it; and what a pass
-- keeps while it makes no event.
use Rattle.std.proofs.Common.{◌≡◌, ℕ, ◌<◌, ⊎_elim, Bool, true, false, List, [], ◌∷◌, ◌++◌, Some, sym, refl, ap, ◌∙◌, subst, append_assoc}
use Rattle.std.proofs.lemmas.Bool.{both_ways, eqb-false, eqb-true, false≢true, false_from_ne_true, or_from, or_left, or_parts, true_from_ne_false}
use Rattle.std.proofs.lemmas.List.{append-nil}
use Rattle.std.specs.List.{list_any}
use Rattle.std.specs.Prelude.{◌==◌}
use Rattle.funnel_model.specs.declared.event.Event.{Event}
use Rattle.funnel_model.specs.declared.event.Event.TheVariants as event
use Rattle.funnel_model.specs.Events.{clears, fills, opens, pass_of}
use Rattle.funnel_model.specs.History.{IsFrontOf, last_by}
use Rattle.funnel_model.specs.Legal.{Limits, IsAllowed, IsLegal}
use Rattle.funnel_model.specs.Slices.{Pending, Unclaimed, IsInState, IsRetired, is_claimed, is_clearing, is_clearing_by}
use Rattle.funnel_model.specs.Tokens.{HasToken, MayRead}
use Rattle.funnel_model.proofs.Claims.{claimed_in_range, take_follows}
use Rattle.funnel_model.proofs.Columns.{clearing_is_over, last_is_pending, not_retired_by, one_state, pending_is_last}
use Rattle.funnel_model.proofs.Histories.{goes_on_split, holds_of_legal, legal_before}
use Rattle.funnel_model.proofs.LastEvents.{cleared_now, clearer_is_last, clears_is, last_is_clearer, last_is_clearing, not_clearing_opened, opens_is}
use Rattle.funnel_model.proofs.OpenTokens.{finds_other, may_read-push, may_read_before, no_token_at_start, token_after}
use Rattle.funnel_model.proofs.Retirement.{reader_blocks_clear}
use Rattle.funnel_model.proofs.Spans.{in_span-push, last_by-other}

-- a pending column is one of the engine's
pub pending_in_range : (limits : Limits) (history : List Event) (slice column pass : ℕ) → IsLegal limits history → IsInState history slice column (Pending pass) →
    (slice < limits.slices) × (column < limits.columns)
pending_in_range limits history slice column pass legal pending =
    claimed_in_range limits history slice column legal
    (true_from_ne_false (is_claimed slice column history)
    (λ unclaimed. let same = one_state limits history slice column (Pending pass) Unclaimed legal pending unclaimed in cc))

-- a slice with a pending column isn't being cleared
pub pending_not_clearing : (limits : Limits) (history : List Event) (slice column pass : ℕ) → IsLegal limits history → IsInState history slice column (Pending pass) →
    is_clearing slice history ≡ false
pending_not_clearing limits history slice column pass legal pending =
    false_from_ne_true (is_clearing slice history)
    (λ clearing. clearing_is_over limits history slice column (Pending pass) legal clearing (pending_in_range limits history slice column pass legal pending).1 pending)

-- nor is it retired
pub pending_not_retired : (limits : Limits) (history : List Event) (slice column pass : ℕ) → IsLegal limits history → IsInState history slice column (Pending pass) →
    IsRetired limits.columns slice history → ⊥
pending_not_retired limits history slice column pass legal pending =
    not_retired_by limits history slice column (Pending pass) legal (pending_in_range limits history slice column pass legal pending).1 pending (λ over. over)

-- in a slice that is being cleared no column is just taken
taken_not_clearing : (limits : Limits) (history : List Event) (pass slice column : ℕ) → IsLegal limits history →
    last_by pass history ≡ Some (event.Take pass slice column) → is_clearing slice history ≡ false
taken_not_clearing limits history pass slice column legal last =
    pending_not_clearing limits history slice column pass legal (last_is_pending limits history slice column pass legal last)

-- an event that is allowed claims no column in a slice that is being cleared, and puts no document on one or leaves one without
pub not_filled_clearing : (limits : Limits) (history : List Event) (e : Event) (slice : ℕ) → IsLegal limits history → IsAllowed limits history e →
    is_clearing slice history ≡ true → fills slice e ≡ false
not_filled_clearing limits history e slice legal allowed clearing = false_from_ne_true (fills slice e) (by_kind e allowed) where
  elsewhere : (taken : ℕ) → is_clearing taken history ≡ false → (taken == slice) ≡ true → ⊥
  elsewhere taken not_clearing same =
      both_ways (is_clearing slice history) (ap (λ s. is_clearing s history) (sym (eqb-true taken slice same)) ∙ not_clearing) clearing

  by_kind : (x : Event) → IsAllowed limits history x → fills slice x ≡ true → ⊥
  by_kind (event.Take pass taken column) is fills_it =
      elsewhere taken (take_follows limits history pass taken column legal is).not_clearing fills_it
  by_kind (event.Add pass id text added column bits) is fills_it =
      elsewhere added (taken_not_clearing limits history pass added column legal is.rule.taken) fills_it
  by_kind (event.Drop pass id text dropped column) is fills_it =
      elsewhere dropped (taken_not_clearing limits history pass dropped column legal is.rule.taken) fills_it
  by_kind (event.Move pass id moved column bits) is fills_it =
      elsewhere moved (taken_not_clearing limits history pass moved column legal is.rule.taken) fills_it
  by_kind (event.Void pass voided column) is fills_it =
      elsewhere voided (taken_not_clearing limits history pass voided column legal is.rule.taken) fills_it
  by_kind _ is fills_it = false≢true fills_it

-- a slice that is being cleared stays so until it is opened, and nothing fills it until then
pub clearing_until_opened : (limits : Limits) (before later : List Event) (slice : ℕ) → IsLegal limits (before ++ later) → is_clearing slice before ≡ true →
    list_any (opens slice) later ≡ false → (list_any (fills slice) later ≡ false) × (is_clearing slice (before ++ later) ≡ true)
clearing_until_opened limits before [] slice legal clearing stays = (refl, ap (is_clearing slice) (append-nil before) ∙ clearing)
clearing_until_opened limits before (e ∷ later) slice legal clearing stays =
    let parts = or_parts (opens slice e) (list_any (opens slice) later) stays in
    let split = goes_on_split limits [] before (e ∷ later) legal in
    let whole = append_assoc before (e ∷ []) later in
    let now : is_clearing slice (before ++ e ∷ []) ≡ true =
    in_span-push (clears slice) slice before e parts.0 ∙ or_left (is_clearing slice before) (clears slice e) clearing in
    let rest = clearing_until_opened limits (before ++ e ∷ []) later slice (subst (IsLegal limits) (sym whole) legal) now parts.1 in (
      or_from (fills slice e) (list_any (fills slice) later) (not_filled_clearing limits before e slice split.0 split.1.0 clearing) rest.0,
      ap (is_clearing slice) (sym whole) ∙ rest.1,
    )

-- a slice that an open token may read isn't being cleared
abbrev NoneClearing : Limits → List Event → Type 0
NoneClearing limits history = (reader slice : ℕ) → MayRead limits.columns history reader slice → is_clearing slice history ≡ false

-- it isn't after an event that neither opens nor clears it
pub not_clearing-push : (history : List Event) (e : Event) (slice : ℕ) (b : Bool) → opens slice e ≡ b → is_clearing slice history ≡ false → clears slice e ≡ false →
    is_clearing slice (history ++ e ∷ []) ≡ false
not_clearing-push history e slice true opened before clears_not = not_clearing_opened slice history e opened
not_clearing-push history e slice false opened before clears_not =
    in_span-push (clears slice) slice history e opened ∙ or_from (is_clearing slice history) (clears slice e) before clears_not

-- it isn't after an event that is allowed
none_clearing-push : (limits : Limits) (history : List Event) (e : Event) → IsLegal limits history → NoneClearing limits history → IsAllowed limits history e →
    NoneClearing limits (history ++ e ∷ [])
none_clearing-push limits history e legal before allowed reader slice read =
    ⊎_elim
    (λ begun. not_clearing-push history e slice (opens slice e) refl begun.0.not_clearing (ap (clears slice) begun.2))
    (λ was.
    not_clearing-push history e slice (opens slice e) refl (before reader slice was) (false_from_ne_true (clears slice e) (λ cleared.
    reader_blocks_clear limits history (pass_of e) slice reader legal (subst (IsAllowed limits history) (clears_is slice e cleared) allowed) was)))
    (may_read_before limits.columns history e reader slice read)

-- a slice that an open token may read isn't being cleared
pub read_not_clearing : (limits : Limits) (history : List Event) (reader slice : ℕ) → IsLegal limits history → MayRead limits.columns history reader slice →
    is_clearing slice history ≡ false
read_not_clearing limits history reader slice legal =
    holds_of_legal limits (NoneClearing limits) (λ r s read. absurd (no_token_at_start r read.number read.token))
    (λ h e is_legal before allowed. none_clearing-push limits h e is_legal before allowed) history legal reader slice

-- while a pass makes no event its last event stays
pub last_by-later : (pass : ℕ) (front later : List Event) → list_any (λ e. pass_of e == pass) later ≡ false → last_by pass (front ++ later) ≡ last_by pass front
last_by-later pass front [] silent = ap (last_by pass) (append-nil front)
last_by-later pass front (e ∷ later) silent =
    let parts = or_parts (pass_of e == pass) (list_any (λ x. pass_of x == pass) later) silent in
    ap (last_by pass) (sym (append_assoc front (e ∷ []) later))
    ∙ last_by-later pass (front ++ e ∷ []) later parts.1
    ∙ last_by-other pass front e (eqb-false (pass_of e) pass parts.0)

-- and so does that of a front of the pass
pub last_by-front : (pass : ℕ) (front history : List Event) → IsFrontOf pass front history → last_by pass history ≡ last_by pass front
last_by-front pass front history goes = ap (last_by pass) goes.whole ∙ last_by-later pass front goes.later goes.silent

-- a front of a legal history is legal
pub front_is_legal : (limits : Limits) (pass : ℕ) (front history : List Event) → IsLegal limits history → IsFrontOf pass front history → IsLegal limits front
front_is_legal limits pass front history legal goes = legal_before limits front goes.later (subst (IsLegal limits) goes.whole legal)

-- a column that is pending by a pass stays so while the pass makes no event
pub pending_stays : (limits : Limits) (front history : List Event) (pass slice column : ℕ) → IsLegal limits history → IsFrontOf pass front history →
    IsInState front slice column (Pending pass) → IsInState history slice column (Pending pass)
pending_stays limits front history pass slice column legal goes pending =
    last_is_pending limits history slice column pass legal
    (last_by-front pass front history goes ∙ pending_is_last limits front slice column pass (front_is_legal limits pass front history legal goes) pending)

-- and so does a slice that it is clearing
pub clearing_stays : (limits : Limits) (front history : List Event) (pass slice : ℕ) → IsLegal limits history → IsFrontOf pass front history →
    is_clearing_by pass slice front ≡ true → is_clearing_by pass slice history ≡ true
clearing_stays limits front history pass slice legal goes clearing =
    last_is_clearer limits history pass slice legal
    (last_by-front pass front history goes ∙ clearer_is_last limits front pass slice (front_is_legal limits pass front history legal goes) clearing)

-- a slice that an open token may read isn't opened by the next event
not_opened_under_reader : (limits : Limits) (history : List Event) (e : Event) (reader slice : ℕ) → IsLegal limits history → IsAllowed limits history e →
    MayRead limits.columns history reader slice → opens slice e ≡ false
not_opened_under_reader limits history e reader slice legal allowed read =
    false_from_ne_true (opens slice e) (λ opened.
    let is = opens_is slice e opened in
    let now : IsAllowed limits history (event.Opened (pass_of e) slice is.0) = subst (IsAllowed limits history) is.1 allowed in
    both_ways (is_clearing slice history) (read_not_clearing limits history reader slice legal read)
    (last_is_clearing limits history (pass_of e) slice legal now.rule.cleared))

-- a token that is open may read what it may while the pass makes no event, and none of it is cleared or opened
pub read_later : (limits : Limits) (front later : List Event) (pass slice : ℕ) → IsLegal limits (front ++ later) → list_any (λ e. pass_of e == pass) later ≡ false →
    MayRead limits.columns front pass slice →
    (list_any (clears slice) later ≡ false) × MayRead limits.columns (front ++ later) pass slice × (list_any (opens slice) later ≡ false)
read_later limits front [] pass slice legal silent read = (refl, subst (λ h. MayRead limits.columns h pass slice) (sym (append-nil front)) read, refl)
read_later limits front (e ∷ later) pass slice legal silent read =
    let parts = or_parts (pass_of e == pass) (list_any (λ x. pass_of x == pass) later) silent in
    let split = goes_on_split limits [] front (e ∷ later) legal in
    let whole = append_assoc front (e ∷ []) later in
    let kept = false_from_ne_true (clears slice e) (λ cleared.
    reader_blocks_clear limits front (pass_of e) slice pass split.0 (subst (IsAllowed limits front) (clears_is slice e cleared) split.1.0) read) in
    let now = may_read-push limits.columns front e pass slice (finds_other pass e (eqb-false (pass_of e) pass parts.0)) read in
    let rest = read_later limits (front ++ e ∷ []) later pass slice (subst (IsLegal limits) (sym whole) legal) parts.1 now in
    let closed = not_opened_under_reader limits front e pass slice split.0 split.1.0 read in (
      or_from (clears slice e) (list_any (clears slice) later) kept rest.0,
      subst (λ h. MayRead limits.columns h pass slice) whole rest.1,
      or_from (opens slice e) (list_any (opens slice) later) closed rest.2,
    )

-- the same for a front of the pass
pub read_stays : (limits : Limits) (front history : List Event) (pass slice : ℕ) → IsLegal limits history → (goes : IsFrontOf pass front history) →
    MayRead limits.columns front pass slice →
    (list_any (clears slice) goes.later ≡ false) × MayRead limits.columns history pass slice × (list_any (opens slice) goes.later ≡ false)
read_stays limits front history pass slice legal goes read =
    let rest = read_later limits front goes.later pass slice (subst (IsLegal limits) goes.whole legal) goes.silent read in
    (rest.0, subst (λ h. MayRead limits.columns h pass slice) (sym goes.whole) rest.1, rest.2)

-- a token stays open, with its number, while the pass makes no event
pub token_later : (front later : List Event) (pass number : ℕ) → list_any (λ e. pass_of e == pass) later ≡ false → HasToken front pass number →
    HasToken (front ++ later) pass number
token_later front [] pass number silent token = subst (λ h. HasToken h pass number) (sym (append-nil front)) token
token_later front (e ∷ later) pass number silent token =
    let parts = or_parts (pass_of e == pass) (list_any (λ x. pass_of x == pass) later) silent in
    subst (λ h. HasToken h pass number) (append_assoc front (e ∷ []) later)
    (token_later (front ++ e ∷ []) later pass number parts.1
    (token_after front e pass number (finds_other pass e (eqb-false (pass_of e) pass parts.0)) token))

pub token_stays : (front history : List Event) (pass number : ℕ) → IsFrontOf pass front history → HasToken front pass number → HasToken history pass number
token_stays front history pass number goes token =
    subst (λ h. HasToken h pass number) (sym goes.whole) (token_later front goes.later pass number goes.silent token)

-- from the Clear of a slice until it is opened nothing fills it
pub not_filled_after_clear : (limits : Limits) (before between later : List Event) (pass slice : ℕ) →
    IsLegal limits (before ++ event.Clear pass slice ∷ (between ++ later)) → list_any (opens slice) between ≡ false → list_any (fills slice) between ≡ false
not_filled_after_clear limits before between later pass slice legal stays =
    let clear = event.Clear pass slice in
    let cleared = before ++ clear ∷ [] in
    let whole : before ++ clear ∷ (between ++ later) ≡ (cleared ++ between) ++ later =
    sym (append_assoc before (clear ∷ []) (between ++ later)) ∙ sym (append_assoc cleared between later) in
    (clearing_until_opened limits cleared between slice
    (legal_before limits (cleared ++ between) later (subst (IsLegal limits) whole legal)) (cleared_now slice pass before) stays).0
