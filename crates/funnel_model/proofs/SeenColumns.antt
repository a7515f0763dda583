-- What a find sees in the columns that it may read, while documents are moved, deleted and added.
use Rattle.std.proofs.Common.{◌≡◌, ℕ, ◌+◌, ◌<◌, ◌≤◌, Bool, true, false, cond, List, [], ◌∷◌, ◌++◌, length, Some, None, sym, refl, ap, ◌∙◌, subst, append_assoc, arith}
use Rattle.std.proofs.lemmas.Bool.{and_parts, both_ways, eq-eqb, false_from_ne_true, le-ltb, lt-ltb, ltb-true, or_parts}
use Rattle.std.proofs.lemmas.List.{append-nil, length-append}
use Rattle.std.proofs.Math.Bool.{and-true}
use Rattle.std.specs.List.{Contains, list_any}
use Rattle.std.specs.Prelude.{◌&&◌, nat_lt}
use Rattle.funnel_model.specs.declared.event.Event.{Event}
use Rattle.funnel_model.specs.declared.event.Event.TheVariants as event
use Rattle.funnel_model.specs.Events.{clears, opens, pass_of, takes_off}
use Rattle.funnel_model.specs.History.{Document, live}
use Rattle.funnel_model.specs.Legal.{Limits, IsAllowed, IsLegal}
use Rattle.funnel_model.specs.Slices.{ColumnState, Unclaimed, Pending, Dropped, Live, Deleted, IsInState, IsInUse, is_clearing}
use Rattle.funnel_model.specs.Tokens.{HasToken, MayRead, seen_by}
use Rattle.funnel_model.proofs.Clears.{read_later}
use Rattle.funnel_model.proofs.Columns.{clearing_is_over, not_retired_by}
use Rattle.funnel_model.proofs.ColumnStates.{DroppedBy, OpenedBy, PutBy, Silent, TakenBy, Touch, after, after-take, count-since, state_of, state_of-push, touch, unless_taken_off}
use Rattle.funnel_model.proofs.ColumnsKept.{kept, take_from}
use Rattle.funnel_model.proofs.Histories.{goes_on_split, legal_before}
use Rattle.funnel_model.proofs.LiveColumns.{live_has_column, live_on_one_column}
use Rattle.funnel_model.proofs.OpenTokens.{token_is_silent}

-- an event that comes after a find's takes nothing from what the find sees in a column that it doesn't otherwise concern
seen-unless_taken_off : (number until : ℕ) (e : Event) (x : ColumnState) → number < until → seen_by number (unless_taken_off until e x) ≡ seen_by number x
seen-unless_taken_off number until e (Live d since) later = by_test (takes_off d.id e) where
  by_test : (b : Bool) → seen_by number (cond b (Deleted d since until) (Live d since)) ≡ seen_by number (Live d since)
  by_test false = refl
  by_test true =
      ap (λ b. cond (nat_lt since number && b) (Some d) None) (lt-ltb number until later)
      ∙ ap (λ b. cond b (Some d) None) (and-true (nat_lt since number))
seen-unless_taken_off number until e Unclaimed later = refl
seen-unless_taken_off number until e (Pending pass) later = refl
seen-unless_taken_off number until e Dropped later = refl
seen-unless_taken_off number until e (Deleted d since at) later = refl

-- what a find sees in a column stays with a later event, by how it concerns the column, while the slice isn't opened
seen_by_touch : (limits : Limits) (history : List Event) (e : Event) (slice column number : ℕ) → IsLegal limits history → IsAllowed limits history e →
    opens slice e ≡ false → number ≤ length history → Touch slice column e →
    seen_by number (after slice column history (state_of slice column history) e) ≡ seen_by number (state_of slice column history)
seen_by_touch limits history e slice column number legal allowed stays later (TakenBy q same) =
    let x = state_of slice column history in
    let from = take_from limits history q slice column legal (kept limits history legal) (subst (IsAllowed limits history) same allowed) in
    ap (λ f. seen_by number (after slice column history x f)) same ∙ ap (seen_by number) (after-take slice column history q x) ∙ sym (ap (seen_by number) from)
seen_by_touch limits history e slice column number legal allowed stays later (PutBy id puts) =
    let from = (kept limits history legal).taken (pass_of e) slice column (puts.taken limits history allowed) in
    let live_one = puts.becomes limits history allowed in
    ap (seen_by number) (live_one.3 (state_of slice column history))
    ∙ ap (λ b. cond b (Some live_one.0) None) (le-ltb (length history + 1) number (omega arith))
    ∙ sym (ap (seen_by number) from)
seen_by_touch limits history e slice column number legal allowed stays later (DroppedBy drops) =
    let from = (kept limits history legal).taken (pass_of e) slice column (drops.taken limits history allowed) in
    ap (seen_by number) (drops.becomes history (state_of slice column history)) ∙ sym (ap (seen_by number) from)
seen_by_touch limits history e slice column number legal allowed stays later (OpenedBy q alone same) =
    absurd (both_ways (opens slice e) stays (ap (opens slice) same ∙ eq-eqb slice slice refl))
seen_by_touch limits history e slice column number legal allowed stays later (Silent quiet) =
    ap (seen_by number) (quiet.leaves history (state_of slice column history))
    ∙ seen-unless_taken_off number (length history + 1) e (state_of slice column history) (omega arith)

-- and with any number of them
seen-later : (limits : Limits) (front later : List Event) (slice column number : ℕ) → IsLegal limits (front ++ later) → list_any (opens slice) later ≡ false →
    number ≤ length front → seen_by number (state_of slice column (front ++ later)) ≡ seen_by number (state_of slice column front)
seen-later limits front [] slice column number legal stays before = ap (λ h. seen_by number (state_of slice column h)) (append-nil front)
seen-later limits front (e ∷ later) slice column number legal stays before =
    let parts = or_parts (opens slice e) (list_any (opens slice) later) stays in
    let split = goes_on_split limits [] front (e ∷ later) legal in
    let whole = append_assoc front (e ∷ []) later in
    ap (λ h. seen_by number (state_of slice column h)) (sym whole)
    ∙ seen-later limits (front ++ e ∷ []) later slice column number (subst (IsLegal limits) (sym whole) legal) parts.1 (omega (arith, length-append front (e ∷ [])))
    ∙ ap (seen_by number) (state_of-push slice column front e)
    ∙ seen_by_touch limits front e slice column number split.0 split.1.0 parts.0 before (touch slice column e)

-- a find that comes next sees the document of a live column
seen_next : (history : List Event) (slice column : ℕ) (d : Document) (since : ℕ) → IsInState history slice column (Live d since) →
    seen_by (length history + 1) (Live d since) ≡ Some d
seen_next history slice column d since is =
    let count = count-since history slice column d since is.later is.put in
    ap (λ b. cond b (Some d) None) (lt-ltb since (length history + 1) (omega arith))

-- and nothing in any other column
seen_is_live : (history : List Event) (slice column : ℕ) (x : ColumnState) (d : Document) → IsInState history slice column x →
    seen_by (length history + 1) x ≡ Some d → (since : ℕ) × (x ≡ Live d since)
seen_is_live history slice column (Live other since) d is sees =
    let seen : Some other ≡ Some d = sym (seen_next history slice column other since is) ∙ sees in
    let same : other ≡ d = cc in
    (since, ap (λ y. Live y since) same)
seen_is_live history slice column (Deleted other since until) d is sees =
    let at = is.count in
    let count = count-since history slice column other since (is.between ++ is.event ∷ is.later) is.put in
    let early : until ≤ length history = omega (arith, length-append is.between (is.event ∷ is.later)) in
    let next = length history + 1 in
    let never : (nat_lt since next && nat_lt next until) ≡ false =
    false_from_ne_true (nat_lt since next && nat_lt next until)
    (λ both. let less = ltb-true next until (and_parts (nat_lt since next) (nat_lt next until) both).1 in omega arith) in
    let none = sym (ap (λ c. cond c (Some other) None) never) ∙ sees in
    cc
seen_is_live history slice column Unclaimed d is sees = cc
seen_is_live history slice column (Pending pass) d is sees = cc
seen_is_live history slice column Dropped d is sees = cc

-- a find sees in a column of a slice that it may read what it saw there as it began
seen_as_before : (limits : Limits) (history : List Event) (pass number slice column : ℕ) → IsLegal limits history → (token : HasToken history pass number) →
    IsInUse limits.columns slice token.earlier →
    (seen_by number (state_of slice column history) ≡ seen_by (length token.earlier + 1) (state_of slice column token.earlier))
    × (list_any (clears slice) token.later ≡ false)
seen_as_before limits history pass number slice column legal token in_use =
    let find = event.Find pass token.query in
    let front = token.earlier ++ find ∷ [] in
    let count = token.count in
    let whole : history ≡ front ++ token.later = token.whole ∙ sym (append_assoc token.earlier (find ∷ []) token.later) in
    let legal_whole = subst (IsLegal limits) whole legal in
    let read : MayRead limits.columns front pass slice = record {
      number = number;
      token = record { earlier = token.earlier; query = token.query; later = []; whole = refl; count = count; stays = refl };
      in_use = in_use;
    } in
    let kept_so = read_later limits front token.later pass slice legal_whole (token_is_silent limits history pass number legal token) read in (
      ap (λ h. seen_by number (state_of slice column h)) whole
          ∙ seen-later limits front token.later slice column number legal_whole kept_so.2 (omega (arith, length-append token.earlier (find ∷ [])))
          ∙ ap (seen_by number) (state_of-push slice column token.earlier find)
          ∙ ap (λ n. seen_by n (state_of slice column token.earlier)) count,
      kept_so.0,
    )

-- the history before an open find is legal
before_find : (limits : Limits) (history : List Event) (pass number : ℕ) → IsLegal limits history → (token : HasToken history pass number) → IsLegal limits token.earlier
before_find limits history pass number legal token =
    legal_before limits token.earlier (event.Find pass token.query ∷ token.later) (subst (IsLegal limits) token.whole legal)

-- what a find sees in a slice that it may read was live on that column as it began
pub sees_what_was_live : (limits : Limits) (history : List Event) (pass number slice column : ℕ) (x : ColumnState) (d : Document) → IsLegal limits history →
    (token : HasToken history pass number) → IsInUse limits.columns slice token.earlier → IsInState history slice column x → seen_by number x ≡ Some d →
    (since : ℕ) × IsInState token.earlier slice column (Live d since)
sees_what_was_live limits history pass number slice column x d legal token in_use is sees =
    let legal_then = before_find limits history pass number legal token in
    let before = kept limits token.earlier legal_then in
    let same = (kept limits history legal).only slice column x is in
    let seen = sym (seen_as_before limits history pass number slice column legal token in_use).0 ∙ ap (seen_by number) (sym same) ∙ sees in
    let found = seen_is_live token.earlier slice column (state_of slice column token.earlier) d (before.holds slice column) seen in
    (found.0, subst (IsInState token.earlier slice column) found.1 (before.holds slice column))

-- each document that was live as it began it sees in the column that the document had then, in a slice that it may read and that wasn't
-- cleared since
pub sees_all_that_was_live : (limits : Limits) (history : List Event) (pass number : ℕ) (d : Document) → IsLegal limits history →
    (token : HasToken history pass number) → Contains (live token.earlier) d →
    (slice : ℕ) × (column : ℕ) × (since : ℕ) × (x : ColumnState) × (slice < limits.slices) × (column < limits.columns)
    × IsInState token.earlier slice column (Live d since) × IsInUse limits.columns slice token.earlier × (list_any (clears slice) token.later ≡ false)
    × IsInState history slice column x × (seen_by number x ≡ Some d)
sees_all_that_was_live limits history pass number d legal token lives =
    let legal_then = before_find limits history pass number legal token in
    let home = live_has_column limits token.earlier d legal_then lives in
    let slice = home.0 in
    let column = home.1 in
    let in_use : IsInUse limits.columns slice token.earlier = record {
      not_retired = not_retired_by limits token.earlier slice column (Live d home.2) legal_then home.4 home.5 (λ over. over);
      not_clearing = false_from_ne_true (is_clearing slice token.earlier)
          (λ clearing. clearing_is_over limits token.earlier slice column (Live d home.2) legal_then clearing home.4 home.5);
    } in
    let same = (kept limits token.earlier legal_then).only slice column (Live d home.2) home.5 in
    let then = seen_as_before limits history pass number slice column legal token in_use in (
      slice,
      column,
      home.2,
      state_of slice column history,
      home.3,
      home.4,
      home.5,
      in_use,
      then.1,
      (kept limits history legal).holds slice column,
      then.0 ∙ ap (seen_by (length token.earlier + 1)) (sym same) ∙ seen_next token.earlier slice column d home.2 home.5,
    )

-- and it sees each number in one column
pub sees_each_once : (limits : Limits) (history : List Event) (pass number slice column other at : ℕ) (x y : ColumnState) (d e : Document) → IsLegal limits history →
    (token : HasToken history pass number) → IsInUse limits.columns slice token.earlier → IsInUse limits.columns other token.earlier →
    IsInState history slice column x → IsInState history other at y → seen_by number x ≡ Some d → seen_by number y ≡ Some e → d.id ≡ e.id →
    (slice ≡ other) × (column ≡ at)
sees_each_once limits history pass number slice column other at x y d e legal token in_use also_in_use is also sees also_sees same =
    let first = sees_what_was_live limits history pass number slice column x d legal token in_use is sees in
    let second = sees_what_was_live limits history pass number other at y e legal token also_in_use also also_sees in
    live_on_one_column limits token.earlier slice column other at first.0 second.0 d e (before_find limits history pass number legal token) first.1 second.1 same
