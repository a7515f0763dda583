-- The last event of a pass, by its number, and what happened since.
use Rattle.std.proofs.Common.{◌≡◌, ℕ, ◌+◌, ◌<◌, ◌≤◌, ◌==◌, ◌||◌, ⊎_elim, Bool, true, false, cond, List, [], ◌∷◌, ◌++◌, length, Some, sym, refl, ap, ◌∙◌, subst, append_assoc, arith, length-append}
use Rattle.std.proofs.lemmas.Bool.{cases_eq, eq-eqb, eqb-false, false_from_ne_true, ne_eqb, or_from, or_left, or_parts, or_right}
use Rattle.std.proofs.lemmas.List.Folds.{list_any-append}
use Rattle.std.proofs.lemmas.List.{append-nil}
use Rattle.std.proofs.lemmas.List.Sums.{fold-append}
use Rattle.std.specs.List.{list_any}
use Rattle.funnel_model.specs.declared.event.Event.{Event}
use Rattle.funnel_model.specs.declared.event.Event.TheVariants as event
use Rattle.funnel_model.specs.Events.{clears, fills, opens, pass_of}
use Rattle.funnel_model.specs.History.{IsFrontOf, last_by}
use Rattle.funnel_model.specs.Legal.{Limits, IsAllowed, IsLegal}
use Rattle.funnel_model.proofs.Clears.{clearing_until_opened, pending_not_retired}
use Rattle.funnel_model.proofs.Columns.{last_is_pending}
use Rattle.funnel_model.proofs.Histories.{allowed_within, legal_before}
use Rattle.funnel_model.proofs.LastEvents.{clears_is, last_is_clearing, one_clearer, opens_is}
use Rattle.funnel_model.proofs.LiveLemmas.{by_push}
use Rattle.funnel_model.proofs.Spans.{last_by-other, last_by-own, none-push}
use Rattle.slice_rule.specs.Numbers.{HasEvent, last_number, since}

since-push : (pass : ℕ) (history : List Event) (e : Event) → since pass (history ++ e ∷ []) ≡ cond (pass_of e == pass) [] (since pass history ++ e ∷ [])
since-push pass history e = fold-append (λ (events : List Event) x. cond (pass_of x == pass) [] (events ++ x ∷ [])) [] history (e ∷ [])

number-own : (pass : ℕ) (history : List Event) (e : Event) → pass_of e ≡ pass → last_number pass (history ++ e ∷ []) ≡ length history + 1
number-own pass history e own =
    let none : since pass (history ++ e ∷ []) ≡ [] = since-push pass history e ∙ ap (λ b. cond b [] (since pass history ++ e ∷ [])) (eq-eqb (pass_of e) pass own) in
    omega (arith, ap length none, length-append history (e ∷ []))

pub number-other : (pass : ℕ) (history : List Event) (e : Event) → (pass_of e ≡ pass → ⊥) → last_number pass (history ++ e ∷ []) ≡ last_number pass history
number-other pass history e other =
    let more : since pass (history ++ e ∷ []) ≡ since pass history ++ e ∷ [] = since-push pass history e ∙ ap (λ b. cond b [] (since pass history ++ e ∷ [])) (ne_eqb (pass_of e) pass other) in
    omega (arith, ap length more, length-append history (e ∷ []), length-append (since pass history) (e ∷ []))

-- no pass has a last event past the end
pub number-in_range : (pass : ℕ) (history : List Event) → last_number pass history ≤ length history
number-in_range pass history = omega arith

-- the last event of a pass, with its number; it made no event since
pub record IsLastOf (pass : ℕ) (history : List Event) (e : Event) : Type 0 where
  pub at : HasEvent history (last_number pass history) e
  pub own : pass_of e ≡ pass
  pub silent : list_any (λ x. pass_of x == pass) at.later ≡ false

abbrev HasLast : ℕ → List Event → Type 0
HasLast pass history = (e : Event) → last_by pass history ≡ Some e → IsLastOf pass history e

has_last-push : (pass : ℕ) (history : List Event) (x : Event) → HasLast pass history → HasLast pass (history ++ x ∷ [])
has_last-push pass history x before e last =
    ⊎_elim
    (λ (own : pass_of x ≡ pass).
    let same : x ≡ e = let h = last_by-own pass history x own in cc in
    record {
      at = record { earlier = history; later = []; whole = ap (λ y. history ++ y ∷ []) same; count = number-own pass history x own };
      own = ap pass_of (sym same) ∙ own;
      silent = refl;
    })
    (λ (other : pass_of x ≡ pass → ⊥).
    let is = before e (sym (last_by-other pass history x other) ∙ last) in
    record {
      at = record {
        earlier = is.at.earlier;
        later = is.at.later ++ x ∷ [];
        whole = ap (λ h. h ++ x ∷ []) is.at.whole ∙ append_assoc is.at.earlier (e ∷ is.at.later) (x ∷ []);
        count = number-other pass history x other ∙ is.at.count;
      };
      own = is.own;
      silent = none-push (λ y. pass_of y == pass) is.at.later x is.silent (ne_eqb (pass_of x) pass other);
    })
    (cases_eq (pass_of x) pass)

pub is_last : (pass : ℕ) (history : List Event) (e : Event) → last_by pass history ≡ Some e → IsLastOf pass history e
is_last pass history = by_push (HasLast pass) (λ e none_made. cc) (has_last-push pass) history

-- two parts of one list that are as long are the same
pub split_same : {A : Type 0} (xs ys zs ws : List A) → length xs ≡ length ys → xs ++ zs ≡ ys ++ ws → (xs ≡ ys) × (zs ≡ ws)
split_same [] [] zs ws n is = (refl, is)
split_same [] (y ∷ ys) zs ws n is = absurd (omega arith)
split_same (x ∷ xs) [] zs ws n is = absurd (omega arith)
split_same (x ∷ xs) (y ∷ ys) zs ws n is =
    let rest = split_same xs ys zs ws (omega arith) (cc is) in (cc (is, rest.0), rest.1)

-- a number has one event, and one part of the history after it
pub one_event : (history : List Event) (number : ℕ) (e other : Event) (a : HasEvent history number e) (b : HasEvent history number other) → (e ≡ other) × (a.later ≡ b.later)
one_event history number e other a b =
    let n : length a.earlier ≡ length b.earlier = omega (arith, a.count, b.count) in
    let same = (split_same a.earlier b.earlier (e ∷ a.later) (other ∷ b.later) n (sym a.whole ∙ b.whole)).1 in
    (cc same, cc same)

-- an event keeps its number when the history goes on
abbrev pub event-more : (front later : List Event) (number : ℕ) (e : Event) → HasEvent front number e → HasEvent (front ++ later) number e
event-more front later number e is = record {
  earlier = is.earlier;
  later = is.later ++ later;
  whole = ap (λ h. h ++ later) is.whole ∙ append_assoc is.earlier (e ∷ is.later) later;
  count = is.count;
}

-- while a pass has a pending column its slice isn't cleared
not_cleared : (limits : Limits) (front later : List Event) (pass slice column : ℕ) → IsLegal limits (front ++ later) → last_by pass front ≡ Some (event.Take pass slice column)
    → list_any (λ e. pass_of e == pass) later ≡ false → list_any (clears slice) later ≡ false
not_cleared limits front [] pass slice column legal last silent = refl
not_cleared limits front (e ∷ later) pass slice column legal last silent =
    let parts = or_parts (pass_of e == pass) (list_any (λ x. pass_of x == pass) later) silent in
    let before = legal_before limits front (e ∷ later) legal in
    let allowed = allowed_within limits (front ++ e ∷ later) front e later legal refl in
    let kept : clears slice e ≡ false = false_from_ne_true (clears slice e) (λ cleared.
    let clear : IsAllowed limits front (event.Clear (pass_of e) slice) = subst (IsAllowed limits front) (clears_is slice e cleared) allowed in
    pending_not_retired limits front slice column pass before (last_is_pending limits front slice column pass before last) clear.rule.can_clear.retired) in
    or_from (clears slice e) (list_any (clears slice) later) kept
    (not_cleared limits (front ++ e ∷ []) later pass slice column (subst (IsLegal limits) (sym (append_assoc front (e ∷ []) later)) legal)
    (last_by-other pass front e (eqb-false (pass_of e) pass parts.0) ∙ last) parts.1)

-- while a pass clears a slice it isn't opened
not_opened : (limits : Limits) (front later : List Event) (pass slice : ℕ) → IsLegal limits (front ++ later) → last_by pass front ≡ Some (event.Clear pass slice)
    → list_any (λ e. pass_of e == pass) later ≡ false → list_any (opens slice) later ≡ false
not_opened limits front [] pass slice legal last silent = refl
not_opened limits front (e ∷ later) pass slice legal last silent =
    let parts = or_parts (pass_of e == pass) (list_any (λ x. pass_of x == pass) later) silent in
    let before = legal_before limits front (e ∷ later) legal in
    let other = eqb-false (pass_of e) pass parts.0 in
    let allowed = allowed_within limits (front ++ e ∷ later) front e later legal refl in
    let kept : opens slice e ≡ false = false_from_ne_true (opens slice e) (λ opened.
    let is = opens_is slice e opened in
    let open' : IsAllowed limits front (event.Opened (pass_of e) slice is.0) = subst (IsAllowed limits front) is.1 allowed in
    other (one_clearer limits front (pass_of e) pass slice before open'.rule.cleared last)) in
    or_from (opens slice e) (list_any (opens slice) later) kept
    (not_opened limits (front ++ e ∷ []) later pass slice (subst (IsLegal limits) (sym (append_assoc front (e ∷ []) later)) legal)
    (last_by-other pass front e other ∙ last) parts.1)

-- the history up to and with the last event of a pass
front_of_last : (limits : Limits) (history : List Event) (pass : ℕ) (e : Event) (is : IsLastOf pass history e) → IsLegal limits history
    → IsLegal limits ((is.at.earlier ++ e ∷ []) ++ is.at.later)
front_of_last limits history pass e is legal = subst (IsLegal limits) (is.at.whole ∙ sym (append_assoc is.at.earlier (e ∷ []) is.at.later)) legal

-- since a pass took a column that is still pending, its slice wasn't cleared
pub none_cleared : (limits : Limits) (history : List Event) (pass slice column : ℕ) → IsLegal limits history → (is : IsLastOf pass history (event.Take pass slice column))
    → list_any (clears slice) is.at.later ≡ false
none_cleared limits history pass slice column legal is =
    not_cleared limits (is.at.earlier ++ event.Take pass slice column ∷ []) is.at.later pass slice column
    (front_of_last limits history pass (event.Take pass slice column) is legal)
    (last_by-own pass is.at.earlier (event.Take pass slice column) refl) is.silent

-- since a pass began to clear a slice that it is still clearing, nothing was taken, added or dropped in it
pub none_filled : (limits : Limits) (history : List Event) (pass slice : ℕ) → IsLegal limits history → (is : IsLastOf pass history (event.Clear pass slice))
    → list_any (fills slice) is.at.later ≡ false
none_filled limits history pass slice legal is =
    let clear = event.Clear pass slice in
    let front = is.at.earlier ++ clear ∷ [] in
    let whole = front_of_last limits history pass clear is legal in
    let last = last_by-own pass is.at.earlier clear refl in
    (clearing_until_opened limits front is.at.later slice whole (last_is_clearing limits front pass slice (legal_before limits front is.at.later whole) last)
    (not_opened limits front is.at.later pass slice whole last is.silent)).0

since-later : (pass : ℕ) (front later : List Event) → list_any (λ e. pass_of e == pass) later ≡ false → since pass (front ++ later) ≡ since pass front ++ later
since-later pass front [] silent = ap (since pass) (append-nil front) ∙ sym (append-nil (since pass front))
since-later pass front (e ∷ later) silent =
    let parts = or_parts (pass_of e == pass) (list_any (λ x. pass_of x == pass) later) silent in
    ap (since pass) (sym (append_assoc front (e ∷ []) later))
    ∙ since-later pass (front ++ e ∷ []) later parts.1
    ∙ ap (λ xs. xs ++ later) (since-push pass front e ∙ ap (λ b. cond b [] (since pass front ++ e ∷ [])) parts.0)
    ∙ append_assoc (since pass front) (e ∷ []) later

-- a front of a pass has its last event, with its number
pub number-front : (pass : ℕ) (front history : List Event) → IsFrontOf pass front history → last_number pass history ≡ last_number pass front
number-front pass front history goes =
    let n = ap length (ap (since pass) goes.whole ∙ since-later pass front goes.later goes.silent) in
    let m = ap length goes.whole in
    omega (arith, n, m, length-append front goes.later, length-append (since pass front) goes.later)

-- the number of an event of a pass that made none since
pub number_is : (pass : ℕ) (history : List Event) (number : ℕ) (e : Event) (is : HasEvent history number e) → pass_of e ≡ pass → list_any (λ x. pass_of x == pass) is.later ≡ false
    → last_number pass history ≡ number
number_is pass history number e is own silent =
    let front = is.earlier ++ e ∷ [] in
    let goes : IsFrontOf pass front history = record { later = is.later; whole = is.whole ∙ sym (append_assoc is.earlier (e ∷ []) is.later); silent = silent } in
    number-front pass front history goes ∙ number-own pass is.earlier e own ∙ sym is.count

-- of two events the later one is among those after the earlier one
has_later : {A : Type 0} (test : A → Bool) (xs ys zs ws : List A) (x y : A) → xs ++ x ∷ zs ≡ ys ++ y ∷ ws → length xs < length ys → test y ≡ true → list_any test zs ≡ true
has_later test [] [] zs ws x y is less passes = absurd (omega arith)
has_later test [] (z ∷ ys) zs ws x y is less passes =
    let rest : zs ≡ ys ++ y ∷ ws = cc is in
    ap (list_any test) rest ∙ list_any-append test ys (y ∷ ws) ∙ or_right (list_any test ys) (test y || list_any test ws) (or_left (test y) (list_any test ws) passes)
has_later test (z ∷ xs) [] zs ws x y is less passes = absurd (omega arith)
has_later test (z ∷ xs) (w ∷ ys) zs ws x y is less passes = has_later test xs ys zs ws x y (cc is) (omega arith) passes

pub comes_later : (test : Event → Bool) (history : List Event) (first second : ℕ) (e other : Event) (a : HasEvent history first e) → HasEvent history second other → first < second
    → test other ≡ true → list_any test a.later ≡ true
comes_later test history first second e other a b less passes =
    let n = a.count in
    let m = b.count in
    has_later test a.earlier b.earlier a.later b.later e other (sym a.whole ∙ b.whole) (omega arith) passes
