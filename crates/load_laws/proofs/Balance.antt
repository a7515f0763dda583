-- What is live, counted: the documents that were added are those that are live, those that were deleted and those that were replaced.
use Rattle.std.proofs.Common.{◌≡◌, ℕ, ◌+◌, ◌≤◌, ◌==◌, Bool, true, false, cond, not, ◌||◌, List, [], ◌∷◌, ◌++◌, filter, refl, sym, ap, ◌∙◌, subst, arith, append-nil, append_assoc}
use Rattle.std.proofs.lemmas.Bool.{eq-eqb, eqb-true}
use Rattle.std.proofs.lemmas.List.Sums.{sum_by-cons, sum_by_push}
use Rattle.std.specs.List.{list_any, sum_by}
use Rattle.funnel_model.proofs.Histories.{holds_of_legal}
use Rattle.funnel_model.proofs.LiveLemmas.{live-add, live-deletes, live-silent}
use Rattle.funnel_model.specs.declared.bit_list.Bit.{Bit}
use Rattle.funnel_model.specs.declared.event.Event.{Event}
use Rattle.funnel_model.specs.declared.event.Event.TheVariants as event
use Rattle.funnel_model.specs.History.{Document, is_live, live, place}
use Rattle.funnel_model.specs.Legal.{Limits, IsAllowed, IsLegal}
use Rattle.load_laws.proofs.JobCounts.{add_weight, delete_weight}
use Rattle.load_laws.proofs.PassTotals.{asked}

-- an event that adds a document weighs what its number does, and so does one that deletes one
abbrev pub added : (ℕ → ℕ) → Event → ℕ
added g (event.Add pass id text slice column bits) = g id
added g _ = 0

abbrev pub deleted : (ℕ → ℕ) → Event → ℕ
deleted g (event.Del pass id) = g id
deleted g _ = 0

-- what documents weigh by their numbers
abbrev pub by_number : (ℕ → ℕ) → List Document → ℕ
by_number g documents = sum_by (λ d. g d.id) documents

-- one for this number
abbrev pub is_number : ℕ → ℕ → ℕ
is_number id n = cond (n == id) 1 0

pub number_is : (id : ℕ) → is_number id id ≡ 1
number_is id = ap (λ b. cond b 1 0) (eq-eqb id id refl)

-- no more is left by a test
no_more_left : (g : ℕ → ℕ) (p : Document → Bool) (ds : List Document) → by_number g (filter p ds) ≤ by_number g ds
no_more_left g p [] = omega arith
no_more_left g p (d ∷ ds) = by_test (p d) (no_more_left g p ds) where
  by_test : (b : Bool) → by_number g (filter p ds) ≤ by_number g ds → by_number g (cond b (d ∷ filter p ds) (filter p ds)) ≤ by_number g (d ∷ ds)
  by_test true rest =
      let here = sum_by-cons (λ x. g x.id) d (filter p ds) in
      let all = sum_by-cons (λ x. g x.id) d ds in
      omega arith
  by_test false rest = let all = sum_by-cons (λ x. g x.id) d ds in omega arith

-- a number that is among them counts, and one that isn't counts as nothing
pub is_among : (id : ℕ) (ds : List Document) → list_any (λ d. d.id == id) ds ≡ true → 1 ≤ by_number (is_number id) ds
is_among id [] is = cc
is_among id (d ∷ ds) is = by_test (d.id == id) is (is_among id ds) (sum_by-cons (λ x. is_number id x.id) d ds) where
  by_test : (b : Bool) → (b || list_any (λ x. x.id == id) ds) ≡ true → (list_any (λ x. x.id == id) ds ≡ true → 1 ≤ by_number (is_number id) ds) →
      by_number (is_number id) (d ∷ ds) ≡ cond b 1 0 + by_number (is_number id) ds → 1 ≤ by_number (is_number id) (d ∷ ds)
  by_test true found rest all = omega arith
  by_test false found rest all = let more = rest found in omega arith

is_not_among : (id : ℕ) (ds : List Document) → list_any (λ d. d.id == id) ds ≡ false → by_number (is_number id) ds ≡ 0
is_not_among id [] none = refl
is_not_among id (d ∷ ds) none = by_test (d.id == id) none (is_not_among id ds) (sum_by-cons (λ x. is_number id x.id) d ds) where
  by_test : (b : Bool) → (b || list_any (λ x. x.id == id) ds) ≡ false → (list_any (λ x. x.id == id) ds ≡ false → by_number (is_number id) ds ≡ 0) →
      by_number (is_number id) (d ∷ ds) ≡ cond b 1 0 + by_number (is_number id) ds → by_number (is_number id) (d ∷ ds) ≡ 0
  by_test true found rest all = cc
  by_test false found rest all = let more = rest found in omega arith

-- so by the count a number is live or not
pub live_by_count : (id : ℕ) (history : List Event) → 1 ≤ by_number (is_number id) (live history) → is_live id history ≡ true
live_by_count id history some = by_test (is_live id history) refl where
  by_test : (b : Bool) → is_live id history ≡ b → is_live id history ≡ true
  by_test true is = is
  by_test false none = let nothing = is_not_among id (live history) none in absurd (omega arith)

pub not_live_by_count : (id : ℕ) (history : List Event) → by_number (is_number id) (live history) ≡ 0 → is_live id history ≡ false
not_live_by_count id history none = by_test (is_live id history) refl where
  by_test : (b : Bool) → is_live id history ≡ b → is_live id history ≡ false
  by_test true is = let more = is_among id (live history) is in absurd (omega arith)
  by_test false is = is

-- where a number is there at most once, what is left without it is lighter by what it weighs
none_of_it : (g : ℕ → ℕ) (id : ℕ) (ds : List Document) → by_number (is_number id) ds ≡ 0 → by_number g (filter (λ d. not (d.id == id)) ds) ≡ by_number g ds
none_of_it g id [] none = refl
none_of_it g id (d ∷ ds) none = by_test (d.id == id) (sum_by-cons (λ x. is_number id x.id) d ds) (none_of_it g id ds) where
  left : List Document
  left = filter (λ x. not (x.id == id)) ds

  by_test : (b : Bool) → by_number (is_number id) (d ∷ ds) ≡ cond b 1 0 + by_number (is_number id) ds →
      (by_number (is_number id) ds ≡ 0 → by_number g left ≡ by_number g ds) → by_number g (cond (not b) (d ∷ left) left) ≡ by_number g (d ∷ ds)
  by_test true all rest = absurd (omega (arith, all, none))
  by_test false all rest =
      let more = rest (omega (arith, all, none)) in
      sum_by-cons (λ x. g x.id) d left ∙ ap (λ n. g d.id + n) more ∙ sym (sum_by-cons (λ x. g x.id) d ds)

one_of_it : (g : ℕ → ℕ) (id : ℕ) (ds : List Document) → by_number (is_number id) ds ≡ 1 →
    by_number g (filter (λ d. not (d.id == id)) ds) + g id ≡ by_number g ds
one_of_it g id [] one = absurd (omega (arith, one))
one_of_it g id (d ∷ ds) one = by_test (d.id == id) refl (sum_by-cons (λ x. is_number id x.id) d ds) (one_of_it g id ds) where
  left : List Document
  left = filter (λ x. not (x.id == id)) ds

  by_test : (b : Bool) → (d.id == id) ≡ b → by_number (is_number id) (d ∷ ds) ≡ cond b 1 0 + by_number (is_number id) ds →
      (by_number (is_number id) ds ≡ 1 → by_number g left + g id ≡ by_number g ds) → by_number g (cond (not b) (d ∷ left) left) + g id ≡ by_number g (d ∷ ds)
  by_test true is all rest =
      let none : by_number (is_number id) ds ≡ 0 = omega (arith, all, one) in
      let others = none_of_it g id ds none in
      let weight : g d.id ≡ g id = ap g (eqb-true d.id id is) in
      let whole = sum_by-cons (λ x. g x.id) d ds in
      omega (arith, others, weight, whole)
  by_test false is all rest =
      let more = rest (omega (arith, all, one)) in
      let whole = sum_by-cons (λ x. g x.id) d ds in
      let kept = sum_by-cons (λ x. g x.id) d left in
      omega (arith, more, whole, kept)

-- what is left without a number doesn't have it
none_left : (id : ℕ) (ds : List Document) → by_number (is_number id) (filter (λ d. not (d.id == id)) ds) ≡ 0
none_left id [] = refl
none_left id (d ∷ ds) = by_test (d.id == id) (sum_by-cons (λ x. is_number id x.id) d left) (none_left id ds) where
  left : List Document
  left = filter (λ x. not (x.id == id)) ds

  by_test : (b : Bool) → by_number (is_number id) (d ∷ left) ≡ cond b 1 0 + by_number (is_number id) left → by_number (is_number id) left ≡ 0 →
      by_number (is_number id) (cond (not b) (d ∷ left) left) ≡ 0
  by_test true all rest = rest
  by_test false all rest = omega (arith, all, rest)

-- an event that adds a document in the place of a live one weighs what its number does
abbrev pub replaces : (ℕ → ℕ) → List Event → Event → ℕ
replaces g history (event.Add pass id text slice column bits) = cond (is_live id history) (g id) 0
replaces g history _ = 0

-- and so do all of the later events, which come after these
abbrev replaced_from : (ℕ → ℕ) → List Event → List Event → ℕ
replaced_from g before [] = 0
replaced_from g before (e ∷ later) = replaces g before e + replaced_from g (before ++ e ∷ []) later

abbrev pub replaced : (ℕ → ℕ) → List Event → ℕ
replaced g history = replaced_from g [] history

replaced_from-push : (g : ℕ → ℕ) (before later : List Event) (e : Event) →
    replaced_from g before (later ++ e ∷ []) ≡ replaced_from g before later + replaces g (before ++ later) e
replaced_from-push g before [] e = omega (arith, ap (λ h. replaces g h e) (append-nil before))
replaced_from-push g before (x ∷ xs) e =
    omega (arith, replaced_from-push g (before ++ x ∷ []) xs e, ap (λ h. replaces g h e) (append_assoc before (x ∷ []) xs))

replaced-push : (g : ℕ → ℕ) (history : List Event) (e : Event) → replaced g (history ++ e ∷ []) ≡ replaced g history + replaces g history e
replaced-push g history e = replaced_from-push g [] history e

-- each number is live at most once, and what was added is what is live, what was deleted and what was replaced
pub record IsBalanced (history : List Event) : Type 0 where
  pub once : (id : ℕ) → by_number (is_number id) (live history) ≤ 1
  pub balance : (g : ℕ → ℕ) → by_number g (live history) + sum_by (deleted g) history + replaced g history ≡ sum_by (added g) history

-- an event that adds or deletes nothing
balanced_by : (history : List Event) (e : Event) → live (history ++ e ∷ []) ≡ live history → ((g : ℕ → ℕ) → added g e ≡ 0) →
    ((g : ℕ → ℕ) → deleted g e ≡ 0) → ((g : ℕ → ℕ) → replaces g history e ≡ 0) → IsBalanced history → IsBalanced (history ++ e ∷ [])
balanced_by history e same adds_none deletes_none replaces_none before = record {
  once = λ id. let old = before.once id in let now = ap (by_number (is_number id)) same in omega arith;
  balance = λ g.
      omega (
        arith,
        before.balance g,
        ap (by_number g) same,
        sum_by_push (added g) history e,
        sum_by_push (deleted g) history e,
        replaced-push g history e,
        adds_none g,
        deletes_none g,
        replaces_none g,
      );
}

-- an add, in the place of a live document or not
balanced-add : (history : List Event) (pass id : ℕ) (text : List ℕ) (slice column : ℕ) (bits : List Bit) → IsBalanced history →
    IsBalanced (history ++ event.Add pass id text slice column bits ∷ [])
balanced-add history pass id text slice column bits before = record {
  once = λ n. at_most_once n (id == n) refl (pushed (is_number n));
  balance = λ g.
      omega (
        arith,
        before.balance g,
        pushed g,
        kept g (is_live id history) refl,
        sum_by_push (added g) history e,
        sum_by_push (deleted g) history e,
        replaced-push g history e,
      );
}
  where
    e : Event
    e = event.Add pass id text slice column bits

    left : List Document
    left = filter (λ x. not (x.id == id)) (live history)

    pushed : (g : ℕ → ℕ) → by_number g (live (history ++ e ∷ [])) ≡ by_number g left + g id
    pushed g =
        let d : Document = record { id = id; text = text; place = place history + 1 } in
        ap (by_number g) (live-add history pass id text slice column bits) ∙ sum_by_push (λ (x : Document). g x.id) left d

    kept : (g : ℕ → ℕ) (b : Bool) → is_live id history ≡ b → by_number g left + cond b (g id) 0 ≡ by_number g (live history)
    kept g true is = one_of_it g id (live history) (omega (arith, is_among id (live history) is, before.once id))
    kept g false is = omega (arith, none_of_it g id (live history) (is_not_among id (live history) is))

    at_most_once : (n : ℕ) (b : Bool) → (id == n) ≡ b → by_number (is_number n) (live (history ++ e ∷ [])) ≡ by_number (is_number n) left + cond b 1 0 →
        by_number (is_number n) (live (history ++ e ∷ [])) ≤ 1
    at_most_once n true is all =
        omega (arith, all, subst (λ m. by_number (is_number m) left ≡ 0) (eqb-true id n is) (none_left id (live history)))
    at_most_once n false is all =
        omega (arith, all, no_more_left (is_number n) (λ (x : Document). not (x.id == id)) (live history), before.once n)

balanced-push : (limits : Limits) (history : List Event) (e : Event) → IsBalanced history → IsAllowed limits history e → IsBalanced (history ++ e ∷ [])
balanced-push limits history (event.Add pass id text slice column bits) before allowed = balanced-add history pass id text slice column bits before
balanced-push limits history (event.Del pass id) before allowed =
    let e = event.Del pass id in
    let now = live-deletes history pass id in
    let was : by_number (is_number id) (live history) ≡ 1 =
    let some = is_among id (live history) allowed.rule.present in let once = before.once id in omega arith in
    record {
      once = λ n.
          let left = no_more_left (is_number n) (λ (d : Document). not (d.id == id)) (live history) in
          let same = ap (by_number (is_number n)) now in
          let old = before.once n in
          omega arith;
      balance = λ g.
          let left = one_of_it g id (live history) was in
          let same = ap (by_number g) now in
          let old = before.balance g in
          let adds = sum_by_push (added g) history e in
          let deletes = sum_by_push (deleted g) history e in
          let replaces_none = replaced-push g history e in
          omega arith;
    }
balanced-push limits history (event.Take pass slice column) before allowed =
    balanced_by history (event.Take pass slice column) (live-silent history (event.Take pass slice column) (λ id. refl) refl) (λ g. refl) (λ g. refl) (λ g. refl) before
balanced-push limits history (event.Drop pass id text slice column) before allowed =
    balanced_by history (event.Drop pass id text slice column) (live-silent history (event.Drop pass id text slice column) (λ i. refl) refl) (λ g. refl) (λ g. refl) (λ g. refl) before
balanced-push limits history (event.Move pass id slice column bits) before allowed =
    balanced_by history (event.Move pass id slice column bits) (live-silent history (event.Move pass id slice column bits) (λ i. refl) refl) (λ g. refl) (λ g. refl) (λ g. refl) before
balanced-push limits history (event.Void pass slice column) before allowed =
    balanced_by history (event.Void pass slice column) (live-silent history (event.Void pass slice column) (λ id. refl) refl) (λ g. refl) (λ g. refl) (λ g. refl) before
balanced-push limits history (event.Find pass query) before allowed =
    balanced_by history (event.Find pass query) (live-silent history (event.Find pass query) (λ id. refl) refl) (λ g. refl) (λ g. refl) (λ g. refl) before
balanced-push limits history (event.End pass) before allowed =
    balanced_by history (event.End pass) (live-silent history (event.End pass) (λ id. refl) refl) (λ g. refl) (λ g. refl) (λ g. refl) before
balanced-push limits history (event.Clear pass slice) before allowed =
    balanced_by history (event.Clear pass slice) (live-silent history (event.Clear pass slice) (λ id. refl) refl) (λ g. refl) (λ g. refl) (λ g. refl) before
balanced-push limits history (event.Opened pass slice alone) before allowed =
    balanced_by history (event.Opened pass slice alone) (live-silent history (event.Opened pass slice alone) (λ id. refl) refl) (λ g. refl) (λ g. refl) (λ g. refl) before
balanced-push limits history (event.Tune pass config) before allowed =
    balanced_by history (event.Tune pass config) (live-silent history (event.Tune pass config) (λ id. refl) refl) (λ g. refl) (λ g. refl) (λ g. refl) before
balanced-push limits history (event.No pass refused) before allowed =
    balanced_by history (event.No pass refused) (live-silent history (event.No pass refused) (λ id. refl) refl) (λ g. refl) (λ g. refl) (λ g. refl) before
balanced-push limits history (event.Read pass read) before allowed =
    balanced_by history (event.Read pass read) (live-silent history (event.Read pass read) (λ id. refl) refl) (λ g. refl) (λ g. refl) (λ g. refl) before

pub balanced : (limits : Limits) (history : List Event) → IsLegal limits history → IsBalanced history
balanced limits = holds_of_legal limits IsBalanced (record { once = λ id. omega arith; balance = λ g. refl })
    (λ h e legal before allowed. balanced-push limits h e before allowed)

-- each was asked for
pub no_more : {A : Type 0} (f g : A → ℕ) (xs : List A) → ((x : A) → f x ≤ g x) → sum_by f xs ≤ sum_by g xs
no_more f g [] each = omega arith
no_more f g (x ∷ xs) each =
    let here = each x in
    let rest = no_more f g xs each in
    let fs = sum_by-cons f x xs in
    let gs = sum_by-cons g x xs in
    omega arith

pub event_added_was_asked : (g : ℕ → ℕ) (e : Event) → added g e ≤ asked (add_weight g) e
event_added_was_asked g (event.Add pass id text slice column bits) = omega arith
event_added_was_asked g _ = omega arith

pub added_was_asked : (g : ℕ → ℕ) (history : List Event) → sum_by (added g) history ≤ sum_by (asked (add_weight g)) history
added_was_asked g history = no_more (added g) (asked (add_weight g)) history (event_added_was_asked g)

pub event_deleted_was_asked : (g : ℕ → ℕ) (e : Event) → deleted g e ≤ asked (delete_weight g) e
event_deleted_was_asked g (event.Del pass id) = omega arith
event_deleted_was_asked g _ = omega arith

pub deleted_was_asked : (g : ℕ → ℕ) (history : List Event) → sum_by (deleted g) history ≤ sum_by (asked (delete_weight g)) history
deleted_was_asked g history = no_more (deleted g) (asked (delete_weight g)) history (event_deleted_was_asked g)

-- no number is asked to be added twice
abbrev pub AddsOnce : List Event → Type 0
AddsOnce history = (id : ℕ) → sum_by (asked (add_weight (is_number id))) history ≤ 1

-- then a number isn't live where it is asked to be added
pub not_live_before : (limits : Limits) (history : List Event) (e : Event) (id : ℕ) → IsLegal limits history → AddsOnce (history ++ e ∷ []) →
    asked (add_weight (is_number id)) e ≡ 1 → is_live id history ≡ false
not_live_before limits history e id legal once one =
    not_live_by_count id history
    (omega (
      arith,
      (balanced limits history legal).balance (is_number id),
      added_was_asked (is_number id) history,
      sum_by_push (asked (add_weight (is_number id))) history e,
      once id,
      one,
    ))

replaces_none : (limits : Limits) (history : List Event) (e : Event) → IsLegal limits history → AddsOnce (history ++ e ∷ []) → (g : ℕ → ℕ) → replaces g history e ≡ 0
replaces_none limits history (event.Add pass id text slice column bits) legal once g =
    ap (λ b. cond b (g id) 0) (not_live_before limits history (event.Add pass id text slice column bits) id legal once (number_is id))
replaces_none limits history _ legal once g = refl

-- so nothing is replaced
pub none_replaced : (limits : Limits) (history : List Event) → IsLegal limits history → AddsOnce history → (g : ℕ → ℕ) → replaced g history ≡ 0
none_replaced limits =
    holds_of_legal limits (λ h. AddsOnce h → (g : ℕ → ℕ) → replaced g h ≡ 0) (λ once g. refl)
    (λ h e legal before allowed once g.
    omega (
      arith,
      replaced-push g h e,
      before (λ id. omega (arith, once id, sum_by_push (asked (add_weight (is_number id))) h e)) g,
      replaces_none limits h e legal once g,
    ))
