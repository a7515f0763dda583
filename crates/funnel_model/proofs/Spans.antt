-- The span of a slice, its claimed columns and the last event of a pass, after one more event.
use Rattle.std.proofs.Common.{◌≡◌, ℕ, ⊎_elim, Bool, true, false, cond, ◌||◌, List, [], ◌∷◌, ◌++◌, Option, Some, None, sym, refl, ap, ◌∙◌, inl, inr}
use Rattle.std.proofs.lemmas.Bool.{eq-eqb, ne_eqb, or_from, or_parts}
use Rattle.std.proofs.lemmas.List.{append-nil}
use Rattle.std.proofs.lemmas.List.Elements.{filter_map-append}
use Rattle.std.proofs.lemmas.List.Folds.{list_any-append}
use Rattle.std.proofs.lemmas.List.Sums.{fold-append}
use Rattle.std.proofs.Math.Bool.{or-false}
use Rattle.std.specs.List.{filter_map, list_any}
use Rattle.std.specs.Prelude.{option_to_list, ◌==◌, ◌&&◌, ◌⊎◌}
use Rattle.funnel_model.specs.declared.event.Event.{Event}
use Rattle.funnel_model.specs.declared.event.Event.TheVariants as event
use Rattle.funnel_model.specs.Events.{pass_of, column_taken_in, opens}
use Rattle.funnel_model.specs.History.{last_by}
use Rattle.funnel_model.specs.Slices.{span, claimed, is_claimed}

-- where one more event ends a list that was split at an event: it is that event, or the last of the later ones
pub split_at_end : {A : Type 0} (history earlier later : List A) (e x : A) → history ++ e ∷ [] ≡ earlier ++ x ∷ later →
    ((later ≡ []) × (history ≡ earlier) × (e ≡ x)) ⊎ ((rest : List A) × (later ≡ rest ++ e ∷ []) × (history ≡ earlier ++ x ∷ rest))
split_at_end [] [] later e x is = inl (cc, refl, cc)
split_at_end [] (y ∷ []) later e x is = let none : [] ≡ x ∷ later = cc in cc
split_at_end [] (y ∷ (z ∷ ys)) later e x is = let none : [] ≡ z ∷ (ys ++ x ∷ later) = cc in cc
split_at_end (a ∷ rest) [] later e x is = inr (rest, cc, cc)
split_at_end (a ∷ rest) (y ∷ ys) later e x is =
    let same : a ≡ y = cc in
    ⊎_elim
    (λ end. inl (end.0, cc (end.1), end.2))
    (λ more. inr (more.0, more.1, cc (more.2)))
    (split_at_end rest ys later e x cc)

-- the span with one more event
pub span-push : (slice : ℕ) (history : List Event) (e : Event) → span slice (history ++ e ∷ []) ≡ cond (opens slice e) [] (span slice history ++ e ∷ [])
span-push slice history e = fold-append (λ events x. cond (opens slice x) [] (events ++ x ∷ [])) [] history (e ∷ [])

-- whether some event of the span passes a test, with one more event
pub in_span-push : (test : Event → Bool) (slice : ℕ) (history : List Event) (e : Event) → opens slice e ≡ false →
    list_any test (span slice (history ++ e ∷ [])) ≡ (list_any test (span slice history) || test e)
in_span-push test slice history e stays =
    ap (list_any test) (span-push slice history e ∙ ap (λ b. cond b [] (span slice history ++ e ∷ [])) stays)
    ∙ list_any-append test (span slice history) (e ∷ [])
    ∙ ap (λ b. list_any test (span slice history) || b) (or-false (test e))

-- an event that opens the slice leaves nothing in its span
pub span-opened : (slice : ℕ) (history : List Event) (e : Event) → opens slice e ≡ true → span slice (history ++ e ∷ []) ≡ []
span-opened slice history e is = span-push slice history e ∙ ap (λ b. cond b [] (span slice history ++ e ∷ [])) is

-- what one event claims, as a list
one_taken : (o : Option ℕ) (f : Event → Option ℕ) (e : Event) → f e ≡ o → filter_map f (e ∷ []) ≡ option_to_list o
one_taken None f e is = cc
one_taken (Some c) f e is = cc

-- the claimed columns with one more event, which doesn't open the slice
pub claimed-push : (slice : ℕ) (history : List Event) (e : Event) → opens slice e ≡ false →
    claimed slice (history ++ e ∷ []) ≡ claimed slice history ++ option_to_list (column_taken_in slice e)
claimed-push slice history e stays =
    ap (filter_map (column_taken_in slice)) (span-push slice history e ∙ ap (λ b. cond b [] (span slice history ++ e ∷ [])) stays)
    ∙ filter_map-append (column_taken_in slice) (span slice history) (e ∷ [])
    ∙ ap (λ cs. claimed slice history ++ cs) (one_taken (column_taken_in slice e) (column_taken_in slice) e refl)

-- the claimed columns after an event that claims none in the slice
pub claimed-other : (slice : ℕ) (history : List Event) (e : Event) → opens slice e ≡ false → column_taken_in slice e ≡ None →
    claimed slice (history ++ e ∷ []) ≡ claimed slice history
claimed-other slice history e stays none =
    claimed-push slice history e stays ∙ ap (λ o. claimed slice history ++ option_to_list o) none ∙ append-nil (claimed slice history)

-- after one that claims a column in it
pub claimed-taken : (slice column : ℕ) (history : List Event) (e : Event) → opens slice e ≡ false → column_taken_in slice e ≡ Some column →
    claimed slice (history ++ e ∷ []) ≡ claimed slice history ++ column ∷ []
claimed-taken slice column history e stays some =
    claimed-push slice history e stays ∙ ap (λ o. claimed slice history ++ option_to_list o) some

-- and after one that opens it
pub claimed-opens : (slice : ℕ) (history : List Event) (e : Event) → opens slice e ≡ true → claimed slice (history ++ e ∷ []) ≡ []
claimed-opens slice history e is = ap (filter_map (column_taken_in slice)) (span-opened slice history e is)

-- whether an event claims this column
abbrev pub claims : ℕ → ℕ → Event → Bool
claims slice column (event.Take pass taken at) = taken == slice && at == column
claims slice column _ = false

-- whether a column is the one that is claimed, if one is
one_claimed : (b : Bool) (at column : ℕ) → list_any (λ c. c == column) (option_to_list (cond b (Some at) None)) ≡ (b && at == column)
one_claimed true at column = or-false (at == column)
one_claimed false at column = refl

-- an event claims a column exactly where that is the column which it claims in the slice
claims_taken : (slice column : ℕ) (e : Event) → list_any (λ c. c == column) (option_to_list (column_taken_in slice e)) ≡ claims slice column e
claims_taken slice column (event.Take pass taken at) = one_claimed (taken == slice) at column
claims_taken slice column _ = refl

-- whether a column is claimed, with one more event, which doesn't open the slice
pub is_claimed-push : (slice column : ℕ) (history : List Event) (e : Event) → opens slice e ≡ false →
    is_claimed slice column (history ++ e ∷ []) ≡ (is_claimed slice column history || claims slice column e)
is_claimed-push slice column history e stays =
    ap (list_any (λ c. c == column)) (claimed-push slice history e stays)
    ∙ list_any-append (λ c. c == column) (claimed slice history) (option_to_list (column_taken_in slice e))
    ∙ ap (λ b. is_claimed slice column history || b) (claims_taken slice column e)

-- no column is claimed after an event that opens the slice
pub is_claimed-opens : (slice column : ℕ) (history : List Event) (e : Event) → opens slice e ≡ true → is_claimed slice column (history ++ e ∷ []) ≡ false
is_claimed-opens slice column history e is = ap (list_any (λ c. c == column)) (claimed-opens slice history e is)

-- the last event of a pass, with one more event
pub last_by-push : (pass : ℕ) (history : List Event) (e : Event) → last_by pass (history ++ e ∷ []) ≡ cond (pass_of e == pass) (Some e) (last_by pass history)
last_by-push pass history e = fold-append (λ last x. cond (pass_of x == pass) (Some x) last) None history (e ∷ [])

-- an event of the pass is its last
pub last_by-own : (pass : ℕ) (history : List Event) (e : Event) → pass_of e ≡ pass → last_by pass (history ++ e ∷ []) ≡ Some e
last_by-own pass history e own = last_by-push pass history e ∙ ap (λ b. cond b (Some e) (last_by pass history)) (eq-eqb (pass_of e) pass own)

-- an event of another pass leaves the last event of this one
pub last_by-other : (pass : ℕ) (history : List Event) (e : Event) → (pass_of e ≡ pass → ⊥) → last_by pass (history ++ e ∷ []) ≡ last_by pass history
last_by-other pass history e other = last_by-push pass history e ∙ ap (λ b. cond b (Some e) (last_by pass history)) (ne_eqb (pass_of e) pass other)

-- where no element of a list passes, none of its front and not the last one
pub none-push : {A : Type 0} (test : A → Bool) (xs : List A) (x : A) → list_any test xs ≡ false → test x ≡ false → list_any test (xs ++ x ∷ []) ≡ false
none-push test xs x none fails = list_any-append test xs (x ∷ []) ∙ or_from (list_any test xs) (test x || false) none (or_from (test x) false fails refl)

-- where none of a longer list passes, none of the list passes, and not the last one
pub none_of_push : {A : Type 0} (test : A → Bool) (xs : List A) (x : A) → list_any test (xs ++ x ∷ []) ≡ false → (list_any test xs ≡ false) × (test x ≡ false)
none_of_push test xs x none =
    let parts = or_parts (list_any test xs) (test x || false) (sym (list_any-append test xs (x ∷ [])) ∙ none) in
    (parts.0, (or_parts (test x) false parts.1).0)

-- a list with an element isn't empty
pub not_empty : {A : Type 0} (xs ys : List A) (y : A) → xs ++ y ∷ ys ≡ [] → ⊥
not_empty [] ys y is = cc
not_empty (x ∷ xs) ys y is = let h : x ∷ (xs ++ y ∷ ys) ≡ [] = is in cc
