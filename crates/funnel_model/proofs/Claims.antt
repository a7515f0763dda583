-- The claimed columns of a slice in a legal history.
use Rattle.std.proofs.Common.{◌≡◌, ℕ, ◌+◌, ◌<◌, ◌≤◌, ⊎_elim, Bool, true, false, cond, List, [], ◌∷◌, ◌++◌, length, Option, Some, None, sym, refl, ap, ◌∙◌, subst, arith}
use Rattle.std.proofs.lemmas.Bool.{and_parts, both_ways, cases_lt, eq-eqb, eqb-true, false≢true, or_cases}
use Rattle.std.proofs.lemmas.List.{length-append}
use Rattle.std.specs.List.{list_any, range_with_len}
use Rattle.std.specs.Prelude.{◌==◌}
use Rattle.funnel_model.specs.declared.event.Event.{Event}
use Rattle.funnel_model.specs.declared.event.Event.TheVariants as event
use Rattle.funnel_model.specs.Events.{opens, column_taken_in}
use Rattle.funnel_model.specs.Legal.{Limits, IsAllowed, IsLegal}
use Rattle.funnel_model.specs.Slices.{claimed, is_claimed, is_clearing}
use Rattle.funnel_model.proofs.ClaimLemmas.{any_in_range, none_in_range}
use Rattle.funnel_model.proofs.Histories.{holds_of_legal}
use Rattle.funnel_model.proofs.NextEvents.{opens_fresh}
use Rattle.funnel_model.proofs.Ranges.{range_more}
use Rattle.funnel_model.proofs.Spans.{claimed-opens, claimed-other, claimed-taken, claims, is_claimed-opens, is_claimed-push}

-- a take is of the slice's next column, and the slice isn't being cleared
pub record Follows (limits : Limits) (history : List Event) (slice column : ℕ) : Type 0 where
  pub next : column ≡ length (claimed slice history)
  pub not_clearing : is_clearing slice history ≡ false
  pub in_range : slice < limits.slices

-- a take that is allowed follows so
pub take_follows : (limits : Limits) (history : List Event) (pass slice column : ℕ) → IsLegal limits history →
    IsAllowed limits history (event.Take pass slice column) → Follows limits history slice column
take_follows limits history pass slice column legal allowed =
    ⊎_elim
    (λ r. record { next = r.next; not_clearing = r.room.in_use.not_clearing; in_range = r.in_range })
    (λ r.
    let fresh = opens_fresh limits history legal pass slice r.opened in
    record { next = r.first ∙ sym (ap length fresh.none_claimed); not_clearing = fresh.not_clearing; in_range = fresh.in_range })
    allowed.rule

-- an event that claims a column of the slice is a take of it
pub taken_is : (slice column : ℕ) (e : Event) → column_taken_in slice e ≡ Some column → (pass : ℕ) × (e ≡ event.Take pass slice column)
taken_is slice column (event.Take pass taken at) is = by_test (taken == slice) refl is where
  by_test : (b : Bool) → (taken == slice) ≡ b → cond b (Some at) None ≡ Some column → (p : ℕ) × (event.Take pass taken at ≡ event.Take p slice column)
  by_test true same some = let s : taken ≡ slice = eqb-true taken slice same in (pass, cc)
  by_test false same some = cc
taken_is slice column _ is = cc

-- the claimed columns of each slice are its first
abbrev AreFirst : List Event → Type 0
AreFirst history = (slice : ℕ) → claimed slice history ≡ range_with_len 0 (length (claimed slice history))

-- the first columns of a slice and the next are its first
first_with : (columns more : List ℕ) (column : ℕ) → columns ≡ range_with_len 0 (length columns) → more ≡ columns ++ column ∷ [] → column ≡ length columns →
    more ≡ range_with_len 0 (length more)
first_with columns more column first is next =
    let len : length more ≡ length columns + 1 = ap length is ∙ length-append columns (column ∷ []) in
    is ∙ ap (λ cs. cs ++ column ∷ []) first ∙ ap (λ c. range_with_len 0 (length columns) ++ c ∷ []) next
    ∙ sym (range_more (length columns)) ∙ ap (range_with_len 0) (sym len)

-- columns that are the same are the first too
first_same : (columns more : List ℕ) → columns ≡ range_with_len 0 (length columns) → more ≡ columns → more ≡ range_with_len 0 (length more)
first_same columns more first is = is ∙ first ∙ ap (λ cs. range_with_len 0 (length cs)) (sym is)

-- the claimed columns stay the first with an event that is allowed
first-push : (limits : Limits) (history : List Event) (e : Event) (slice : ℕ) → IsLegal limits history → IsAllowed limits history e → AreFirst history →
    (opened : Bool) (taken : Option ℕ) → opens slice e ≡ opened → column_taken_in slice e ≡ taken →
    claimed slice (history ++ e ∷ []) ≡ range_with_len 0 (length (claimed slice (history ++ e ∷ [])))
first-push limits history e slice legal allowed first true taken opened is = first_same [] (claimed slice (history ++ e ∷ [])) refl (claimed-opens slice history e opened)
first-push limits history e slice legal allowed first false None opened is =
    first_same (claimed slice history) (claimed slice (history ++ e ∷ [])) (first slice) (claimed-other slice history e opened is)
first-push limits history e slice legal allowed first false (Some column) opened is =
    let take = taken_is slice column e is in
    first_with (claimed slice history) (claimed slice (history ++ e ∷ [])) column (first slice) (claimed-taken slice column history e opened is)
    (take_follows limits history take.0 slice column legal (subst (IsAllowed limits history) take.1 allowed)).next

-- the claimed columns of a slice are its first
pub claimed_first : (limits : Limits) (slice : ℕ) (history : List Event) → IsLegal limits history →
    claimed slice history ≡ range_with_len 0 (length (claimed slice history))
claimed_first limits slice history legal =
    holds_of_legal limits AreFirst (λ s. refl) (λ h e is_legal first allowed s. first-push limits h e s is_legal allowed first (opens s e) (column_taken_in s e) refl refl)
    history legal slice

-- a column is unclaimed where its number is at least their count
pub unclaimed_by_count : (limits : Limits) (slice column : ℕ) (history : List Event) → IsLegal limits history → length (claimed slice history) ≤ column →
    is_claimed slice column history ≡ false
unclaimed_by_count limits slice column history legal high =
    ap (list_any (λ c. c == column)) (claimed_first limits slice history legal) ∙ none_in_range 0 (length (claimed slice history)) column (omega arith)

-- it is claimed where its number is below
pub claimed_by_count : (limits : Limits) (slice column : ℕ) (history : List Event) → IsLegal limits history → column < length (claimed slice history) →
    is_claimed slice column history ≡ true
claimed_by_count limits slice column history legal low =
    ap (list_any (λ c. c == column)) (claimed_first limits slice history legal) ∙ any_in_range 0 (length (claimed slice history)) column (omega arith) (omega arith)

-- an unclaimed column has a number that is at least their count
pub count_of_unclaimed : (limits : Limits) (slice column : ℕ) (history : List Event) → IsLegal limits history → is_claimed slice column history ≡ false →
    length (claimed slice history) ≤ column
count_of_unclaimed limits slice column history legal unclaimed =
    ⊎_elim
    (λ low. absurd (both_ways (is_claimed slice column history) unclaimed (claimed_by_count limits slice column history legal low)))
    (λ high. high)
    (cases_lt column (length (claimed slice history)))

-- the column that is taken is unclaimed
pub take_is_unclaimed : (limits : Limits) (history : List Event) (pass slice column : ℕ) → IsLegal limits history →
    IsAllowed limits history (event.Take pass slice column) → is_claimed slice column history ≡ false
take_is_unclaimed limits history pass slice column legal allowed =
    let follows = take_follows limits history pass slice column legal allowed in
    let next = follows.next in
    unclaimed_by_count limits slice column history legal (omega arith)

-- and one of the slice
pub take_within : (limits : Limits) (history : List Event) (pass slice column : ℕ) → IsLegal limits history →
    IsAllowed limits history (event.Take pass slice column) → column < limits.columns
take_within limits history pass slice column legal allowed =
    ⊎_elim
    (λ r.
    let left = r.room.unclaimed in
    let high = count_of_unclaimed limits slice left.0 history legal left.2 in
    let low = left.1 in
    let next = r.next in
    omega arith)
    (λ r. r.in_range)
    allowed.rule

-- an event that claims a column is a take of it
pub claims_is : (slice column : ℕ) (e : Event) → claims slice column e ≡ true → (pass : ℕ) × (e ≡ event.Take pass slice column)
claims_is slice column (event.Take pass taken at) is =
    let both = and_parts (taken == slice) (at == column) is in
    let s : taken ≡ slice = eqb-true taken slice both.0 in
    let c : at ≡ column = eqb-true at column both.1 in
    (pass, cc)
claims_is slice column _ is = absurd (false≢true is)

-- the claimed columns are columns of slices
abbrev AreWithin : Limits → List Event → Type 0
AreWithin limits history = (slice column : ℕ) → is_claimed slice column history ≡ true → (slice < limits.slices) × (column < limits.columns)

-- the claimed columns stay columns of slices with an event that is allowed
within-push : (limits : Limits) (history : List Event) (e : Event) (slice column : ℕ) → IsLegal limits history → IsAllowed limits history e →
    AreWithin limits history → (opened : Bool) → opens slice e ≡ opened → is_claimed slice column (history ++ e ∷ []) ≡ true →
    (slice < limits.slices) × (column < limits.columns)
within-push limits history e slice column legal allowed within true opened is =
    absurd (both_ways (is_claimed slice column (history ++ e ∷ [])) (is_claimed-opens slice column history e opened) is)
within-push limits history e slice column legal allowed within false opened is =
    ⊎_elim
    (λ before. within slice column before)
    (λ now.
    let take = claims_is slice column e now in
    let taken = subst (IsAllowed limits history) take.1 allowed in
    ((take_follows limits history take.0 slice column legal taken).in_range, take_within limits history take.0 slice column legal taken))
    (or_cases (is_claimed slice column history) (claims slice column e) (sym (is_claimed-push slice column history e opened) ∙ is))

-- a claimed column is one of a slice of the engine
pub claimed_in_range : (limits : Limits) (history : List Event) (slice column : ℕ) → IsLegal limits history →
    is_claimed slice column history ≡ true → (slice < limits.slices) × (column < limits.columns)
claimed_in_range limits history slice column legal =
    holds_of_legal limits (AreWithin limits) (λ s c is. absurd (false≢true is))
    (λ h e is_legal within allowed s c. within-push limits h e s c is_legal allowed within (opens s e) refl) history legal slice column

-- there are no more claimed columns than the slice has
pub claimed_within : (limits : Limits) (slice : ℕ) (history : List Event) → IsLegal limits history →
    length (claimed slice history) ≤ limits.columns
claimed_within limits slice history legal =
    ⊎_elim
    (λ over. let last = claimed_in_range limits history slice limits.columns legal (claimed_by_count limits slice limits.columns history legal over) in
    let low = last.1 in absurd (omega arith))
    (λ within. within)
    (cases_lt limits.columns (length (claimed slice history)))

-- the claimed columns after a take in the slice
pub claimed-take : (pass slice column : ℕ) (history : List Event) →
    claimed slice (history ++ event.Take pass slice column ∷ []) ≡ claimed slice history ++ column ∷ []
claimed-take pass slice column history =
    claimed-taken slice column history (event.Take pass slice column) refl (ap (λ b. cond b (Some column) None) (eq-eqb slice slice refl))

-- no column is claimed in a slice that is opened
pub claimed-opened : (pass slice : ℕ) (alone : Bool) (history : List Event) → claimed slice (history ++ event.Opened pass slice alone ∷ []) ≡ []
claimed-opened pass slice alone history = claimed-opens slice history (event.Opened pass slice alone) (eq-eqb slice slice refl)
