-- An engine of which fewer columns were claimed than it has isn't full.
use Rattle.std.proofs.Common.{◌≡◌, ℕ, zero, suc, ◌+◌, ◌*◌, ◌<◌, ◌≤◌, ⊎_elim, Bool, true, false, cond, List, [], ◌∷◌, ◌++◌, length, Some, None, refl, ap, ◌∙◌, subst, arith}
use Rattle.std.proofs.lemmas.Bool.{cases_eq, cases_lt, ne_eqb}
use Rattle.std.proofs.lemmas.List.{length-append}
use Rattle.funnel_model.proofs.Claims.{claimed-take, unclaimed_by_count}
use Rattle.funnel_model.proofs.LiveLemmas.{by_push}
use Rattle.funnel_model.proofs.Retirement.{full_has_no_room}
use Rattle.funnel_model.proofs.Spans.{claimed-opens, claimed-other}
use Rattle.funnel_model.specs.declared.event.Event.{Event}
use Rattle.funnel_model.specs.declared.event.Event.TheVariants as event
use Rattle.funnel_model.specs.Events.{column_taken_in, opens}
use Rattle.funnel_model.specs.Legal.{Limits, IsFull, IsLegal}
use Rattle.funnel_model.specs.Slices.{claimed}
use Rattle.load_laws.specs.LonePass.{is_take, count_of_takes}
use Rattle.load_laws.proofs.Takes.{takes-push}

-- how many columns of the first so many slices are claimed
abbrev claimed_below : ℕ → List Event → ℕ
claimed_below zero history = 0
claimed_below (suc n) history = claimed_below n history + length (claimed n history)

-- an event that takes no column claims none
takes_none : (slice : ℕ) (e : Event) → is_take e ≡ false → column_taken_in slice e ≡ None
takes_none slice (event.Take pass taken column) none = cc
takes_none slice _ none = refl

-- a slice has no more claimed columns after an event that is no take
no_more_claimed : (slice : ℕ) (history : List Event) (e : Event) → column_taken_in slice e ≡ None →
    length (claimed slice (history ++ e ∷ [])) ≤ length (claimed slice history)
no_more_claimed slice history e none = by_opened (opens slice e) refl where
  by_opened : (b : Bool) → opens slice e ≡ b → length (claimed slice (history ++ e ∷ [])) ≤ length (claimed slice history)
  by_opened true opened = omega (arith, ap length (claimed-opens slice history e opened))
  by_opened false stays = omega (arith, ap length (claimed-other slice history e stays none))

-- nor have the first so many slices together
none_more_below : (n : ℕ) (history : List Event) (e : Event) → is_take e ≡ false → claimed_below n (history ++ e ∷ []) ≤ claimed_below n history
none_more_below zero history e none = omega arith
none_more_below (suc n) history e none =
    let lower = none_more_below n history e none in
    let here = no_more_claimed n history e (takes_none n e none) in
    omega arith

-- a take claims one column in its slice and none in another
taken_elsewhere : (pass taken column slice : ℕ) (history : List Event) → (taken ≡ slice → ⊥) →
    length (claimed slice (history ++ event.Take pass taken column ∷ [])) ≤ length (claimed slice history)
taken_elsewhere pass taken column slice history other =
    no_more_claimed slice history (event.Take pass taken column) (ap (λ b. cond b (Some column) None) (ne_eqb taken slice other))

taken_here : (pass slice column : ℕ) (history : List Event) →
    length (claimed slice (history ++ event.Take pass slice column ∷ [])) ≡ length (claimed slice history) + 1
taken_here pass slice column history = ap length (claimed-take pass slice column history) ∙ length-append (claimed slice history) (column ∷ [])

-- so it claims none in the slices before its own, and at most one in any number of slices
none_before : (pass taken column n : ℕ) (history : List Event) → n ≤ taken →
    claimed_below n (history ++ event.Take pass taken column ∷ []) ≤ claimed_below n history
none_before pass taken column zero history within = omega arith
none_before pass taken column (suc n) history within =
    let lower = none_before pass taken column n history (omega arith) in
    let here = taken_elsewhere pass taken column n history (λ same. absurd (omega arith)) in
    omega arith

one_below : (pass taken column n : ℕ) (history : List Event) →
    claimed_below n (history ++ event.Take pass taken column ∷ []) ≤ claimed_below n history + 1
one_below pass taken column zero history = omega arith
one_below pass taken column (suc n) history =
    ⊎_elim
    (λ same.
    let lower = none_before pass taken column n history (omega arith) in
    let here = subst (λ s. length (claimed s (history ++ event.Take pass taken column ∷ [])) ≡ length (claimed s history) + 1) same (taken_here pass taken column history) in
    omega arith)
    (λ other.
    let lower = one_below pass taken column n history in
    let here = taken_elsewhere pass taken column n history other in
    omega arith)
    (cases_eq taken n)

-- there are no more claimed columns than takes
claimed_by_takes : (n : ℕ) (history : List Event) → claimed_below n history ≤ count_of_takes history
claimed_by_takes n = by_push (λ h. claimed_below n h ≤ count_of_takes h) (none n) (λ h e before. by_kind h e before (is_take e) refl) where
  none : (m : ℕ) → claimed_below m [] ≤ 0
  none zero = omega arith
  none (suc m) = let lower = none m in omega arith

  by_take : (h : List Event) (e : Event) → is_take e ≡ true → claimed_below n (h ++ e ∷ []) ≤ claimed_below n h + 1
  by_take h (event.Take pass slice column) is = one_below pass slice column n h
  by_take h _ is = cc

  by_kind : (h : List Event) (e : Event) → claimed_below n h ≤ count_of_takes h → (b : Bool) → is_take e ≡ b → claimed_below n (h ++ e ∷ []) ≤ count_of_takes (h ++ e ∷ [])
  by_kind h e before true is =
      let more = by_take h e is in
      let takes : count_of_takes (h ++ e ∷ []) ≡ count_of_takes h + 1 = takes-push h e ∙ ap (λ b. count_of_takes h + cond b 1 0) is in
      omega arith
  by_kind h e before false is =
      let same = none_more_below n h e is in
      let takes : count_of_takes (h ++ e ∷ []) ≡ count_of_takes h + 0 = takes-push h e ∙ ap (λ b. count_of_takes h + cond b 1 0) is in
      omega arith

-- where each slice has all its columns claimed, that many are
all_claimed : (columns n : ℕ) (history : List Event) → ((slice : ℕ) → slice < n → columns ≤ length (claimed slice history)) →
    n * columns ≤ claimed_below n history
all_claimed columns zero history each = omega arith
all_claimed columns (suc n) history each =
    let lower = all_claimed columns n history (λ slice in'. each slice (omega arith)) in
    let here = each n (omega arith) in
    omega arith

-- in a full engine each slice has all its columns claimed
full_is_claimed : (limits : Limits) (history : List Event) → IsLegal limits history → IsFull limits history → (slice : ℕ) → slice < limits.slices →
    limits.columns ≤ length (claimed slice history)
full_is_claimed limits history legal full slice in' =
    let n = length (claimed slice history) in
    ⊎_elim
    (λ less. absurd (full_has_no_room limits history slice legal full in' (n, less, unclaimed_by_count limits slice n history legal (omega arith))))
    (λ all. all)
    (cases_lt n limits.columns)

-- an engine of which fewer columns were claimed than it has isn't full
pub not_full : (limits : Limits) (history : List Event) → IsLegal limits history → count_of_takes history < limits.slices * limits.columns →
    IsFull limits history → ⊥
not_full limits history legal few full =
    let all = all_claimed limits.columns limits.slices history (full_is_claimed limits history legal full) in
    let takes = claimed_by_takes limits.slices history in
    omega arith
