-- The history stays short enough to be counted.
use Rattle.std.proofs.Common.{◌≡◌, ◌≢◌, ⊎_elim, ℕ, Bool, true, false, zero, suc, ◌+◌, ◌-◌, ◌*◌, ◌^◌, ◌<◌, ◌≤◌, List, [], ◌∷◌, ◌++◌, length, Option, Some, None, sym, refl, ap, ◌∙◌, arith, length-append}
use Rattle.std.proofs.lemmas.Bool.{cases_eq}
use Rattle.std.proofs.lemmas.List.Sums.{sum_by-append}
use Rattle.std.specs.List.{range_with_len, sum_by}
use Rattle.std.specs.Option.{option_map_or}
use Rattle.funnel_model.specs.declared.event.Event.{Event}
use Rattle.funnel_model.specs.declared.event.Event.TheVariants as event
use Rattle.funnel_model.specs.Events.{pass_of}
use Rattle.funnel_model.specs.History.{last_by}
use Rattle.funnel_model.proofs.ClaimLemmas.{range_with_len-push}
use Rattle.funnel_model.proofs.Spans.{last_by-other, last_by-own}
use Rattle.commit_desk.specs.Kept.{HasFew, events_left}

-- the sum over one more number
sum-push : (f : ℕ → ℕ) (n : ℕ) → sum_by f (range_with_len 0 (suc n)) ≡ sum_by f (range_with_len 0 n) + f n
sum-push f n =
    let split = ap (λ k. sum_by f (range_with_len 0 k)) (let h : suc n ≡ n + 1 = omega arith in h) ∙ ap (sum_by f) (range_with_len-push 0 n) ∙ sum_by-append f (range_with_len 0 n) ((0 + n) ∷ []) in
    let last : f (0 + n) ≡ f n = ap f (let h : 0 + n ≡ n = omega arith in h) in
    omega (arith, split, last)

sum-bound : (f : ℕ → ℕ) (n most : ℕ) → ((k : ℕ) → f k ≤ most) → sum_by f (range_with_len 0 n) ≤ most * n
sum-bound f zero most small = omega arith
sum-bound f (suc n) most small =
    let rest = sum-bound f n most small in
    let more = sum-push f n in
    let here = small n in
    let times : most * suc n ≡ most * n + most = omega arith in
    omega (arith, rest, more, here, times)

-- sums of two functions that differ at one number
sum-same : (f g : ℕ → ℕ) (n : ℕ) → ((k : ℕ) → k < n → f k ≡ g k) → sum_by f (range_with_len 0 n) ≡ sum_by g (range_with_len 0 n)
sum-same f g zero same = refl
sum-same f g (suc n) same =
    let rest = sum-same f g n (λ k below. same k (omega (arith, below))) in
    omega (arith, rest, sum-push f n, sum-push g n, same n (omega arith))

sum-change : (f g : ℕ → ℕ) (n p : ℕ) → p < n → ((k : ℕ) → k ≢ p → f k ≡ g k) → sum_by f (range_with_len 0 n) + g p ≡ sum_by g (range_with_len 0 n) + f p
sum-change f g zero p below same = absurd (omega arith)
sum-change f g (suc n) p below same =
    ⊎_elim
    (λ (here : p ≡ n).
    let rest = sum-same f g n (λ k less. same k (λ is. omega (arith, less, is, here))) in
    let one = ap f here in
    let two = ap g here in
    omega (arith, rest, sum-push f n, sum-push g n, one, two))
    (λ (apart : p ≢ n).
    let rest = sum-change f g n p (omega arith) same in
    omega (arith, rest, sum-push f n, sum-push g n, same n (λ is. apart (sym is))))
    (cases_eq p n)

left_of : List Event → ℕ → ℕ
left_of history pass = option_map_or events_left (last_by pass history) 0

few_left : (e : Event) → events_left e ≤ 3
few_left (event.Take pass slice column) = omega arith
few_left (event.Clear pass slice) = omega arith
few_left (event.Opened pass slice alone) = few_opened alone where
  few_opened : (alone : Bool) → events_left (event.Opened pass slice alone) ≤ 3
  few_opened true = omega arith
  few_opened false = omega arith
few_left (event.Find pass query) = omega arith
few_left _ = omega arith

few_left_of : (last : Option Event) → option_map_or events_left last 0 ≤ 3
few_left_of None = omega arith
few_left_of (Some e) = few_left e

-- the first event of a call, where calls are taken
pub few-start : (most passes : ℕ) (history : List Event) (e : Event) → length history < most → HasFew most passes (history ++ e ∷ [])
few-start most passes history e taken =
    let sum = sum-bound (λ pass. option_map_or events_left (last_by pass (history ++ e ∷ [])) 0) passes 3 (λ pass. few_left_of (last_by pass (history ++ e ∷ []))) in
    omega (arith, sum, length-append history (e ∷ []))

-- a later event of a call, after which it can make fewer
pub few-next : (most passes : ℕ) (history : List Event) (e last : Event) → HasFew most passes history → pass_of e < passes → last_by (pass_of e) history ≡ Some last →
    events_left e + 1 ≤ events_left last → HasFew most passes (history ++ e ∷ [])
few-next most passes history e last few in' before less =
    let now = λ (pass : ℕ). option_map_or events_left (last_by pass (history ++ e ∷ [])) 0 in
    let was = λ (pass : ℕ). option_map_or events_left (last_by pass history) 0 in
    let change = sum-change now was passes (pass_of e) in'
    (λ k apart. ap (λ o. option_map_or events_left o 0) (last_by-other k history e (λ same. apart (sym same)))) in
    let here : now (pass_of e) ≡ events_left e = ap (λ o. option_map_or events_left o 0) (last_by-own (pass_of e) history e refl) in
    let there : was (pass_of e) ≡ events_left last = ap (λ o. option_map_or events_left o 0) before in
    omega (arith, change, here, there, few, less, length-append history (e ∷ []))

-- there is room for one more event
pub few-room : (most passes : ℕ) (history : List Event) → HasFew most passes history → most ≤ 2 ^ 62 → passes ≤ 64 → length history < 2 ^ 63 - 1
few-room most passes history few bounded in' = omega (arith, few, bounded, in')

-- without events there are few
pub few-new : (most passes : ℕ) → HasFew most passes []
few-new most passes =
    let none = sum-bound (λ pass. option_map_or events_left (last_by pass []) 0) passes 0 (λ pass. omega arith) in
    omega (arith, none)
