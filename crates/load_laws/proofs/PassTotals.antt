-- Sums over the events of each pass, and over those of all passes.
use Rattle.std.proofs.Common.{◌≡◌, ℕ, zero, suc, ◌+◌, ◌<◌, ◌≤◌, ◌==◌, Bool, true, false, cond, List, [], ◌∷◌, ◌++◌, length, Option, Some, None, refl, sym, ap, ap₂, ◌∙◌, arith}
use Rattle.std.proofs.lemmas.Bool.{eq-eqb, ne_eqb}
use Rattle.std.proofs.lemmas.List.{append-nil}
use Rattle.std.proofs.lemmas.List.Elements.{All-head, All-tail}
use Rattle.std.proofs.lemmas.List.Sums.{sum_by-cons, sum_by_push}
use Rattle.std.specs.List.{All, cons_option, sum_by}
use Rattle.std.specs.Option.{option_map_or}
use Rattle.funnel_model.specs.declared.call.Call.{Call}
use Rattle.funnel_model.specs.declared.event.Event.{Event}
use Rattle.funnel_model.specs.Events.{call_of, pass_of}
use Rattle.funnel_model.specs.History.{own}
use Rattle.funnel_model.proofs.StepLemmas.{own-append}
use Rattle.load_gen.proofs.Totals.{total, total-none, total-once, total-plus, total-same}
use Rattle.load_laws.specs.LonePass.{IsAlone}

-- what the events of a pass weigh together
abbrev pub weigh_by : (Event → ℕ) → ℕ → List Event → ℕ
weigh_by f pass history = sum_by (λ e. cond (pass_of e == pass) (f e) 0) history

-- with one more event of the pass, or of another
pub weigh_by-own : (f : Event → ℕ) (pass : ℕ) (history : List Event) (e : Event) → pass_of e ≡ pass →
    weigh_by f pass (history ++ e ∷ []) ≡ weigh_by f pass history + f e
weigh_by-own f pass history e is_own =
    sum_by_push (λ x. cond (pass_of x == pass) (f x) 0) history e ∙ ap (λ b. weigh_by f pass history + cond b (f e) 0) (eq-eqb (pass_of e) pass is_own)

pub weigh_by-other : (f : Event → ℕ) (pass : ℕ) (history : List Event) (e : Event) → (pass_of e ≡ pass → ⊥) →
    weigh_by f pass (history ++ e ∷ []) ≡ weigh_by f pass history
weigh_by-other f pass history e other =
    let none : weigh_by f pass history + 0 ≡ weigh_by f pass history = omega arith in
    sum_by_push (λ x. cond (pass_of x == pass) (f x) 0) history e
    ∙ ap (λ b. weigh_by f pass history + cond b (f e) 0) (ne_eqb (pass_of e) pass other) ∙ none

-- an event of another pass makes no call of this one
pub own-other : (pass : ℕ) (history : List Event) (e : Event) → (pass_of e ≡ pass → ⊥) → own pass (history ++ e ∷ []) ≡ own pass history
own-other pass history e other =
    own-append pass history (e ∷ [])
    ∙ ap (λ b. own pass history ++ cons_option (cond b (call_of e) None) []) (ne_eqb (pass_of e) pass other)
    ∙ append-nil (own pass history)

-- of a pass that is alone they are all events
pub weigh_by-alone : (f : Event → ℕ) (pass : ℕ) (history : List Event) → IsAlone pass history → weigh_by f pass history ≡ sum_by f history
weigh_by-alone f pass [] alone = refl
weigh_by-alone f pass (e ∷ later) alone =
    let is_own = eq-eqb (pass_of e) pass (All-head (λ x. pass_of x ≡ pass) e later alone) in
    sum_by-cons (λ x. cond (pass_of x == pass) (f x) 0) e later
    ∙ ap₂ (λ b n. cond b (f e) 0 + n) is_own (weigh_by-alone f pass later (All-tail (λ x. pass_of x ≡ pass) e later alone))
    ∙ sym (sum_by-cons f e later)

-- a list is as long as its elements are, where each counts as one
pub length_is_sum : {A : Type 0} → (xs : List A) → length xs ≡ sum_by (λ x. 1) xs
length_is_sum [] = refl
length_is_sum {A} (x ∷ xs) =
    let rest = length_is_sum xs in
    let first = sum_by-cons (λ (y : A). 1) x xs in
    omega arith

-- all passes' events are all events
pub total-weigh_by : (f : Event → ℕ) (passes : ℕ) (history : List Event) → All (λ e. pass_of e < passes) history →
    total (λ pass. weigh_by f pass history) passes ≡ sum_by f history
total-weigh_by f passes [] within = total-none passes
total-weigh_by f passes (e ∷ later) within =
    total-same (λ pass. weigh_by f pass (e ∷ later)) (λ pass. cond (pass_of e == pass) (f e) 0 + weigh_by f pass later) passes
    (λ pass. sum_by-cons (λ x. cond (pass_of x == pass) (f x) 0) e later)
    ∙ total-plus (λ pass. cond (pass_of e == pass) (f e) 0) (λ pass. weigh_by f pass later) passes
    ∙ ap₂ (λ a b. a + b) (total-once (pass_of e) (f e) passes (All-head (λ x. pass_of x < passes) e later within))
    (total-weigh_by f passes later (All-tail (λ x. pass_of x < passes) e later within))
    ∙ sym (sum_by-cons f e later)

-- what the call weighs that an event answers
abbrev pub asked : (Call → ℕ) → Event → ℕ
asked w e = option_map_or w (call_of e) 0

-- the events of a pass weigh what its calls weigh
pub weigh_by-calls : (w : Call → ℕ) (pass : ℕ) (history : List Event) → weigh_by (asked w) pass history ≡ sum_by w (own pass history)
weigh_by-calls w pass [] = refl
weigh_by-calls w pass (e ∷ later) =
    sum_by-cons (λ x. cond (pass_of x == pass) (asked w x) 0) e later
    ∙ ap (λ n. cond (pass_of e == pass) (asked w e) 0 + n) (weigh_by-calls w pass later)
    ∙ by_pass (pass_of e == pass) (call_of e)
  where
    by_pass : (b : Bool) (o : Option Call) → cond b (option_map_or w o 0) 0 + sum_by w (own pass later) ≡ sum_by w (cons_option (cond b o None) (own pass later))
    by_pass true (Some c) = sym (sum_by-cons w c (own pass later))
    by_pass true None = omega arith
    by_pass false o = omega arith

-- sums over the passes below a number, where each is the same, or no more
pub total-same_below : (f g : ℕ → ℕ) (n : ℕ) → ((k : ℕ) → k < n → f k ≡ g k) → total f n ≡ total g n
total-same_below f g zero same = refl
total-same_below f g (suc n) same = ap₂ (λ a b. a + b) (total-same_below f g n (λ k below. same k (omega arith))) (same n (omega arith))

pub total-below : (f g : ℕ → ℕ) (n : ℕ) → ((k : ℕ) → k < n → f k ≤ g k) → total f n ≤ total g n
total-below f g zero each = omega arith
total-below f g (suc n) each =
    let lower = total-below f g n (λ k below. each k (omega arith)) in
    let here = each n (omega arith) in
    omega arith

-- the calls of all passes weigh what these calls weigh together
pub asked-total : (w : Call → ℕ) (passes : ℕ) (history : List Event) (calls : ℕ → List Call) → All (λ e. pass_of e < passes) history →
    ((pass : ℕ) → pass < passes → own pass history ≡ calls pass) → sum_by (asked w) history ≡ total (λ pass. sum_by w (calls pass)) passes
asked-total w passes history calls within made =
    sym (total-weigh_by (asked w) passes history within)
    ∙ total-same_below (λ pass. weigh_by (asked w) pass history) (λ pass. sum_by w (calls pass)) passes
    (λ pass below. weigh_by-calls w pass history ∙ ap (λ (cs : List Call). sum_by w cs) (made pass below))
