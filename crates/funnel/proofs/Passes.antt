-- The passes of a new engine, of which the first was taken out, had a session, and was put back behind the others.
use Rattle.std.proofs.Common.{◌≡◌, ℕ, zero, suc, ◌+◌, ◌-◌, ◌<◌, ◌≤◌, ◌⊎◌, false, List, [], ◌∷◌, ◌++◌, map, sym, refl, ap, ◌∙◌, subst, inl, inr, rules, arith, slice_index_or}
use Rattle.std.proofs.lemmas.List.{map-append}
use Rattle.std.proofs.lemmas.Bool.{cases_eq, cases_lt}
use Rattle.std.proofs.lemmas.List.Elements.{All-cons, All-nil, All-push, Contains-append_left, Contains-push}
use Rattle.std.specs.List.{All, Contains, list_any}
use Rattle.std.specs.Prelude.{◌==◌}
use Rattle.engine.specs.Passes.{PassView, new_pass}
use Rattle.funnel_model.proofs.Invariants.{passes_in_range}
use Rattle.funnel_model.specs.declared.event.Event.{Event}
use Rattle.funnel_model.specs.Events.{pass_of}
use Rattle.funnel_model.specs.Legal.{IsLegal, Limits}
use Rattle.slice_rule.specs.Pools.{PoolId}
use Rattle.funnel.proofs.Alone.{none_with}
use Rattle.funnel.specs.Serving.{FirstHasSeen, OnlyFirstUsed, new_passes}

abbrev pub number_of : PassView → ℕ
number_of pass = pass.number

others_saw_nothing : (front : List Event) (from count : ℕ) → 1 ≤ from → All (FirstHasSeen front) (new_passes from count)
others_saw_nothing front from zero some = All-nil (FirstHasSeen front)
others_saw_nothing front from (suc count) some =
    All-cons (FirstHasSeen front) (new_pass from) (new_passes (from + 1) count)
    (record { first = λ is. absurd (omega (arith, is)); other = λ _. refl }) (others_saw_nothing front (from + 1) count (omega arith))

behind : (xs : List ℕ) (y x : ℕ) → Contains xs x → Contains (y ∷ xs) x
behind xs y x contains = (suc contains.0, omega (arith, contains.1), contains.2)

pub others_are_there : (from count pass : ℕ) → from ≤ pass → pass < from + count → Contains (map number_of (new_passes from count)) pass
others_are_there from zero pass low high = absurd (omega arith)
others_are_there from (suc count) pass low high =
    by_case (cases_eq from pass) (λ isnt. others_are_there (from + 1) count pass (omega (arith, isnt)) (omega arith)) where
      by_case : (from ≡ pass) ⊎ (from ≡ pass → ⊥) → ((from ≡ pass → ⊥) → Contains (map number_of (new_passes (from + 1) count)) pass) →
          Contains (map number_of (new_passes from (suc count))) pass
      by_case (inl is) later = (0, omega arith, is)
      by_case (inr isnt) later = behind (map number_of (new_passes (from + 1) count)) from pass (later isnt)

all_are_there : (count pass : ℕ) (last : PassView) → last.number ≡ 0 → pass < count → Contains (map number_of (new_passes 1 (count - 1) ++ last ∷ [])) pass
all_are_there count zero last number small =
    let others = new_passes 1 (count - 1) in
    subst (λ xs. Contains xs 0) (sym (map-append number_of others (last ∷ [])))
    (subst (λ n. Contains (map number_of others ++ n ∷ []) 0) (sym number) (Contains-push (map number_of others) 0))
all_are_there count (suc pass) last number small =
    let others = new_passes 1 (count - 1) in
    subst (λ xs. Contains xs (suc pass)) (sym (map-append number_of others (last ∷ [])))
    (Contains-append_left (map number_of others) (last.number ∷ []) (suc pass) (others_are_there 1 (count - 1) (suc pass) (omega arith) (omega arith)))

-- and all of them, once it was put back behind the others
pub only_first_used : (pool : PoolId) (others all : List PassView) (last : PassView) → 1 ≤ pool.limits.passes → pool.limits.passes ≡ pool.config.passes →
    others ≡ new_passes 1 (pool.config.passes - 1) → all ≡ others ++ last ∷ [] → last.number ≡ 0 → OnlyFirstUsed pool last.front all
only_first_used pool others all last some counted new back number =
    let count = pool.config.passes in
    let all_are : all ≡ new_passes 1 (count - 1) ++ last ∷ [] = back ∙ ap (λ xs. xs ++ last ∷ []) new in
    record {
      seen = subst (All (FirstHasSeen last.front)) (sym all_are) (All-push (FirstHasSeen last.front) (new_passes 1 (count - 1)) last
          (others_saw_nothing last.front 1 (count - 1) (omega arith)) (record { first = λ _. refl; other = λ positive. absurd (omega (arith, number, positive)) }));
      every = λ pass small. subst (λ xs. Contains (map number_of xs) pass) (sym all_are) (all_are_there count pass last number (omega arith));
    }

-- where each pass from a number on has no event, all events are of those below it
pub of_first_passes : (limits : Limits) (n : ℕ) (history : List Event) → IsLegal limits history →
    ((pass : ℕ) → n ≤ pass → pass < limits.passes → list_any (λ e. pass_of e == pass) history ≡ false) → All (λ e. pass_of e < n) history
of_first_passes limits n history legal others k d small =
    let e = slice_index_or history k d in
    by_case e (k, small, search rules) (passes_in_range limits history legal k d small) (cases_lt (pass_of e) n) where
      by_case : (e : Event) → Contains history e → pass_of e < limits.passes → (pass_of e < n) ⊎ (n ≤ pass_of e) → pass_of e < n
      by_case e there within (inl low) = low
      by_case e there within (inr high) = absurd (search (rules, none_with (λ x. pass_of x == pass_of e) history e (others (pass_of e) high within) there))
