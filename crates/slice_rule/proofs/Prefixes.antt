-- Beginnings of one list, and the events of a pass in them.
use Rattle.std.proofs.Common.{◌||◌, ◌≡◌, ℕ, suc, ◌+◌, ◌<◌, ◌≤◌, ◌==◌, Bool, true, false, cond, nat_lt, List, [], ◌∷◌, ◌++◌, length, refl, ap, sym, ◌∙◌, subst, arith, length-append}
use Rattle.std.proofs.lemmas.List.{append-nil}
use Rattle.std.proofs.lemmas.List.Elements.{filter-append}
use Rattle.std.proofs.lemmas.Bool.{eq-eqb, ne_eqb}
use Rattle.std.proofs.lemmas.Bool.Decides.{nat_tests}
use Rattle.std.specs.List.{list_any}
use Rattle.funnel_model.specs.History.{IsFrontOf}
use mathlib.Core.List.{IsPrefix}
use Rattle.funnel_model.specs.declared.event.Event.{Event}
use Rattle.funnel_model.specs.Events.{pass_of}
use Rattle.slice_rule.specs.Views.{longer}
use Rattle.slice_rule.specs.Worlds.{LacksAtMostOne, made_by}
use Rattle.funnel_model.proofs.Absence.{empty_by_length}

pub prefix_self : {A : Type 0} (xs : List A) → IsPrefix xs xs
prefix_self xs = ([], append-nil xs)

pub prefix_more : {A : Type 0} (xs ys : List A) → IsPrefix xs (xs ++ ys)
prefix_more xs ys = (ys, refl)

-- of two beginnings of one list the shorter begins the longer
pub prefix_shorter : {A : Type 0} (xs ys zs : List A) → IsPrefix xs zs → IsPrefix ys zs → length xs ≤ length ys → IsPrefix xs ys
prefix_shorter [] ys zs p q le = (ys, refl)
prefix_shorter (x ∷ xs) [] zs p q le = absurd (omega arith)
prefix_shorter (x ∷ xs) (y ∷ ys) [] p q le = absurd (cc (p.1))
prefix_shorter (x ∷ xs) (y ∷ ys) (z ∷ zs) p q le =
    let heads : x ≡ y = cc (p.1, q.1) in
    let rest = prefix_shorter xs ys zs (p.0, cc (p.1)) (q.0, cc (q.1)) (omega arith) in
    (rest.0, cc (heads, rest.1))

-- a beginning as long as the whole is the whole
pub prefix_whole : {A : Type 0} (xs ys : List A) → IsPrefix xs ys → length ys ≤ length xs → xs ≡ ys
prefix_whole [] [] p le = refl
prefix_whole [] (y ∷ ys) p le = absurd (omega arith)
prefix_whole (x ∷ xs) [] p le = absurd (cc (p.1))
prefix_whole (x ∷ xs) (y ∷ ys) p le =
    let rest = prefix_whole xs ys (p.0, cc (p.1)) (omega arith) in cc (p.1, rest)

pub prefix_length : {A : Type 0} (xs ys : List A) → IsPrefix xs ys → length xs ≤ length ys
prefix_length xs ys p = omega (arith, sym (ap length p.1) ∙ length-append xs p.0)

-- what the longer of two beginnings is to them and to the whole
pub record IsLonger (xs ys zs l : List Event) : Type 0 where
  pub this : IsPrefix xs l
  pub that : IsPrefix ys l
  pub whole : IsPrefix l zs

longer_by : (xs ys zs : List Event) → IsPrefix xs zs → IsPrefix ys zs → (b : Bool) → nat_lt (length xs) (length ys) ≡ b → IsLonger xs ys zs (cond b ys xs)
longer_by xs ys zs p q true is =
    let less : length xs < length ys = grind (arith, nat_tests) in
    record { this = prefix_shorter xs ys zs p q (omega arith); that = prefix_self ys; whole = q }
longer_by xs ys zs p q false is =
    let least : length ys ≤ length xs = grind (arith, nat_tests) in
    record { this = prefix_self xs; that = prefix_shorter ys xs zs q p least; whole = p }

pub longer_is : (xs ys zs : List Event) → IsPrefix xs zs → IsPrefix ys zs → IsLonger xs ys zs (longer xs ys)
longer_is xs ys zs p q = longer_by xs ys zs p q (nat_lt (length xs) (length ys)) refl

-- the events of a pass in a beginning begin those in the whole
pub made_by-prefix : (pass : ℕ) (xs ys : List Event) → IsPrefix xs ys → IsPrefix (made_by pass xs) (made_by pass ys)
made_by-prefix pass xs ys p =
    (made_by pass p.0, sym (filter-append (λ (e : Event). pass_of e == pass) xs p.0) ∙ ap (made_by pass) p.1)

pub made_by-own : (pass : ℕ) (history : List Event) (e : Event) → pass_of e ≡ pass → made_by pass (history ++ e ∷ []) ≡ made_by pass history ++ e ∷ []
made_by-own pass history e own =
    filter-append (λ (x : Event). pass_of x == pass) history (e ∷ [])
    ∙ ap (λ (b : Bool). made_by pass history ++ cond b (e ∷ []) []) (eq-eqb (pass_of e) pass own)

pub made_by-other : (pass : ℕ) (history : List Event) (e : Event) → (pass_of e ≡ pass → ⊥) → made_by pass (history ++ e ∷ []) ≡ made_by pass history
made_by-other pass history e other =
    filter-append (λ (x : Event). pass_of x == pass) history (e ∷ [])
    ∙ ap (λ (b : Bool). made_by pass history ++ cond b (e ∷ []) []) (ne_eqb (pass_of e) pass other)
    ∙ append-nil (made_by pass history)

made_by-longer : (b : Bool) (e : Event) (xs : List Event) (n : ℕ) → length xs ≤ n → length (cond b (e ∷ xs) xs) ≤ suc n
made_by-longer true e xs n h = omega arith
made_by-longer false e xs n h = omega arith

-- a pass made no more events than there are
pub made_by-length : (pass : ℕ) (history : List Event) → length (made_by pass history) ≤ length history
made_by-length pass [] = omega arith
made_by-length pass (e ∷ history) = made_by-longer (pass_of e == pass) e (made_by pass history) (length history) (made_by-length pass history)

-- a history that begins what was seen and goes on to it is what was seen
pub prefix_both : {A : Type 0} (xs ys : List A) → IsPrefix xs ys → IsPrefix ys xs → xs ≡ ys
prefix_both xs ys p q = prefix_whole xs ys p (prefix_length ys xs q)

-- where a pass had nothing outstanding, what it has seen since has no further event of it
pub none_since : (pass : ℕ) (before after asked : List Event) → asked ≡ made_by pass before → IsPrefix before after → LacksAtMostOne (made_by pass after) asked → asked ≡ made_by pass after
none_since pass before after asked all grows lacks =
    sym (prefix_both (made_by pass after) asked lacks.begins (subst (λ (xs : List Event). IsPrefix xs (made_by pass after)) (sym all) (made_by-prefix pass before after grows)))

-- a pass made none of the events after a beginning that has all of its events
none_later : (pass : ℕ) (before later : List Event) → made_by pass (before ++ later) ≡ made_by pass before → made_by pass later ≡ []
none_later pass before later same =
    let all : made_by pass before ++ made_by pass later ≡ made_by pass before = sym (filter-append (λ (e : Event). pass_of e == pass) before later) ∙ same in
    let n : length (made_by pass before) + length (made_by pass later) ≡ length (made_by pass before) = sym (length-append (made_by pass before) (made_by pass later)) ∙ ap length all in
    empty_by_length (made_by pass later) (omega arith)

silent_by : (pass : ℕ) (e : Event) (later : List Event) (b : Bool) → cond b (e ∷ made_by pass later) (made_by pass later) ≡ []
    → (made_by pass later ≡ [] → list_any (λ x. pass_of x == pass) later ≡ false) → (b || list_any (λ x. pass_of x == pass) later) ≡ false
silent_by pass e later true is rest = absurd (cc is)
silent_by pass e later false is rest = rest is

pub silent_where_none : (pass : ℕ) (later : List Event) → made_by pass later ≡ [] → list_any (λ e. pass_of e == pass) later ≡ false
silent_where_none pass [] is = refl
silent_where_none pass (e ∷ later) is = silent_by pass e later (pass_of e == pass) is (silent_where_none pass later)

-- a beginning that has all of a pass's events is a front of the pass
pub front_is : (pass : ℕ) (before after : List Event) → IsPrefix before after → made_by pass after ≡ made_by pass before → IsFrontOf pass before after
front_is pass before after grows same = record {
  later = grows.0;
  whole = sym grows.1;
  silent = silent_where_none pass grows.0 (none_later pass before grows.0 (ap (made_by pass) grows.1 ∙ same));
}
