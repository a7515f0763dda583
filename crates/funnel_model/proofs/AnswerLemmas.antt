-- What a list has, and what an answer has.
use Rattle.std.proofs.Common.{◌≡◌, ◌≢◌, ℕ, zero, suc, ⊎_elim, Bool, true, false, cond, List, [], ◌∷◌, map, filter, get_or, sym, refl, ap, ◌∙◌, subst, arith, Contains}
use Rattle.std.proofs.lemmas.List.{get_or-map, length-map}
use Rattle.std.proofs.lemmas.List.Elements.{All-contains, All-contains_itself, All-filter, filter_passes}
use Rattle.std.proofs.lemmas.List.Folds.{list_any_at}
use Rattle.std.proofs.lemmas.List.Kept.{AllPairs-filter}
use Rattle.std.proofs.lemmas.Bool.{or_cases}
use Rattle.std.specs.List.{AllPairs, list_any}
use Rattle.funnel_model.specs.declared.event.Event.{Event}
use Rattle.funnel_model.specs.History.{Document, answer, live}
use Rattle.funnel_model.specs.Legal.{Limits, IsLegal}
use Rattle.funnel_model.specs.Words.{meets}
use Rattle.funnel_model.proofs.LiveLemmas.{live_once}

pub Contains-cons : {A : Type 0} (y : A) (xs : List A) (x : A) → Contains xs x → Contains (y ∷ xs) x
Contains-cons y xs x c = (suc c.0, omega (arith, c.1), c.2)

-- the first element of a list is contained in it
pub contains_first : {A : Type 0} (x : A) (xs : List A) → Contains (x ∷ xs) x
contains_first x xs = (0, omega arith, refl)

-- some element passes where one that is contained does
pub any_contained : {A : Type 0} (test : A → Bool) (xs : List A) (x : A) → Contains xs x → test x ≡ true → list_any test xs ≡ true
any_contained test xs x contained passes = list_any_at test xs contained.0 x contained.1 (ap test contained.2 ∙ passes)

-- and only there
pub contained_any : {A : Type 0} (test : A → Bool) (xs : List A) → list_any test xs ≡ true → (x : A) × Contains xs x × (test x ≡ true)
contained_any test [] some = cc
contained_any test (x ∷ xs) some =
    ⊎_elim
    (λ here. (x, contains_first x xs, here))
    (λ later. let found = contained_any test xs later in (found.0, Contains-cons x xs found.0 found.1, found.2))
    (or_cases (test x) (list_any test xs) some)

contains_if : {A : Type 0} (y : A) (xs : List A) (x : A) (b : Bool) → Contains xs x → Contains (cond b (y ∷ xs) xs) x
contains_if y xs x true c = Contains-cons y xs x c
contains_if y xs x false c = c

-- a filter keeps the elements that pass
pub Contains-filter : {A : Type 0} (p : A → Bool) (xs : List A) (x : A) → Contains xs x → p x ≡ true → Contains (filter p xs) x
Contains-filter p [] x (k, in', is) passes = absurd (omega arith)
Contains-filter p (y ∷ ys) x (zero, in', is) passes =
    subst (λ b. Contains (cond b (y ∷ filter p ys) (filter p ys)) x) (sym (ap p is ∙ passes)) (zero, omega arith, is)
Contains-filter p (y ∷ ys) x (suc k, in', is) passes =
    contains_if y (filter p ys) x (p y) (Contains-filter p ys x (k, omega arith, is) passes)

-- what a filter keeps was in the list, and passes
pub Contains-filtered : {A : Type 0} (p : A → Bool) (xs : List A) (x : A) → Contains (filter p xs) x → Contains xs x × (p x ≡ true)
Contains-filtered p xs x contained = (
  All-contains (Contains xs) (filter p xs) x (All-filter p (Contains xs) xs (All-contains_itself xs)) contained,
  All-contains (λ y. p y ≡ true) (filter p xs) x (filter_passes p xs) contained,
)

pub Contains-map : {A B : Type 0} (f : A → B) (xs : List A) (x : A) → Contains xs x → Contains (map f xs) (f x)
Contains-map f xs x c = (c.0, omega (arith, length-map xs f, c.1), get_or-map f xs c.0 x (f x) c.1 ∙ ap f c.2)

-- an element of the list that passes and whose image is y
abbrev pub IsKept : {A B : Type 0} → (A → B) → (A → Bool) → List A → B → Type 0
IsKept {A} f p xs y = (x : A) × Contains xs x × (f x ≡ y) × (p x ≡ true)

kept-cons : {A B : Type 0} (f : A → B) (p : A → Bool) (z : A) (zs : List A) (y : B) → IsKept f p zs y → IsKept f p (z ∷ zs) y
kept-cons f p z zs y r = (r.0, Contains-cons z zs r.0 r.1, r.2, r.3)

kept_head : {A B : Type 0} (f : A → B) (p : A → Bool) (z : A) (zs : List A) (y : B) → (Contains (map f (filter p zs)) y → IsKept f p zs y) →
    p z ≡ true → Contains (f z ∷ map f (filter p zs)) y → IsKept f p (z ∷ zs) y
kept_head f p z zs y rest passes (zero, in', is) = (z, (zero, omega arith, refl), is, passes)
kept_head f p z zs y rest passes (suc k, in', is) = kept-cons f p z zs y (rest (k, omega arith, is))

kept_step : {A B : Type 0} (f : A → B) (p : A → Bool) (z : A) (zs : List A) (y : B) → (Contains (map f (filter p zs)) y → IsKept f p zs y) →
    (b : Bool) → p z ≡ b → Contains (map f (cond b (z ∷ filter p zs) (filter p zs))) y → IsKept f p (z ∷ zs) y
kept_step f p z zs y rest true passes c = kept_head f p z zs y rest passes c
kept_step f p z zs y rest false fails c = kept-cons f p z zs y (rest c)

-- what a filtered list has was in the list and passes
pub kept_by_filter : {A B : Type 0} (f : A → B) (p : A → Bool) (xs : List A) (y : B) → Contains (map f (filter p xs)) y → IsKept f p xs y
kept_by_filter f p [] y (k, in', is) = absurd (omega arith)
kept_by_filter f p (z ∷ zs) y c = kept_step f p z zs y (kept_by_filter f p zs y) (p z) refl c

-- a relation of the images of each two elements
pub AllPairs-map : {A B : Type 0} (R : B → B → Type 0) (f : A → B) (xs : List A) → AllPairs (λ x y. R (f x) (f y)) xs → AllPairs R (map f xs)
AllPairs-map R f [] pairs = λ i j d lt in'. absurd (omega arith)
AllPairs-map R f (z ∷ zs) pairs = λ i j d lt in'.
    let length' = length-map (z ∷ zs) f in
    let at_i = get_or-map f (z ∷ zs) i z d (omega arith) in
    let at_j = get_or-map f (z ∷ zs) j z d (omega arith) in
    subst (λ x. R x (get_or (map f (z ∷ zs)) j d)) (sym at_i) (subst (λ y. R (f (get_or (z ∷ zs) i z)) y) (sym at_j) (pairs i j z lt (omega arith)))

pub answer_once : (limits : Limits) (history : List Event) (query : List ℕ) → IsLegal limits history → AllPairs (λ i j. i ≢ j) (answer history query)
answer_once limits history query legal =
    AllPairs-map (λ i j. i ≢ j) (λ (d : Document). d.id) (filter (λ d. meets d.text query) (live history))
    (AllPairs-filter (λ (d e : Document). d.id ≢ e.id) (λ d. meets d.text query) (live history) (live_once history))
