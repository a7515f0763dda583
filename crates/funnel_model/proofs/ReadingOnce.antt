-- There is one reading of the same tokens, and what can't be read begins no expression.
use Rattle.std.proofs.Common.{◌≡◌, ℕ, ◌+◌, ◌≤◌, List, [], ◌∷◌, ◌++◌, refl, sym, ap, ap₂, ◌∙◌, subst, append_assoc, arith}
use Rattle.funnel_model.specs.Expressions.{Trees, trees_of}
use Rattle.funnel_model.specs.declared.expr.TheConstants.{MOST_OPEN}
use Rattle.funnel_model.specs.Queries.{Token, bar, left, right, minus, word, Spelled, IsExpression, IsFront, AreShallow, tokens_of}
use Rattle.funnel_model.specs.Readings.{Level, Reading, start, terms_with_last, IsComplete, Closes, Takes, level_at, Reads}
use Rattle.funnel_model.proofs.ReadingSound.{list_of, trees-list, IsRead}
use Rattle.funnel_model.proofs.ReadingEnds.{expression-read}

closes-one : (inner : Level) (outer : List Level) (a b : Reading) → Closes inner outer a → Closes inner outer b → a ≡ b
closes-one inner [] a b first second = absurd first
closes-one inner (level ∷ outer) a b first second = first ∙ sym second

takes-one : (r : Reading) (token : Token) (a b : Reading) → Takes r token a → Takes r token b → a ≡ b
takes-one r (word bytes) a b first second = first ∙ sym second
takes-one r minus a b first second = first ∙ sym second
takes-one r left a b first second = first ∙ sym second
takes-one r bar a b first second = first.1 ∙ sym second.1
takes-one r right a b first second = closes-one r.inner r.outer a b first.1 second.1

-- a reading that begins with the same token goes on from the same place
pub next-one : (r : Reading) (s t : Token) (a b : Reading) → s ≡ t → Takes r s a → Takes r t b → a ≡ b
next-one r s t a b same first second = takes-one r t a b (subst (λ (x : Token). Takes r x a) same first) second

-- the same tokens are read in one way
pub same-reads : (r : Reading) (xs ys : List Spelled) (a b : Reading) → Reads r xs a → Reads r ys b → tokens_of xs ≡ tokens_of ys → (xs ≡ ys) × (a ≡ b)
same-reads r [] [] a b first second same = (refl, sym first ∙ second)
same-reads r [] (y ∷ ys) a b first second same = absurd (cc)
same-reads r (x ∷ xs) [] a b first second same = absurd (cc)
same-reads r (x ∷ xs) (y ∷ ys) a b first second same =
    let heads : x.token ≡ y.token = cc in
    let tails : tokens_of xs ≡ tokens_of ys = cc in
    let nexts : first.1 ≡ second.1 = next-one r x.token y.token first.1 second.1 heads first.2 second.2 in
    let rest = same-reads second.1 xs ys a b (subst (λ (n : Reading). Reads n xs a) nexts first.3) second.3 tails in
    let levels : x.level ≡ y.level = first.0 ∙ ap (level_at r) heads ∙ sym second.0 in
    (ap₂ (λ (h : Spelled) (zs : List Spelled). h ∷ zs) (ap₂ (λ (t : Token) (n : ℕ). record { token = t; level = n }) heads levels) rest.0, rest.1)

-- where a reading goes on with a token, the token can come next
pub next-taken : (r : Reading) (xs zs : List Spelled) (a b : Reading) (token : Token) (rest : List Token) → Reads r xs a → Reads r zs b →
    tokens_of zs ≡ tokens_of xs ++ token ∷ rest → (after : Reading) × Takes a token after
next-taken r [] [] a b token rest first second same = absurd (cc)
next-taken r [] (z ∷ zs) a b token rest first second same =
    let heads : z.token ≡ token = cc in
    (second.1, subst (λ (from : Reading). Takes from token second.1) first (subst (λ (t : Token). Takes r t second.1) heads second.2))
next-taken r (x ∷ xs) [] a b token rest first second same = absurd (cc)
next-taken r (x ∷ xs) (z ∷ zs) a b token rest first second same =
    let heads : z.token ≡ x.token = cc in
    let tails : tokens_of zs ≡ tokens_of xs ++ token ∷ rest = cc in
    let nexts : second.1 ≡ first.1 = next-one r z.token x.token second.1 first.1 heads second.2 first.2 in
    next-taken first.1 xs zs a b token rest first.3 (subst (λ (n : Reading). Reads n zs b) nexts second.3) tails

-- a token that can't come next begins no expression's tokens with those before it
pub no_front : (ss : List Spelled) (r : Reading) (token : Token) → Reads start ss r → ((after : Reading) → Takes r token after → ⊥) →
    IsFront (tokens_of ss ++ token ∷ []) → ⊥
no_front ss r token reads refused front =
    let read : IsRead start front.spelling (list_of front.terms) = expression-read front.terms front.spelling front.spells in
    let taken = next-taken start ss front.spelling r (record { inner = read.level; outer = [] }) token front.rest reads read.reads
    (front.begins ∙ append_assoc (tokens_of ss) (token ∷ []) front.rest) in
    refused taken.0 taken.1

-- tokens that were read are an expression's where that leaves no level open, and a factor was just completed
pub read-whole : (ss : List Spelled) (r : Reading) → Reads start ss r → (terms : Trees) (spelling : List Spelled) → IsExpression terms spelling →
    tokens_of spelling ≡ tokens_of ss → (level : Level) × IsComplete level × (r ≡ record { inner = level; outer = [] }) × (trees_of (terms_with_last level) ≡ terms) × (spelling ≡ ss)
read-whole ss r reads terms spelling is same =
    let read : IsRead start spelling (list_of terms) = expression-read terms spelling is in
    let both = same-reads start spelling ss (record { inner = read.level; outer = [] }) r read.reads reads same in
    (read.level, read.complete, sym both.1, ap trees_of read.same ∙ trees-list terms, both.0)

-- none of these tokens can come next
abbrev pub IsStuck : Reading → List Token → Type 0
IsStuck r [] = Unit {0}
IsStuck r (token ∷ rest) = (after : Reading) → Takes r token after → ⊥

-- where reading is stuck, and at most 64 levels were open at each token, no token before opened a 65th
pub not_deep : (r : Reading) (xs ys : List Spelled) (a b : Reading) (opening : Spelled) (rest : List Spelled) (tail more : List Token) →
    Reads r xs a → AreShallow xs → IsStuck a tail → Reads r (ys ++ opening ∷ rest) b → opening.level ≡ MOST_OPEN + 1 →
    tokens_of xs ++ tail ≡ tokens_of ys ++ opening.token ∷ more → ⊥
not_deep r [] [] a b opening rest [] more first shallow stuck second deep same = cc
not_deep r [] [] a b opening rest (t ∷ tail) more first shallow stuck second deep same =
    let heads : opening.token ≡ t = cc in
    stuck second.1 (subst (λ (from : Reading). Takes from t second.1) first (subst (λ (x : Token). Takes r x second.1) heads second.2))
not_deep r [] (y ∷ ys) a b opening rest [] more first shallow stuck second deep same = cc
not_deep r [] (y ∷ ys) a b opening rest (t ∷ tail) more first shallow stuck second deep same =
    let heads : y.token ≡ t = cc in
    stuck second.1 (subst (λ (from : Reading). Takes from t second.1) first (subst (λ (x : Token). Takes r x second.1) heads second.2))
not_deep r (x ∷ xs) [] a b opening rest tail more first shallow stuck second deep same =
    let heads : x.token ≡ opening.token = cc in
    let levels : x.level ≡ opening.level = first.0 ∙ ap (level_at r) heads ∙ sym second.0 in
    let low : x.level ≤ MOST_OPEN = shallow.0 in
    omega (arith, levels, low, deep)
not_deep r (x ∷ xs) (y ∷ ys) a b opening rest tail more first shallow stuck second deep same =
    let heads : y.token ≡ x.token = cc in
    let tails : tokens_of xs ++ tail ≡ tokens_of ys ++ opening.token ∷ more = cc in
    let nexts : second.1 ≡ first.1 = next-one r y.token x.token second.1 first.1 heads second.2 first.2 in
    not_deep first.1 xs ys a b opening rest tail more first.3 shallow.1 stuck (subst (λ (n : Reading). Reads n (ys ++ opening ∷ rest) b) nexts second.3) deep tails
