-- A text is the query of one expression, or it is refused for one cause at one place.
use Rattle.std.proofs.Common.{◌≡◌, ℕ, suc, ◌+◌, ◌≤◌, ◌⊎◌, inl, inr, List, [], ◌∷◌, ◌++◌, length, refl, sym, ap, ap₂, ◌∙◌, subst, append_assoc, arith}
use Rattle.std.proofs.lemmas.List.{append-nil, map-append}
use Rattle.funnel_model.specs.Expressions.{Tree, Trees, some, trees_of}
use Rattle.funnel_model.specs.declared.expr.TheConstants.{MOST_OPEN}
use Rattle.funnel_model.specs.Queries.{Token, Placed, put, Spelled, tokens, kinds, tokens_of, IsExpression, IsFront, AreShallow, IsQuery, IsMisplaced, IsTooDeep, IsMalformed}
use Rattle.funnel_model.specs.Readings.{Reading, start, terms_with_last, Reads, level_at}
use Rattle.funnel_model.proofs.ReadingSound.{IsRead, list_of, trees-list}
use Rattle.funnel_model.proofs.ReadingEnds.{expression-read}
use Rattle.funnel_model.proofs.ReadingOnce.{next-one, same-reads, not_deep}

-- expressions with the same tokens are one
pub one-spelling : (s t : Trees) (xs ys : List Spelled) → IsExpression s xs → IsExpression t ys → tokens_of xs ≡ tokens_of ys → s ≡ t
one-spelling s t xs ys first second same =
    let a : IsRead start xs (list_of s) = expression-read s xs first in
    let b : IsRead start ys (list_of t) = expression-read t ys second in
    let both = same-reads start xs ys (record { inner = a.level; outer = [] }) (record { inner = b.level; outer = [] }) a.reads b.reads same in
    sym (trees-list s) ∙ ap trees_of (sym a.same ∙ ap (λ (r : Reading). terms_with_last r.inner) both.1 ∙ b.same) ∙ trees-list t

pub one-expression : (text : List ℕ) (a b : Tree) → IsQuery text a → IsQuery text b → a ≡ b
one-expression text a b first second =
    first.expression
    ∙ ap some (one-spelling first.terms second.terms first.spelling second.spelling first.spells second.spells (first.same ∙ sym second.same))
    ∙ sym second.expression

-- the kinds of tokens, of which one stands at a place
kinds-split : (before : List Placed) (at : ℕ) (token : Token) (after : List Placed) →
    kinds (before ++ put at token after) ≡ kinds before ++ token ∷ kinds after
kinds-split before at token after = map-append (λ (p : Placed). p.token) before (put at token after)

-- the front of a front is a front
front-shorter : (xs ys : List Token) → IsFront (xs ++ ys) → IsFront xs
front-shorter xs ys front = record {
  terms = front.terms;
  spelling = front.spelling;
  spells = front.spells;
  rest = ys ++ front.rest;
  begins = front.begins ∙ append_assoc xs ys front.rest;
}

-- up to a token that is misplaced nothing is a front
misplaced-no_front : (text : List ℕ) (at : ℕ) (m : IsMisplaced text at) (more : List Token) → IsFront (kinds m.before ++ m.token ∷ more) → ⊥
misplaced-no_front text at m more front =
    m.no_front (front-shorter (kinds m.before ++ m.token ∷ []) more
    (subst IsFront (sym (append_assoc (kinds m.before) (m.token ∷ []) more)) front))

query-front : (text : List ℕ) (expr : Tree) → IsQuery text expr → IsFront (kinds (tokens text))
query-front text expr query = record {
  terms = query.terms;
  spelling = query.spelling;
  spells = query.spells;
  rest = [];
  begins = query.same ∙ sym (append-nil (kinds (tokens text)));
}

misplaced-in_front : (text : List ℕ) (at : ℕ) → IsMisplaced text at → IsFront (kinds (tokens text)) → ⊥
misplaced-in_front text at m front =
    misplaced-no_front text at m (kinds m.after) (subst IsFront (ap kinds m.split ∙ kinds-split m.before at m.token m.after) front)

pub query-formed : (text : List ℕ) (expr : Tree) (at : ℕ) → IsQuery text expr → IsMalformed text at → ⊥
query-formed text expr at query malformed = elim malformed.cause [
  | inl m ↦ misplaced-in_front text at m (query-front text expr query)
  | inr cut ↦ cut.no_expression query.terms query.spelling query.spells query.same
]

-- the tokens of an expression whose front opens a 65th level
deep-tokens : (text : List ℕ) (at : ℕ) (d : IsTooDeep text at) → kinds (tokens text) ≡ tokens_of d.front ++ d.opening.token ∷ kinds d.after
deep-tokens text at d =
    ap kinds d.split ∙ kinds-split d.before at d.token d.after
    ∙ ap₂ (λ (before : List Token) (token : Token). before ++ token ∷ kinds d.after) (sym d.same) (sym d.opens)

pub query-shallow : (text : List ℕ) (expr : Tree) (at : ℕ) → IsQuery text expr → IsTooDeep text at → ⊥
query-shallow text expr at query d =
    let a : IsRead start query.spelling (list_of query.terms) = expression-read query.terms query.spelling query.spells in
    let b : IsRead start (d.front ++ d.opening ∷ d.rest) (list_of d.terms) = expression-read d.terms (d.front ++ d.opening ∷ d.rest) d.spells in
    not_deep start query.spelling d.front (record { inner = a.level; outer = [] }) (record { inner = b.level; outer = [] }) d.opening d.rest [] (kinds d.after)
    a.reads query.shallow tt b.reads d.deep (append-nil (tokens_of query.spelling) ∙ query.same ∙ deep-tokens text at d)

-- the first token that opens a 65th level stands at one place
one-depth : (r : Reading) (xs ys : List Spelled) (a b : Reading) (x y : Spelled) (us vs : List Spelled) (more further : List Token) →
    Reads r (xs ++ x ∷ us) a → Reads r (ys ++ y ∷ vs) b → AreShallow xs → AreShallow ys → x.level ≡ MOST_OPEN + 1 → y.level ≡ MOST_OPEN + 1 →
    tokens_of xs ++ x.token ∷ more ≡ tokens_of ys ++ y.token ∷ further → length xs ≡ length ys
one-depth r [] [] a b x y us vs more further first second low low_too deep deep_too same = refl
one-depth r [] (z ∷ ys) a b x y us vs more further first second low low_too deep deep_too same =
    let heads : x.token ≡ z.token = cc in
    let levels : x.level ≡ z.level = first.0 ∙ ap (level_at r) heads ∙ sym second.0 in
    let small : z.level ≤ MOST_OPEN = low_too.0 in
    absurd (omega (arith, levels, small, deep))
one-depth r (w ∷ xs) [] a b x y us vs more further first second low low_too deep deep_too same =
    let heads : w.token ≡ y.token = cc in
    let levels : w.level ≡ y.level = first.0 ∙ ap (level_at r) heads ∙ sym second.0 in
    let small : w.level ≤ MOST_OPEN = low.0 in
    absurd (omega (arith, levels, small, deep_too))
one-depth r (w ∷ xs) (z ∷ ys) a b x y us vs more further first second low low_too deep deep_too same =
    let heads : w.token ≡ z.token = cc in
    let tails : tokens_of xs ++ x.token ∷ more ≡ tokens_of ys ++ y.token ∷ further = cc in
    let nexts : first.1 ≡ second.1 = next-one r w.token z.token first.1 second.1 heads first.2 second.2 in
    ap suc (one-depth second.1 xs ys a b x y us vs more further
    (subst (λ (n : Reading). Reads n (xs ++ x ∷ us) a) nexts first.3) second.3 low.1 low_too.1 deep deep_too tails)

-- of two splits of a list one goes on from the other, or they are at the same place
splits : (xs ys us vs : List Placed) (x y : Placed) → xs ++ x ∷ us ≡ ys ++ y ∷ vs →
    ((length xs ≡ length ys) × (x ≡ y)) ⊎ (((zs : List Placed) × (ys ≡ xs ++ x ∷ zs)) ⊎ ((zs : List Placed) × (xs ≡ ys ++ y ∷ zs)))
splits [] [] us vs x y same = inl (refl, cc)
splits [] (z ∷ ys) us vs x y same = inr (inl (ys, cc))
splits (w ∷ xs) [] us vs x y same = inr (inr (xs, cc))
splits (w ∷ xs) (z ∷ ys) us vs x y same =
    let heads : w ≡ z = cc in
    let tails : xs ++ x ∷ us ≡ ys ++ y ∷ vs = cc in
    elim (splits xs ys us vs x y tails) [
      | inl here ↦ inl (ap suc here.0, here.1)
      | inr more ↦ elim more [
        | inl longer ↦ inr (inl (longer.0, ap₂ (λ (h : Placed) (t : List Placed). h ∷ t) (sym heads) longer.1))
        | inr shorter ↦ inr (inr (shorter.0, ap₂ (λ (h : Placed) (t : List Placed). h ∷ t) heads shorter.1))
      ]
    ]

length-kinds : (xs : List Placed) → length (kinds xs) ≡ length xs
length-kinds [] = refl
length-kinds (x ∷ xs) = ap suc (length-kinds xs)

length-tokens : (xs : List Spelled) → length (tokens_of xs) ≡ length xs
length-tokens [] = refl
length-tokens (x ∷ xs) = ap suc (length-tokens xs)

-- splits at the same place are one
same-place : (xs ys us vs : List Placed) (x y : Placed) → length xs ≡ length ys → xs ++ x ∷ us ≡ ys ++ y ∷ vs → x ≡ y
same-place [] [] us vs x y lengths same = cc
same-place [] (z ∷ ys) us vs x y lengths same = absurd (omega (arith, lengths))
same-place (w ∷ xs) [] us vs x y lengths same = absurd (omega (arith, lengths))
same-place (w ∷ xs) (z ∷ ys) us vs x y lengths same = same-place xs ys us vs x y (omega (arith, lengths)) cc

pub one-deep : (text : List ℕ) (a b : ℕ) → IsTooDeep text a → IsTooDeep text b → a ≡ b
one-deep text a b d e =
    let first : IsRead start (d.front ++ d.opening ∷ d.rest) (list_of d.terms) = expression-read d.terms (d.front ++ d.opening ∷ d.rest) d.spells in
    let second : IsRead start (e.front ++ e.opening ∷ e.rest) (list_of e.terms) = expression-read e.terms (e.front ++ e.opening ∷ e.rest) e.spells in
    let lengths : length d.front ≡ length e.front =
    one-depth start d.front e.front (record { inner = first.level; outer = [] }) (record { inner = second.level; outer = [] }) d.opening e.opening d.rest e.rest
    (kinds d.after) (kinds e.after) first.reads second.reads d.shallow e.shallow d.deep e.deep (sym (deep-tokens text a d) ∙ deep-tokens text b e) in
    let places : length d.before ≡ length e.before =
    sym (length-kinds d.before) ∙ ap length (sym d.same) ∙ length-tokens d.front ∙ lengths ∙ sym (length-tokens e.front) ∙ ap length e.same ∙ length-kinds e.before in
    ap (λ (p : Placed). p.at) (same-place d.before e.before d.after e.after (record { at = a; token = d.token }) (record { at = b; token = e.token })
    places (sym d.split ∙ e.split))

one-misplaced : (text : List ℕ) (a b : ℕ) → IsMisplaced text a → IsMisplaced text b → a ≡ b
one-misplaced text a b m n =
    elim (splits m.before n.before m.after n.after (record { at = a; token = m.token }) (record { at = b; token = n.token }) (sym m.split ∙ n.split)) [
      | inl here ↦ ap (λ (p : Placed). p.at) here.1
      | inr more ↦ elim more [
        | inl longer ↦ absurd (misplaced-no_front text a m (kinds longer.0)
            (subst IsFront (ap kinds longer.1 ∙ kinds-split m.before a m.token longer.0) n.front))
        | inr shorter ↦ absurd (misplaced-no_front text b n (kinds shorter.0)
            (subst IsFront (ap kinds shorter.1 ∙ kinds-split n.before b n.token shorter.0) m.front))
      ]
    ]

pub one-malformed : (text : List ℕ) (a b : ℕ) → IsMalformed text a → IsMalformed text b → a ≡ b
one-malformed text a b first second = elim first.cause [
  | inl m ↦ elim second.cause [
    | inl n ↦ one-misplaced text a b m n
    | inr cut ↦ absurd (misplaced-in_front text a m cut.front)
  ]
  | inr cut ↦ elim second.cause [
    | inl n ↦ absurd (misplaced-in_front text b n cut.front)
    | inr other ↦ cut.end ∙ sym other.end
  ]
]
