-- What a reading of tokens stands for, and that there is one reading of the same tokens.
use Rattle.std.proofs.Common.{◌≡◌, ℕ, zero, suc, ◌+◌, List, [], ◌∷◌, ◌++◌, refl, sym, ap, ap₂, ◌∙◌, append_assoc, add-one, arith}
use Rattle.std.proofs.lemmas.List.{append-nil}
use Rattle.funnel_model.specs.Expressions.{Tree, atom, every, some, contrary, trees_of}
use Rattle.funnel_model.specs.Queries.{Token, bar, left, right, minus, word, Spelled, spelled, in_order, parted, behind_bars}
use Rattle.funnel_model.specs.Readings.{Level, Reading, signed, with_factor, terms_with_last, IsComplete, Closes, Takes, opened_around, opened, level_at}

-- a token at a level
abbrev pub spell : Token → ℕ → Spelled
spell token level = record { token = token; level = level }

-- so many minus signs, where so many levels are open before them
abbrev pub minus_signs : ℕ → ℕ → List Spelled
minus_signs level zero = []
minus_signs level (suc n) = minus_signs level n ++ spell minus (level + suc n) ∷ []

-- terms with a bar behind each
abbrev pub before_bars : ℕ → List Tree → List Spelled
before_bars level [] = []
before_bars level (t ∷ ts) = spelled level t ++ spell bar level ∷ before_bars level ts

-- the tokens of a level, where so many levels are open around its own
abbrev pub level_spelling : ℕ → Level → List Spelled
level_spelling n level = before_bars n level.terms ++ (in_order n (trees_of level.factors) ++ minus_signs n level.minuses)

abbrev pub outer_spelling : List Level → List Spelled
outer_spelling [] = []
outer_spelling (level ∷ outer) =
    outer_spelling outer ++ (level_spelling (opened_around outer) level ++ spell left (opened_around outer + level.minuses + 1) ∷ [])

-- the tokens that were read
abbrev pub spelling_of : Reading → List Spelled
spelling_of reading = outer_spelling reading.outer ++ level_spelling (opened_around reading.outer) reading.inner

-- a term's factors with one more
pub in_order-push : (n : ℕ) (fs : List Tree) (f : Tree) → in_order n (trees_of (fs ++ f ∷ [])) ≡ in_order n (trees_of fs) ++ spelled n f
in_order-push n [] f = append-nil (spelled n f)
in_order-push n (x ∷ fs) f =
    ap (λ (more : List Spelled). spelled n x ++ more) (in_order-push n fs f)
    ∙ sym (append_assoc (spelled n x) (in_order n (trees_of fs)) (spelled n f))

-- terms with bars, with one more
pub before_bars-push : (n : ℕ) (ts : List Tree) (t : Tree) → before_bars n (ts ++ t ∷ []) ≡ before_bars n ts ++ (spelled n t ++ spell bar n ∷ [])
before_bars-push n [] t = refl
before_bars-push n (x ∷ ts) t =
    ap (λ (more : List Spelled). spelled n x ++ spell bar n ∷ more) (before_bars-push n ts t)
    ∙ sym (append_assoc (spelled n x) (spell bar n ∷ before_bars n ts) (spelled n t ++ spell bar n ∷ []))

-- terms behind bars are a bar and terms parted by bars
behind_bars-some : (n : ℕ) (ts : List Tree) (t : Tree) → behind_bars n (trees_of (ts ++ t ∷ [])) ≡ spell bar n ∷ parted n (trees_of (ts ++ t ∷ []))
behind_bars-some n [] t = refl
behind_bars-some n (x ∷ ts) t = refl

-- terms that are parted by bars have a bar behind each but the last
pub parted-push : (n : ℕ) (ts : List Tree) (t : Tree) → parted n (trees_of (ts ++ t ∷ [])) ≡ before_bars n ts ++ spelled n t
parted-push n [] t = append-nil (spelled n t)
parted-push n (x ∷ ts) t =
    ap (λ (more : List Spelled). spelled n x ++ more) (behind_bars-some n ts t)
    ∙ ap (λ (more : List Spelled). spelled n x ++ spell bar n ∷ more) (parted-push n ts t)
    ∙ sym (append_assoc (spelled n x) (spell bar n ∷ before_bars n ts) (spelled n t))

-- a factor behind minus signs
pub spelled-signed : (n m : ℕ) (f : Tree) → spelled n (signed m f) ≡ minus_signs n m ++ spelled (n + m) f
spelled-signed n zero f = ap (λ (k : ℕ). spelled k f) (omega arith)
spelled-signed n (suc m) f =
    spelled-signed n m (contrary f)
    ∙ ap (λ (k : ℕ). minus_signs n m ++ spell minus k ∷ spelled k f) (omega arith)
    ∙ sym (append_assoc (minus_signs n m) (spell minus (n + suc m) ∷ []) (spelled (n + suc m) f))

-- a level with a factor more
pub level-with_factor : (n : ℕ) (level : Level) (f : Tree) → level_spelling n (with_factor level f) ≡ level_spelling n level ++ spelled (n + level.minuses) f
level-with_factor n level f =
    let b = before_bars n level.terms in
    let i = in_order n (trees_of level.factors) in
    let m = minus_signs n level.minuses in
    let s = spelled (n + level.minuses) f in
    ap (λ (more : List Spelled). b ++ more) (append-nil (in_order n (trees_of (level.factors ++ signed level.minuses f ∷ [])))
    ∙ in_order-push n level.factors (signed level.minuses f)
    ∙ ap (λ (more : List Spelled). i ++ more) (spelled-signed n level.minuses f)
    ∙ sym (append_assoc i m s))
    ∙ sym (append_assoc b (i ++ m) s)

-- a level with a minus sign more
pub level-with_minus : (n : ℕ) (level : Level) →
    level_spelling n (record { terms = level.terms; factors = level.factors; minuses = level.minuses + 1 }) ≡ level_spelling n level ++ spell minus (n + level.minuses + 1) ∷ []
level-with_minus n level =
    let b = before_bars n level.terms in
    let i = in_order n (trees_of level.factors) in
    let m = minus_signs n level.minuses in
    let more_signs : minus_signs n (level.minuses + 1) ≡ m ++ spell minus (n + level.minuses + 1) ∷ [] =
    ap (minus_signs n) (add-one level.minuses) ∙ ap (λ (k : ℕ). m ++ spell minus k ∷ []) (omega arith) in
    ap (λ (more : List Spelled). b ++ (i ++ more)) more_signs
    ∙ ap (λ (more : List Spelled). b ++ more) (sym (append_assoc i m (spell minus (n + level.minuses + 1) ∷ [])))
    ∙ sym (append_assoc b (i ++ m) (spell minus (n + level.minuses + 1) ∷ []))

-- a complete level has no minus sign at its end
level-complete : (n : ℕ) (level : Level) → IsComplete level → level_spelling n level ≡ before_bars n level.terms ++ in_order n (trees_of level.factors)
level-complete n level complete =
    ap (λ (k : ℕ). before_bars n level.terms ++ (in_order n (trees_of level.factors) ++ minus_signs n k)) complete.unsigned
    ∙ ap (λ (more : List Spelled). before_bars n level.terms ++ more) (append-nil (in_order n (trees_of level.factors)))

-- a level whose term is complete, and a bar
pub level-with_term : (n : ℕ) (level : Level) → IsComplete level →
    level_spelling n (record { terms = terms_with_last level; factors = []; minuses = 0 }) ≡ level_spelling n level ++ spell bar (n + level.minuses) ∷ []
level-with_term n level complete =
    let b = before_bars n level.terms in
    let i = in_order n (trees_of level.factors) in
    append-nil (before_bars n (terms_with_last level))
    ∙ before_bars-push n level.terms (every (trees_of level.factors))
    ∙ sym (append_assoc b i (spell bar n ∷ []))
    ∙ ap₂ (λ (before : List Spelled) (k : ℕ). before ++ spell bar k ∷ []) (sym (level-complete n level complete)) (omega (arith, complete.unsigned))

-- the terms of a complete level are its tokens
pub level-parted : (n : ℕ) (level : Level) → IsComplete level → parted n (trees_of (terms_with_last level)) ≡ level_spelling n level
level-parted n level complete = parted-push n level.terms (every (trees_of level.factors)) ∙ sym (level-complete n level complete)

-- a token that is taken stands behind those that were read
pub takes-spelled : (before : Reading) (token : Token) (after : Reading) → Takes before token after →
    spelling_of after ≡ spelling_of before ++ spell token (level_at before token) ∷ []
takes-spelled before (word bytes) after takes =
    ap spelling_of takes
    ∙ ap (λ (more : List Spelled). outer_spelling before.outer ++ more) (level-with_factor (opened_around before.outer) before.inner (atom bytes))
    ∙ sym (append_assoc (outer_spelling before.outer) (level_spelling (opened_around before.outer) before.inner) (spell (word bytes) (opened before) ∷ []))
takes-spelled before minus after takes =
    ap spelling_of takes
    ∙ ap (λ (more : List Spelled). outer_spelling before.outer ++ more) (level-with_minus (opened_around before.outer) before.inner)
    ∙ sym (append_assoc (outer_spelling before.outer) (level_spelling (opened_around before.outer) before.inner) (spell minus (opened before + 1) ∷ []))
takes-spelled before left after takes =
    ap spelling_of takes
    ∙ append-nil (outer_spelling (before.inner ∷ before.outer))
    ∙ sym (append_assoc (outer_spelling before.outer) (level_spelling (opened_around before.outer) before.inner) (spell left (opened before + 1) ∷ []))
takes-spelled before bar after takes =
    ap spelling_of takes.1
    ∙ ap (λ (more : List Spelled). outer_spelling before.outer ++ more) (level-with_term (opened_around before.outer) before.inner takes.0)
    ∙ sym (append_assoc (outer_spelling before.outer) (level_spelling (opened_around before.outer) before.inner) (spell bar (opened before) ∷ []))
takes-spelled before right after takes = closes-spelled before.inner before.outer after takes.0 takes.1
  where
    closes-spelled : (inner : Level) (outer : List Level) (closed : Reading) → IsComplete inner → Closes inner outer closed →
        spelling_of closed ≡ spelling_of (record { inner = inner; outer = outer }) ++ spell right (opened_around outer + inner.minuses) ∷ []
    closes-spelled inner [] closed complete closes = absurd closes
    closes-spelled inner (level ∷ outer) closed complete closes =
        let n = opened_around outer in
        let k = n + level.minuses in
        let o = outer_spelling outer in
        let l = level_spelling n level in
        let p = level_spelling (k + 1) inner in
        let r = spell right (k + 1) ∷ [] in
        ap spelling_of closes
        ∙ ap (λ (more : List Spelled). o ++ more) (level-with_factor n level (some (trees_of (terms_with_last inner))))
        ∙ ap (λ (more : List Spelled). o ++ (l ++ spell left (k + 1) ∷ (more ++ r))) (level-parted (k + 1) inner complete)
        ∙ ap (λ (more : List Spelled). o ++ more) (sym (append_assoc l (spell left (k + 1) ∷ []) (p ++ r)))
        ∙ sym (append_assoc o (l ++ spell left (k + 1) ∷ []) (p ++ r))
        ∙ sym (append_assoc (o ++ (l ++ spell left (k + 1) ∷ [])) p r)
        ∙ ap (λ (m : ℕ). ((o ++ (l ++ spell left (k + 1) ∷ [])) ++ p) ++ spell right m ∷ []) (omega (arith, complete.unsigned))
