-- The tokens of the bytes from a place on, by the first of these.
use Rattle.std.proofs.Common.{◌≡◌, ℕ, zero, suc, ◌+◌, ◌-◌, ◌<◌, ◌≤◌, ◌||◌, Bool, true, false, not, cond, List, [], ◌∷◌, length, take, drop, get_or, refl, sym, ap, ap₂, ◌∙◌, add-one, arith}
use Rattle.std.specs.Prelude.{◌==◌, if◌then◌else◌}
use Rattle.std.specs.Str.{IsCharBoundary}
use Rattle.std.proofs.Math.Seq.{drop-cons}
use Rattle.std.proofs.lemmas.Bool.{eqb-true, ne_eqb, not-false}
use Rattle.std.proofs.lemmas.List.{drop_all, drop-drop, get_or-drop, length-drop, length-take-le}
use Rattle.std.specs.List.{prefix_len}
use Rattle.std.proofs.lemmas.List.Sums.{prefix_len-le-length, prefix_len_stops, take_while-cons}
use Rattle.funnel_model.specs.Queries.{Placed, bar, left, right, minus, word, put, ends_atom, atom_bytes, tokens_from}

pub tokens-none : (within : Bool) (at : ℕ) → tokens_from within at [] ≡ []
unfolding tokens_from
tokens-none within at = refl

pub tokens-space : (within : Bool) (at : ℕ) (rest : List ℕ) → tokens_from within at (32 ∷ rest) ≡ tokens_from false (at + 1) rest
unfolding tokens_from
tokens-space within at rest = refl

pub tokens-bar : (within : Bool) (at : ℕ) (rest : List ℕ) → tokens_from within at (124 ∷ rest) ≡ put at bar (tokens_from false (at + 1) rest)
unfolding tokens_from
tokens-bar within at rest = refl

pub tokens-left : (within : Bool) (at : ℕ) (rest : List ℕ) → tokens_from within at (40 ∷ rest) ≡ put at left (tokens_from false (at + 1) rest)
unfolding tokens_from
tokens-left within at rest = refl

pub tokens-right : (within : Bool) (at : ℕ) (rest : List ℕ) → tokens_from within at (41 ∷ rest) ≡ put at right (tokens_from false (at + 1) rest)
unfolding tokens_from
tokens-right within at rest = refl

pub tokens-minus : (at : ℕ) (rest : List ℕ) → tokens_from false at (45 ∷ rest) ≡ put at minus (tokens_from false (at + 1) rest)
unfolding tokens_from
tokens-minus at rest = refl

-- a byte of an atom is none of the four that end it
four : (a b c d : Bool) → (a || b || c || d) ≡ false → (a ≡ false) × (b ≡ false) × (c ≡ false) × (d ≡ false)
four false false false false inside = (refl, refl, refl, refl)
four false false false true inside = cc
four false false true d inside = cc
four false true c d inside = cc
four true b c d inside = cc

-- within an atom its bytes are passed
tokens-within : (at byte : ℕ) (rest : List ℕ) → ends_atom byte ≡ false → tokens_from true at (byte ∷ rest) ≡ tokens_from true (at + 1) rest
unfolding tokens_from
tokens-within at byte rest inside =
    let none = four (byte == 32) (byte == 124) (byte == 40) (byte == 41) inside in
    rw (none.0, none.1, none.2, none.3) refl

-- an atom begins with a byte that is no minus sign and ends none
pub tokens-word : (at byte : ℕ) (rest : List ℕ) → ends_atom byte ≡ false → (byte == 45) ≡ false →
    tokens_from false at (byte ∷ rest) ≡ put at (word (byte ∷ atom_bytes rest)) (tokens_from true (at + 1) rest)
unfolding tokens_from
tokens-word at byte rest inside unsigned =
    let none = four (byte == 32) (byte == 124) (byte == 40) (byte == 41) inside in
    rw (none.0, none.1, none.2, none.3, unsigned) refl

-- behind an atom
same_ends : {A : Type 0} (a b c d : Bool) (x y z u v w : A) → (a || b || c || d) ≡ true →
    if a then x else if b then y else if c then z else if d then u else v ≡ if a then x else if b then y else if c then z else if d then u else w
same_ends true b c d x y z u v w one = refl
same_ends false true c d x y z u v w one = refl
same_ends false false true d x y z u v w one = refl
same_ends false false false true x y z u v w one = refl
same_ends false false false false x y z u v w one = cc

-- behind an atom
tokens-ended : (at byte : ℕ) (rest : List ℕ) → ends_atom byte ≡ true → tokens_from true at (byte ∷ rest) ≡ tokens_from false at (byte ∷ rest)
unfolding tokens_from
tokens-ended at byte rest ends =
    same_ends (byte == 32) (byte == 124) (byte == 40) (byte == 41) (tokens_from false (at + 1) rest) (put at bar (tokens_from false (at + 1) rest))
    (put at left (tokens_from false (at + 1) rest)) (put at right (tokens_from false (at + 1) rest)) (tokens_from true (at + 1) rest)
    (if byte == 45 then put at minus (tokens_from false (at + 1) rest) else put at (word (byte ∷ atom_bytes rest)) (tokens_from true (at + 1) rest)) ends

-- the bytes of an atom up to one that ends it, and with one that doesn't
pub atom-ended : (byte : ℕ) (rest : List ℕ) → ends_atom byte ≡ true → atom_bytes (byte ∷ rest) ≡ []
atom-ended byte rest ends =
    take_while-cons (λ b. not (ends_atom b)) byte rest ∙ ap (λ (e : Bool). cond (not e) (byte ∷ atom_bytes rest) []) ends

pub atom-longer : (byte : ℕ) (rest : List ℕ) → ends_atom byte ≡ false → atom_bytes (byte ∷ rest) ≡ byte ∷ atom_bytes rest
atom-longer byte rest inside =
    take_while-cons (λ b. not (ends_atom b)) byte rest ∙ ap (λ (e : Bool). cond (not e) (byte ∷ atom_bytes rest) []) inside

-- the tokens behind the bytes of an atom that are left
abbrev past_atom : ℕ → List ℕ → List Placed
past_atom at bytes = tokens_from false (at + length (atom_bytes bytes)) (drop (length (atom_bytes bytes)) bytes)

past-by : (at byte : ℕ) (rest : List ℕ) (ends : Bool) → ends_atom byte ≡ ends → tokens_from true (at + 1) rest ≡ past_atom (at + 1) rest →
    tokens_from true at (byte ∷ rest) ≡ past_atom at (byte ∷ rest)
past-by at byte rest true is later =
    let none : length (atom_bytes (byte ∷ rest)) ≡ 0 = ap length (atom-ended byte rest is) in
    let here : at ≡ at + length (atom_bytes (byte ∷ rest)) = omega (arith, none) in
    tokens-ended at byte rest is ∙ ap₂ (λ (n m : ℕ). tokens_from false n (drop m (byte ∷ rest))) here (sym none)
past-by at byte rest false is later =
    let more : length (atom_bytes (byte ∷ rest)) ≡ suc (length (atom_bytes rest)) = ap length (atom-longer byte rest is) in
    let there : at + 1 + length (atom_bytes rest) ≡ at + length (atom_bytes (byte ∷ rest)) = omega (arith, more) in
    tokens-within at byte rest is ∙ later
    ∙ ap₂ (λ (n m : ℕ). tokens_from false n (drop m (byte ∷ rest))) there (sym more)

-- behind the bytes of an atom the tokens go on
pub tokens-past : (at : ℕ) (bytes : List ℕ) → tokens_from true at bytes ≡ past_atom at bytes
tokens-past at [] = tokens-none true at ∙ sym (tokens-none false (at + 0))
tokens-past at (byte ∷ rest) = past-by at byte rest (ends_atom byte) refl (tokens-past (at + 1) rest)

-- the bytes of a text from an atom's start to its end
pub take-atom : (k : ℕ) (xs : List ℕ) → take (length (take k xs)) xs ≡ take k xs
take-atom zero xs = refl
take-atom (suc k) [] = refl
take-atom (suc k) (x ∷ xs) = ap (λ (ys : List ℕ). x ∷ ys) (take-atom k xs)

-- the bytes from a place on begin with the one there
pub drop-next : (xs : List ℕ) (i : ℕ) → i < length xs → drop i xs ≡ get_or xs i 0 ∷ drop (i + 1) xs
drop-next xs i less = rw (add-one, drop-cons xs i 0)

-- how many bytes of an atom are left: none at the end or before a byte that ends it, and else one more than behind it
pub left-at_end : (xs : List ℕ) (i : ℕ) → length xs ≤ i → length (atom_bytes (drop i xs)) ≡ 0
left-at_end xs i past = ap (λ (ys : List ℕ). length (atom_bytes ys)) (drop_all i xs past)

pub left-ended : (xs : List ℕ) (i : ℕ) → i < length xs → ends_atom (get_or xs i 0) ≡ true → length (atom_bytes (drop i xs)) ≡ 0
left-ended xs i less ends =
    ap (λ (ys : List ℕ). length (atom_bytes ys)) (drop-next xs i less) ∙ ap length (atom-ended (get_or xs i 0) (drop (i + 1) xs) ends)

pub left-longer : (xs : List ℕ) (i : ℕ) → i < length xs → ends_atom (get_or xs i 0) ≡ false →
    length (atom_bytes (drop i xs)) ≡ suc (length (atom_bytes (drop (i + 1) xs)))
left-longer xs i less inside =
    ap (λ (ys : List ℕ). length (atom_bytes ys)) (drop-next xs i less) ∙ ap length (atom-longer (get_or xs i 0) (drop (i + 1) xs) inside)

small-by : (n : ℕ) (a b c d : Bool) → (a ≡ true → n < 128) → (b ≡ true → n < 128) → (c ≡ true → n < 128) → (d ≡ true → n < 128) →
    (a || b || c || d) ≡ true → n < 128
small-by n true b c d p q r s one = p refl
small-by n false true c d p q r s one = q refl
small-by n false false true d p q r s one = r refl
small-by n false false false true p q r s one = s refl
small-by n false false false false p q r s one = cc

-- a byte that ends an atom is a character
ends-small : (byte : ℕ) → ends_atom byte ≡ true → byte < 128
ends-small byte ends =
    small-by byte (byte == 32) (byte == 124) (byte == 40) (byte == 41) (λ e. omega (arith, eqb-true byte 32 e)) (λ e. omega (arith, eqb-true byte 124 e))
    (λ e. omega (arith, eqb-true byte 40 e)) (λ e. omega (arith, eqb-true byte 41 e)) ends

atom-length : (ys : List ℕ) → length (atom_bytes ys) ≡ prefix_len (λ c. not (ends_atom c)) ys
atom-length ys = length-take-le (prefix_len (λ c. not (ends_atom c)) ys) ys (prefix_len-le-length (λ c. not (ends_atom c)) ys)

-- an atom ends within the text
pub atom-within : (text : List ℕ) (i : ℕ) → i ≤ length text → i + length (atom_bytes (drop i text)) ≤ length text
atom-within text i inside =
    omega (arith, inside, atom-length (drop i text), prefix_len-le-length (λ c. not (ends_atom c)) (drop i text), length-drop i text)

-- and where a character begins, or at its end
pub atom-boundary : (text : List ℕ) (i : ℕ) → i ≤ length text → IsCharBoundary text (i + length (atom_bytes (drop i text)))
atom-boundary text i inside = (
  atom-within text i inside,
  λ less high.
      let ys = drop i text in
      let n = prefix_len (λ c. not (ends_atom c)) ys in
      let same : length (atom_bytes ys) ≡ n = atom-length ys in
      let stops : not (ends_atom (get_or ys n 0)) ≡ false =
      prefix_len_stops (λ c. not (ends_atom c)) ys 0 (omega (arith, less, same, length-drop i text)) in
      let byte : get_or ys n 0 ≡ get_or text (i + length (atom_bytes ys)) 0 =
      get_or-drop i text n 0 ∙ ap (λ (k : ℕ). get_or text (i + k) 0) (sym same) in
      let small : get_or ys n 0 < 128 = ends-small (get_or ys n 0) (not-false (ends_atom (get_or ys n 0)) stops) in
      absurd (omega (arith, small, high, byte)),
)

-- the tokens from a place on, by the byte there
pub here-space : (text : List ℕ) (at : ℕ) → at < length text → get_or text at 0 ≡ 32 →
    tokens_from false at (drop at text) ≡ tokens_from false (at + 1) (drop (at + 1) text)
here-space text at less is =
    ap (tokens_from false at) (drop-next text at less ∙ ap (λ (b : ℕ). b ∷ drop (at + 1) text) is) ∙ tokens-space false at (drop (at + 1) text)

pub here-bar : (text : List ℕ) (at : ℕ) → at < length text → get_or text at 0 ≡ 124 →
    tokens_from false at (drop at text) ≡ put at bar (tokens_from false (at + 1) (drop (at + 1) text))
here-bar text at less is =
    ap (tokens_from false at) (drop-next text at less ∙ ap (λ (b : ℕ). b ∷ drop (at + 1) text) is) ∙ tokens-bar false at (drop (at + 1) text)

pub here-left : (text : List ℕ) (at : ℕ) → at < length text → get_or text at 0 ≡ 40 →
    tokens_from false at (drop at text) ≡ put at left (tokens_from false (at + 1) (drop (at + 1) text))
here-left text at less is =
    ap (tokens_from false at) (drop-next text at less ∙ ap (λ (b : ℕ). b ∷ drop (at + 1) text) is) ∙ tokens-left false at (drop (at + 1) text)

pub here-right : (text : List ℕ) (at : ℕ) → at < length text → get_or text at 0 ≡ 41 →
    tokens_from false at (drop at text) ≡ put at right (tokens_from false (at + 1) (drop (at + 1) text))
here-right text at less is =
    ap (tokens_from false at) (drop-next text at less ∙ ap (λ (b : ℕ). b ∷ drop (at + 1) text) is) ∙ tokens-right false at (drop (at + 1) text)

pub here-minus : (text : List ℕ) (at : ℕ) → at < length text → get_or text at 0 ≡ 45 →
    tokens_from false at (drop at text) ≡ put at minus (tokens_from false (at + 1) (drop (at + 1) text))
here-minus text at less is =
    ap (tokens_from false at) (drop-next text at less ∙ ap (λ (b : ℕ). b ∷ drop (at + 1) text) is) ∙ tokens-minus at (drop (at + 1) text)

-- where an atom ends that begins at a place
abbrev pub end_of : List ℕ → ℕ → ℕ
end_of text at = at + 1 + length (atom_bytes (drop (at + 1) text))

four_not : (a b c d : Bool) → a ≡ false → b ≡ false → c ≡ false → d ≡ false → (a || b || c || d) ≡ false
four_not a b c d x y z w = rw (x, y, z, w) refl

-- a byte that is none of these begins an atom
pub begins-atom : (byte : ℕ) → (byte ≡ 32 → ⊥) → (byte ≡ 124 → ⊥) → (byte ≡ 40 → ⊥) → (byte ≡ 41 → ⊥) → ends_atom byte ≡ false
begins-atom byte a b c d =
    four_not (byte == 32) (byte == 124) (byte == 40) (byte == 41) (ne_eqb byte 32 a) (ne_eqb byte 124 b) (ne_eqb byte 40 c) (ne_eqb byte 41 d)

pub here-word : (text : List ℕ) (at : ℕ) → at < length text → ends_atom (get_or text at 0) ≡ false → (get_or text at 0 == 45) ≡ false →
    tokens_from false at (drop at text) ≡ put at (word (take (end_of text at - at) (drop at text))) (tokens_from false (end_of text at) (drop (end_of text at) text))
here-word text at less inside unsigned =
    let b = get_or text at 0 in
    let rest = drop (at + 1) text in
    let n = length (atom_bytes rest) in
    let next : drop at text ≡ b ∷ rest = drop-next text at less in
    let width : suc n ≡ end_of text at - at = omega arith in
    let bytes : b ∷ atom_bytes rest ≡ take (end_of text at - at) (drop at text) =
    ap (λ (ys : List ℕ). b ∷ ys) (sym (take-atom (prefix_len (λ c. not (ends_atom c)) rest) rest))
    ∙ ap₂ (λ (k : ℕ) (ys : List ℕ). take k ys) width (sym next) in
    ap (tokens_from false at) next
    ∙ tokens-word at b rest inside unsigned
    ∙ ap₂ (λ (bs : List ℕ) (later : List Placed). put at (word bs) later) bytes
    (tokens-past (at + 1) rest ∙ ap (tokens_from false (end_of text at)) (drop-drop n (at + 1) text))
