-- The columns that are left of a slice, word by word.
use Rattle.std.proofs.Common.{◌≡◌, ◌↔◌, ℕ, ◌+◌, ◌*◌, ◌/◌, ◌%◌, ◌^◌, ◌<◌, ◌≤◌, ⊎_elim, true, inl, inr, List, [], ◌∷◌, ◌++◌, length, get_or, take, drop, map, AllPairs, Contains, sym, ap, ◌∙◌, subst, w64, eqb, arith}
use Rattle.std.specs.Prelude.{bit_or}
use Rattle.std.specs.List.{All}
use Rattle.std.proofs.lemmas.Bool.{cases_eq, cases_lt}
use Rattle.std.proofs.lemmas.List.{get_or-drop, get_or-map, get_or-take, length-drop, length-map, length-take, map-append, take-append-drop, take-map}
use Rattle.std.proofs.lemmas.List.Elements.{All-contains, All-map, Contains-append_cases, Contains-append_left, Contains-append_right, Contains-push_cases}
use Rattle.std.proofs.lemmas.Nat.Bits.{bit_at_set_other, bit_at_set_same}
use Rattle.rank_matcher.specs.Left.{IsOfWord}
use Rattle.rank_matcher.proofs.Bits.{has_bit-digit}
use Rattle.row_read.specs.Bits.{has_bit}

-- a bit that is set in a word
set-same : (n k : ℕ) → k < 64 → has_bit (bit_or n (1 * 2 ^ k % 2 ^ 64)) k ≡ true
set-same n k low = has_bit-digit (bit_or n (1 * 2 ^ k % 2 ^ 64)) k ∙ ap (λ d. eqb d 1) (bit_at_set_same w64 n k low)

set-other : (n k i : ℕ) → k < 64 → (i ≡ k → ⊥) → has_bit (bit_or n (1 * 2 ^ k % 2 ^ 64)) i ≡ has_bit n i
set-other n k i low other =
    has_bit-digit (bit_or n (1 * 2 ^ k % 2 ^ 64)) i ∙ ap (λ d. eqb d 1) (bit_at_set_other w64 n k low i other) ∙ sym (has_bit-digit n i)

-- one more candidate of a word has its bit in the mask
pub mask-next : (columns : List (ℕ × ℕ)) (k word mask : ℕ) (here : ℕ × ℕ) → take (k + 1) columns ≡ take k columns ++ here ∷ [] → here.1 / 64 ≡ word
    → ((bit : ℕ) → bit < 64 → (has_bit mask bit ≡ true) ↔ Contains (map (λ (p : ℕ × ℕ). p.1) (take k columns)) (64 * word + bit))
    → (bit : ℕ) → bit < 64 → (has_bit (bit_or mask (1 * 2 ^ (here.1 % 64) % 2 ^ 64)) bit ≡ true) ↔ Contains (map (λ (p : ℕ × ℕ). p.1) (take (k + 1) columns)) (64 * word + bit)
mask-next columns k word mask here next is old bit few =
    let m : ℕ = here.1 % 64 in
    let low : m < 64 = omega arith in
    let whole : 64 * word + m ≡ here.1 = omega (arith, is) in
    let before : List ℕ = map (λ (p : ℕ × ℕ). p.1) (take k columns) in
    let list_is : map (λ (p : ℕ × ℕ). p.1) (take (k + 1) columns) ≡ before ++ here.1 ∷ [] =
    ap (map (λ (p : ℕ × ℕ). p.1)) next ∙ map-append (λ (p : ℕ × ℕ). p.1) (take k columns) (here ∷ []) in
    subst (λ (xs : List ℕ). (has_bit (bit_or mask (1 * 2 ^ m % 2 ^ 64)) bit ≡ true) ↔ Contains xs (64 * word + bit)) (sym list_is)
    (elim (cases_eq bit m) [
      | inl same ↦ (
        λ set. Contains-append_right before (here.1 ∷ []) (64 * word + bit) (0, omega arith, sym whole ∙ ap (λ b. 64 * word + b) (sym same)),
        λ has. subst (λ b. has_bit (bit_or mask (1 * 2 ^ m % 2 ^ 64)) b ≡ true) (sym same) (set-same mask m low),
      )
      | inr other ↦ (
        λ set. Contains-append_left before (here.1 ∷ []) (64 * word + bit) ((old bit few).0 (sym (set-other mask m bit low other) ∙ set)),
        λ has.
            set-other mask m bit low other
            ∙ (old bit few).1
            (⊎_elim (λ (h : Contains before (64 * word + bit)). h) (λ (e : here.1 ≡ 64 * word + bit). let same : bit ≡ m = omega (arith, e, whole) in absurd (other same))
            (Contains-push_cases before here.1 (64 * word + bit) has)),
      )
    ])

-- numbers that rise, from 64 times a word on; from the first that isn't of the word on they are of later words
module _ (xs : List ℕ) (k word : ℕ) (rising : AllPairs (λ one other. one < other) xs) (from : All (λ column. 64 * word ≤ column) xs)
    (next : (d : ℕ) → k < length xs → get_or xs k d / 64 ≡ word → ⊥) where
  pub of_later : (j d : ℕ) → k ≤ j → j < length xs → 64 * (word + 1) ≤ get_or xs j d
  of_later j d low within =
      let inside : k < length xs = omega (arith, low, within) in
      let at : 64 * word ≤ get_or xs k d = from k d inside in
      let here : 64 * (word + 1) ≤ get_or xs k d =
      elim (cases_lt (get_or xs k d) (64 * (word + 1))) [
        | inl less ↦ (let same : get_or xs k d / 64 ≡ word = omega (arith, at, less) in absurd (next d inside same))
        | inr high ↦ high
      ] in
      elim (cases_lt k j) [
        | inl before ↦ omega (arith, here, rising k j d before within)
        | inr above ↦ (let same : j ≡ k = omega (arith, low, above) in subst (λ n. 64 * (word + 1) ≤ get_or xs n d) (sym same) here)
      ]

  -- one that is of the word is among those before it
  pub in_front : (column : ℕ) → column / 64 ≡ word → Contains xs column → Contains (take k xs) column
  in_front column of (j, within, is) =
      elim (cases_lt j k) [
        | inl low ↦ (j, omega (arith, low, within, length-take k xs), get_or-take k xs j column low ∙ is)
        | inr high ↦ (let far = of_later j column high within in absurd (omega (arith, far, is, of)))
      ]

  pub back_from : All (λ column. 64 * (word + 1) ≤ column) (drop k xs)
  back_from j d within =
      subst (λ n. 64 * (word + 1) ≤ n) (sym (get_or-drop k xs j d)) (of_later (k + j) d (omega arith) (omega (arith, within, length-drop k xs)))

  pub back_rising : AllPairs (λ one other. one < other) (drop k xs)
  back_rising i j d lt within =
      let less = rising (k + i) (k + j) d (omega (arith, lt)) (omega (arith, within, length-drop k xs)) in
      omega (arith, get_or-drop k xs i d, get_or-drop k xs j d, less)

-- a number of later words is behind those of the word
pub in_back : (xs : List ℕ) (k word : ℕ) → All (λ column. column / 64 ≡ word) (take k xs) → (column : ℕ) → 64 * (word + 1) ≤ column → Contains xs column → Contains (drop k xs) column
in_back xs k word of column high has =
    ⊎_elim (λ (front : Contains (take k xs) column). let is = All-contains (λ n. n / 64 ≡ word) (take k xs) column of front in absurd (omega (arith, is, high)))
    (λ (back : Contains (drop k xs) column). back)
    (Contains-append_cases (take k xs) (drop k xs) column (subst (λ ys. Contains ys column) (sym (take-append-drop k xs)) has))

pub of_front : (xs : List ℕ) (k column : ℕ) → Contains (take k xs) column → Contains xs column
of_front xs k column has = subst (λ ys. Contains ys column) (take-append-drop k xs) (Contains-append_left (take k xs) (drop k xs) column has)

pub of_back : (xs : List ℕ) (k column : ℕ) → Contains (drop k xs) column → Contains xs column
of_back xs k column has = subst (λ ys. Contains ys column) (take-append-drop k xs) (Contains-append_right (take k xs) (drop k xs) column has)

-- candidates by their columns
pub next_of : (columns : List (ℕ × ℕ)) (k word : ℕ) → ((d : ℕ × ℕ) → k < length columns → IsOfWord word (get_or columns k d) → ⊥)
    → (d : ℕ) → k < length (map (λ (p : ℕ × ℕ). p.1) columns) → get_or (map (λ (p : ℕ × ℕ). p.1) columns) k d / 64 ≡ word → ⊥
next_of columns k word next d within same =
    let inside : k < length columns = omega (arith, within, length-map columns (λ (p : ℕ × ℕ). p.1)) in
    let is = get_or-map (λ (p : ℕ × ℕ). p.1) columns k (0, d) d inside in
    next (0, d) inside (ap (λ n. n / 64) (sym is) ∙ same)

pub front_of : (columns : List (ℕ × ℕ)) (k word : ℕ) → All (IsOfWord word) (take k columns) → All (λ column. column / 64 ≡ word) (take k (map (λ (p : ℕ × ℕ). p.1) columns))
front_of columns k word of =
    subst (All (λ column. column / 64 ≡ word)) (sym (take-map (λ (p : ℕ × ℕ). p.1) k columns)) (All-map (λ column. column / 64 ≡ word) (λ (p : ℕ × ℕ). p.1) (take k columns) of)
