-- The columns that pass a test, and the candidates that they are.
use Rattle.std.proofs.Common.{◌≡◌, ℕ, ◌+◌, ◌-◌, ◌*◌, ◌%◌, ◌<◌, ◌≤◌, List, ◌++◌, [], ◌∷◌, Bool, true, false, cond, leb, map, ap, sym, ◌∙◌, refl, arith}
use Rattle.std.specs.List.{filter, range_with_len}
use Rattle.std.proofs.Math.Seq.{drop-append_seam}
use Rattle.std.proofs.lemmas.Bool.Decides.{nat_tests}
use Rattle.std.proofs.lemmas.List.{append_assoc, map-append}
use Rattle.std.proofs.lemmas.List.Elements.{filter-append}
use Rattle.rank_matcher.specs.Appended.{appended, candidates_of}
use Rattle.rank_matcher.specs.SetBits.{set_bits}
use Rattle.rank_matcher.specs.Walk.{has_column, passing}
use Rattle.rank_matcher.proofs.Blocks.{block_passes, filter_same, range_split}
use Rattle.row_read.specs.Bits.{has_bit}

-- those of two ranges, one after the other
pub passing-split : (test : ℕ → Bool) (a b c : ℕ) → a ≤ b → b ≤ c → passing test a c ≡ passing test a b ++ passing test b c
passing-split test a b c low high =
    let n : c - a ≡ b - a + (c - b) = omega (arith, low, high) in
    let next : a + (b - a) ≡ b = omega (arith, low) in
    ap (λ k. filter test (range_with_len a k)) n
    ∙ ap (filter test) (range_split a (b - a) (c - b))
    ∙ filter-append test (range_with_len a (b - a)) (range_with_len (a + (b - a)) (c - b))
    ∙ ap (λ k. filter test (range_with_len a (b - a)) ++ filter test (range_with_len k (c - b))) next

-- none of no columns
pub passing-none : (test : ℕ → Bool) (a : ℕ) → passing test a a ≡ []
passing-none test a = let e : a - a ≡ 0 = omega arith in ap (λ k. filter test (range_with_len a k)) e

-- tests that agree let the same columns pass
pub passing-same : (p q : ℕ → Bool) (a b : ℕ) → ((column : ℕ) → a ≤ column → column < b → p column ≡ q column) → passing p a b ≡ passing q a b
passing-same p q a b same = filter_same p q a (b - a) (λ k low. same (a + k) (omega arith) (omega (arith, low)))

-- the columns of one word are its set bits
pub passing-word : (running word : ℕ) → passing (has_column running) (64 * word) (64 * (word + 1)) ≡ map (λ bit. 64 * word + bit) (set_bits running)
unfolding set_bits
passing-word running word =
    let n : 64 * (word + 1) - 64 * word ≡ 64 = omega arith in
    ap (λ k. filter (has_column running) (range_with_len (64 * word) k)) n
    ∙ block_passes (has_column running) (has_bit running) (64 * word) 64
    (λ k low. let e : (64 * word + k) % 64 ≡ k = omega (arith, low) in ap (has_bit running) e)

-- the second test from column b on, and the first before it
pub joined : ℕ → (ℕ → Bool) → (ℕ → Bool) → ℕ → Bool
joined b test next column = cond (leb b column) (next column) (test column)

pub joined-before : (b : ℕ) (test next : ℕ → Bool) (column : ℕ) → column < b → joined b test next column ≡ test column
unfolding joined
joined-before b test next column low =
    let e : leb b column ≡ false = grind (arith, nat_tests) in
    ap (λ (t : Bool). cond t (next column) (test column)) e

pub joined-from : (b : ℕ) (test next : ℕ → Bool) (column : ℕ) → b ≤ column → joined b test next column ≡ next column
unfolding joined
joined-from b test next column high =
    let e : leb b column ≡ true = grind (arith, nat_tests) in
    ap (λ (t : Bool). cond t (next column) (test column)) e

pub passing-joined : (test next : ℕ → Bool) (a b c : ℕ) → a ≤ b → b ≤ c → passing (joined b test next) a c ≡ passing test a b ++ passing next b c
passing-joined test next a b c low high =
    passing-split (joined b test next) a b c low high
    ∙ ap (λ (xs : List ℕ). xs ++ passing (joined b test next) b c) (passing-same (joined b test next) test a b (λ column from to. joined-before b test next column to))
    ∙ ap (λ (xs : List ℕ). passing test a b ++ xs) (passing-same (joined b test next) next b c (λ column from to. joined-from b test next column from))

-- candidates of two lists of columns, one after the other
pub candidates-append : (slice : ℕ) (old mid new : List (ℕ × ℕ)) (xs ys : List ℕ) → mid ≡ old ++ candidates_of slice xs → new ≡ mid ++ candidates_of slice ys
    → new ≡ old ++ candidates_of slice (xs ++ ys)
candidates-append slice old mid new xs ys first next =
    next
    ∙ ap (λ (cs : List (ℕ × ℕ)). cs ++ candidates_of slice ys) first
    ∙ append_assoc old (candidates_of slice xs) (candidates_of slice ys)
    ∙ ap (λ (cs : List (ℕ × ℕ)). old ++ cs) (sym (map-append (λ column. (slice, column)) xs ys))

-- what was appended is the columns of the candidates after the old ones
pub appended-is : (slice : ℕ) (old new : List (ℕ × ℕ)) (columns : List ℕ) → new ≡ old ++ candidates_of slice columns → appended old new ≡ columns
appended-is slice old new columns is =
    ap (appended old) is ∙ ap (map (λ candidate. candidate.1)) (drop-append_seam old (candidates_of slice columns)) ∙ columns_of columns
  where
    columns_of : (xs : List ℕ) → map (λ candidate. candidate.1) (candidates_of slice xs) ≡ xs
    columns_of [] = refl
    columns_of (x ∷ xs) = ap (λ (ys : List ℕ). x ∷ ys) (columns_of xs)
