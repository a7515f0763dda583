-- The rows that words name.
use Rattle.std.proofs.Common.{◌≡◌, ℕ, ◌<◌, ◌≤◌, ◌%◌, List, [], ◌∷◌, ap, sym, ◌∙◌, arith}
use Rattle.std.proofs.lemmas.List.Sums.{fold-append}
use Rattle.std.proofs.lemmas.Nat.{mod_below}
use Rattle.term_hash.specs.Hash.{fnv_1a, fnv_step, hash_of, mixed, row_number}

-- a row of a word is one of the rows
pub row_number-below : (word : List ℕ) (j rows : ℕ) → 1 ≤ rows → row_number word j rows < rows
unfolding row_number
row_number-below word j rows some = mod_below (mixed (hash_of word j)) rows (omega arith)

-- the hash of the bytes followed by one more byte
pub hash-step : (word : List ℕ) (j : ℕ) → fnv_step (fnv_1a word) j ≡ hash_of word j
unfolding hash_of
hash-step word j = sym (fold-append fnv_step 0xcbf29ce484222325 word (j ∷ []))

-- the row that is told from the hash of the bytes
pub row_number-step : (word : List ℕ) (j rows hash : ℕ) → hash ≡ fnv_1a word → mixed (fnv_step hash j) % rows ≡ row_number word j rows
unfolding row_number
row_number-step word j rows hash is = ap (λ h. mixed h % rows) (ap (λ h. fnv_step h j) is ∙ hash-step word j)
