-- How many rows a word has, and of which ranks, by how many documents hold it. A word of class c is held by about one
-- document in 2^c, so the rarer a word is the higher is its class, and it takes at least as many rows to tell it from noise.
use Rattle.std.specs.Prelude.{ℕ, ◌+◌, ◌-◌, ◌*◌, ◌^◌, ◌≤◌, ◌==◌, nat_le, min, max, count_by, filter, find, fold, unwrap_or, if◌then◌else◌}
use Rattle.std.specs.List.{range_with_len}

-- c is the class of a word that f of n documents hold: the greatest up to 15 with f * 2^c <= n
pub record IsClass (f n c : ℕ) : Type 0 where
  pub in_range : c ≤ 15
  pub fits : f * 2 ^ c ≤ n
  pub greatest : (other : ℕ) → other ≤ 15 → f * 2 ^ other ≤ n → other ≤ c

-- k rows, each with one bit in m set, leave a word of class c the wanted ratio of signal to noise
abbrev pub IsEnough : ℕ → ℕ → ℕ → ℕ → Type 0
IsEnough m snr c k = snr * (2 ^ (c + 1) - 1) ≤ m ^ k

-- k is the row count of class c: the least from 1 on that is enough
pub record IsRowCount (m snr c k : ℕ) : Type 0 where
  pub positive : 1 ≤ k
  pub enough : IsEnough m snr c k
  pub least : (other : ℕ) → 1 ≤ other → IsEnough m snr c other → k ≤ other

-- the class of a word that f of n documents hold: the greatest of the numbers 0 to 15 that fit (`IsClass`)
unfoldable pub class_of_count : ℕ → ℕ → ℕ
class_of_count f n = fold max 0 (filter (λ c. nat_le (f * 2 ^ c) n) (range_with_len 0 16))

-- the row count of class c: the first of the numbers 1 to 26 that is enough, as 26 always is (`IsRowCount`)
unfoldable pub row_count_of_class : ℕ → ℕ → ℕ → ℕ
row_count_of_class m snr c = unwrap_or (find (λ k. nat_le (snr * (2 ^ (c + 1) - 1)) (m ^ k)) (range_with_len 1 26)) 26

-- The rank of row j of the k shared rows of a word of class c. The last row has rank 0. The others begin at c - 3, or at
-- the highest rank that there is, and go down by 2 from row to row to rank 0.
abbrev pub rank_of_row : ℕ → ℕ → ℕ → ℕ → ℕ
rank_of_row c k max_rank j = if j + 1 == k then 0 else min max_rank (c - 3) - 2 * j

-- how many of those k rows have rank r
abbrev pub rows_at_rank : ℕ → ℕ → ℕ → ℕ → ℕ
rows_at_rank c k max_rank r = count_by (λ j. rank_of_row c k max_rank j == r) (range_with_len 0 k)
