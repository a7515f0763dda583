-- The column of each live number, and how many entries stand on the way to it.
use Rattle.std.specs.Prelude.{ℕ, ◌-◌, ◌*◌, ◌≤◌, ◌==◌, ◌/◌, ◌%◌, Bool, false, List, length, slice_index_or, Option, Some, None}
use Rattle.std.specs.List.{position}
use Rattle.std.specs.Option.{option_map}
use Rattle.document_store.specs.Trees.{bucket_of, link_at, looked_from}

-- so many slices of so many columns; the entries stand slice after slice, in the order of the columns, and each is the
-- number that is live in its column, where there is one; and the links that lead to the entries
pub record Entries : Type 0 where
  pub slices : ℕ
  pub columns : ℕ
  pub entries : List (Option ℕ)
  pub links : List ℕ

-- the entry has this number
abbrev pub has_id : ℕ → Option ℕ → Bool
has_id id None = false
has_id id (Some n) = n == id

-- the slice and the column of a number, where it is live
abbrev pub column_of : Entries → ℕ → Option (ℕ × ℕ)
column_of live id = option_map (λ i. (i / live.columns, i % live.columns)) (position (has_id id) live.entries)

-- how many entries stand on the way of a number, from its bucket down to it or to where it would be
unfoldable pub steps : Entries → ℕ → ℕ
steps live id =
    let count = length live.entries in
    let buckets = length live.links - 2 * count in
    looked_from (link_at live.links) (λ x. has_id id (slice_index_or live.entries x None)) buckets count id count (bucket_of buckets id) 0

-- few entries stand on the way of a number, whatever it is and whichever are live: one for each bit of a number, and one more
abbrev pub IsShallow : Entries → Type 0
IsShallow live = (id : ℕ) → steps live id ≤ 65
