-- How a `LiveList` is laid out: the entries of the live numbers of a bucket are a search tree by the bits of the numbers. From the
-- bucket's link on, a number's way goes to the entry behind the link, and on by the link under it for the number's next bit. Of
-- public clauses that on the steps of a call alone cites this module.
use Rattle.std.specs.Prelude.{ℕ, zero, suc, ◌+◌, ◌-◌, ◌*◌, ◌/◌, ◌%◌, ◌^◌, ◌<◌, ◌≤◌, ◌≡◌, nat_lt, ◌⊎◌, Bool, true, false, if◌then◌else◌, List, length, slice_index_or, bit_and, bit_xor, Option, Some, None}
use Rattle.std.specs.Int.{bit_at}
use Rattle.document_store.specs.declared.live_list.Entry.{Entry}

-- a number with its high bits mixed into its low ones
abbrev pub folded_number : ℕ → ℕ
folded_number n = bit_xor n (n / 2 ^ 33)

-- a number with each of its bits mixed into all: the finalizer of the 64-bit MurmurHash3
unfoldable pub mixed_number : ℕ → ℕ
mixed_number id = folded_number (folded_number (folded_number id * 0xff51afd7ed558ccd % 2 ^ 64) * 0xc4ceb9fe1a85ec53 % 2 ^ 64)

-- the bucket of a number among so many, which are a power of two
unfoldable pub bucket_of : ℕ → ℕ → ℕ
bucket_of buckets id = bit_and (mixed_number id) (buckets - 1)

-- where no entry is behind a link
abbrev pub none : ℕ
none = 4294967295

abbrev pub no_entry : Entry
no_entry = record { id = 0; live = false }

abbrev pub entry_at : List Entry → ℕ → Entry
entry_at entries at = slice_index_or entries at no_entry

abbrev pub number_at : List Entry → ℕ → ℕ
number_at entries at = (entry_at entries at).id

-- the entry is live in its column
abbrev pub IsLive : List Entry → ℕ → Type 0
IsLive entries at = (entry_at entries at).live ≡ true

-- the number that is live in the entry's column
abbrev pub id_of : Entry → Option ℕ
id_of e = if e.live then Some e.id else None

-- the entry behind a link: the first links are those of the buckets, and then come those under the entries, two for each
abbrev pub link_at : List ℕ → ℕ → ℕ
link_at links link = slice_index_or links link none

-- the link under an entry for a bit
abbrev pub link_under : (buckets at bit : ℕ) → ℕ
link_under buckets at bit = buckets + 2 * at + bit

-- it is one of the two links under an entry
abbrev pub IsLinkOf : (buckets at link : ℕ) → Type 0
IsLinkOf buckets at link = (bit : ℕ) × (bit < 2) × (link ≡ link_under buckets at bit)

-- no entry is under an entry
abbrev pub HasNoneUnder : (buckets : ℕ) (links : List ℕ) (entries : List Entry) (at : ℕ) → Type 0
HasNoneUnder buckets links entries at = (bit : ℕ) → bit < 2 → length entries ≤ link_at links (link_under buckets at bit)

-- the link of a number's way at this depth
abbrev pub way : (behind : ℕ → ℕ) (buckets id depth : ℕ) → ℕ
way behind buckets id zero = bucket_of buckets id
way behind buckets id (suc depth) = link_under buckets (behind (way behind buckets id depth)) (bit_at id depth)

-- each of so many entries that is behind a link is live, has one depth, and is on the way of its number there and nowhere else; each that is
-- live is behind a link, and none is deeper than a number has bits
pub record IsTree (buckets count : ℕ) (behind number depth : ℕ → ℕ) (IsIn : ℕ → Type 0) : Type 0 where
  pub linked : (link : ℕ) → behind link < count → IsIn (behind link) × (way behind buckets (number (behind link)) (depth (behind link)) ≡ link)
  pub reached : (x : ℕ) → IsIn x → behind (way behind buckets (number x) (depth x)) ≡ x
  pub within : (x : ℕ) → IsIn x → x < count
  pub shallow : (x : ℕ) → IsIn x → depth x ≤ 64
  pub past : (x bit : ℕ) → count ≤ x → count ≤ behind (link_under buckets x bit)

-- a table of such trees, and no two live entries have one number
pub record AreTrees (slices columns buckets : ℕ) (links : List ℕ) (entries : List Entry) : Type 0 where
  pub every_column : length entries ≡ slices * columns
  pub few : length entries ≤ none
  pub some : 0 < buckets
  pub size : length links ≡ buckets + 2 * length entries
  pub ends : (link : ℕ) → length entries ≤ link_at links link → link_at links link ≡ none
  pub numbers : (x : ℕ) → number_at entries x < 2 ^ 64
  pub depth : ℕ → ℕ
  pub tree : IsTree buckets (length entries) (link_at links) (number_at entries) depth (IsLive entries)
  pub apart : (x y : ℕ) → IsLive entries x → IsLive entries y → number_at entries x ≡ number_at entries y → x ≡ y

-- how many entries a search for a number looks at from a link of its way on: down to the entry that has it, or to where none is
abbrev pub looked_from : (behind : ℕ → ℕ) (has : ℕ → Bool) (buckets count id most link depth : ℕ) → ℕ
looked_from behind has buckets count id zero link depth = 0
looked_from behind has buckets count id (suc most) link depth =
    if nat_lt (behind link) count
    then (if has (behind link) then 1 else suc (looked_from behind has buckets count id most (link_under buckets (behind link) (bit_at id depth)) (suc depth)))
    else 0

-- the link is on the number's way, where the number is, or no entry, or where the number has no more bits; other numbers are before it
pub record IsPlaceOf (buckets : ℕ) (links : List ℕ) (entries : List Entry) (id link : ℕ) : Type 0 where
  pub depth : ℕ
  pub low : depth ≤ 64
  pub on_way : way (link_at links) buckets id depth ≡ link
  pub others : (d : ℕ) → d < depth → number_at entries (link_at links (way (link_at links) buckets id d)) ≡ id → ⊥
  pub entries_before : (d : ℕ) → d < depth → link_at links (way (link_at links) buckets id d) < length entries
  pub stops : (depth ≡ 64) ⊎ ((length entries ≤ link_at links link) ⊎ (number_at entries (link_at links link) ≡ id))

-- so many steps down from a link leads to another, each to an entry under that before it
abbrev pub IsUnder : (behind : ℕ → ℕ) (buckets count first steps link : ℕ) → Type 0
IsUnder behind buckets count first zero link = link ≡ first
IsUnder behind buckets count first (suc steps) link =
    (above : ℕ) × IsUnder behind buckets count first steps above × IsLinkOf buckets (behind above) link × (behind link < count)

-- from a link down: none is under the entry behind it, or it is as many steps down as a number has bits
pub record IsLowestUnder (buckets : ℕ) (links : List ℕ) (entries : List Entry) (first link : ℕ) : Type 0 where
  pub steps : ℕ
  pub under : IsUnder (link_at links) buckets (length entries) first steps link
  pub entry : link_at links link < length entries
  pub stops : (steps ≡ 64) ⊎ HasNoneUnder buckets links entries (link_at links link)

-- the new entry is in the place of the old one: what was under the old one is under it, and nothing is under the old one.
pub record IsInPlace (buckets : ℕ) (behind after : ℕ → ℕ) (link old new : ℕ) : Type 0 where
  pub here : after link ≡ new
  pub low : after (link_under buckets new 0) ≡ behind (link_under buckets old 0)
  pub high : after (link_under buckets new 1) ≡ behind (link_under buckets old 1)
  pub old_low : after (link_under buckets old 0) ≡ none
  pub old_high : after (link_under buckets old 1) ≡ none
  pub same : (other : ℕ) → (other ≡ link → ⊥) → (other ≡ link_under buckets new 0 → ⊥) → (other ≡ link_under buckets new 1 → ⊥) →
      (other ≡ link_under buckets old 0 → ⊥) → (other ≡ link_under buckets old 1 → ⊥) → after other ≡ behind other
