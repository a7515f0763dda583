-- What holds of every object that bytes are.
use Rattle.std.specs.Prelude.{◌≡◌, ℕ, List, map, Some}
use Rattle.std.specs.Cmp.Lexicographic.{slice_cmp}
use Rattle.std.specs.List.Sorted.{IsStrictlySortedBy}
use Rattle.std.specs.Ordering.{nat_cmp}
use Rattle.serde_json.specs.Data.{Data, Members}
use Rattle.funnel_stats.specs.Configurations.{object_of}
use Rattle.funnel_stats.specs.Values.{entries, listed_at}

-- the names rise in byte order, so each stands once
abbrev pub IsInNameOrder : List (List ℕ × Data) → Type 0
IsInNameOrder entries = IsStrictlySortedBy (slice_cmp nat_cmp) (map (λ entry. entry.0) entries)

-- the entries of an object stand in byte order, and so do its listed words: the first with a fault is the first in it
abbrev pub EntriesAreInByteOrder : Type 0
EntriesAreInByteOrder =
    (bytes : List ℕ) (object : Members) → object_of bytes ≡ Some object → IsInNameOrder (entries object) × IsInNameOrder (listed_at object)
