-- The entries of treatments that are kept, and what is made of them.
use Rattle.std.specs.Prelude.{◌≡◌, ℕ, ◌<◌, ◌≤◌, ◌↔◌, ◌⊎◌, List, [], ◌∷◌, ◌++◌, length, slice_index_or, swap_remove, AllPairs, Contains, MatchOption, Option}
use Rattle.funnel_model.specs.declared.config.TheConstants.{MOST_SLICES}
use Rattle.funnel_model.specs.SliceSets.{IsEmpty}
use Rattle.row_layout.specs.Layouts.{LayoutId}
use Rattle.commit_desk.specs.declared.find_layouts.FindLayout.{FindLayout}
use Rattle.commit_desk.specs.Layouts.{IsCurrentOf, IsEntryOf, LayoutsState}

-- two entries are those of two treatments, and no slice is in both
pub record AreApart (one other : FindLayout) : Type 0 where
  pub numbers : one.number ≡ other.number → ⊥
  pub slices : (slice : ℕ) → Contains one.slices slice → Contains other.slices slice → ⊥

-- Each two of the entries are apart. Each has some slice, and its slices are below the room for entries, as they are below what a set
-- can have. No number is newer than that of the last tuning.
pub record AreEntries (room tunings : ℕ) (entries : List FindLayout) : Type 0 where
  pub some : (entry : FindLayout) → Contains entries entry → (slice : ℕ) × Contains entry.slices slice
  pub within : (entry : FindLayout) → Contains entries entry → (slice : ℕ) → Contains entry.slices slice → slice < room
  pub few : (entry : FindLayout) → Contains entries entry → (slice : ℕ) → Contains entry.slices slice → slice < MOST_SLICES
  pub upto : (entry : FindLayout) → Contains entries entry → entry.number ≤ tunings
  pub apart : AllPairs AreApart entries

-- one of the entries has the number of the last tuning where no layout is kept beside them, and else none has it
abbrev pub HasCurrent : List FindLayout → ℕ → Option LayoutId → Type 0
HasCurrent entries tunings next =
    MatchOption next ((entry : FindLayout) × Contains entries entry × (entry.number ≡ tunings)) (λ layout. (entry : FindLayout) → Contains entries entry → entry.number ≡ tunings → ⊥)

-- the entries are so, and the layout of the last tuning is in one of them or beside them
pub record AreTreatments (room : ℕ) (kept : LayoutsState) : Type 0 where
  pub entries : AreEntries room kept.tunings kept.treatments
  pub current : HasCurrent kept.treatments kept.tunings kept.next

-- the entry was taken out of the others
pub record IsTakenOut (before : List FindLayout) (entry : FindLayout) (after : List FindLayout) : Type 0 where
  pub place : ℕ
  pub in_range : place < length before
  pub is : entry ≡ slice_index_or before place entry
  pub after_are : after ≡ swap_remove before place entry

-- an entry of a treatment that no slice has yet
pub record IsNewEntry (number : ℕ) (layout : LayoutId) (entry : FindLayout) : Type 0 where
  pub number_is : entry.number ≡ number
  pub layout_is : entry.layout ≡ layout
  pub none : IsEmpty entry.slices

-- the entry of the current treatment was taken out, or is a new one with the layout that was kept beside the others
abbrev pub TakesCurrent : List FindLayout → Option LayoutId → ℕ → FindLayout → List FindLayout → Type 0
TakesCurrent before next number entry after =
    MatchOption next (IsTakenOut before entry after × (entry.number ≡ number)) (λ layout. (after ≡ before) × IsNewEntry number layout entry)

-- a slice was cleared: it has the current treatment, each other slice has the treatment that it had, and the current layout is the same
pub record IsRenewed (before : LayoutsState) (slice : ℕ) (after : LayoutsState) : Type 0 where
  pub every : (other : ℕ) (old : FindLayout) → IsEntryOf before other old → (entry : FindLayout) × IsEntryOf after other entry
  pub number : (entry : FindLayout) → IsEntryOf after slice entry → entry.number ≡ before.tunings
  pub laid : (entry : FindLayout) → IsEntryOf after slice entry → IsCurrentOf before entry.layout
  pub others : (other : ℕ) → (other ≡ slice → ⊥) → (entry : FindLayout) → IsEntryOf after other entry →
      (old : FindLayout) × IsEntryOf before other old × (entry.number ≡ old.number) × (entry.layout ≡ old.layout)
  pub current : (layout : LayoutId) → IsCurrentOf after layout → IsCurrentOf before layout
  pub tunings_are : after.tunings ≡ before.tunings

-- no treatment was left without slices: the slice had the current one, or another slice has its old one still
pub record EndsNoEntry (before : LayoutsState) (slice : ℕ) : Type 0 where
  pub entry : FindLayout
  pub of_slice : IsEntryOf before slice entry
  pub still : (entry.number ≡ before.tunings) ⊎ ((other : ℕ) × (other ≡ slice → ⊥) × Contains entry.slices other)

-- the slice had an older treatment that no other slice had, and this is its layout
pub record EndsEntry (before : LayoutsState) (slice : ℕ) (layout : LayoutId) : Type 0 where
  pub entry : FindLayout
  pub of_slice : IsEntryOf before slice entry
  pub older : entry.number ≡ before.tunings → ⊥
  pub alone : (other : ℕ) (same : FindLayout) → IsEntryOf before other same → same.number ≡ entry.number → other ≡ slice
  pub laid : layout ≡ entry.layout

-- some slice has the current treatment where no layout is kept beside the entries, and else none has it
abbrev pub IsBesideWhereUnused : LayoutsState → Option LayoutId → Type 0
IsBesideWhereUnused kept next =
    MatchOption next ((slice : ℕ) × (entry : FindLayout) × IsEntryOf kept slice entry × (entry.number ≡ kept.tunings))
    (λ layout. (slice : ℕ) (entry : FindLayout) → IsEntryOf kept slice entry → entry.number ≡ kept.tunings → ⊥)

-- the entry has those slices of another that are in a set, of which there is some, with the other's number and layout
pub record IsShare (slices : List ℕ) (whole entry : FindLayout) : Type 0 where
  pub some : (slice : ℕ) × Contains entry.slices slice
  pub has : (slice : ℕ) → Contains entry.slices slice ↔ (Contains whole.slices slice × Contains slices slice)
  pub number_is : entry.number ≡ whole.number
  pub layout_is : entry.layout ≡ whole.layout

-- the share of an entry was added, where some slice of the set is in it
abbrev pub AddsShare : List ℕ → FindLayout → List FindLayout → List FindLayout → Type 0
AddsShare slices whole before after =
    (((slice : ℕ) → Contains whole.slices slice → Contains slices slice → ⊥) × (after ≡ before))
    ⊎ ((entry : FindLayout) × IsShare slices whole entry × (after ≡ before ++ entry ∷ []))

-- each slice of the set that is in one of these entries is in one of the shares; each of these is the share of an entry, and no two have
-- one number
pub record AreShared (wholes : List FindLayout) (slices : List ℕ) (entries : List FindLayout) : Type 0 where
  pub every : (whole : FindLayout) → Contains wholes whole → (slice : ℕ) → Contains whole.slices slice → Contains slices slice →
      (entry : FindLayout) × Contains entries entry × Contains entry.slices slice
  pub each : (entry : FindLayout) → Contains entries entry → (whole : FindLayout) × Contains wholes whole × IsShare slices whole entry
  pub differ : AllPairs (λ (one other : FindLayout). one.number ≡ other.number → ⊥) entries
