-- The layouts of slices: what they are after a history, and what the desk keeps of them.
use Rattle.std.specs.Prelude.{◌≡◌, ℕ, ◌+◌, ◌<◌, ◌≤◌, ◌⊎◌, List, fold, length, Contains, MatchOption, Option, None, Some, if◌then◌else◌}
use Rattle.std.specs.Option.{option_map_or}
use Rattle.funnel_model.specs.Configuration.{IsInRange, IsTuning, with_statistics}
use Rattle.funnel_model.specs.declared.config.Config.{Config}
use Rattle.funnel_model.specs.declared.event.Event.{Event}
use Rattle.funnel_model.specs.Events.{clears, tuning_of}
use Rattle.funnel_model.specs.Sizes.{words_of_slice}
use Rattle.funnel_model.specs.Tunings.{current, tunings}
use Rattle.row_layout.specs.Layouts.{LayoutId}
use Rattle.row_layout.specs.Sound.{slice_layout}
use Rattle.slice_rule.specs.Pools.{PoolId}
use Rattle.commit_desk.specs.declared.find_layouts.FindLayout.{FindLayout}

-- the layout that a slice gets when it is cleared after these events: that of the current configuration, in the room of the opening
abbrev pub current_layout : Config → List Event → LayoutId
current_layout opening history = record { config = current opening history; room = words_of_slice opening }

-- an engine with this opening may have the configuration: it has other statistics at most, its numbers are in their ranges, and a slice
-- has room for its rows
pub record SuitsOpening (opening config : Config) : Type 0 where
  pub sized : config ≡ with_statistics opening config
  pub in_range : IsInRange config
  pub fits : words_of_slice config ≤ words_of_slice opening

-- the layout is that of the slice after these events, and its configuration is one that an engine with this opening may have
pub record IsLayoutOf (opening : Config) (slice : ℕ) (history : List Event) (layout : LayoutId) : Type 0 where
  pub is : layout ≡ slice_layout opening slice history
  pub suits : SuitsOpening opening layout.config

-- the layout is the one that a slice gets when it is cleared now
pub record IsCurrentLayout (opening : Config) (history : List Event) (layout : LayoutId) : Type 0 where
  pub is : layout ≡ current_layout opening history
  pub suits : SuitsOpening opening layout.config

-- how many tunings there were, and beside it how many of them had come when the slice was last cleared
abbrev pub tunings_and_number : ℕ → List Event → ℕ × ℕ
tunings_and_number slice history =
    fold (λ both e. (option_map_or (λ config. both.0 + 1) (tuning_of e) both.0, if clears slice e then both.0 else both.1)) (0, 0) history

-- the number of the slice's treatment: how many tunings had come when it was last cleared, and 0 where it never was
abbrev pub treatment_number : ℕ → List Event → ℕ
treatment_number slice history = (tunings_and_number slice history).1

-- the slice has the current treatment: no tuning came since it was last cleared
abbrev pub IsTreatedNow : List Event → ℕ → Type 0
IsTreatedNow history slice = treatment_number slice history ≡ length (tunings history)

-- no treatment is left without slices where this one of so many is cleared: it has the current treatment, or another has the same
pub record EndsNoTreatment (slices : ℕ) (history : List Event) (slice : ℕ) : Type 0 where
  pub still : IsTreatedNow history slice
      ⊎ ((other : ℕ) × (other < slices) × (other ≡ slice → ⊥) × (treatment_number other history ≡ treatment_number slice history))

-- the slice has an older treatment that no other of so many has, and this is its layout
pub record EndsTreatment (opening : Config) (slices : ℕ) (history : List Event) (slice : ℕ) (layout : LayoutId) : Type 0 where
  pub older : IsTreatedNow history slice → ⊥
  pub alone : (other : ℕ) → other < slices → treatment_number other history ≡ treatment_number slice history → other ≡ slice
  pub laid : IsLayoutOf opening slice history layout

-- what is handed back of a slice that is cleared after these events: the layout of its older treatment, where no other slice has that
abbrev pub HandsBackOld : PoolId → List Event → ℕ → Option LayoutId → Type 0
HandsBackOld pool history slice old =
    MatchOption old (EndsNoTreatment pool.limits.slices history slice) (EndsTreatment pool.config pool.limits.slices history slice)

-- the layout is the current one, and none of so many slices has its treatment
pub record IsUnusedLayout (opening : Config) (slices : ℕ) (history : List Event) (layout : LayoutId) : Type 0 where
  pub current : IsCurrentLayout opening history layout
  pub unused : (slice : ℕ) → slice < slices → IsTreatedNow history slice → ⊥

-- what a tuning after these events hands back: the layout that was current, where no slice has its treatment
abbrev pub HandsBackUnused : PoolId → List Event → Option LayoutId → Type 0
HandsBackUnused pool history unused =
    MatchOption unused ((slice : ℕ) × (slice < pool.limits.slices) × IsTreatedNow history slice) (IsUnusedLayout pool.config pool.limits.slices history)

-- a tuning after these events is told how many there were with it, and hands this back
pub record IsTuned (pool : PoolId) (history : List Event) (count : ℕ) (unused : Option LayoutId) : Type 0 where
  pub count_is : count ≡ length (tunings history) + 1
  pub hands_back : HandsBackUnused pool history unused

-- What is kept: an entry for each treatment that some slice has, with its number, its layout and its slices; the current layout, while no
-- slice has the current treatment; and how many tunings there were.
pub record LayoutsState : Type 0 where
  pub treatments : List FindLayout
  pub next : Option LayoutId
  pub tunings : ℕ

-- the entry is one of those that are kept, and has the slice
pub record IsEntryOf (kept : LayoutsState) (slice : ℕ) (entry : FindLayout) : Type 0 where
  pub among : Contains kept.treatments entry
  pub has : Contains entry.slices slice

-- the layout is that of the slice's treatment
abbrev pub IsLaidBy : LayoutsState → ℕ → LayoutId → Type 0
IsLaidBy kept slice layout = (entry : FindLayout) × IsEntryOf kept slice entry × (layout ≡ entry.layout)

-- the layout is the current one: that which is kept beside the entries, or else that of the entry with the number of the last tuning
abbrev pub IsCurrentOf : LayoutsState → LayoutId → Type 0
IsCurrentOf kept layout =
    MatchOption kept.next ((entry : FindLayout) × Contains kept.treatments entry × (entry.number ≡ kept.tunings) × (layout ≡ entry.layout)) (λ next. layout ≡ next)

-- before any tuning each of so many slices has this layout, and the number of its treatment is 0
pub record AreFirst (slices : ℕ) (layout : LayoutId) (kept : LayoutsState) : Type 0 where
  pub every : (slice : ℕ) → slice < slices → (entry : FindLayout) × IsEntryOf kept slice entry
  pub within : (slice : ℕ) (entry : FindLayout) → IsEntryOf kept slice entry → slice < slices
  pub number : (entry : FindLayout) → Contains kept.treatments entry → entry.number ≡ 0
  pub laid : (entry : FindLayout) → Contains kept.treatments entry → entry.layout ≡ layout
  pub none_beside : kept.next ≡ None
  pub none_yet : kept.tunings ≡ 0

-- what is kept after one more tuning, whose layout no slice has yet
abbrev pub with_tuning : LayoutsState → Option LayoutId → LayoutsState
with_tuning kept next = record kept { next = next; tunings = kept.tunings + 1 }

-- an engine with this pool may be given the configuration, whose rows have room in a slice, and whose layout is there
pub record TunesWith (pool : PoolId) (config : Config) (next : Option LayoutId) : Type 0 where
  pub tuning : IsTuning pool.config config
  pub fits : words_of_slice config ≤ pool.limits.slice_words
  pub laid : next ≡ Some (record { config = config; room = pool.limits.slice_words })

-- Each of so many slices is in an entry, and no other slice is. The entry has the layout of each of its slices after these events, and the
-- number of its treatment. The current layout is the one that a slice gets when it is cleared now.
pub record AreLayoutsOf (opening : Config) (slices : ℕ) (history : List Event) (kept : LayoutsState) : Type 0 where
  pub every : (slice : ℕ) → slice < slices → (entry : FindLayout) × IsEntryOf kept slice entry
  pub within : (slice : ℕ) (entry : FindLayout) → IsEntryOf kept slice entry → slice < slices
  pub laid : (slice : ℕ) (entry : FindLayout) → IsEntryOf kept slice entry → IsLayoutOf opening slice history entry.layout
  pub numbered : (slice : ℕ) (entry : FindLayout) → IsEntryOf kept slice entry → treatment_number slice history ≡ entry.number
  pub current : (layout : LayoutId) → IsCurrentOf kept layout → IsCurrentLayout opening history layout
  pub tunings_are : kept.tunings ≡ length (tunings history)
