-- What the tests keep of a pool and of its passes.
use Rattle.std.specs.Prelude.{◌≡◌, ℕ, ◌*◌, ◌≤◌, List, [], length, map, Contains}
use Rattle.std.specs.List.{range_with_len}
use Rattle.commit_desk.specs.Passes.{IsFinding}
use Rattle.commit_desk.specs.declared.find_layouts.FindLayout.{FindLayout}
use Rattle.commit_desk.specs.Resolving.{CanGoOn}
use Rattle.commit_desk.specs.Scans.{AreOfToken}
use Rattle.document_store.specs.Finding.{FoundState}
use Rattle.funnel_model.specs.Configuration.{IsInRange}
use Rattle.funnel_model.specs.declared.claim.Token.{Token}
use Rattle.funnel_model.specs.declared.config.Config.{Config}
use Rattle.funnel_model.specs.Sizes.{columns_of_slice}
use Rattle.row_layout.specs.declared.row.TheConstants.{MOST_ROWS}
use Rattle.row_layout.specs.DocumentBits.{BitsState}
use Rattle.row_layout.specs.Layouts.{LayoutId, own_layout}
use Rattle.slice_rule.specs.Pools.{PoolId, limits_of}
use Rattle.slice_rule.specs.Seats.{PassState}

-- the pool has one slice or two, whose words are laid out by the configuration
pub record IsLayoutOfPool (layout : LayoutId) (pool : PoolId) : Type 0 where
  pub laid_out : layout ≡ own_layout pool.config
  pub limits : pool.limits ≡ limits_of layout.config layout.room
  pub some : 1 ≤ layout.config.slices
  pub few : layout.config.slices ≤ 2
  pub columns : 1 ≤ columns_of_slice layout.config

-- the pool has this name, and so has that of the desk; this is its configuration
pub record IsSetting (name : PoolId) (layout : LayoutId) (pool desk : PoolId) (base : Config) : Type 0 where
  pub of_name : pool ≡ name
  pub desk_of_name : desk ≡ name
  pub laid : IsLayoutOfPool layout name
  pub base_is : base ≡ name.config
  pub in_range : IsInRange base

-- there are no bits yet, and there is room for those of the words
pub record IsDraft (words : List (List ℕ)) (bits : BitsState) : Type 0 where
  pub no_bits : bits.bits ≡ []
  pub room : MOST_ROWS * length words ≤ bits.room

-- each slice of the entry is one that the find may read
abbrev pub AreSlicesOf : Token → FindLayout → Type 0
AreSlicesOf token entry = (slice : ℕ) → Contains entry.slices slice → Contains token.slices slice

-- the pass has a find open, of whose layouts this entry is one and those behind are others
pub record IsFindingAll (pool : PoolId) (token : Token) (entry : FindLayout) (behind : List FindLayout) (seat : PassState) : Type 0 where
  pub finding : IsFinding pool token seat
  pub of_token : AreSlicesOf token entry
  pub others : (other : FindLayout) → Contains behind other → AreSlicesOf token other

-- A find between its turns: columns that it may read are its candidates, and there is room for those that are left.
pub record IsLookingAtAll (pool : PoolId) (token : Token) (entry : FindLayout) (behind : List FindLayout) (seat : PassState) (columns : List (ℕ × ℕ)) (found : FoundState) (from : ℕ) : Type 0 where
  pub all : IsFindingAll pool token entry behind seat
  pub of_token : AreOfToken pool.limits.columns token columns
  pub can : CanGoOn columns found from

-- the first columns of a slice
unfoldable pub columns_up_to : ℕ → ℕ → List (ℕ × ℕ)
columns_up_to slice end = map (λ column. (slice, column)) (range_with_len 0 end)
