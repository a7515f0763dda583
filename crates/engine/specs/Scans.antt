-- A scan of the slices of a find that one layout is of, slice by slice.
use Rattle.std.specs.Prelude.{◌≡◌, ℕ, List, All, Contains, nat_lt, not}
use Rattle.std.specs.List.{filter}
use Rattle.commit_desk.specs.declared.find_layouts.FindLayout.{FindLayout}
use Rattle.commit_desk.specs.Scans.{AreScannedFor, token_of}
use Rattle.engine.specs.declared.scanning.Planned.{Planned}
use Rattle.engine.specs.declared.scanning.Scanned.{Scanned}
use Rattle.engine.specs.declared.search.Search.{Search}
use Rattle.engine.specs.Searches.{residue_of}
use Rattle.funnel_model.specs.Configuration.{with_statistics}
use Rattle.funnel_model.specs.declared.claim.Token.{Token}
use Rattle.funnel_model.specs.declared.config.Config.{Config}
use Rattle.plan_rows.specs.Rests.{words_of_rest}
use Rattle.plan_rows.specs.Searches.{ArePlanned}
use Rattle.row_layout.specs.Layouts.{LayoutId}
use Rattle.row_layout.specs.Orders.{HasRowsOf}
use Rattle.row_layout.specs.Owners.{is_exact}
use Rattle.row_layout.specs.Rows.{IsRowOf}
use Rattle.row_read.specs.declared.shared.Shared.{Shared}
use Rattle.row_read.specs.SharedRows.{CanRead}
use Rattle.slice_rule.specs.Pools.{PoolId}
use Rattle.slice_rule.specs.Seats.{PassState}

-- a search is planned by a configuration: the plan has the rows of the words that it requires, of which those that aren't exact are left to
-- look for, and what else it asks is planned too
pub record IsPlannedFor (config : Config) (search : Search) (planned : Planned) : Type 0 where
  pub rows : HasRowsOf config search.words planned.plan
  pub laid : All (IsRowOf config) planned.plan
  pub rest : words_of_rest search.words planned.rest ≡ filter (λ word. not (is_exact config word)) search.words
  pub residue : ArePlanned config (residue_of search) planned.residue
  pub residue_laid : All (IsRowOf config) planned.residue.rows.items

-- the layout is one for slices of the pool: it has their room, and other statistics than the pool's configuration at most
pub record IsForPool (pool : PoolId) (layout : LayoutId) : Type 0 where
  pub room : layout.room ≡ pool.limits.slice_words
  pub sized : layout.config ≡ with_statistics pool.config layout.config

-- the rows are those of the pool, and the slices of the entry, which has a layout for them, may be read
pub record IsReadable (pool : PoolId) (shared : Shared) (entry : FindLayout) : Type 0 where
  pub same : shared.pool.now ≡ pool
  pub can_read : CanRead pool shared.seat.now shared.token.now
  pub among : (slice : ℕ) → Contains entry.slices slice → Contains shared.token.now.slices slice
  pub layout : IsForPool pool entry.layout

-- and the search is planned by that layout
pub record CanScan (pool : PoolId) (shared : Shared) (entry : FindLayout) (search : Search) (planned : Planned) : Type 0 where
  pub readable : IsReadable pool shared entry
  pub is_planned : IsPlannedFor entry.layout.config search planned

-- the token, but that it has the slices of the entry alone
abbrev pub part_of : FindLayout → Shared → Token
part_of entry shared = token_of entry.slices shared.token.now

-- the token, but that it has no slice from this one on
abbrev pub token_below : ℕ → Token → Token
token_below slices token = record token { slices = filter (λ slice. nat_lt slice slices) token.slices }

-- the slices of the token are scanned for the search, with these candidates
abbrev pub AreScanned : Config → PassState → Token → Search → List (ℕ × ℕ) → List (ℕ × ℕ) → Type 0
AreScanned config seat token search sure unsure = AreScannedFor config seat token search.words (residue_of search) sure unsure

-- those below this one are
abbrev pub AreScannedBelow : Config → PassState → Token → Search → ℕ → List (ℕ × ℕ) → List (ℕ × ℕ) → Type 0
AreScannedBelow config seat token search slices sure unsure = AreScanned config seat (token_below slices token) search sure unsure

-- the slices of the entry, which has a layout for them, are scanned for the search, with these candidates and these words left to look for
pub record IsScannedEntry (entry : FindLayout) (seat : PassState) (token : Token) (scanned : Scanned) : Type 0 where
  pub scan : AreScanned entry.layout.config seat (token_of entry.slices token) scanned.search.now scanned.hits.sure scanned.hits.unsure
  pub rest : words_of_rest scanned.search.now.words scanned.rest ≡ filter (λ word. not (is_exact entry.layout.config word)) scanned.search.now.words
