-- A scan goes from slice to slice.
use Rattle.std.proofs.Common.{◌≡◌, ℕ, ◌+◌, ◌<◌, ◌≤◌, ◌⊎◌, nat_lt, List, [], AllPairs, Contains, ◌↔◌, None, ap, sym, subst, ◌∙◌, ⊎_elim, inl, inr, arith}
use Rattle.std.proofs.lemmas.Bool.{cases_lt, lt-ltb, ltb-true}
use Rattle.std.proofs.lemmas.List.Elements.{All-contains, All-weaker, Contains-append_cases, Contains-append_left, Contains-append_right}
use Rattle.commit_desk.specs.declared.find_layouts.FindLayout.{FindLayout}
use Rattle.commit_desk.specs.Scans.{IsOfToken, IsScannedFor, WasReadBy, token_of}
use Rattle.engine.specs.Scans.{AreScanned, AreScannedBelow, CanScan, IsPlannedFor, IsReadable, part_of, token_below}
use Rattle.engine.specs.Searches.{residue_of}
use Rattle.engine.specs.declared.scanning.Planned.{Planned}
use Rattle.engine.specs.declared.search.Search.{Search}
use Rattle.engine.specs.Engines.{IsOfConfig}
use Rattle.engine.specs.Finds.{CanLookIn}
use Rattle.engine.proofs.CandidateParts.{candidate_is, candidate_of_column, candidates_once, pairs-append}
use Rattle.funnel_model.proofs.AnswerLemmas.{Contains-filter, Contains-filtered}
use Rattle.funnel_model.specs.declared.bit_list.Bit.{Bit}
use Rattle.funnel_model.specs.declared.claim.Token.{Token}
use Rattle.funnel_model.specs.declared.config.Config.{Config}
use Rattle.funnel_model.specs.declared.config.TheConstants.{MOST_SLICES}
use Rattle.funnel_model.specs.RowWords.{IsCommitted}
use Rattle.funnel_model.specs.Sizes.{columns_of_slice}
use Rattle.funnel_model.specs.SliceSets.{HasNoneFrom}
use Rattle.rank_matcher.proofs.DocumentHits.{plan-bits}
use Rattle.rank_matcher.specs.Appended.{AppendsColumns, appended, candidates_of}
use Rattle.funnel_model.proofs.SearchLemmas.{each-weaker}
use Rattle.rank_matcher.specs.Evaluation.{WasReadAt, WasReadSet, WasReadZero}
use Rattle.rank_matcher.specs.SearchScans.{CanSearch, ScansFor}
use Rattle.rank_matcher.specs.SliceScans.{CanScanSlice}
use Rattle.row_layout.proofs.ReadSearches.{tells-weaker}
use Rattle.row_layout.specs.AtomReads.{AtomPlan, AtomRead, BitRead, Tells, WasReadAs}
use Rattle.funnel_model.specs.Legal.{IsInSlice, Limits}
use Rattle.row_layout.specs.declared.row.Row.{Row}
use Rattle.row_layout.specs.DocumentBits.{IsDocumentBitIn, bit_of_row, slice_start}
use Rattle.row_layout.specs.Layouts.{LayoutId}
use Rattle.row_read.specs.declared.shared.Shared.{Shared}
use Rattle.row_read.specs.SharedRows.{CanRead, IsCommittedUnder, IsInReach, SharedKept, kept_of}
use Rattle.row_read.specs.SharedRows as shared
use Rattle.slice_rule.specs.declared.view.Fact.{Fact}
use Rattle.slice_rule.specs.Pools.{PoolId}
use Rattle.slice_rule.specs.Seats.{HoldsToken, PassState, WasReadUnder}

-- The slices of a token that are below one of them.
module _ (slices slice : ℕ) (token : Token) where
  pub is_below : Contains (token_below slices token).slices slice → Contains token.slices slice × (slice < slices)
  is_below has = let kept = Contains-filtered (λ s. nat_lt s slices) token.slices slice has in (kept.0, ltb-true slice slices kept.1)

  pub below : Contains token.slices slice → slice < slices → Contains (token_below slices token).slices slice
  below has low = Contains-filter (λ s. nat_lt s slices) token.slices slice has (lt-ltb slice slices low)

-- no slice is below slice 0
pub scanned_none : (config : Config) (seat : PassState) (token : Token) (search : Search) → AreScannedBelow config seat token search 0 [] []
scanned_none config seat token search = record {
  of_token = λ candidate has. absurd (nothing candidate has);
  sure_once = λ i j d lt within. absurd (omega (arith, within));
  unsure_once = λ i j d lt within. absurd (omega (arith, within));
  each = λ slice column has. let low = (is_below 0 slice token has).1 in absurd (omega (arith, low));
}
  where
    nothing : (candidate : ℕ × ℕ) → Contains [] candidate → ⊥
    nothing candidate (k, within, is) = omega (arith, within)

-- the token has no slice from this one on
pub scanned_all : (config : Config) (seat : PassState) (token : Token) (search : Search) (slices : ℕ) (sure unsure : List (ℕ × ℕ)) → HasNoneFrom token.slices slices →
    AreScannedBelow config seat token search slices sure unsure → AreScanned config seat token search sure unsure
scanned_all config seat token search slices sure unsure none scanned = record {
  of_token = λ candidate has.
      let of = scanned.of_token candidate has in
      record { slice = (is_below slices candidate.0 token of.slice).0; column = of.column };
  sure_once = scanned.sure_once;
  unsure_once = scanned.unsure_once;
  each = λ slice column has.
      scanned.each slice column
      (below slices slice token has (⊎_elim (λ (low : slice < slices). low) (λ (high : slices ≤ slice). absurd (none slice high has)) (cases_lt slice slices)));
}

-- what is of a slice below one is of a slice below a later one
pub of_token_later : (columns slices later : ℕ) (token : Token) (candidate : ℕ × ℕ) → slices ≤ later → IsOfToken columns (token_below slices token) candidate →
    IsOfToken columns (token_below later token) candidate
of_token_later columns slices later token candidate order of =
    let has = is_below slices candidate.0 token of.slice in
    let low = has.1 in
    record { slice = below later candidate.0 token has.0 (omega (arith, low, order)); column = of.column }

-- the token has no slice from the one on that is below the other
pub scanned_without : (config : Config) (seat : PassState) (token : Token) (search : Search) (slices later : ℕ) (sure unsure : List (ℕ × ℕ)) → slices ≤ later →
    ((slice : ℕ) → slices ≤ slice → slice < later → Contains token.slices slice → ⊥) → AreScannedBelow config seat token search slices sure unsure →
    AreScannedBelow config seat token search later sure unsure
scanned_without config seat token search slices later sure unsure order lacks scanned = record {
  of_token = λ candidate has. of_token_later seat.pool.limits.columns slices later token candidate order (scanned.of_token candidate has);
  sure_once = scanned.sure_once;
  unsure_once = scanned.unsure_once;
  each = λ slice column has. let is = is_below later slice token has in here slice is.1 is.0 column (cases_lt slice slices);
}
  where
    here : (slice : ℕ) → slice < later → Contains token.slices slice → (column : ℕ) → (slice < slices) ⊎ (slices ≤ slice) → column < seat.pool.limits.columns →
        IsScannedFor config seat token.opened_at search.words (residue_of search) sure unsure slice column
    here slice low has column (inl lower) = scanned.each slice column (below slices slice token has lower)
    here slice low has column (inr high) = absurd (lacks slice high low has)

-- Columns of one slice that are appended to candidates of slices below it.
module _ (layout : LayoutId) (slice : ℕ) (old new : List (ℕ × ℕ)) (appends : AppendsColumns layout slice old new) (low : (candidate : ℕ × ℕ) → Contains old candidate → candidate.0 < slice) where
  abbrev columns : List ℕ
  columns = appended old new

  cases : (candidate : ℕ × ℕ) → Contains new candidate → Contains old candidate ⊎ Contains (candidates_of slice columns) candidate
  cases candidate has = Contains-append_cases old (candidates_of slice columns) candidate (subst (λ cs. Contains cs candidate) appends.appends has)

  -- those of the slice are these columns
  pub of_slice : (column : ℕ) → Contains new (slice, column) ↔ Contains columns column
  of_slice column = (
    λ has.
        ⊎_elim (λ (h : Contains old (slice, column)). let less = low (slice, column) h in absurd (omega (arith, less)))
        (λ (h : Contains (candidates_of slice columns) (slice, column)). (candidate_is slice columns (slice, column) h).1) (cases (slice, column) has),
    λ of. subst (λ cs. Contains cs (slice, column)) (sym appends.appends) (Contains-append_right old (candidates_of slice columns) (slice, column) (candidate_of_column slice columns column of)),
  )

  -- those of the slices below are as they were
  pub of_older : (s column : ℕ) → s < slice → Contains new (s, column) ↔ Contains old (s, column)
  of_older s column less = (
    λ has.
        ⊎_elim (λ (h : Contains old (s, column)). h)
        (λ (h : Contains (candidates_of slice columns) (s, column)). let is = (candidate_is slice columns (s, column) h).0 in absurd (omega (arith, less, is))) (cases (s, column) has),
    λ of. subst (λ cs. Contains cs (s, column)) (sym appends.appends) (Contains-append_left old (candidates_of slice columns) (s, column) of),
  )

  pub new_of_token : (token : Token) → Contains token.slices slice → ((candidate : ℕ × ℕ) → Contains old candidate → IsOfToken (columns_of_slice layout.config) (token_below slice token) candidate) →
      (candidate : ℕ × ℕ) → Contains new candidate → IsOfToken (columns_of_slice layout.config) (token_below (slice + 1) token) candidate
  new_of_token token here old_of candidate has =
      ⊎_elim (λ (h : Contains old candidate). of_token_later (columns_of_slice layout.config) slice (slice + 1) token candidate (omega arith) (old_of candidate h))
      (λ (h : Contains (candidates_of slice columns) candidate).
      let is = candidate_is slice columns candidate h in
      record {
        slice = subst (Contains (token_below (slice + 1) token).slices) (sym is.0) (below (slice + 1) slice token here (omega arith));
        column = All-contains (λ column. column < columns_of_slice layout.config) columns candidate.1 appends.in_slice is.1;
      })
      (cases candidate has)

  pub new_once : AllPairs (λ (candidate other : ℕ × ℕ). candidate ≡ other → ⊥) old → AllPairs (λ (candidate other : ℕ × ℕ). candidate ≡ other → ⊥) new
  new_once once =
      subst (AllPairs (λ (candidate other : ℕ × ℕ). candidate ≡ other → ⊥)) (sym appends.appends)
      (pairs-append (λ (candidate other : ℕ × ℕ). candidate ≡ other → ⊥) old (candidates_of slice columns) once (candidates_once slice columns appends.rising)
      (λ candidate other of_first of_second same.
      let less = low candidate of_first in
      let is = (candidate_is slice columns other of_second).0 in
      let slices = ap (λ (c : ℕ × ℕ). c.0) same in
      omega (arith, less, is, slices)))

-- A slice that the token has was scanned too, by a pass that read more meanwhile. The rows were read by a token that may have more slices.
module _ (layout : LayoutId) (before : PassState) (own told : List Fact) (token whole : Token) (search : Search) (planned : Planned) (slice : ℕ) (old_sure old_unsure new_sure new_unsure : List (ℕ × ℕ))
    (sizes : before.pool.limits.columns ≡ columns_of_slice layout.config) (room : layout.room ≡ before.pool.limits.slice_words) (here : Contains token.slices slice)
    (readable : Contains whole.slices slice) (is_planned : IsPlannedFor layout.config search planned)
    (scanned : AreScannedBelow layout.config before token search slice old_sure old_unsure) where
  abbrev after : PassState
  after = record before { own = own; told = told }

  abbrev least : Bit → Type 0
  least bit = (s : ℕ) × Contains whole.slices s × IsCommitted before.front s bit

  abbrev seen : Bit → Type 0
  seen = WasReadUnder after token.opened_at

  module _ (seen_stays : (bit : Bit) → WasReadUnder before token.opened_at bit → seen bit)
      (did : ScansFor None least seen layout planned.plan is_planned.residue.plans slice old_sure old_unsure new_sure new_unsure) where
    low_sure : (candidate : ℕ × ℕ) → Contains old_sure candidate → candidate.0 < slice
    low_sure candidate has = (is_below slice candidate.0 token (scanned.of_token candidate (Contains-append_left old_sure old_unsure candidate has)).slice).1

    low_unsure : (candidate : ℕ × ℕ) → Contains old_unsure candidate → candidate.0 < slice
    low_unsure candidate has = (is_below slice candidate.0 token (scanned.of_token candidate (Contains-append_right old_sure old_unsure candidate has)).slice).1

    -- what was read of a column before is read still
    atom_still : (s column : ℕ) (plan : AtomPlan) (read : AtomRead) → WasReadBy before token.opened_at s column plan read → WasReadBy after token.opened_at s column plan read
    atom_still s column plan read was = record {
      of_plan = was.of_plan;
      tells = All-weaker
          (λ (b : Row × BitRead). Tells (λ bit. IsCommitted before.front s bit → ⊥) (WasReadUnder before token.opened_at) b.1 (bit_of_row before.pool.limits.slice_words s column b.0))
          (λ (b : Row × BitRead). Tells (λ bit. IsCommitted before.front s bit → ⊥) seen b.1 (bit_of_row before.pool.limits.slice_words s column b.0))
          (λ b. tells-weaker (λ bit. IsCommitted before.front s bit → ⊥) (WasReadUnder before token.opened_at) (λ bit. IsCommitted before.front s bit → ⊥) seen (λ bit none. none) seen_stays
          b.1 (bit_of_row before.pool.limits.slice_words s column b.0)) read.bits was.tells;
    }

    older : (s column : ℕ) → s < slice → Contains token.slices s → column < before.pool.limits.columns →
        IsScannedFor layout.config after token.opened_at search.words (residue_of search) new_sure new_unsure s column
    older s column less has inside =
        let is = scanned.each s column (below slice s token has less) inside in
        let in_sure = of_older layout slice old_sure new_sure did.appends_sure low_sure s column less in
        let in_unsure = of_older layout slice old_unsure new_unsure did.appends_unsure low_unsure s column less in
        record {
          is_left = is.is_left;
          may_be = is.may_be;
          sure_is = is.sure_is;
          covered = is.covered;
          required = λ left bit of. seen_stays bit (is.required left bit of);
          asked = λ left.
              let read = is.asked left in
              record {
                plans = read.plans;
                planned = read.planned;
                reads = read.reads;
                were_read = each-weaker (WasReadBy before token.opened_at s column) (WasReadBy after token.opened_at s column) (atom_still s column) read.plans read.reads read.were_read;
                may_is = read.may_is;
                sure_as = read.sure_as;
              };
          among_sure = (λ h. is.among_sure.0 (in_sure.0 h), λ t. in_sure.1 (is.among_sure.1 t));
          among_unsure = (λ h. is.among_unsure.0 (in_unsure.0 h), λ t. in_unsure.1 (is.among_unsure.1 t));
        }

    -- what was read of a column of the slice
    atom_here : (column : ℕ) (plan : AtomPlan) (read : AtomRead) → WasReadAt None least seen (slice_start layout.room slice) column plan read → WasReadBy after token.opened_at slice column plan read
    atom_here column plan read was =
        subst (λ n. WasReadAs (λ bit. IsCommitted before.front slice bit → ⊥) seen (bit_of_row n slice column) plan read) room
        (record {
          of_plan = was.of_plan;
          tells = All-weaker
              (λ (b : Row × BitRead). Tells (WasReadZero None least) (WasReadSet None seen) b.1 (bit_of_row layout.room slice column b.0))
              (λ (b : Row × BitRead). Tells (λ bit. IsCommitted before.front slice bit → ⊥) seen b.1 (bit_of_row layout.room slice column b.0))
              (λ b. tells-weaker (WasReadZero None least) (WasReadSet None seen) (λ bit. IsCommitted before.front slice bit → ⊥) seen
              (λ bit zero committed. zero.not_least (slice, readable, committed)) (λ bit set. set.was_seen) b.1 (bit_of_row layout.room slice column b.0)) read.bits was.tells;
        })

    newer : (column : ℕ) → column < columns_of_slice layout.config → IsScannedFor layout.config after token.opened_at search.words (residue_of search) new_sure new_unsure slice column
    newer column inside =
        let at = did.each column inside in
        let in_sure = of_slice layout slice old_sure new_sure did.appends_sure low_sure column in
        let in_unsure = of_slice layout slice old_unsure new_unsure did.appends_unsure low_unsure column in
        record {
          is_left = at.is_left;
          may_be = at.may_be;
          sure_is = at.sure_is;
          covered = λ all.
              at.left.covered
              (plan-bits least layout search.words slice column
              (λ bit of. (slice, readable, all bit (subst (λ n. IsDocumentBitIn n layout.config search.words slice column bit) room of))) planned.plan is_planned.rows);
          required = λ left bit of.
              let found = subst (λ n. IsDocumentBitIn n layout.config search.words slice column bit) (sym room) of in
              subst seen (sym found.2)
              (All-contains (λ row. seen (bit_of_row layout.room slice column row)) planned.plan found.0 (at.left.were_seen left) ((is_planned.rows found.0).1 found.1));
          asked = λ left.
              let read = at.read left in
              record {
                plans = is_planned.residue.plans;
                planned = is_planned.residue.alike;
                reads = read.reads;
                were_read = each-weaker (WasReadAt None least seen (slice_start layout.room slice) column) (WasReadBy after token.opened_at slice column) (atom_here column) is_planned.residue.plans read.reads read.were_read;
                may_is = read.may_is;
                sure_as = read.sure_as;
              };
          among_sure = (λ h. at.among_sure.0 (in_sure.0 h), λ t. in_sure.1 (at.among_sure.1 t));
          among_unsure = (λ h. at.among_unsure.0 (in_unsure.0 h), λ t. in_unsure.1 (at.among_unsure.1 t));
        }

    pub scanned_more : AreScannedBelow layout.config after token search (slice + 1) new_sure new_unsure
    scanned_more = record {
      of_token = λ candidate has.
          subst (λ n. IsOfToken n (token_below (slice + 1) token) candidate) (sym sizes)
          (⊎_elim
          (λ (h : Contains new_sure candidate).
          new_of_token layout slice old_sure new_sure did.appends_sure low_sure token here
          (λ c of. subst (λ n. IsOfToken n (token_below slice token) c) sizes (scanned.of_token c (Contains-append_left old_sure old_unsure c of))) candidate h)
          (λ (h : Contains new_unsure candidate).
          new_of_token layout slice old_unsure new_unsure did.appends_unsure low_unsure token here
          (λ c of. subst (λ n. IsOfToken n (token_below slice token) c) sizes (scanned.of_token c (Contains-append_right old_sure old_unsure c of))) candidate h)
          (Contains-append_cases new_sure new_unsure candidate has));
      sure_once = new_once layout slice old_sure new_sure did.appends_sure low_sure scanned.sure_once;
      unsure_once = new_once layout slice old_unsure new_unsure did.appends_unsure low_unsure scanned.unsure_once;
      each = λ s column has inside. let is = is_below (slice + 1) s token has in by_slice s column is.0 is.1 inside (cases_lt s slice);
    }
      where
        by_slice : (s column : ℕ) → Contains token.slices s → s < slice + 1 → column < before.pool.limits.columns → (s < slice) ⊎ (slice ≤ s) →
            IsScannedFor layout.config after token.opened_at search.words (residue_of search) new_sure new_unsure s column
        by_slice s column has low inside (inl less) = older s column less has inside
        by_slice s column has low inside (inr high) =
            let same : s ≡ slice = omega (arith, low, high) in
            subst (λ n. IsScannedFor layout.config after token.opened_at search.words (residue_of search) new_sure new_unsure n column) (sym same) (newer column (subst (λ n. column < n) sizes inside))

-- What reads keep of a pass.
module _ (before after : Shared) (kept : kept_of after ≡ kept_of before) where
  pub seat_kept : after.seat.now ≡ record before.seat.now { own = after.seat.now.own; told = after.seat.now.told }
  seat_kept =
      ap (λ (k : SharedKept). record { pool = k.seat_pool; number = k.number; front = k.front; asked = k.asked; own = after.seat.now.own; told = after.seat.now.told }) kept

  pub token_kept : after.token.now ≡ before.token.now
  token_kept = ap (λ (k : SharedKept). k.token) kept

  pub part_kept : (entry : FindLayout) → part_of entry after ≡ part_of entry before
  part_kept entry = ap (λ (t : Token). token_of entry.slices t) token_kept

-- a pass that did more still holds its token
pub holds_still : (seat : PassState) (own told : List Fact) (token : Token) → HoldsToken seat token → HoldsToken (record seat { own = own; told = told }) token
holds_still seat own told token holds = record { begun = holds.begun; at_place = holds.at_place; slices = holds.slices }

-- nor do they change what it may read
pub read_kept : (pool : PoolId) (before after : Shared) → kept_of after ≡ kept_of before → CanRead pool before.seat.now before.token.now → CanRead pool after.seat.now after.token.now
read_kept pool before after kept can_read =
    let own = after.seat.now.own in
    let told = after.seat.now.told in
    let did : CanRead pool (record before.seat.now { own = own; told = told }) before.token.now = record {
      same = can_read.same;
      holds = holds_still before.seat.now own told before.token.now can_read.holds;
      none_outstanding = can_read.none_outstanding;
    } in
    subst (CanRead pool after.seat.now) (sym (token_kept before after kept)) (subst (λ (s : PassState). CanRead pool s before.token.now) (sym (seat_kept before after kept)) did)

pub readable_kept : (pool : PoolId) (before after : Shared) (entry : FindLayout) → kept_of after ≡ kept_of before → IsReadable pool before entry → IsReadable pool after entry
readable_kept pool before after entry kept readable = record {
  same = ap (λ (k : SharedKept). k.pool) kept ∙ readable.same;
  can_read = read_kept pool before after kept readable.can_read;
  among = λ slice has. subst (λ (t : Token). Contains t.slices slice) (sym (token_kept before after kept)) (readable.among slice has);
  layout = readable.layout;
}

pub scan_kept : (pool : PoolId) (before after : Shared) (entry : FindLayout) (search : Search) (planned : Planned) → kept_of after ≡ kept_of before → CanScan pool before entry search planned →
    CanScan pool after entry search planned
scan_kept pool before after entry search planned kept scan = record { readable = readable_kept pool before after entry kept scan.readable; is_planned = scan.is_planned }

-- what a find may read of an entry of its layouts, once its rows are those of the pool
pub readable_by : (pool : PoolId) (entry : FindLayout) (pass : PassState) (token : Token) (rows : Shared) → CanLookIn pool pass token entry → CanRead rows.pool.now rows.seat.now rows.token.now →
    rows.pool.now ≡ pool → rows.token.now ≡ token → IsReadable pool rows entry
readable_by pool entry pass token rows look can_read same token_is =
    let found = look.laid look.finding.holds.begun in
    record {
      same = same;
      can_read = subst (λ (p : PoolId). CanRead p rows.seat.now rows.token.now) same can_read;
      among = λ slice has. subst (λ (t : Token). Contains t.slices slice) (sym token_is) (look.among slice has);
      layout = record { room = found.room; sized = found.suits.sized };
    }

-- What may be read by a layout of the pool.
module _ (pool : PoolId) (shared : Shared) (entry : FindLayout) (of_config : IsOfConfig pool) (readable : IsReadable pool shared entry) where
  -- the slices of the entry are slices of the pool
  pub in_pool : (slice : ℕ) → Contains entry.slices slice → slice < pool.config.slices
  in_pool slice has =
      subst (λ n. slice < n) (ap (λ (p : PoolId). p.limits.slices) readable.can_read.same ∙ ap (λ (l : Limits). l.slices) of_config.limits)
      ((readable.can_read.holds.slices slice).0 (readable.among slice has)).0

  -- so each is one that a set can have
  pub in_set : (slice : ℕ) → Contains entry.slices slice → slice < MOST_SLICES
  in_set slice has = let low = in_pool slice has in let few = of_config.valid.in_range.slices in omega (arith, low, few)

  -- and of its layout, whose slices have the columns and the words of the pool's
  pub in_layout : (slice : ℕ) → Contains entry.slices slice → slice < entry.layout.config.slices
  in_layout slice has = subst (λ n. slice < n) (sym (ap (λ (k : Config). k.slices) readable.layout.sized)) (in_pool slice has)

  pub same_columns : shared.seat.now.pool.limits.columns ≡ columns_of_slice entry.layout.config
  same_columns =
      ap (λ (p : PoolId). p.limits.columns) readable.can_read.same ∙ ap (λ (l : Limits). l.columns) of_config.limits
      ∙ sym (ap columns_of_slice readable.layout.sized)

  pub same_room : entry.layout.room ≡ shared.seat.now.pool.limits.slice_words
  same_room = readable.layout.room ∙ sym (ap (λ (p : PoolId). p.limits.slice_words) readable.can_read.same)

  -- each of its words is in reach
  pub in_reach : (slice : ℕ) → Contains entry.slices slice → (word : ℕ) → IsInSlice entry.layout.room slice word → IsInReach shared word
  in_reach slice has word inside = record {
    can_read = subst (λ (p : PoolId). CanRead p shared.seat.now shared.token.now) (sym readable.same) readable.can_read;
    slice = slice;
    readable = readable.among slice has;
    inside = subst (λ n. IsInSlice n slice word) (readable.layout.room ∙ sym (ap (λ (p : PoolId). p.limits.slice_words) readable.same)) inside;
  }

-- so each slice of the entry can be scanned by a plan for the layout
pub can_scan_slice : (pool : PoolId) (rows : Shared) (entry : FindLayout) (search : Search) (planned : Planned) → IsOfConfig pool → CanScan pool rows entry search planned → (slice : ℕ) →
    Contains entry.slices slice → CanScanSlice (IsInReach rows) entry.layout planned.plan slice
can_scan_slice pool rows entry search planned of_config can slice has = record {
  in_range = in_layout pool rows entry of_config can.readable slice has;
  laid = can.is_planned.laid;
  reaches = in_reach pool rows entry of_config can.readable slice has;
}

pub can_search_slice : (pool : PoolId) (rows : Shared) (entry : FindLayout) (search : Search) (planned : Planned) → IsOfConfig pool → CanScan pool rows entry search planned → (slice : ℕ) →
    Contains entry.slices slice → CanSearch (IsInReach rows) entry.layout planned.residue slice
can_search_slice pool rows entry search planned of_config can slice has = record {
  can_scan = record {
    in_range = in_layout pool rows entry of_config can.readable slice has;
    laid = can.is_planned.residue_laid;
    reaches = in_reach pool rows entry of_config can.readable slice has;
  };
  searches = can.is_planned.residue.plans;
  are_plans = can.is_planned.residue.are_plans;
}

-- One more slice is scanned, of which the reads are those of the rows.
pub scanned_slice : (pool : PoolId) (before after : Shared) (entry : FindLayout) (search : Search) (planned : Planned) (slice : ℕ) (old_sure old_unsure new_sure new_unsure : List (ℕ × ℕ)) →
    IsOfConfig pool → (can : CanScan pool before entry search planned) → kept_of after ≡ kept_of before → Contains entry.slices slice →
    AreScannedBelow entry.layout.config before.seat.now (part_of entry before) search slice old_sure old_unsure →
    ScansFor None (IsCommittedUnder before) (shared.WasReadSet after) entry.layout planned.plan can.is_planned.residue.plans slice old_sure old_unsure new_sure new_unsure →
    ((bit : Bit) → shared.WasReadSet before bit → shared.WasReadSet after bit) → AreScannedBelow entry.layout.config after.seat.now (part_of entry after) search (slice + 1) new_sure new_unsure
scanned_slice pool before after entry search planned slice old_sure old_unsure new_sure new_unsure of_config can kept has below did seen_stays =
    let part = part_of entry before in
    let layout = entry.layout in
    let own = after.seat.now.own in
    let told = after.seat.now.told in
    let seat = seat_kept before after kept in
    let same_number : after.token.now.opened_at ≡ before.token.now.opened_at = ap (λ (t : Token). t.opened_at) (token_kept before after kept) in
    let here : (bit : Bit) → shared.WasReadSet after bit → WasReadUnder (record before.seat.now { own = own; told = told }) part.opened_at bit =
    λ bit was. subst (λ (s : PassState). WasReadUnder s part.opened_at bit) seat (subst (λ n. WasReadUnder after.seat.now n bit) same_number was) in
    subst (λ (t : Token). AreScannedBelow layout.config after.seat.now t search (slice + 1) new_sure new_unsure) (sym (part_kept before after kept entry))
    (subst (λ (s : PassState). AreScannedBelow layout.config s part search (slice + 1) new_sure new_unsure) (sym seat)
    (scanned_more layout before.seat.now own told part before.token.now search planned slice old_sure old_unsure new_sure new_unsure
    (same_columns pool before entry of_config can.readable) (same_room pool before entry of_config can.readable) has (can.readable.among slice has) can.is_planned below
    (λ bit was. here bit (seen_stays bit was))
    (subst
    (λ (s : PassState). ScansFor None (IsCommittedUnder before) (WasReadUnder s part.opened_at) layout planned.plan can.is_planned.residue.plans slice old_sure old_unsure new_sure new_unsure) seat
    (subst (λ n. ScansFor None (IsCommittedUnder before) (WasReadUnder after.seat.now n) layout planned.plan can.is_planned.residue.plans slice old_sure old_unsure new_sure new_unsure) same_number did))))
