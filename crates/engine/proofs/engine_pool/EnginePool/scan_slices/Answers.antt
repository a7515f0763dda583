use Rattle.std.proofs.Common.{ℕ, List, None, [], refl, subst, sym, ◌∙◌, arith}
use Rattle.engine.proofs.Scans.{can_scan_slice, can_search_slice, in_set, scan_kept, scanned_all, scanned_none, scanned_slice, scanned_without}
use Rattle.engine.specs.Engines.{IsOfConfig}
use Rattle.engine.specs.Scans.{AreScannedBelow, CanScan, part_of}
use Rattle.rank_matcher.specs.SearchScans.{CanSearch, ScansFor}
use Rattle.rank_matcher.specs.SliceScans.{CanScanSlice}
use Rattle.row_layout.specs.Layouts.{LayoutId}
use Rattle.row_read.specs.SharedRows.{IsCommittedUnder, IsInReach, WasReadSet}
use Rattle.engine.proofs.engine_pool.EnginePool.scan_slices.Goals as goal

pub loop-slice-init : goal.loop-slice-init
loop-slice-init g c =
    let rows = c.args.rows.now in
    let entry = c.args.entry.now in
    record {
      within = omega arith;
      kept = refl;
      scanned = λ search planned.
          subst (λ (cs : List (ℕ × ℕ)). AreScannedBelow entry.layout.config rows.seat.now (part_of entry rows) search 0 cs c.args.hits.now.unsure) (sym c.requires.none_sure)
          (subst (AreScannedBelow entry.layout.config rows.seat.now (part_of entry rows) search 0 []) (sym c.requires.none_unsure)
          (scanned_none entry.layout.config rows.seat.now (part_of entry rows) search));
    }

pub scan-requires-clause-required : goal.scan-requires-clause-required
scan-requires-clause-required g c =
    let pool = c.args.self.now in
    let entry = c.args.entry.now in
    let planned = c.args.planned.now in
    let slice = c.in-Some.slice in
    let some = c.requires.scan in
    let of_config = subst IsOfConfig c.self.view_is c.self.invariant.of_config in
    let can = scan_kept pool c.args.rows.now c.loop-slice.rows entry some.0 planned c.loop-slice.invariant.kept some.1 in
    subst (λ (l : LayoutId). CanScanSlice (IsInReach c.loop-slice.rows) l planned.plan slice) (sym c.layout.ensures)
    (can_scan_slice pool c.loop-slice.rows entry some.0 planned of_config can slice c.in-Some.ensures.in_set)

pub scan-requires-clause-residue : goal.scan-requires-clause-residue
scan-requires-clause-residue g c =
    let pool = c.args.self.now in
    let entry = c.args.entry.now in
    let planned = c.args.planned.now in
    let slice = c.in-Some.slice in
    let some = c.requires.scan in
    let of_config = subst IsOfConfig c.self.view_is c.self.invariant.of_config in
    let can = scan_kept pool c.args.rows.now c.loop-slice.rows entry some.0 planned c.loop-slice.invariant.kept some.1 in
    subst (λ (l : LayoutId). CanSearch (IsInReach c.loop-slice.rows) l planned.residue slice) (sym c.layout.ensures)
    (can_search_slice pool c.loop-slice.rows entry some.0 planned of_config can slice c.in-Some.ensures.in_set)

pub overflow_add-from : goal.overflow_add-from
overflow_add-from g c =
    let of_config = subst IsOfConfig c.self.view_is c.self.invariant.of_config in
    let few = in_set c.args.self.now c.args.rows.now c.args.entry.now of_config c.requires.scan.1.readable c.in-Some.slice c.in-Some.ensures.in_set in
    omega (arith, few)

pub loop-slice-preserved : goal.loop-slice-preserved
loop-slice-preserved g c =
    let pool = c.args.self.now in
    let start = c.args.rows.now in
    let before = c.loop-slice.rows in
    let after = c.scan.new.rows in
    let entry = c.args.entry.now in
    let planned = c.args.planned.now in
    let slice = c.in-Some.slice in
    let old = c.loop-slice.hits in
    let new = c.scan.new.hits in
    let inv = c.loop-slice.invariant in
    let next = c.in-Some.ensures in
    let did = c.in_ok-scan.ensures in
    let of_config = subst IsOfConfig c.self.view_is c.self.invariant.of_config in
    record {
      within = let few = in_set pool start entry of_config c.requires.scan.1.readable slice next.in_set in omega (arith, few);
      kept = did.kept ∙ inv.kept;
      scanned = λ search is_planned.
          let can : CanScan pool before entry search planned =
          record { readable = (scan_kept pool start before entry c.requires.scan.0 planned inv.kept c.requires.scan.1).readable; is_planned = is_planned } in
          scanned_slice pool before after entry search planned slice old.sure old.unsure new.sure new.unsure of_config can did.kept next.in_set
          (scanned_without entry.layout.config before.seat.now (part_of entry before) search c.loop-slice.from slice old.sure old.unsure next.from_on next.lowest (inv.scanned search is_planned))
          (subst (λ (l : LayoutId). ScansFor None (IsCommittedUnder before) (WasReadSet after) l planned.plan is_planned.residue.plans slice old.sure old.unsure new.sure new.unsure) c.layout.ensures
          (did.scans is_planned.residue.plans is_planned.residue.are_plans))
          did.seen_stays;
    }

pub loop-slice-smaller : goal.loop-slice-smaller
loop-slice-smaller g c =
    let of_config = subst IsOfConfig c.self.view_is c.self.invariant.of_config in
    let few = in_set c.args.self.now c.args.rows.now c.args.entry.now of_config c.requires.scan.1.readable c.in-Some.slice c.in-Some.ensures.in_set in
    let on = c.in-Some.ensures.from_on in
    omega (arith, few, on)

pub returns-in_err-scan-clause-kept : goal.returns-in_err-scan-clause-kept
returns-in_err-scan-clause-kept g c = c.scan.ensures.kept ∙ c.loop-slice.invariant.kept

pub returns-clause-scanned : goal.returns-clause-scanned
returns-clause-scanned g c search is_planned =
    let rows = c.loop-slice.rows in
    let entry = c.args.entry.now in
    scanned_all entry.layout.config rows.seat.now (part_of entry rows) search c.loop-slice.from c.loop-slice.hits.sure c.loop-slice.hits.unsure c.in_default.ensures (c.loop-slice.invariant.scanned search is_planned)

pub returns-clause-kept : goal.returns-clause-kept
returns-clause-kept g c = c.loop-slice.invariant.kept
