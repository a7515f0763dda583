use Rattle.std.proofs.Common.{◌≡◌, ℕ, ◌+◌, ◌-◌, ◌*◌, ◌/◌, ◌^◌, ◌≤◌, List, [], ap, sym, subst, ◌∙◌, arith}
use Rattle.std.specs.List.{All}
use Rattle.std.proofs.lemmas.List.Elements.{All-weaker}
use Rattle.funnel_model.specs.Configuration.{IsInRange}
use Rattle.funnel_model.specs.Sizes.{columns_of_slice}
use Rattle.funnel_model.specs.declared.config.Config.{Config}
use Rattle.rank_matcher.specs.Reads.{shown_reads, reads_of_scan, words_of_plan}
use Rattle.rank_matcher.specs.Walk.{HasFound, HasFoundPart, IsReadable, IsTestOf, IsWhole, has_column, reads_between, words_between}
use Rattle.rank_matcher.proofs.ColumnTests.{test-ones}
use Rattle.rank_matcher.proofs.Intersections.{if_told}
use Rattle.rank_matcher.proofs.Scans.{SpansSlice, Part, Whole, all-covered, all-hits, all_below_rank, none_from_rank, over-of_row, part-appends, part-in_slice, part-of_hits, part-rising, part-seen, readable-row, reads-of_slice, whole-of_row, words-of_slice, words-of_slice_rows}
use Rattle.rank_matcher.proofs.Walks.{on_ok}
use Rattle.row_layout.specs.DocumentBits.{slice_start}
use Rattle.row_layout.specs.Orders.{rows_below_rank, rows_from_rank}
use Rattle.row_layout.specs.Rows.{IsRowOf}
use Rattle.row_layout.specs.declared.row.Row.{Row}
use Rattle.row_layout.proofs.BitLemmas.{rank-small}
use Rattle.row_layout.proofs.Spans.{row-span}
use Rattle.rank_matcher.proofs.scanning.scan.Given.{Over}
use Rattle.rank_matcher.proofs.scanning.scan.Goals as goal
use Rattle.rank_matcher.proofs.scanning.scan.Goals.{After-visit}

low_ranks : (config : Config) (plan : List Row) → IsInRange config → All (IsRowOf config) plan → All (λ row. row.rank ≤ 6) plan
low_ranks config plan range laid = All-weaker (IsRowOf config) (λ row. row.rank ≤ 6) (rank-small config range) plan laid

pub visit-requires-clause-walk : goal.visit-requires-clause-walk
visit-requires-clause-walk g c =
    let config = c.args.layout.now.config in
    let plan : List Row = c.args.plan.now in
    let whole : All (IsWhole 0 (columns_of_slice config / 64)) plan = All-weaker (IsRowOf config) (IsWhole 0 (columns_of_slice config / 64)) (λ row laid. whole-of_row config row (row-span config row laid)) plan c.requires.laid in
    record {
      low = omega arith;
      span = omega arith;
      few = omega arith;
      readable = All-weaker (IsRowOf config) (IsReadable (g.R.Rows.reach c.args.rows.now) c.slice_range-first.result.0)
          (λ row laid. readable-row c.args.layout.now (g.R.Rows.reach c.args.rows.now) c.args.slice c.slice_range-first.result.0 c.slice_range-first.ensures.fits c.slice_range-first.ensures.small_pool c.requires.in_range c.slice_range-first.ensures.first c.requires.reaches row (row-span config row laid))
          plan c.requires.laid;
      whole = subst (λ n. All (IsWhole 0 (n / 64)) (rows_below_rank 7 plan)) (sym c.columns.ensures.value)
          (subst (All (IsWhole 0 (columns_of_slice config / 64))) (sym (all_below_rank plan (low_ranks config plan c.columns.ensures.in_range c.requires.laid))) whole);
    }

pub visit-requires-clause-running : goal.visit-requires-clause-running
visit-requires-clause-running g c =
    let config = c.args.layout.now.config in
    let plan : List Row = c.args.plan.now in
    subst
    (λ (xs : List Row). IsTestOf (g.R.Rows.told c.args.rows.now) (g.R.Rows.least c.args.rows.now) (g.R.Rows.seen c.args.rows.now) c.slice_range-first.result.0 xs 0 (64 * (c.columns.result / 64)) (has_column (2 ^ 64 - 1)))
    (sym (none_from_rank plan (low_ranks config plan c.columns.ensures.in_range c.requires.laid)))
    (test-ones (g.R.Rows.told c.args.rows.now) (g.R.Rows.least c.args.rows.now) (g.R.Rows.seen c.args.rows.now) c.slice_range-first.result.0 0 (64 * (c.columns.result / 64)))

-- the last column of the walk is that of the slice
end_is : (g : Over) (c : After-visit g) → 64 * (c.columns.result / 64) ≡ columns_of_slice c.args.layout.now.config
end_is g c = ap (λ n. 64 * (n / 64)) c.columns.ensures.value ∙ words-of_slice c.args.layout.now.config

part_is : (g : Over) (c : After-visit g)
    → Part (g.R.Rows.told c.args.rows.now) (g.R.Rows.least c.args.rows.now) (g.R.Rows.seen c.visit.new.rows) c.args.layout.now c.args.plan.now c.args.slice c.args.out.now c.visit.new.out
part_is g c =
    subst (λ n. HasFoundPart (g.R.Rows.told c.args.rows.now) (g.R.Rows.least c.args.rows.now) (g.R.Rows.seen c.visit.new.rows) n c.args.plan.now c.args.slice 0 (columns_of_slice c.args.layout.now.config) c.args.out.now c.visit.new.out) c.slice_range-first.ensures.first
    (subst (λ n. HasFoundPart (g.R.Rows.told c.args.rows.now) (g.R.Rows.least c.args.rows.now) (g.R.Rows.seen c.visit.new.rows) c.slice_range-first.result.0 c.args.plan.now c.args.slice 0 n c.args.out.now c.visit.new.out) (end_is g c) c.visit.ensures.part)

whole_is : (g : Over) (c : After-visit g)
    → HasFound (g.R.Rows.told c.args.rows.now) (g.R.Rows.least c.args.rows.now) (g.R.Rows.seen c.visit.new.rows) c.slice_range-first.result.0 c.args.plan.now c.args.slice 0 (64 * (c.columns.result / 64)) c.args.out.now c.visit.new.out
    → Whole (g.R.Rows.told c.args.rows.now) (g.R.Rows.least c.args.rows.now) (g.R.Rows.seen c.visit.new.rows) c.args.layout.now c.args.plan.now c.args.slice c.args.out.now c.visit.new.out
whole_is g c is =
    subst (λ n. HasFound (g.R.Rows.told c.args.rows.now) (g.R.Rows.least c.args.rows.now) (g.R.Rows.seen c.visit.new.rows) n c.args.plan.now c.args.slice 0 (columns_of_slice c.args.layout.now.config) c.args.out.now c.visit.new.out) c.slice_range-first.ensures.first
    (subst (λ n. HasFound (g.R.Rows.told c.args.rows.now) (g.R.Rows.least c.args.rows.now) (g.R.Rows.seen c.visit.new.rows) c.slice_range-first.result.0 c.args.plan.now c.args.slice 0 n c.args.out.now c.visit.new.out) (end_is g c) is)

-- what the walk reads of told words, and how many words there are
over_is : (g : Over) (c : After-visit g) → All (SpansSlice c.args.layout.now.config) c.args.plan.now
over_is g c =
    let config = c.args.layout.now.config in
    All-weaker (IsRowOf config) (SpansSlice config) (λ row laid. over-of_row config row (row-span config row laid)) c.args.plan.now c.requires.laid

reads_are : (g : Over) (c : After-visit g) (words : List ℕ)
    → reads_between words c.slice_range-first.result.0 (rows_from_rank 7 c.args.plan.now) (rows_below_rank 7 c.args.plan.now) 0 (c.columns.result / 64) ≡ reads_of_scan c.args.layout.now words c.args.plan.now c.args.slice
reads_are g c words =
    let config = c.args.layout.now.config in
    let plan : List Row = c.args.plan.now in
    let low = low_ranks config plan c.columns.ensures.in_range c.requires.laid in
    ap (λ n. reads_between words n (rows_from_rank 7 plan) (rows_below_rank 7 plan) 0 (c.columns.result / 64)) c.slice_range-first.ensures.first
    ∙ ap (λ n. reads_between words (slice_start c.args.layout.now.room c.args.slice) (rows_from_rank 7 plan) (rows_below_rank 7 plan) 0 (n / 64)) c.columns.ensures.value
    ∙ ap (λ (xs : List Row). reads_between words (slice_start c.args.layout.now.room c.args.slice) xs (rows_below_rank 7 plan) 0 (columns_of_slice config / 64)) (none_from_rank plan low)
    ∙ ap (λ (xs : List Row). reads_between words (slice_start c.args.layout.now.room c.args.slice) [] xs 0 (columns_of_slice config / 64)) (all_below_rank plan low)
    ∙ reads-of_slice c.args.layout.now words c.args.slice [] plan (over_is g c)

words_are : (g : Over) (c : After-visit g) → words_between (rows_below_rank 7 c.args.plan.now) 0 (c.columns.result / 64) ≡ words_of_plan c.args.plan.now
words_are g c =
    let config = c.args.layout.now.config in
    let plan : List Row = c.args.plan.now in
    ap (λ n. words_between (rows_below_rank 7 plan) 0 (n / 64)) c.columns.ensures.value
    ∙ ap (λ (xs : List Row). words_between xs 0 (columns_of_slice config / 64)) (all_below_rank plan (low_ranks config plan c.columns.ensures.in_range c.requires.laid))
    ∙ words-of_slice_rows config plan (over_is g c)

pub returns-clause-told : goal.returns-clause-told
returns-clause-told g c =
    let some = c.visit.ensures.reads_at_most in
    if_told _ (g.R.Rows.told c.args.rows.now)
    (λ words is. record {
      all = on_ok c.visit.result (λ found. all-hits _ _ _ c.args.layout.now _ _ _ _ words is (whole_is g c found)) c.visit.ensures.found;
      part = part-of_hits _ _ _ c.args.layout.now _ _ _ _ words is (part_is g c);
      reads = on_ok c.visit.result
          (λ read. read.is ∙ ap (λ n. shown_reads (g.R.Rows.reads c.args.rows.now + n)) (read.told_is words is ∙ reads_are g c words)) c.visit.ensures.reads;
      few = omega (arith, some.is, some.told_at_most words is, reads_are g c words);
    })

pub returns-clause-scans : goal.returns-clause-scans
returns-clause-scans g c =
    let read = c.visit.ensures.reads_at_most in
    record {
      appends = record {
        appends = part-appends _ _ _ c.args.layout.now _ _ _ _ (part_is g c);
        in_slice = part-in_slice _ _ _ c.args.layout.now _ _ _ _ (part_is g c);
        rising = part-rising _ _ _ c.args.layout.now _ _ _ _ (part_is g c);
      };
      bits = record {
        covered = on_ok c.visit.result (λ found. all-covered _ _ _ c.args.layout.now _ _ _ _ (whole_is g c found)) c.visit.ensures.found;
        were_seen = part-seen _ _ _ c.args.layout.now _ _ _ _ (part_is g c);
      };
      reads_at_most = omega (arith, read.is, read.at_most, words_are g c);
    }
