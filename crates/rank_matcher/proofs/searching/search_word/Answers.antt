use Rattle.std.proofs.Common.{◌<◌, ◌*◌, ◌^◌, List, sym, subst, arith}
use Rattle.std.specs.List.{All}
use Rattle.std.proofs.lemmas.List.Elements.{All-weaker}
use Rattle.std.proofs.lemmas.Nat.{pow_pos}
use Rattle.std.proofs.Math.Nat.{div-lt_iff_lt-mul}
use Rattle.row_layout.proofs.BitLemmas.{rank-small}
use Rattle.row_layout.proofs.Spans.{row-span}
use Rattle.row_layout.specs.Rows.{IsRowOf}
use Rattle.row_layout.specs.declared.row.Row.{Row}
use Rattle.rank_matcher.proofs.Scans.{readable-row, whole-of_row, words-of_slice}
use Rattle.rank_matcher.specs.Evaluation.{Covers}
use Rattle.rank_matcher.proofs.searching.search_word.Goals as goal

-- the rows of the layout have a word that covers each word of the slice
pub evaluate_all-requires-clause-can_read : goal.evaluate_all-requires-clause-can_read
evaluate_all-requires-clause-can_read g c =
    let config = c.args.layout.now.config in
    let range = c.slice_range-first.ensures in
    let reach = g.R.Rows.reach c.args.rows.now in
    let first = c.slice_range-first.result.0 in
    let covers : (row : Row) → IsRowOf config row → Covers reach first c.args.word row =
    λ row laid.
    let span = row-span config row laid in
    let whole = whole-of_row config row span in
    let below : c.args.word < row.width * 2 ^ row.rank = omega (arith, c.requires.word, words-of_slice config, whole.within) in
    record {
      low = rank-small config range.in_range row laid;
      inside = (div-lt_iff_lt-mul (pow_pos row.rank)).1 below;
      readable = readable-row c.args.layout.now reach c.args.slice first range.fits range.small_pool c.requires.slice.in_range range.first c.requires.slice.reaches row span;
    } in
    subst (λ (rows : List Row). All (Covers reach first c.args.word) rows) (sym c.as_slice-2.ensures.value)
    (All-weaker (IsRowOf config) (Covers reach first c.args.word) covers c.args.plan.now.rows.items c.requires.slice.laid)
