use Rattle.std.proofs.Common.{◌≡◌, ℕ, ◌+◌, ◌*◌, ◌/◌, ◌^◌, ◌<◌, ◌&&◌, ◌∙◌, true, false, refl, sym, ap, inl, inr, List, get_or, take, drop, subst, arith}
use Rattle.std.specs.Prelude.{bit_and, IfSome, slice_index}
use Rattle.std.proofs.lemmas.List.{take_more, take-append-drop}
use Rattle.row_layout.specs.declared.row.Row.{Row}
use Rattle.rank_matcher.specs.Evaluation.{HasReadRows, WasReadSet, WasReadZero}
use Rattle.rank_matcher.proofs.Bits.{both_have, has_bit-and, has_bit-zero}
use Rattle.rank_matcher.proofs.RowReads.{covering, rows-next, rows-unread, value-set, value-zero}
use Rattle.row_read.proofs.Stays.{stays-later}
use Rattle.row_read.specs.Bits.{has_bit}
use Rattle.rank_matcher.proofs.evaluation.read_atom.Given.{Over}
use Rattle.rank_matcher.proofs.evaluation.read_atom.Goals as goal
use Rattle.rank_matcher.proofs.evaluation.read_atom.Goals.{After-read-left}

abbrev no_row : Row
no_row = record { start = 0; width = 0; rank = 0 }

abbrev row_at : (g : Over) (c : After-read-left g) → Row
row_at g c = get_or c.args.planned.now c.loop-row.row-index no_row

-- what is told of a column after this row
next_is : (g : Over) (c : After-read-left g) (bit : ℕ) → bit < 64 → has_bit c.args.mask bit ≡ true →
    HasReadRows (g.R.Rows.told c.args.rows.now) (g.R.Rows.least c.args.rows.now) (g.R.Rows.seen c.read-left.new.self) c.args.place.first (64 * c.args.place.word + bit)
    (take (c.loop-row.row-index + 1) c.args.planned.now) (has_bit (bit_and c.loop-row.left c.read-left.result) bit)
next_is g c bit few in_mask =
    let told = g.R.Rows.told c.args.rows.now in
    let least = g.R.Rows.least c.args.rows.now in
    let first = c.args.place.first in
    let row = row_at g c in
    let i = c.loop-row.row-index in
    let value = c.read-left.result in
    let word = first + row.start + c.args.place.word / 2 ^ row.rank in
    let at = covering first c.args.place.word bit row few in
    let read = c.read-left.ensures in
    let is_word : IfSome told (λ (words : List ℕ). value ≡ slice_index words word) =
    subst (λ t. IfSome t (λ (words : List ℕ). value ≡ slice_index words word)) c.loop-row.invariant.stays.told_stays read.told in
    subst (λ b. HasReadRows told least (g.R.Rows.seen c.read-left.new.self) first (64 * c.args.place.word + bit) (take (i + 1) c.args.planned.now) b)
    (sym (has_bit-and c.loop-row.left value bit))
    (subst (λ (rows : List Row). HasReadRows told least (g.R.Rows.seen c.read-left.new.self) first (64 * c.args.place.word + bit) rows (has_bit c.loop-row.left bit && has_bit value bit))
    (sym (take_more c.args.planned.now i no_row c.loop-row-test.true))
    (rows-next told least first (64 * c.args.place.word + bit) (g.R.Rows.seen c.loop-row.rows) (g.R.Rows.seen c.read-left.new.self) (λ b was. (read.seen b).1 (inl was))
    (take i c.args.planned.now) row (has_bit c.loop-row.left bit) (has_bit value bit) (c.loop-row.invariant.told bit few in_mask)
    (λ one. subst (WasReadSet told (g.R.Rows.seen c.read-left.new.self)) (sym at)
    (value-set told (g.R.Rows.seen c.read-left.new.self) word value bit one (λ set. (read.seen (record { word = word; bit = bit })).1 (inr (refl, set))) is_word))
    (λ zero. subst (WasReadZero told least) (sym at)
    (value-zero told least word value bit zero (λ has. read.least bit ((c.loop-row.invariant.stays.least_stays (record { word = word; bit = bit })).0 has)) is_word))))

pub overflow_shr-place : goal.overflow_shr-place
overflow_shr-place g c =
    let covers = c.requires c.loop-row.row-index no_row c.loop-row-test.true in
    omega (arith, covers.low)

pub returns-then-left-eq0-clause-told : goal.returns-then-left-eq0-clause-told
returns-then-left-eq0-clause-told g c bit few in_mask =
    let told = g.R.Rows.told c.args.rows.now in
    let least = g.R.Rows.least c.args.rows.now in
    let seen = g.R.Rows.seen c.read-left.new.self in
    let n = c.loop-row.row-index + 1 in
    let column = 64 * c.args.place.word + bit in
    let none : has_bit (bit_and c.loop-row.left c.read-left.result) bit ≡ false = ap (λ k. has_bit k bit) c.if-left-eq0.true ∙ has_bit-zero bit in
    subst (λ (rows : List Row). HasReadRows told least seen c.args.place.first column rows false) (take-append-drop n c.args.planned.now)
    (rows-unread told least c.args.place.first column seen (take n c.args.planned.now) (drop n c.args.planned.now)
    (subst (HasReadRows told least seen c.args.place.first column (take n c.args.planned.now)) none (next_is g c.before bit few in_mask)))

pub loop-row-preserved : goal.loop-row-preserved
loop-row-preserved g c = record {
  told = next_is g c.before;
  within = λ bit few has. c.loop-row.invariant.within bit few ((both_have c.loop-row.left c.read-left.result bit has).0);
  reads = omega (arith, c.read-left.ensures.reads, c.loop-row.invariant.reads);
  stays = stays-later g.R.Rows.reach g.R.Rows.least g.R.Rows.seen g.R.Rows.told g.R.Rows.kept c.args.rows.now c.loop-row.rows c.read-left.new.self c.loop-row.invariant.stays c.read-left.ensures.stays;
}
