use Rattle.std.proofs.Common.{◌≡◌, ℕ, ◌+◌, ◌∙◌, inl, inr, refl, List, get_or, subst, arith}
use Rattle.std.specs.Prelude.{bit_and, slice_index}
use Rattle.std.specs.declared.option.Option.TheVariants.{Some}
use Rattle.std.proofs.lemmas.List.{take_all}
use Rattle.row_layout.specs.declared.row.Row.{Row}
use Rattle.rank_matcher.specs.Walk.{bit_in}
use Rattle.rank_matcher.proofs.Bits.{both_have, set-from_test, test-from_set}
use Rattle.rank_matcher.proofs.Intersections.{HasLeast, IsLeft, WasSeen, if_told, when_told, left-next, left-zero, least-next, least-zero, reads-all, reads-next, reads-zero, seen-next}
use Rattle.row_read.proofs.Stays.{stays-later}
use Rattle.rank_matcher.proofs.walk.intersect.Given.{Over}
use Rattle.rank_matcher.proofs.walk.intersect.Goals as goal
use Rattle.rank_matcher.proofs.walk.intersect.Goals.{After-read-left}

abbrev no_row : Row
no_row = record { rank = 0; start = 0; width = 0 }

-- what this read told
read_is : (g : Over) (c : After-read-left g) (words : List ℕ) → g.R.Rows.told c.args.rows.now ≡ Some words
    → c.read-left.result ≡ slice_index words (c.args.place + (get_or c.args.planned.now c.loop-row.row-index no_row).start)
read_is g c words told = when_told _ (g.R.Rows.told c.loop-row.rows) words (c.loop-row.invariant.stays.told_stays ∙ told) c.read-left.ensures.told

pub returns-then-left-eq0-clause-told : goal.returns-then-left-eq0-clause-told
returns-then-left-eq0-clause-told g c =
    let i : ℕ = c.loop-row.row-index in
    if_told _ (g.R.Rows.told c.args.rows.now)
    (λ words told. left-zero words c.args.place c.args.running c.args.planned.now (i + 1) (bit_and c.loop-row.left c.read-left.result) c.if-left-eq0.true
    (left-next words c.args.place c.args.running c.args.planned.now i no_row c.loop-row.left c.read-left.result c.loop-row-test.true (c.loop-row.invariant.told words told) (read_is g c.before words told)))

pub returns-then-left-eq0-clause-least : goal.returns-then-left-eq0-clause-least
returns-then-left-eq0-clause-least g c =
    let i : ℕ = c.loop-row.row-index in
    least-zero (g.R.Rows.least c.args.rows.now) c.args.place c.args.running c.args.planned.now (i + 1) (bit_and c.loop-row.left c.read-left.result) c.if-left-eq0.true
    (least-next (g.R.Rows.least c.args.rows.now) (g.R.Rows.least c.loop-row.rows) c.loop-row.invariant.stays.least_stays c.args.place c.args.running c.args.planned.now i no_row c.loop-row.left c.read-left.result c.loop-row-test.true
    c.loop-row.invariant.least (λ bit is. test-from_set c.read-left.result bit (c.read-left.ensures.least bit is)))

pub returns-then-left-eq0-clause-reads : goal.returns-then-left-eq0-clause-reads
returns-then-left-eq0-clause-reads g c =
    let i : ℕ = c.loop-row.row-index in
    record {
      count = i + 1;
      is = omega (arith, c.read-left.ensures.reads, c.loop-row.invariant.reads);
      at_most = omega (arith, c.loop-row-test.true);
      told_is = λ words told.
          reads-zero words c.args.place c.args.running c.loop-row.left c.args.planned.now i no_row c.read-left.result c.loop-row-test.true (read_is g c.before words told) c.if-left-eq0.true
          (c.loop-row.invariant.reads_are words told);
    }

pub loop-row-preserved : goal.loop-row-preserved
loop-row-preserved g c =
    let i : ℕ = c.loop-row.row-index in
    let planned : List Row = c.args.planned.now in
    let place : ℕ = c.args.place in
    let before = c.loop-row.invariant in
    let read = c.read-left.ensures in
    record {
      told = λ words told.
          left-next words place c.args.running planned i no_row c.loop-row.left c.read-left.result c.loop-row-test.true (before.told words told) (read_is g c.before words told);
      least =
          least-next (g.R.Rows.least c.args.rows.now) (g.R.Rows.least c.loop-row.rows) before.stays.least_stays place c.args.running planned i no_row c.loop-row.left c.read-left.result c.loop-row-test.true
          before.least (λ bit is. test-from_set c.read-left.result bit (read.least bit is));
      running = λ bit has. before.running bit ((both_have c.loop-row.left c.read-left.result bit has).0);
      seen =
          seen-next (g.R.Rows.seen c.loop-row.rows) (g.R.Rows.seen c.read-left.new.self) (λ bit has. (read.seen bit).1 (inl has)) place planned i no_row c.loop-row.left c.read-left.result c.loop-row-test.true
          before.seen (λ bit has. (read.seen (bit_in place bit (get_or planned i no_row))).1 (inr (refl, set-from_test c.read-left.result bit has)));
      reads = omega (arith, read.reads, before.reads);
      reads_are = λ words told.
          reads-next words place c.args.running c.loop-row.left planned i no_row c.read-left.result c.loop-row-test.true (read_is g c.before words told) (omega (arith, c.if-left-eq0.false))
          (before.reads_are words told);
      stays = stays-later g.R.Rows.reach g.R.Rows.least g.R.Rows.seen g.R.Rows.told g.R.Rows.kept c.args.rows.now c.loop-row.rows c.read-left.new.self before.stays read.stays;
    }

pub returns-clause-told : goal.returns-clause-told
returns-clause-told g c =
    if_told _ (g.R.Rows.told c.args.rows.now)
    (λ words told.
    subst (λ (rows : List Row). IsLeft words c.args.place c.args.running rows c.loop-row.left) (take_all c.loop-row.row-index c.args.planned.now (omega arith)) (c.loop-row.invariant.told words told))

pub returns-clause-least : goal.returns-clause-least
returns-clause-least g c =
    subst (λ (rows : List Row). HasLeast (g.R.Rows.least c.args.rows.now) c.args.place c.args.running rows c.loop-row.left) (take_all c.loop-row.row-index c.args.planned.now (omega arith)) c.loop-row.invariant.least

pub returns-clause-seen : goal.returns-clause-seen
returns-clause-seen g c =
    subst (λ (rows : List Row). WasSeen (g.R.Rows.seen c.loop-row.rows) c.args.place rows c.loop-row.left) (take_all c.loop-row.row-index c.args.planned.now (omega arith)) c.loop-row.invariant.seen

pub returns-clause-reads : goal.returns-clause-reads
returns-clause-reads g c =
    let i : ℕ = c.loop-row.row-index in
    record {
      count = i;
      is = c.loop-row.invariant.reads;
      at_most = omega arith;
      told_is = λ words told. reads-all words c.args.place c.args.running c.loop-row.left c.args.planned.now i (omega arith) (c.loop-row.invariant.reads_are words told);
    }
