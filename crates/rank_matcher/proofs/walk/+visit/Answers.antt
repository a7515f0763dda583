use Rattle.std.proofs.Common.{◌≡◌, ℕ, ◌+◌, ◌-◌, ◌*◌, ◌^◌, ◌<◌, ◌/◌, ◌%◌, ◌≤◌, List, [], ◌∷◌, ◌++◌, get_or, length, sym, subst, ap, ◌∙◌, refl, arith}
use Rattle.std.specs.List.{All}
use Rattle.std.specs.Prelude.{OnOk}
use Rattle.std.proofs.Math.Pow.{shr_mono}
use Rattle.std.proofs.lemmas.Bool.Decides.{nat_tests}
use Rattle.std.proofs.lemmas.List.{append-nil}
use Rattle.row_layout.proofs.Ranked.{below_rank-parts, from_rank-parts, plan-parts}
use Rattle.row_layout.specs.Orders.{IsInPlanOrder, rows_below_rank, rows_from_rank, rows_of_rank}
use Rattle.row_layout.specs.declared.row.Row.{Row}
use Rattle.rank_matcher.specs.Walk.{HasFound, HasFoundPart, HasRead, HasReadPart, HasReadPlace, IsTestOf, IsWhole, has_column}
use Rattle.rank_matcher.proofs.Intersections.{All-split}
use Rattle.rank_matcher.proofs.Walks.{IsLevel, below_rank-zero, from_rank-zero, found-from, found-joined, found-none, found-zero, left-test, level-is, on_any, on_ok, part-from_found, part-from, part-from_read, part-joined, place-is, ranks-of_rank, read-joined, read-none, read-part_joined, shifted, test-to, turn-is, turn-read, turn-read_part, turn-read_zero}
use Rattle.row_read.proofs.Stays.{stays-later, stays-same}
use Rattle.row_read.specs.Readable.{StaysReadable}
use Rattle.rank_matcher.proofs.walk.+visit.Goals as goal
use Rattle.rank_matcher.proofs.walk.+visit.Goals.{then-left-ne0+in_ok-visit, else-left-ne0}

-- below rank 0 the bits that are left are of all rows
whole_plan : (plan : List Row) (ranks : ℕ) → ranks ≡ 0 → rows_from_rank ranks plan ≡ plan
whole_plan plan ranks zero = ap (λ r. rows_from_rank r plan) zero ∙ from_rank-zero plan

pub returns-then-ranks-eq0-clause-found : goal.returns-then-ranks-eq0-clause-found
returns-then-ranks-eq0-clause-found g t c =
    let plan = c.args.search.now.plan.now in
    on_ok c.push_words.result
    (λ all. record {
      test = has_column c.args.running;
      is_test = subst (λ (xs : List Row). IsTestOf (g.R.Rows.told c.args.rows.now) (g.R.Rows.least c.args.rows.now) (g.R.Rows.seen c.args.rows.now) c.args.search.now.first xs (64 * c.args.from) (64 * c.args.to) (has_column c.args.running)) (whole_plan plan c.args.ranks c.if-ranks-eq0.true) c.requires.running;
      appended = all;
    })
    c.push_words.ensures.all

pub returns-then-ranks-eq0-clause-part : goal.returns-then-ranks-eq0-clause-part
returns-then-ranks-eq0-clause-part g t c =
    let plan = c.args.search.now.plan.now in
    let part = c.push_words.ensures.part in
    record {
      n = 64 * c.args.to;
      from = omega (arith, c.requires.walk.span);
      to = omega arith;
      test = has_column c.args.running;
      is_test = subst (λ (xs : List Row). IsTestOf (g.R.Rows.told c.args.rows.now) (g.R.Rows.least c.args.rows.now) (g.R.Rows.seen c.args.rows.now) c.args.search.now.first xs (64 * c.args.from) (64 * c.args.to) (has_column c.args.running)) (whole_plan plan c.args.ranks c.if-ranks-eq0.true) c.requires.running;
      front = part.0;
      rest = part.1.0;
      parts = part.1.1;
      appended = part.2;
    }

pub returns-then-ranks-eq0-clause-reads : goal.returns-then-ranks-eq0-clause-reads
returns-then-ranks-eq0-clause-reads g t c =
    let plan = c.args.search.now.plan.now in
    on_any c.push_words.result
    (subst (λ (xs : List Row). HasRead (g.R.Rows.told c.args.rows.now) c.args.search.now.first (rows_from_rank c.args.ranks plan) xs c.args.from c.args.to (g.R.Rows.reads c.args.rows.now) (g.R.Rows.reads c.args.rows.now))
    (sym (ap (λ r. rows_below_rank r plan) c.if-ranks-eq0.true ∙ below_rank-zero plan))
    (record { count = 0; is = omega arith; at_most = omega arith; told_is = λ words is. refl }))

pub returns-then-ranks-eq0-clause-reads_at_most : goal.returns-then-ranks-eq0-clause-reads_at_most
returns-then-ranks-eq0-clause-reads_at_most g t c =
    let plan = c.args.search.now.plan.now in
    subst (λ (xs : List Row). HasReadPart (g.R.Rows.told c.args.rows.now) c.args.search.now.first (rows_from_rank c.args.ranks plan) xs c.args.from c.args.to (g.R.Rows.reads c.args.rows.now) (g.R.Rows.reads c.args.rows.now))
    (sym (ap (λ r. rows_below_rank r plan) c.if-ranks-eq0.true ∙ below_rank-zero plan))
    (record { count = 0; is = omega arith; at_most = omega arith; told_at_most = λ words is. omega arith })

-- where a rank has no rows, the rows from it on and below it are those of the next rank
none_of_rank : (plan planned : List Row) (ranks rank : ℕ) → ranks ≡ rank + 1 → IsInPlanOrder plan → planned ≡ rows_of_rank rank plan → length planned ≡ 0
    → (rows_from_rank rank plan ≡ rows_from_rank ranks plan) × (rows_below_rank ranks plan ≡ rows_below_rank rank plan)
none_of_rank plan planned ranks rank next order is none =
    let empty : rows_of_rank rank plan ≡ [] = sym is ∙ no_rows planned none in (
      from_rank-parts rank plan order ∙ ap (λ (xs : List Row). rows_from_rank (rank + 1) plan ++ xs) empty ∙ append-nil (rows_from_rank (rank + 1) plan) ∙ ap (λ r. rows_from_rank r plan) (sym next),
      ap (λ r. rows_below_rank r plan) next ∙ below_rank-parts rank plan order ∙ ap (λ (xs : List Row). xs ++ rows_below_rank rank plan) empty,
    )
  where
    no_rows : (xs : List Row) → length xs ≡ 0 → xs ≡ []
    no_rows [] none = refl
    no_rows (x ∷ xs) none = absurd (omega (arith, none))

pub visit-requires : goal.visit-requires
visit-requires g t c =
    let plan = c.args.search.now.plan.now in
    let rank : ℕ = c.args.ranks - 1 in
    let next : c.args.ranks ≡ rank + 1 = omega (arith, c.if-ranks-eq0.false) in
    let none : length c.of_rank-planned.result.now ≡ 0 = grind (arith, nat_tests) in
    let same = none_of_rank plan c.of_rank-planned.result.now c.args.ranks rank next c.of_rank-planned.ensures.in_order c.of_rank-planned.ensures.rows none in
    λ κs lives. (
      omega (arith, c.decreases, c.if-ranks-eq0.false),
      (
        lives,
        (
          record {
            low = omega (arith, c.requires.walk.low);
            span = c.requires.walk.span;
            few = c.requires.walk.few;
            readable = c.requires.walk.readable;
            whole = subst (All (IsWhole c.args.from c.args.to)) same.1 c.requires.walk.whole;
          },
          (
            c.requires.some,
            subst (λ (xs : List Row). IsTestOf (g.R.Rows.told c.args.rows.now) (g.R.Rows.least c.args.rows.now) (g.R.Rows.seen c.args.rows.now) c.args.search.now.first xs (64 * c.args.from) (64 * c.args.to) (has_column c.args.running)) (sym same.0) c.requires.running,
          ),
        ),
      ),
    )

pub returns-then-is_empty-clause-reads : goal.returns-then-is_empty-clause-reads
returns-then-is_empty-clause-reads g t c =
    let plan = c.args.search.now.plan.now in
    let next : c.args.ranks ≡ c.args.ranks - 1 + 1 = omega (arith, c.if-ranks-eq0.false) in
    let none : length c.of_rank-planned.result.now ≡ 0 = grind (arith, nat_tests) in
    let same = none_of_rank plan c.of_rank-planned.result.now c.args.ranks (c.args.ranks - 1) next c.of_rank-planned.ensures.in_order c.of_rank-planned.ensures.rows none in
    let P : List Row → List Row → Type 0 = λ before below. OnOk c.visit.result (HasRead (g.R.Rows.told c.args.rows.now) c.args.search.now.first before below c.args.from c.args.to (g.R.Rows.reads c.args.rows.now) (g.R.Rows.reads c.visit.new.rows)) in
    subst (λ before. P before (rows_below_rank c.args.ranks plan)) same.0 (subst (P (rows_from_rank (c.args.ranks - 1) plan)) (sym same.1) c.visit.ensures.reads)

pub returns-then-is_empty-clause-reads_at_most : goal.returns-then-is_empty-clause-reads_at_most
returns-then-is_empty-clause-reads_at_most g t c =
    let plan = c.args.search.now.plan.now in
    let next : c.args.ranks ≡ c.args.ranks - 1 + 1 = omega (arith, c.if-ranks-eq0.false) in
    let none : length c.of_rank-planned.result.now ≡ 0 = grind (arith, nat_tests) in
    let same = none_of_rank plan c.of_rank-planned.result.now c.args.ranks (c.args.ranks - 1) next c.of_rank-planned.ensures.in_order c.of_rank-planned.ensures.rows none in
    let P : List Row → List Row → Type 0 = λ before below. HasReadPart (g.R.Rows.told c.args.rows.now) c.args.search.now.first before below c.args.from c.args.to (g.R.Rows.reads c.args.rows.now) (g.R.Rows.reads c.visit.new.rows) in
    subst (λ before. P before (rows_below_rank c.args.ranks plan)) same.0 (subst (P (rows_from_rank (c.args.ranks - 1) plan)) (sym same.1) c.visit.ensures.reads_at_most)

-- the words begin and end with words of a rank that has rows
level : (plan planned : List Row) (ranks rank from to : ℕ) → ranks ≡ rank + 1 → IsInPlanOrder plan → planned ≡ rows_of_rank rank plan → 0 < length planned → All (IsWhole from to) (rows_below_rank ranks plan)
    → IsLevel from to rank
level plan planned ranks rank from to next order is some whole =
    let below : rows_below_rank ranks plan ≡ rows_of_rank rank plan ++ rows_below_rank rank plan = ap (λ r. rows_below_rank r plan) next ∙ below_rank-parts rank plan order in
    level-is from to rank (rows_of_rank rank plan) (omega (arith, some, ap (λ (xs : List Row). length xs) is)) (ranks-of_rank rank plan)
    ((All-split (IsWhole from to) (rows_of_rank rank plan) (rows_below_rank rank plan) (subst (All (IsWhole from to)) below whole)).0)

pub loop-word-init : goal.loop-word-init
loop-word-init g t c =
    let plan = c.args.search.now.plan.now in
    let rank : ℕ = c.args.ranks - 1 in
    let next : c.args.ranks ≡ rank + 1 = omega (arith, c.if-ranks-eq0.false) in
    let some : 0 < length c.of_rank-planned.result.now = grind (arith, nat_tests) in
    let is = level plan c.of_rank-planned.result.now c.args.ranks rank c.args.from c.args.to next c.of_rank-planned.ensures.in_order c.of_rank-planned.ensures.rows some c.requires.walk.whole in
    record {
      found =
          subst (λ n. HasFound (g.R.Rows.told c.args.rows.now) (g.R.Rows.least c.args.rows.now) (g.R.Rows.seen c.args.rows.now) c.args.search.now.first plan c.args.search.now.slice (64 * c.args.from) (64 * n) c.args.out.now c.args.out.now) (sym is.begins)
          (found-none (g.R.Rows.told c.args.rows.now) (g.R.Rows.least c.args.rows.now) c.args.search.now.first plan c.args.search.now.slice (g.R.Rows.seen c.args.rows.now) (64 * c.args.from) c.args.out.now);
      reads =
          subst (λ n. HasRead (g.R.Rows.told c.args.rows.now) c.args.search.now.first (rows_from_rank c.args.ranks plan) (rows_below_rank c.args.ranks plan) c.args.from n (g.R.Rows.reads c.args.rows.now) (g.R.Rows.reads c.args.rows.now)) (sym is.begins)
          (read-none (g.R.Rows.told c.args.rows.now) c.args.search.now.first (rows_from_rank c.args.ranks plan) (rows_below_rank c.args.ranks plan) c.args.from (g.R.Rows.reads c.args.rows.now));
      stays = stays-same g.R.Rows.reach g.R.Rows.least g.R.Rows.seen g.R.Rows.told g.R.Rows.kept c.args.rows.now;
    }

pub overflow_add-search : goal.overflow_add-search
overflow_add-search g t c =
    let plan = c.args.search.now.plan.now in
    let rank : ℕ = c.args.ranks - 1 in
    let word : ℕ = c.loop-word.word in
    let next : c.args.ranks ≡ rank + 1 = omega (arith, c.if-ranks-eq0.false) in
    let some : 0 < length c.of_rank-planned.result.now = grind (arith, nat_tests) in
    let turn = turn-is plan c.of_rank-planned.result.now c.args.ranks rank c.args.from c.args.to word next c.of_rank-planned.ensures.in_order c.of_rank-planned.ensures.rows some c.requires.walk.whole c.loop-word.auto.word c.loop-word-test.true in
    let place = place-is (g.R.Rows.reach c.args.rows.now) c.args.search.now.first plan c.of_rank-planned.result.now c.args.ranks rank c.args.from c.args.to word c.of_rank-planned.ensures.rows c.requires.walk.readable turn in
    let fits = (place 0 (record { rank = 0; start = 0; width = 0 }) some).fits in
    omega (arith, fits)

pub intersect-left-requires-clause-fits : goal.intersect-left-requires-clause-fits
intersect-left-requires-clause-fits g t c =
    let plan = c.args.search.now.plan.now in
    let rank : ℕ = c.args.ranks - 1 in
    let word : ℕ = c.loop-word.word in
    let next : c.args.ranks ≡ rank + 1 = omega (arith, c.if-ranks-eq0.false) in
    let some : 0 < length c.of_rank-planned.result.now = grind (arith, nat_tests) in
    let turn = turn-is plan c.of_rank-planned.result.now c.args.ranks rank c.args.from c.args.to word next c.of_rank-planned.ensures.in_order c.of_rank-planned.ensures.rows some c.requires.walk.whole c.loop-word.auto.word c.loop-word-test.true in
    let place = place-is (g.R.Rows.reach c.args.rows.now) c.args.search.now.first plan c.of_rank-planned.result.now c.args.ranks rank c.args.from c.args.to word c.of_rank-planned.ensures.rows c.requires.walk.readable turn in
    λ k d inside. (place k d inside).fits

pub intersect-left-requires-clause-reach : goal.intersect-left-requires-clause-reach
intersect-left-requires-clause-reach g t c =
    let plan = c.args.search.now.plan.now in
    let rank : ℕ = c.args.ranks - 1 in
    let word : ℕ = c.loop-word.word in
    let next : c.args.ranks ≡ rank + 1 = omega (arith, c.if-ranks-eq0.false) in
    let some : 0 < length c.of_rank-planned.result.now = grind (arith, nat_tests) in
    let turn = turn-is plan c.of_rank-planned.result.now c.args.ranks rank c.args.from c.args.to word next c.of_rank-planned.ensures.in_order c.of_rank-planned.ensures.rows some c.requires.walk.whole c.loop-word.auto.word c.loop-word-test.true in
    let place = place-is (g.R.Rows.reach c.args.rows.now) c.args.search.now.first plan c.of_rank-planned.result.now c.args.ranks rank c.args.from c.args.to word c.of_rank-planned.ensures.rows c.requires.walk.readable turn in
    λ k d inside. (c.loop-word.invariant.stays.reach_stays (c.args.search.now.first + word + (get_or c.of_rank-planned.result.now k d).start)).0 ((place k d inside).reaches)

pub visit-requires-then-left-ne0 : goal.visit-requires-then-left-ne0
visit-requires-then-left-ne0 g t c κs lives =
    let plan = c.args.search.now.plan.now in
    let planned = c.of_rank-planned.result.now in
    let rank : ℕ = c.args.ranks - 1 in
    let word : ℕ = c.loop-word.word in
    let before = c.loop-word.invariant in
    let next : c.args.ranks ≡ rank + 1 = omega (arith, c.if-ranks-eq0.false) in
    let some : 0 < length planned = grind (arith, nat_tests) in
    let turn = turn-is plan planned c.args.ranks rank c.args.from c.args.to word next c.of_rank-planned.ensures.in_order c.of_rank-planned.ensures.rows some c.requires.walk.whole c.loop-word.auto.word c.loop-word-test.true in
    let from : word * 2 ^ rank % 2 ^ 32 ≡ 2 ^ rank * word = shifted rank word (omega (arith, turn.high, c.requires.walk.few)) in
    let to : (word + 1) * 2 ^ rank % 2 ^ 32 ≡ 2 ^ rank * (word + 1) = shifted rank (word + 1) (omega (arith, turn.high, c.requires.walk.few)) in
    let told = g.R.Rows.told c.args.rows.now in
    let least = g.R.Rows.least c.args.rows.now in
    let after = g.R.Rows.seen c.intersect-left.new.rows in
    let left : ℕ = c.intersect-left.result in
    let is = left-test told (g.R.Rows.told c.loop-word.rows) before.stays.told_stays least (g.R.Rows.least c.loop-word.rows) before.stays.least_stays
    (g.R.Rows.seen c.args.rows.now) (g.R.Rows.seen c.loop-word.rows) after before.stays.seen_stays c.intersect-left.ensures.stays.seen_stays
    c.args.search.now.first c.args.running left plan planned c.args.ranks rank c.args.from c.args.to word turn c.requires.running
    c.intersect-left.ensures.told c.intersect-left.ensures.least c.intersect-left.ensures.running c.intersect-left.ensures.seen in
    let is_now = test-to told (g.R.Rows.told c.intersect-left.new.rows) (c.intersect-left.ensures.stays.told_stays ∙ before.stays.told_stays) least (g.R.Rows.least c.intersect-left.new.rows)
    (λ bit. (λ r. (c.intersect-left.ensures.stays.least_stays bit).0 ((before.stays.least_stays bit).0 r), λ r. (before.stays.least_stays bit).1 ((c.intersect-left.ensures.stays.least_stays bit).1 r)))
    after c.args.search.now.first (rows_from_rank rank plan) (64 * (2 ^ rank * word)) (64 * (2 ^ rank * (word + 1))) (has_column left) is in (
      omega (arith, c.decreases, c.if-ranks-eq0.false),
      (
        lives,
        (
          record {
            low = omega (arith, c.requires.walk.low);
            span = omega (arith, from, to);
            few = omega (arith, to, turn.high, c.requires.walk.few);
            readable = λ k d inside.
                let can = c.requires.walk.readable k d inside in
                record { reaches = λ w low. (c.intersect-left.ensures.stays.reach_stays _).0 ((before.stays.reach_stays _).0 (can.reaches w low)); fits = can.fits };
            whole = subst (λ n. All (IsWhole n ((word + 1) * 2 ^ rank % 2 ^ 32)) (rows_below_rank rank plan)) (sym from) (subst (λ n. All (IsWhole (2 ^ rank * word) n) (rows_below_rank rank plan)) (sym to) turn.later);
          },
          (
            omega (arith, c.if-left-ne0.true),
            subst (λ n. IsTestOf (g.R.Rows.told c.intersect-left.new.rows) (g.R.Rows.least c.intersect-left.new.rows) after c.args.search.now.first (rows_from_rank rank plan) (64 * n) (64 * ((word + 1) * 2 ^ rank % 2 ^ 32)) (has_column left)) (sym from)
                (subst (λ n. IsTestOf (g.R.Rows.told c.intersect-left.new.rows) (g.R.Rows.least c.intersect-left.new.rows) after c.args.search.now.first (rows_from_rank rank plan) (64 * (2 ^ rank * word)) (64 * n) (has_column left)) (sym to) is_now),
          ),
        ),
      ),
    )

-- the loop came to the last word
ends_at : (from to rank word : ℕ) → IsLevel from to rank → to / 2 ^ rank ≤ word → word ≤ to / 2 ^ rank → 2 ^ rank * word ≡ to
ends_at from to rank word is high low = ap (λ n. 2 ^ rank * n) (let e : word ≡ to / 2 ^ rank = omega (arith, high, low) in e) ∙ is.ends

pub returns-clause-found : goal.returns-clause-found
returns-clause-found g t c =
    let plan = c.args.search.now.plan.now in
    let rank : ℕ = c.args.ranks - 1 in
    let next : c.args.ranks ≡ rank + 1 = omega (arith, c.if-ranks-eq0.false) in
    let some : 0 < length c.of_rank-planned.result.now = grind (arith, nat_tests) in
    let is = level plan c.of_rank-planned.result.now c.args.ranks rank c.args.from c.args.to next c.of_rank-planned.ensures.in_order c.of_rank-planned.ensures.rows some c.requires.walk.whole in
    let end = ends_at c.args.from c.args.to rank c.loop-word.word is (omega (arith, c.loop-word-test.false)) (c.loop-word.auto.word-end (shr_mono rank c.requires.walk.span)) in
    subst (λ n. HasFound (g.R.Rows.told c.args.rows.now) (g.R.Rows.least c.args.rows.now) (g.R.Rows.seen c.loop-word.rows) c.args.search.now.first plan c.args.search.now.slice (64 * c.args.from) (64 * n) c.args.out.now c.loop-word.out) end c.loop-word.invariant.found

pub returns-clause-part : goal.returns-clause-part
returns-clause-part g t c =
    let plan = c.args.search.now.plan.now in
    let rank : ℕ = c.args.ranks - 1 in
    let next : c.args.ranks ≡ rank + 1 = omega (arith, c.if-ranks-eq0.false) in
    let some : 0 < length c.of_rank-planned.result.now = grind (arith, nat_tests) in
    let is = level plan c.of_rank-planned.result.now c.args.ranks rank c.args.from c.args.to next c.of_rank-planned.ensures.in_order c.of_rank-planned.ensures.rows some c.requires.walk.whole in
    let end = ends_at c.args.from c.args.to rank c.loop-word.word is (omega (arith, c.loop-word-test.false)) (c.loop-word.auto.word-end (shr_mono rank c.requires.walk.span)) in
    part-from_found (g.R.Rows.told c.args.rows.now) (g.R.Rows.least c.args.rows.now) c.args.search.now.first plan c.args.search.now.slice (g.R.Rows.seen c.loop-word.rows) (64 * c.args.from) (64 * c.args.to) c.args.out.now c.loop-word.out (omega (arith, c.requires.walk.span))
    (subst (λ n. HasFound (g.R.Rows.told c.args.rows.now) (g.R.Rows.least c.args.rows.now) (g.R.Rows.seen c.loop-word.rows) c.args.search.now.first plan c.args.search.now.slice (64 * c.args.from) (64 * n) c.args.out.now c.loop-word.out) end c.loop-word.invariant.found)

pub returns-clause-reads : goal.returns-clause-reads
returns-clause-reads g t c =
    let plan = c.args.search.now.plan.now in
    let rank : ℕ = c.args.ranks - 1 in
    let next : c.args.ranks ≡ rank + 1 = omega (arith, c.if-ranks-eq0.false) in
    let some : 0 < length c.of_rank-planned.result.now = grind (arith, nat_tests) in
    let is = level plan c.of_rank-planned.result.now c.args.ranks rank c.args.from c.args.to next c.of_rank-planned.ensures.in_order c.of_rank-planned.ensures.rows some c.requires.walk.whole in
    let end = ends_at c.args.from c.args.to rank c.loop-word.word is (omega (arith, c.loop-word-test.false)) (c.loop-word.auto.word-end (shr_mono rank c.requires.walk.span)) in
    subst (λ n. HasRead (g.R.Rows.told c.args.rows.now) c.args.search.now.first (rows_from_rank c.args.ranks plan) (rows_below_rank c.args.ranks plan) c.args.from n (g.R.Rows.reads c.args.rows.now) (g.R.Rows.reads c.loop-word.rows)) end c.loop-word.invariant.reads

pub returns-clause-reads_at_most : goal.returns-clause-reads_at_most
returns-clause-reads_at_most g t c =
    let plan = c.args.search.now.plan.now in
    let rank : ℕ = c.args.ranks - 1 in
    let next : c.args.ranks ≡ rank + 1 = omega (arith, c.if-ranks-eq0.false) in
    let some : 0 < length c.of_rank-planned.result.now = grind (arith, nat_tests) in
    let is = level plan c.of_rank-planned.result.now c.args.ranks rank c.args.from c.args.to next c.of_rank-planned.ensures.in_order c.of_rank-planned.ensures.rows some c.requires.walk.whole in
    let end = ends_at c.args.from c.args.to rank c.loop-word.word is (omega (arith, c.loop-word-test.false)) (c.loop-word.auto.word-end (shr_mono rank c.requires.walk.span)) in
    part-from_read (g.R.Rows.told c.args.rows.now) c.args.search.now.first (rows_from_rank c.args.ranks plan) (rows_below_rank c.args.ranks plan) c.args.from c.args.to (g.R.Rows.reads c.args.rows.now) (g.R.Rows.reads c.loop-word.rows)
    (subst (λ n. HasRead (g.R.Rows.told c.args.rows.now) c.args.search.now.first (rows_from_rank c.args.ranks plan) (rows_below_rank c.args.ranks plan) c.args.from n (g.R.Rows.reads c.args.rows.now) (g.R.Rows.reads c.loop-word.rows)) end c.loop-word.invariant.reads)

-- from the words of the code to products
moved : (P : ℕ → ℕ → Type 0) (a b c d : ℕ) → a ≡ c → b ≡ d → P a b → P c d
moved P a b c d from to is = subst (λ n. P c n) to (subst (λ n. P n b) from is)

pub returns-in_err-visit-clause-part : goal.returns-in_err-visit-clause-part
returns-in_err-visit-clause-part g t c =
    let plan = c.args.search.now.plan.now in
    let planned = c.of_rank-planned.result.now in
    let rank : ℕ = c.args.ranks - 1 in
    let word : ℕ = c.loop-word.word in
    let before = c.loop-word.invariant in
    let next : c.args.ranks ≡ rank + 1 = omega (arith, c.if-ranks-eq0.false) in
    let some : 0 < length planned = grind (arith, nat_tests) in
    let turn = turn-is plan planned c.args.ranks rank c.args.from c.args.to word next c.of_rank-planned.ensures.in_order c.of_rank-planned.ensures.rows some c.requires.walk.whole c.loop-word.auto.word c.loop-word-test.true in
    let from : word * 2 ^ rank % 2 ^ 32 ≡ 2 ^ rank * word = shifted rank word (omega (arith, turn.high, c.requires.walk.few)) in
    let to : (word + 1) * 2 ^ rank % 2 ^ 32 ≡ 2 ^ rank * (word + 1) = shifted rank (word + 1) (omega (arith, turn.high, c.requires.walk.few)) in
    let told = g.R.Rows.told c.args.rows.now in
    let least = g.R.Rows.least c.args.rows.now in
    let first : ℕ = c.args.search.now.first in
    let slice : ℕ = c.args.search.now.slice in
    let seen = g.R.Rows.seen c.visit-then-left-ne0.new.rows in
    let new = c.visit-then-left-ne0.new.out in
    let out = c.loop-word.out in
    let deeper = moved (λ a b. HasFoundPart told least seen first plan slice (64 * a) (64 * b) out new) (word * 2 ^ rank % 2 ^ 32) ((word + 1) * 2 ^ rank % 2 ^ 32) (2 ^ rank * word) (2 ^ rank * (word + 1)) from to
    (part-from told (g.R.Rows.told c.intersect-left.new.rows) (c.intersect-left.ensures.stays.told_stays ∙ before.stays.told_stays) least (g.R.Rows.least c.intersect-left.new.rows)
    (λ bit. (λ r. (c.intersect-left.ensures.stays.least_stays bit).0 ((before.stays.least_stays bit).0 r), λ r. (before.stays.least_stays bit).1 ((c.intersect-left.ensures.stays.least_stays bit).1 r)))
    seen first plan slice (64 * (word * 2 ^ rank % 2 ^ 32)) (64 * ((word + 1) * 2 ^ rank % 2 ^ 32)) out new c.visit-then-left-ne0.ensures.part) in
    part-joined told least first plan slice (g.R.Rows.seen c.loop-word.rows) seen (λ bit has. c.visit-then-left-ne0.ensures.stays.seen_stays bit (c.intersect-left.ensures.stays.seen_stays bit has))
    (64 * c.args.from) (64 * (2 ^ rank * word)) (64 * (2 ^ rank * (word + 1))) (64 * c.args.to) c.args.out.now out new (omega (arith, turn.low)) (omega (arith, turn.high)) before.found deeper

pub returns-in_err-visit-clause-reads_at_most : goal.returns-in_err-visit-clause-reads_at_most
returns-in_err-visit-clause-reads_at_most g t c =
    let plan = c.args.search.now.plan.now in
    let planned = c.of_rank-planned.result.now in
    let rank : ℕ = c.args.ranks - 1 in
    let word : ℕ = c.loop-word.word in
    let before = c.loop-word.invariant in
    let next : c.args.ranks ≡ rank + 1 = omega (arith, c.if-ranks-eq0.false) in
    let some : 0 < length planned = grind (arith, nat_tests) in
    let turn = turn-is plan planned c.args.ranks rank c.args.from c.args.to word next c.of_rank-planned.ensures.in_order c.of_rank-planned.ensures.rows some c.requires.walk.whole c.loop-word.auto.word c.loop-word-test.true in
    let from : word * 2 ^ rank % 2 ^ 32 ≡ 2 ^ rank * word = shifted rank word (omega (arith, turn.high, c.requires.walk.few)) in
    let to : (word + 1) * 2 ^ rank % 2 ^ 32 ≡ 2 ^ rank * (word + 1) = shifted rank (word + 1) (omega (arith, turn.high, c.requires.walk.few)) in
    let told = g.R.Rows.told c.args.rows.now in
    let first : ℕ = c.args.search.now.first in
    let old : ℕ = g.R.Rows.reads c.loop-word.rows in
    let mid : ℕ = g.R.Rows.reads c.intersect-left.new.rows in
    let new : ℕ = g.R.Rows.reads c.visit-then-left-ne0.new.rows in
    let deeper = moved (λ a b. HasReadPart told first (rows_from_rank rank plan) (rows_below_rank rank plan) a b mid new) (word * 2 ^ rank % 2 ^ 32) ((word + 1) * 2 ^ rank % 2 ^ 32) (2 ^ rank * word) (2 ^ rank * (word + 1)) from to
    (subst (λ o. HasReadPart o first (rows_from_rank rank plan) (rows_below_rank rank plan) (word * 2 ^ rank % 2 ^ 32) ((word + 1) * 2 ^ rank % 2 ^ 32) mid new) (c.intersect-left.ensures.stays.told_stays ∙ before.stays.told_stays) c.visit-then-left-ne0.ensures.reads_at_most) in
    let here = subst (λ o. HasReadPlace o (first + word) c.args.running planned old mid) before.stays.told_stays c.intersect-left.ensures.reads in
    read-part_joined told first (rows_from_rank c.args.ranks plan) (rows_below_rank c.args.ranks plan) c.args.from (2 ^ rank * word) (2 ^ rank * (word + 1)) c.args.to (g.R.Rows.reads c.args.rows.now) old new turn.low (omega arith) turn.high before.reads
    (turn-read_part told (g.R.Rows.least c.args.rows.now) (g.R.Rows.seen c.args.rows.now) first c.args.running plan planned c.args.ranks rank c.args.from c.args.to word turn c.requires.some c.ranges.running.fits c.requires.running old mid new here deeper)

pub loop-word-preserved : goal.loop-word-preserved
loop-word-preserved g t c =
    let plan = c.args.search.now.plan.now in
    let planned = c.of_rank-planned.result.now in
    let rank : ℕ = c.args.ranks - 1 in
    let word : ℕ = c.loop-word.word in
    let a : ℕ = 2 ^ rank * word in
    let b : ℕ = 2 ^ rank * (word + 1) in
    let before = c.loop-word.invariant in
    let read = c.intersect-left.ensures in
    let next : c.args.ranks ≡ rank + 1 = omega (arith, c.if-ranks-eq0.false) in
    let some : 0 < length planned = grind (arith, nat_tests) in
    let turn = turn-is plan planned c.args.ranks rank c.args.from c.args.to word next c.of_rank-planned.ensures.in_order c.of_rank-planned.ensures.rows some c.requires.walk.whole c.loop-word.auto.word c.loop-word-test.true in
    let from : word * 2 ^ rank % 2 ^ 32 ≡ a = shifted rank word (omega (arith, turn.high, c.requires.walk.few)) in
    let to : (word + 1) * 2 ^ rank % 2 ^ 32 ≡ b = shifted rank (word + 1) (omega (arith, turn.high, c.requires.walk.few)) in
    let told = g.R.Rows.told c.args.rows.now in
    let least = g.R.Rows.least c.args.rows.now in
    let first : ℕ = c.args.search.now.first in
    let slice : ℕ = c.args.search.now.slice in
    let out = c.loop-word.out in
    let old : ℕ = g.R.Rows.reads c.loop-word.rows in
    let mid : ℕ = g.R.Rows.reads c.intersect-left.new.rows in
    let stays_here = stays-later g.R.Rows.reach g.R.Rows.least g.R.Rows.seen g.R.Rows.told g.R.Rows.kept c.args.rows.now c.loop-word.rows c.intersect-left.new.rows before.stays read.stays in
    let told_same = stays_here.told_stays in
    let least_same = stays_here.least_stays in
    let here = subst (λ o. HasReadPlace o (first + word) c.args.running planned old mid) before.stays.told_stays read.reads in
    elim c.if-left-ne0.branch [
      | then-left-ne0+in_ok-visit w ↦
          let visited = w.in_ok-visit.ensures in
          let rows = w.visit-then-left-ne0.new.rows in
          let new = w.visit-then-left-ne0.new.out in
          let deeper = moved (λ x y. HasFound told least (g.R.Rows.seen rows) first plan slice (64 * x) (64 * y) out new) (word * 2 ^ rank % 2 ^ 32) ((word + 1) * 2 ^ rank % 2 ^ 32) a b from to
          (found-from told (g.R.Rows.told c.intersect-left.new.rows) told_same least (g.R.Rows.least c.intersect-left.new.rows) least_same
          (g.R.Rows.seen rows) first plan slice (64 * (word * 2 ^ rank % 2 ^ 32)) (64 * ((word + 1) * 2 ^ rank % 2 ^ 32)) out new visited.found) in
          let deeper_read = moved (λ x y. HasRead told first (rows_from_rank rank plan) (rows_below_rank rank plan) x y mid (g.R.Rows.reads rows)) (word * 2 ^ rank % 2 ^ 32) ((word + 1) * 2 ^ rank % 2 ^ 32) a b from to
          (subst (λ o. HasRead o first (rows_from_rank rank plan) (rows_below_rank rank plan) (word * 2 ^ rank % 2 ^ 32) ((word + 1) * 2 ^ rank % 2 ^ 32) mid (g.R.Rows.reads rows)) told_same visited.reads) in
          record {
            found =
                subst (λ r. HasFound told least (g.R.Rows.seen r) first plan slice (64 * c.args.from) (64 * b) c.args.out.now c.if-left-ne0.out) (sym w.rows-is)
                (subst (HasFound told least (g.R.Rows.seen rows) first plan slice (64 * c.args.from) (64 * b) c.args.out.now) (sym w.out-is)
                (found-joined told least first plan slice (g.R.Rows.seen c.loop-word.rows) (g.R.Rows.seen rows) (λ bit has. visited.stays.seen_stays bit (read.stays.seen_stays bit has))
                (64 * c.args.from) (64 * a) (64 * b) c.args.out.now out new (omega (arith, turn.low)) (omega arith) before.found deeper));
            reads =
                subst (λ r. HasRead told first (rows_from_rank c.args.ranks plan) (rows_below_rank c.args.ranks plan) c.args.from b (g.R.Rows.reads c.args.rows.now) (g.R.Rows.reads r)) (sym w.rows-is)
                (read-joined told first (rows_from_rank c.args.ranks plan) (rows_below_rank c.args.ranks plan) c.args.from a b (g.R.Rows.reads c.args.rows.now) old (g.R.Rows.reads rows) turn.low (omega arith) before.reads
                (turn-read told least (g.R.Rows.seen c.args.rows.now) first c.args.running plan planned c.args.ranks rank c.args.from c.args.to word turn c.requires.some c.ranges.running.fits c.requires.running old mid (g.R.Rows.reads rows) here deeper_read));
            stays = subst (λ r. StaysReadable g.R.Rows.reach g.R.Rows.least g.R.Rows.seen g.R.Rows.told g.R.Rows.kept c.args.rows.now r) (sym w.rows-is)
                (stays-later g.R.Rows.reach g.R.Rows.least g.R.Rows.seen g.R.Rows.told g.R.Rows.kept c.args.rows.now c.intersect-left.new.rows rows stays_here visited.stays);
          }
      | else-left-ne0 w ↦
          let rows = c.intersect-left.new.rows in
          let left : ℕ = c.intersect-left.result in
          let is = left-test told (g.R.Rows.told c.loop-word.rows) before.stays.told_stays least (g.R.Rows.least c.loop-word.rows) before.stays.least_stays
          (g.R.Rows.seen c.args.rows.now) (g.R.Rows.seen c.loop-word.rows) (g.R.Rows.seen rows) before.stays.seen_stays read.stays.seen_stays
          first c.args.running left plan planned c.args.ranks rank c.args.from c.args.to word turn c.requires.running read.told read.least read.running read.seen in
          record {
            found =
                subst (λ r. HasFound told least (g.R.Rows.seen r) first plan slice (64 * c.args.from) (64 * b) c.args.out.now c.if-left-ne0.out) (sym w.rows-is)
                (subst (HasFound told least (g.R.Rows.seen rows) first plan slice (64 * c.args.from) (64 * b) c.args.out.now) (sym w.out-is)
                (found-joined told least first plan slice (g.R.Rows.seen c.loop-word.rows) (g.R.Rows.seen rows) read.stays.seen_stays
                (64 * c.args.from) (64 * a) (64 * b) c.args.out.now out out (omega (arith, turn.low)) (omega arith) before.found
                (found-zero told least first plan slice (g.R.Rows.seen rows) (rows_from_rank rank plan) (rows_below_rank rank plan) (plan-parts rank plan c.of_rank-planned.ensures.in_order) (64 * a) (64 * b) left out w.if-left-ne0.false is)));
            reads =
                subst (λ r. HasRead told first (rows_from_rank c.args.ranks plan) (rows_below_rank c.args.ranks plan) c.args.from b (g.R.Rows.reads c.args.rows.now) (g.R.Rows.reads r)) (sym w.rows-is)
                (read-joined told first (rows_from_rank c.args.ranks plan) (rows_below_rank c.args.ranks plan) c.args.from a b (g.R.Rows.reads c.args.rows.now) old mid turn.low (omega arith) before.reads
                (turn-read_zero told least (g.R.Rows.seen c.args.rows.now) first c.args.running plan planned c.args.ranks rank c.args.from c.args.to word turn c.requires.some c.ranges.running.fits c.requires.running (g.R.Rows.seen rows) left old mid w.if-left-ne0.false is here));
            stays = subst (λ r. StaysReadable g.R.Rows.reach g.R.Rows.least g.R.Rows.seen g.R.Rows.told g.R.Rows.kept c.args.rows.now r) (sym w.rows-is) stays_here;
          }
    ]
