use Rattle.std.proofs.Common.{rules, ◌≡◌, ◌<◌, ◌+◌, ◌*◌, ◌-◌, ◌^◌, ◌&&◌, ◌||◌, ◌++◌, ◌∙◌, ℕ, true, false, not, List, length, refl, sym, ap, ap₂, subst, inl, inr, arith}
use Rattle.std.specs.Prelude.{bit_and, bit_or}
use Rattle.std.specs.declared.option.Option.{Option}
use Rattle.funnel_model.specs.declared.bit_list.Bit.{Bit}
use Rattle.std.proofs.lemmas.Bool.{false_from_ne_true, false≢true, or_cases, or_left, or_right}
use Rattle.std.proofs.lemmas.List.{length-append}
use Rattle.std.proofs.lemmas.List.Elements.{All-weaker}
use Rattle.funnel_model.specs.Searches.{Search, Searches, entry, no_entries, not_of}
use Rattle.row_layout.specs.AtomReads.{AtomPlan}
use Rattle.row_layout.specs.declared.row.Row.{Row}
use Rattle.row_layout.specs.declared.search_plan.Node.{Node}
use Rattle.row_layout.specs.declared.search_plan.NodeKind.{NodeKind}
use Rattle.row_layout.specs.declared.search_plan.NodeKind.TheVariants as kind
use Rattle.row_layout.specs.SearchPlans.{HasParts, IsFirstOf, IsPlanOfSearch}
use Rattle.rank_matcher.specs.Evaluation.{CanRead, Covers, ForEachBit, HasReadAll, HasReadSearch, HasReadSome, IsWithin}
use Rattle.rank_matcher.proofs.Bits.{both_have, has_bit-and, has_bit-not, has_bit-or, has_bit-zero}
use Rattle.rank_matcher.proofs.Entries.{IsSplit, joined, joined-joined, joined-none, none-left, some-nodes}
use Rattle.rank_matcher.proofs.Intersections.{All-split}
use Rattle.rank_matcher.proofs.SearchReads.{all-again, all-none, all-step, all-unread, read-all, read-atom, read-not, read-some, search-again, some-again, some-none, some-read}
use Rattle.row_read.proofs.Stays.{stays-later, stays-same}
use Rattle.row_read.specs.Bits.{has_bit}
use Rattle.rank_matcher.proofs.evaluation.+evaluate.Goals as goal

-- an atom
pub evaluate-returns-then-exact-clause-told : goal.evaluate-returns-then-exact-clause-told
evaluate-returns-then-exact-clause-told g t c search plan bit few in_mask =
    let told = g.R.Rows.told c.args.rows.now in
    let least = g.R.Rows.least c.args.rows.now in
    let seen = g.R.Rows.seen c.read_atom-may.new.rows in
    let column = 64 * c.args.place.word + bit in
    let left = has_bit c.read_atom-may.result bit in
    let parts : HasParts search (kind.Atom true) c.head-kind.result.1.nodes.now c.head-kind.result.1.rows.now =
    subst (λ (k : NodeKind). HasParts search k c.head-kind.result.1.nodes.now c.head-kind.result.1.rows.now)
    (c.in-Atom.is ∙ ap kind.Atom c.if-exact.true) (c.head-kind.ensures.parts search plan) in
    subst (λ (s : Search AtomPlan). HasReadSearch told least seen c.args.place.first column s left left) (sym parts.1)
    (read-atom told least seen c.args.place.first column parts.0 true c.head-kind.result.1.rows.now left parts.2 parts.3 (c.read_atom-may.ensures.told bit few in_mask))

pub evaluate-returns-else-exact-clause-told : goal.evaluate-returns-else-exact-clause-told
evaluate-returns-else-exact-clause-told g t c search plan bit few in_mask =
    let told = g.R.Rows.told c.args.rows.now in
    let least = g.R.Rows.least c.args.rows.now in
    let seen = g.R.Rows.seen c.read_atom-may.new.rows in
    let column = 64 * c.args.place.word + bit in
    let left = has_bit c.read_atom-may.result bit in
    let parts : HasParts search (kind.Atom false) c.head-kind.result.1.nodes.now c.head-kind.result.1.rows.now =
    subst (λ (k : NodeKind). HasParts search k c.head-kind.result.1.nodes.now c.head-kind.result.1.rows.now)
    (c.in-Atom.is ∙ ap kind.Atom c.if-exact.false) (c.head-kind.ensures.parts search plan) in
    subst (λ (s : Search AtomPlan). HasReadSearch told least seen c.args.place.first column s left false) (sym parts.1)
    (read-atom told least seen c.args.place.first column parts.0 false c.head-kind.result.1.rows.now left parts.2 parts.3 (c.read_atom-may.ensures.told bit few in_mask))

-- all of several, and some of several
pub evaluate-returns-in-And-clause-told : goal.evaluate-returns-in-And-clause-told
evaluate-returns-in-And-clause-told g t c search plan bit few in_mask =
    let told = g.R.Rows.told c.args.rows.now in
    let least = g.R.Rows.least c.args.rows.now in
    let seen = g.R.Rows.seen c.evaluate_all.new.rows in
    let column = 64 * c.args.place.word + bit in
    let m = has_bit c.evaluate_all.result.may bit in
    let s = has_bit c.evaluate_all.result.sure bit in
    let parts : HasParts search kind.And c.head-kind.result.1.nodes.now c.head-kind.result.1.rows.now =
    subst (λ (k : NodeKind). HasParts search k c.head-kind.result.1.nodes.now c.head-kind.result.1.rows.now) c.in-And.is (c.head-kind.ensures.parts search plan) in
    subst (λ (x : Search AtomPlan). HasReadSearch told least seen c.args.place.first column x m s) (sym parts.1)
    (read-all told least seen c.args.place.first column parts.0 m s (c.evaluate_all.ensures.told parts.0 parts.2 bit few in_mask))

pub evaluate-returns-in-Or-clause-told : goal.evaluate-returns-in-Or-clause-told
evaluate-returns-in-Or-clause-told g t c search plan bit few in_mask =
    let told = g.R.Rows.told c.args.rows.now in
    let least = g.R.Rows.least c.args.rows.now in
    let seen = g.R.Rows.seen c.evaluate_some.new.rows in
    let column = 64 * c.args.place.word + bit in
    let m = has_bit c.evaluate_some.result.may bit in
    let s = has_bit c.evaluate_some.result.sure bit in
    let parts : HasParts search kind.Or c.head-kind.result.1.nodes.now c.head-kind.result.1.rows.now =
    subst (λ (k : NodeKind). HasParts search k c.head-kind.result.1.nodes.now c.head-kind.result.1.rows.now) c.in-Or.is (c.head-kind.ensures.parts search plan) in
    subst (λ (x : Search AtomPlan). HasReadSearch told least seen c.args.place.first column x m s) (sym parts.1)
    (read-some told least seen c.args.place.first column parts.0 m s (c.evaluate_some.ensures.told parts.0 parts.2 bit few in_mask))

-- the contrary of a search
contrary-bit : (mask n bit : ℕ) → n < 2 ^ 64 → bit < 64 → has_bit mask bit ≡ true → has_bit (bit_and mask (2 ^ 64 - 1 - n)) bit ≡ not (has_bit n bit)
contrary-bit mask n bit fits few in_mask =
    has_bit-and mask (2 ^ 64 - 1 - n) bit ∙ ap₂ (λ a b. a && b) in_mask (has_bit-not n bit fits few)

pub evaluate-returns-in-Not-clause-told : goal.evaluate-returns-in-Not-clause-told
evaluate-returns-in-Not-clause-told g t c whole plan bit few in_mask =
    let told = g.R.Rows.told c.args.rows.now in
    let least = g.R.Rows.least c.args.rows.now in
    let seen = g.R.Rows.seen c.evaluate-told.new.rows in
    let first = c.args.place.first in
    let column = 64 * c.args.place.word + bit in
    let may = c.evaluate-told.result.may in
    let sure = c.evaluate-told.result.sure in
    let may_fits : may < 2 ^ 64 = search rules in
    let sure_fits : sure < 2 ^ 64 = search rules in
    let parts : HasParts whole kind.Not c.head-kind.result.1.nodes.now c.head-kind.result.1.rows.now =
    subst (λ (k : NodeKind). HasParts whole k c.head-kind.result.1.nodes.now c.head-kind.result.1.rows.now) c.in-Not.is (c.head-kind.ensures.parts whole plan) in
    subst (λ (x : Search AtomPlan). HasReadSearch told least seen first column x (has_bit (bit_and c.args.mask (2 ^ 64 - 1 - sure)) bit) (has_bit (bit_and c.args.mask (2 ^ 64 - 1 - may)) bit)) (sym parts.1)
    (subst (λ b. HasReadSearch told least seen first column (not_of parts.0) b (has_bit (bit_and c.args.mask (2 ^ 64 - 1 - may)) bit)) (sym (contrary-bit c.args.mask sure bit sure_fits few in_mask))
    (subst (λ b. HasReadSearch told least seen first column (not_of parts.0) (not (has_bit sure bit)) b) (sym (contrary-bit c.args.mask may bit may_fits few in_mask))
    (read-not told least seen first column parts.0 (has_bit may bit) (has_bit sure bit) (c.evaluate-told.ensures.told parts.0 parts.2 bit few in_mask))))

pub evaluate-returns-in-Not-clause-within : goal.evaluate-returns-in-Not-clause-within
evaluate-returns-in-Not-clause-within g t c bit few has = (both_have c.args.mask (2 ^ 64 - 1 - c.evaluate-told.result.sure) bit has).0

pub evaluate-returns-in-Not-clause-sure : goal.evaluate-returns-in-Not-clause-sure
evaluate-returns-in-Not-clause-sure g t c bit few has =
    let may = c.evaluate-told.result.may in
    let sure = c.evaluate-told.result.sure in
    let may_fits : may < 2 ^ 64 = search rules in
    let sure_fits : sure < 2 ^ 64 = search rules in
    let in_mask = (both_have c.args.mask (2 ^ 64 - 1 - may) bit has).0 in
    let out : not (has_bit may bit) ≡ true = sym (contrary-bit c.args.mask may bit may_fits few in_mask) ∙ has in
    let none : has_bit sure bit ≡ false =
    false_from_ne_true (has_bit sure bit) (λ is. false≢true (ap not (sym (c.evaluate-told.ensures.sure bit few is)) ∙ out)) in
    contrary-bit c.args.mask sure bit sure_fits few in_mask ∙ ap not none

-- All of several: before the first
pub evaluate_all-loop-left-init : goal.evaluate_all-loop-left-init
evaluate_all-loop-left-init g t c =
    let told = g.R.Rows.told c.args.rows.now in
    let least = g.R.Rows.least c.args.rows.now in
    let seen = g.R.Rows.seen c.args.rows.now in
    record {
      told = λ searches plans. record {
        done = no_entries;
        left = searches;
        whole = refl;
        plans = plans;
        holds = λ bit few in_mask.
            subst (λ b. HasReadAll told least seen c.args.place.first (64 * c.args.place.word + bit) no_entries b b) (sym in_mask)
            (all-none told least seen c.args.place.first (64 * c.args.place.word + bit));
      };
      plan = c.requires.plan;
      can_read = c.requires.can_read;
      shorter = omega arith;
      within = λ bit few has. has;
      sure = λ bit few has. has;
      reads = omega arith;
      stays = stays-same g.R.Rows.reach g.R.Rows.least g.R.Rows.seen g.R.Rows.told g.R.Rows.kept c.args.rows.now;
    }

-- the rows of the first of several and those of the others
rows_parts : {reach : ℕ → Type 0} (first word : ℕ) (front back whole : List Row) → front ++ back ≡ whole → CanRead reach first word whole →
    CanRead reach first word front × CanRead reach first word back
rows_parts {reach} first word front back whole is can =
    All-split (Covers reach first word) front back (subst (λ (rows : List Row). CanRead reach first word rows) (sym is) can)

can_again : {reach again : ℕ → Type 0} → ((word : ℕ) → reach word → again word) → (first word : ℕ) (rows : List Row) → CanRead reach first word rows → CanRead again first word rows
can_again {reach} {again} more first word rows can =
    All-weaker (Covers reach first word) (Covers again first word)
    (λ row covers. record {
      low = covers.low;
      inside = covers.inside;
      readable = record { reaches = λ k below. more _ (covers.readable.reaches k below); fits = covers.readable.fits };
    }) rows can

pub evaluate_all-evaluate-told-requires : goal.evaluate_all-evaluate-told-requires
evaluate_all-evaluate-told-requires g t c =
    let of = c.split.ensures.parts c.loop-left.invariant.plan.0 c.loop-left.invariant.plan.1 in
    let plan : (search : Search AtomPlan) × IsPlanOfSearch search c.split.result.0.nodes.now c.split.result.0.rows.now = (of.first, of.plan) in
    let can = (rows_parts c.args.place.first c.args.place.word c.split.result.0.rows.now c.split.result.1.rows.now c.loop-left.left.rows.now c.split.ensures.rows c.loop-left.invariant.can_read).0 in
    let less : 2 * length c.split.result.0.nodes.now < 2 * length c.args.part.nodes.now + 1 =
    omega (arith, c.loop-left.invariant.shorter, ap length c.split.ensures.nodes, length-append c.split.result.0.nodes.now c.split.result.1.nodes.now) in
    search (rules, plan, can, less)

-- what is told after one more of them
all_after : (told mid : Option (List ℕ)) (least now seen after : Bit → Type 0) → mid ≡ told → ((b : Bit) → least b → now b) → ((b : Bit) → seen b → after b) →
    (first word mask may sure next_may next_sure : ℕ) (searches : Searches AtomPlan) (nodes : List Node) (rows : List Row) (entry_nodes : List Node) (entry_rows : List Row)
    (later_nodes : List Node) (later_rows : List Row) →
    (was : IsSplit searches nodes rows (λ done. ForEachBit (λ column. HasReadAll told least seen first column done) word mask may sure)) →
    IsFirstOf was.left entry_nodes entry_rows later_nodes later_rows →
    ((search : Search AtomPlan) → IsPlanOfSearch search entry_nodes entry_rows → ForEachBit (λ column. HasReadSearch mid now after first column search) word may next_may next_sure) →
    IsWithin next_may may → IsWithin sure may →
    IsSplit searches later_nodes later_rows (λ done. ForEachBit (λ column. HasReadAll told least after first column done) word mask next_may (bit_and sure next_sure))
all_after told mid least now seen after same fewer more first word mask may sure next_may next_sure searches nodes rows entry_nodes entry_rows later_nodes later_rows was of read within unsure =
    record {
      done = joined was.done (entry of.first no_entries);
      left = of.later;
      whole = joined-joined was.done (entry of.first no_entries) of.later ∙ ap (joined was.done) (sym of.whole) ∙ was.whole;
      plans = of.plans;
      holds = λ bit few in_mask.
          let column = 64 * word + bit in
          let m = has_bit may bit in
          let s = has_bit sure bit in
          let m' = has_bit next_may bit in
          let s' = has_bit next_sure bit in
          subst (HasReadAll told least after first column (joined was.done (entry of.first no_entries)) m') (sym (has_bit-and sure next_sure bit))
          (all-step told least after first column was.done of.first m s m' s'
          (all-again told told least least seen after first column refl (λ b is. is) more was.done m s (was.holds bit few in_mask))
          (λ open'. search-again mid told now least after after first column (sym same) fewer (λ b has. has) of.first m' s' (read of.first of.plan bit few open'))
          (λ is. within bit few is) (λ is. unsure bit few is));
    }

pub evaluate_all-returns-then-all-eq0-clause-told : goal.evaluate_all-returns-then-all-eq0-clause-told
evaluate_all-returns-then-all-eq0-clause-told g t c searches plans bit few in_mask =
    let told = g.R.Rows.told c.args.rows.now in
    let least = g.R.Rows.least c.args.rows.now in
    let seen = g.R.Rows.seen c.evaluate-told.new.rows in
    let first = c.args.place.first in
    let column = 64 * c.args.place.word + bit in
    let was = c.loop-left.invariant.told searches plans in
    let after = all_after (g.R.Rows.told c.args.rows.now) (g.R.Rows.told c.loop-left.rows) (g.R.Rows.least c.args.rows.now) (g.R.Rows.least c.loop-left.rows) (g.R.Rows.seen c.loop-left.rows)
    (g.R.Rows.seen c.evaluate-told.new.rows) c.loop-left.invariant.stays.told_stays (λ b is. (c.loop-left.invariant.stays.least_stays b).0 is) (λ b has. c.evaluate-told.ensures.stays.seen_stays b has)
    c.args.place.first c.args.place.word c.args.mask c.loop-left.all.may c.loop-left.all.sure c.evaluate-told.result.may c.evaluate-told.result.sure
    searches c.loop-left.left.nodes.now c.loop-left.left.rows.now c.split.result.0.nodes.now c.split.result.0.rows.now c.split.result.1.nodes.now c.split.result.1.rows.now
    was (c.split.ensures.parts was.left was.plans) c.evaluate-told.ensures.told c.evaluate-told.ensures.within c.loop-left.invariant.sure in
    let m = has_bit c.evaluate-told.result.may bit in
    let s = has_bit (bit_and c.loop-left.all.sure c.evaluate-told.result.sure) bit in
    let out : m ≡ false = ap (λ n. has_bit n bit) c.if-all-eq0.true ∙ has_bit-zero bit in
    let unsure : s ≡ false = false_from_ne_true s (λ is.
    false≢true (sym out ∙ c.evaluate-told.ensures.sure bit few (both_have c.loop-left.all.sure c.evaluate-told.result.sure bit is).1)) in
    subst (λ (x : Searches AtomPlan). HasReadAll told least seen first column x m s) after.whole
    (subst (λ b. HasReadAll told least seen first column (joined after.done after.left) b s) (sym out)
    (subst (HasReadAll told least seen first column (joined after.done after.left) false) (sym unsure)
    (all-unread told least seen first column after.done after.left m s (after.holds bit few in_mask) out unsure)))

pub evaluate_all-returns-then-all-eq0-clause-sure : goal.evaluate_all-returns-then-all-eq0-clause-sure
evaluate_all-returns-then-all-eq0-clause-sure g t c bit few has =
    c.evaluate-told.ensures.sure bit few (both_have c.loop-left.all.sure c.evaluate-told.result.sure bit has).1

pub evaluate_all-loop-left-preserved : goal.evaluate_all-loop-left-preserved
evaluate_all-loop-left-preserved g t c =
    let before = c.loop-left.invariant in
    let after = c.evaluate-told.ensures in
    let of = c.split.ensures.parts before.plan.0 before.plan.1 in
    let rows = ap length c.split.ensures.rows in
    record {
      told = λ searches plans. let was = before.told searches plans in
          all_after (g.R.Rows.told c.args.rows.now) (g.R.Rows.told c.loop-left.rows) (g.R.Rows.least c.args.rows.now) (g.R.Rows.least c.loop-left.rows) (g.R.Rows.seen c.loop-left.rows)
          (g.R.Rows.seen c.evaluate-told.new.rows) c.loop-left.invariant.stays.told_stays (λ b is. (c.loop-left.invariant.stays.least_stays b).0 is) (λ b has. c.evaluate-told.ensures.stays.seen_stays b has)
          c.args.place.first c.args.place.word c.args.mask c.loop-left.all.may c.loop-left.all.sure c.evaluate-told.result.may c.evaluate-told.result.sure
          searches c.loop-left.left.nodes.now c.loop-left.left.rows.now c.split.result.0.nodes.now c.split.result.0.rows.now c.split.result.1.nodes.now c.split.result.1.rows.now
          was (c.split.ensures.parts was.left was.plans) c.evaluate-told.ensures.told c.evaluate-told.ensures.within c.loop-left.invariant.sure;
      plan = (of.later, of.plans);
      can_read = can_again (λ word is. (after.stays.reach_stays word).0 is) c.args.place.first c.args.place.word c.split.result.1.rows.now
          (rows_parts c.args.place.first c.args.place.word c.split.result.0.rows.now c.split.result.1.rows.now c.loop-left.left.rows.now c.split.ensures.rows before.can_read).1;
      shorter = omega (arith, before.shorter, ap length c.split.ensures.nodes, length-append c.split.result.0.nodes.now c.split.result.1.nodes.now);
      within = λ bit few has. before.within bit few (after.within bit few has);
      sure = λ bit few has. after.sure bit few (both_have c.loop-left.all.sure c.evaluate-told.result.sure bit has).1;
      reads = omega (arith, after.reads, before.reads, rows, length-append c.split.result.0.rows.now c.split.result.1.rows.now);
      stays = stays-later g.R.Rows.reach g.R.Rows.least g.R.Rows.seen g.R.Rows.told g.R.Rows.kept c.args.rows.now c.loop-left.rows c.evaluate-told.new.rows before.stays after.stays;
    }

pub evaluate_all-loop-left-smaller : goal.evaluate_all-loop-left-smaller
evaluate_all-loop-left-smaller g t c =
    let of = c.split.ensures.parts c.loop-left.invariant.plan.0 c.loop-left.invariant.plan.1 in
    omega (arith, ap length c.split.ensures.nodes, length-append c.split.result.0.nodes.now c.split.result.1.nodes.now, ap length of.plan.nodes_are, some-nodes of.first)

pub evaluate_all-returns-clause-told : goal.evaluate_all-returns-clause-told
evaluate_all-returns-clause-told g t c searches plans bit few in_mask =
    let was = c.loop-left.invariant.told searches plans in
    let none : was.left ≡ no_entries = none-left was.left c.loop-left.left.nodes.now c.loop-left.left.rows.now was.plans (search rules) in
    let all : was.done ≡ searches = sym (joined-none was.done) ∙ ap (joined was.done) (sym none) ∙ was.whole in
    subst (λ (x : Searches AtomPlan). HasReadAll (g.R.Rows.told c.args.rows.now) (g.R.Rows.least c.args.rows.now) (g.R.Rows.seen c.loop-left.rows) c.args.place.first
    (64 * c.args.place.word + bit) x (has_bit c.loop-left.all.may bit) (has_bit c.loop-left.all.sure bit)) all (was.holds bit few in_mask)

-- Some of several: before the first
pub evaluate_some-loop-left-init : goal.evaluate_some-loop-left-init
evaluate_some-loop-left-init g t c =
    let told = g.R.Rows.told c.args.rows.now in
    let least = g.R.Rows.least c.args.rows.now in
    let seen = g.R.Rows.seen c.args.rows.now in
    record {
      told = λ searches plans. record {
        done = no_entries;
        left = searches;
        whole = refl;
        plans = plans;
        holds = λ bit few in_mask.
            subst (λ b. HasReadSome told least seen c.args.place.first (64 * c.args.place.word + bit) no_entries b b) (sym (has_bit-zero bit))
            (some-none told least seen c.args.place.first (64 * c.args.place.word + bit));
      };
      plan = c.requires.plan;
      can_read = c.requires.can_read;
      shorter = omega arith;
      within = λ bit few has. absurd (false≢true (sym (has_bit-zero bit) ∙ has));
      sure = λ bit few has. has;
      reads = omega arith;
      stays = stays-same g.R.Rows.reach g.R.Rows.least g.R.Rows.seen g.R.Rows.told g.R.Rows.kept c.args.rows.now;
    }

pub evaluate_some-evaluate-told-requires : goal.evaluate_some-evaluate-told-requires
evaluate_some-evaluate-told-requires g t c =
    let of = c.split.ensures.parts c.loop-left.invariant.plan.0 c.loop-left.invariant.plan.1 in
    let plan : (search : Search AtomPlan) × IsPlanOfSearch search c.split.result.0.nodes.now c.split.result.0.rows.now = (of.first, of.plan) in
    let can = (rows_parts c.args.place.first c.args.place.word c.split.result.0.rows.now c.split.result.1.rows.now c.loop-left.left.rows.now c.split.ensures.rows c.loop-left.invariant.can_read).0 in
    let less : 2 * length c.split.result.0.nodes.now < 2 * length c.args.part.nodes.now + 1 =
    omega (arith, c.loop-left.invariant.shorter, ap length c.split.ensures.nodes, length-append c.split.result.0.nodes.now c.split.result.1.nodes.now) in
    search (rules, plan, can, less)

-- a bit of one of two words
either : (a b bit : ℕ) → {P : Type 0} → has_bit (bit_or a b) bit ≡ true → (has_bit a bit ≡ true → P) → (has_bit b bit ≡ true → P) → P
either a b bit has one other = elim (or_cases (has_bit a bit) (has_bit b bit) (sym (has_bit-or a b bit) ∙ has)) [ inl is ↦ one is | inr is ↦ other is ]

pub evaluate_some-loop-left-preserved : goal.evaluate_some-loop-left-preserved
evaluate_some-loop-left-preserved g t c =
    let before = c.loop-left.invariant in
    let after = c.evaluate-told.ensures in
    let of = c.split.ensures.parts before.plan.0 before.plan.1 in
    let rows = ap length c.split.ensures.rows in
    let told = g.R.Rows.told c.args.rows.now in
    let least = g.R.Rows.least c.args.rows.now in
    let seen = g.R.Rows.seen c.evaluate-told.new.rows in
    let first = c.args.place.first in
    let may = c.loop-left.some.may in
    let sure = c.loop-left.some.sure in
    let next_may = c.evaluate-told.result.may in
    let next_sure = c.evaluate-told.result.sure in
    record {
      told = λ searches plans.
          let was = before.told searches plans in
          let next = c.split.ensures.parts was.left was.plans in
          record {
            done = joined was.done (entry next.first no_entries);
            left = next.later;
            whole = joined-joined was.done (entry next.first no_entries) next.later ∙ ap (joined was.done) (sym next.whole) ∙ was.whole;
            plans = next.plans;
            holds = λ bit few in_mask.
                let column = 64 * c.args.place.word + bit in
                let es = joined was.done (entry next.first no_entries) in
                subst (λ b. HasReadSome told least seen first column es b (has_bit (bit_or sure next_sure) bit)) (sym (has_bit-or may next_may bit))
                (subst (HasReadSome told least seen first column es (has_bit may bit || has_bit next_may bit)) (sym (has_bit-or sure next_sure bit))
                (some-read told least seen first column was.done next.first (has_bit may bit) (has_bit sure bit) (has_bit next_may bit) (has_bit next_sure bit)
                (some-again told told least least (g.R.Rows.seen c.loop-left.rows) seen first column refl (λ b is. is) (λ b has. after.stays.seen_stays b has) was.done
                (has_bit may bit) (has_bit sure bit) (was.holds bit few in_mask))
                (search-again (g.R.Rows.told c.loop-left.rows) told (g.R.Rows.least c.loop-left.rows) least seen seen first column (sym before.stays.told_stays)
                (λ b is. (before.stays.least_stays b).0 is) (λ b has. has) next.first (has_bit next_may bit) (has_bit next_sure bit) (after.told next.first next.plan bit few in_mask))));
          };
      plan = (of.later, of.plans);
      can_read = can_again (λ word is. (after.stays.reach_stays word).0 is) c.args.place.first c.args.place.word c.split.result.1.rows.now
          (rows_parts c.args.place.first c.args.place.word c.split.result.0.rows.now c.split.result.1.rows.now c.loop-left.left.rows.now c.split.ensures.rows before.can_read).1;
      shorter = omega (arith, before.shorter, ap length c.split.ensures.nodes, length-append c.split.result.0.nodes.now c.split.result.1.nodes.now);
      within = λ bit few has. either may next_may bit has (before.within bit few) (after.within bit few);
      sure = λ bit few has. has_bit-or may next_may bit ∙ either sure next_sure bit has
          (λ is. or_left (has_bit may bit) (has_bit next_may bit) (before.sure bit few is)) (λ is. or_right (has_bit may bit) (has_bit next_may bit) (after.sure bit few is));
      reads = omega (arith, after.reads, before.reads, rows, length-append c.split.result.0.rows.now c.split.result.1.rows.now);
      stays = stays-later g.R.Rows.reach g.R.Rows.least g.R.Rows.seen g.R.Rows.told g.R.Rows.kept c.args.rows.now c.loop-left.rows c.evaluate-told.new.rows before.stays after.stays;
    }

pub evaluate_some-loop-left-smaller : goal.evaluate_some-loop-left-smaller
evaluate_some-loop-left-smaller g t c =
    let of = c.split.ensures.parts c.loop-left.invariant.plan.0 c.loop-left.invariant.plan.1 in
    omega (arith, ap length c.split.ensures.nodes, length-append c.split.result.0.nodes.now c.split.result.1.nodes.now, ap length of.plan.nodes_are, some-nodes of.first)

pub evaluate_some-returns-clause-told : goal.evaluate_some-returns-clause-told
evaluate_some-returns-clause-told g t c searches plans bit few in_mask =
    let was = c.loop-left.invariant.told searches plans in
    let none : was.left ≡ no_entries = none-left was.left c.loop-left.left.nodes.now c.loop-left.left.rows.now was.plans (search rules) in
    let all : was.done ≡ searches = sym (joined-none was.done) ∙ ap (joined was.done) (sym none) ∙ was.whole in
    subst (λ (x : Searches AtomPlan). HasReadSome (g.R.Rows.told c.args.rows.now) (g.R.Rows.least c.args.rows.now) (g.R.Rows.seen c.loop-left.rows) c.args.place.first
    (64 * c.args.place.word + bit) x (has_bit c.loop-left.some.may bit) (has_bit c.loop-left.some.sure bit)) all (was.holds bit few in_mask)
