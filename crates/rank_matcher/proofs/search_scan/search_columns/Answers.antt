use Rattle.std.proofs.Common.{rules, ◌≡◌, ◌+◌, ◌-◌, ◌*◌, ◌/◌, ◌^◌, ◌<◌, ◌≤◌, ◌&&◌, ℕ, not, ap, ◌∙◌, arith}
use Rattle.std.specs.Prelude.{bit_and}
use Rattle.row_layout.specs.DocumentBits.{slice_start}
use Rattle.row_read.specs.Bits.{has_bit}
use Rattle.rank_matcher.proofs.Scans.{words-of_slice}
use Rattle.rank_matcher.proofs.Bits.{has_bit-and, has_bit-not}
use Rattle.rank_matcher.proofs.SearchScans.{searched-more, searched-nothing}
use Rattle.rank_matcher.proofs.search_scan.search_columns.Goals as goal

pub returns-then-mask-eq0-clause-searched : goal.returns-then-mask-eq0-clause-searched
returns-then-mask-eq0-clause-searched g c searches is_left first_sure first_unsure plans mask_is is =
    let layout = c.args.asked.now.layout.now in
    let slice : ℕ = c.args.asked.now.slice in
    searched-nothing (g.R.Rows.told c.args.rows.now) (g.R.Rows.least c.args.rows.now) (g.R.Rows.seen c.args.rows.now) (slice_start layout.room slice) searches is_left slice c.args.word
    first_sure c.args.sure.now first_unsure c.args.unsure.now c.args.mask c.if-mask-eq0.true is mask_is

pub search_word-told-requires-clause-slice : goal.search_word-told-requires-clause-slice
search_word-told-requires-clause-slice g c = c.requires.search.can_scan

pub search_word-told-requires-clause-plan : goal.search_word-told-requires-clause-plan
search_word-told-requires-clause-plan g c = (c.requires.search.searches, c.requires.search.are_plans)

pub returns-clause-searched : goal.returns-clause-searched
returns-clause-searched g c searches is_left first_sure first_unsure plans mask_is is =
    let layout = c.args.asked.now.layout.now in
    let slice : ℕ = c.args.asked.now.slice in
    let word : ℕ = c.args.word in
    let made = c.search_word-told in
    let may : ℕ = made.result.may in
    let sure : ℕ = made.result.sure in
    let fits : sure < 2 ^ 64 = search rules in
    let unsure_is : (bit : ℕ) → bit < 64 → has_bit (bit_and may (2 ^ 64 - 1 - sure)) bit ≡ (has_bit may bit && not (has_bit sure bit)) =
    λ bit few. has_bit-and may (2 ^ 64 - 1 - sure) bit ∙ ap (λ b. has_bit may bit && b) (has_bit-not sure bit fits few) in
    searched-more (g.R.Rows.told c.args.rows.now) (g.R.Rows.least c.args.rows.now) (g.R.Rows.seen c.args.rows.now) (g.R.Rows.seen made.new.rows) made.ensures.stays.seen_stays
    (slice_start layout.room slice) searches is_left slice word first_sure c.args.sure.now c.push_columns.new.out first_unsure c.args.unsure.now c.push_columns-2.new.out c.args.mask may sure
    (bit_and may (2 ^ 64 - 1 - sure)) is mask_is (made.ensures.told searches plans) made.ensures.within made.ensures.sure unsure_is c.in_ok-push_columns.ensures.all c.in_ok-push_columns-2.ensures.all

-- the word is one of the slice's, which has few enough
few_columns : (word columns : ℕ) → 64 * (columns / 64) ≡ columns → 64 * word < columns → columns < 2 ^ 32 → 64 * word + 64 ≤ 2 ^ 32
few_columns word columns whole low small = omega (arith, whole, low, small)

pub overflow_mul-word : goal.overflow_mul-word
overflow_mul-word g c = let few = few_columns c.args.word _ (words-of_slice c.args.asked.now.layout.now.config) c.requires.word c.requires.small in omega (arith, few)

pub push_columns-requires : goal.push_columns-requires
push_columns-requires g c = record { fits = few_columns c.args.word _ (words-of_slice c.args.asked.now.layout.now.config) c.requires.word c.requires.small }

pub overflow_mul-word-2 : goal.overflow_mul-word-2
overflow_mul-word-2 g c = let few = few_columns c.args.word _ (words-of_slice c.args.asked.now.layout.now.config) c.requires.word c.requires.small in omega (arith, few)

pub push_columns-requires-2 : goal.push_columns-requires-2
push_columns-requires-2 g c = record { fits = few_columns c.args.word _ (words-of_slice c.args.asked.now.layout.now.config) c.requires.word c.requires.small }
