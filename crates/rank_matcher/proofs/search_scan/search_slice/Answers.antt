use Rattle.std.proofs.Common.{◌≡◌, ◌+◌, ◌*◌, ℕ, sym, subst, arith}
use Rattle.funnel_model.specs.Sizes.{columns_of_slice}
use Rattle.row_layout.specs.DocumentBits.{slice_start}
use Rattle.row_read.proofs.Stays.{stays-later, stays-same}
use Rattle.rank_matcher.proofs.Scans.{words-of_slice}
use Rattle.rank_matcher.proofs.SearchScans.{searched-again, searched-none}
use Rattle.rank_matcher.specs.SearchScans.{HasSearched}
use Rattle.rank_matcher.proofs.search_scan.search_slice.Goals as goal

pub loop-word-init : goal.loop-word-init
loop-word-init g c =
    let rows = c.args.rows.now in
    let layout = c.args.asked.now.layout.now in
    let slice : ℕ = c.args.asked.now.slice in
    record {
      searched = λ searches is_left plans left.
          searched-none (g.R.Rows.told rows) (g.R.Rows.least rows) (g.R.Rows.seen rows) (slice_start layout.room slice) searches is_left slice c.args.sure.now c.args.unsure.now;
      left = λ is_left left. left;
      reads = omega arith;
      stays = stays-same g.R.Rows.reach g.R.Rows.least g.R.Rows.seen g.R.Rows.told g.R.Rows.kept rows;
    }

pub loop-word-preserved : goal.loop-word-preserved
loop-word-preserved g c =
    let start = c.args.rows.now in
    let before = c.loop-word.rows in
    let after = c.search_columns.new.rows in
    let layout = c.args.asked.now.layout.now in
    let slice : ℕ = c.args.asked.now.slice in
    let word : ℕ = c.loop-word.word in
    let inv = c.loop-word.invariant in
    let did = c.in_ok-search_columns.ensures in
    record {
      searched = λ searches is_left plans left.
          let sure = c.args.sure.now in
          let unsure = c.args.unsure.now in
          let was = searched-again (g.R.Rows.told start) (g.R.Rows.told before) (g.R.Rows.least start) (g.R.Rows.least before) (g.R.Rows.seen before) (g.R.Rows.seen before)
          inv.stays.told_stays (λ bit. (inv.stays.least_stays bit).1) (λ bit has. has) (slice_start layout.room slice) searches is_left slice (64 * word) sure c.loop-word.sure unsure c.loop-word.unsure
          (inv.searched searches is_left plans left) in
          searched-again (g.R.Rows.told before) (g.R.Rows.told start) (g.R.Rows.least before) (g.R.Rows.least start) (g.R.Rows.seen after) (g.R.Rows.seen after)
          (sym inv.stays.told_stays) (λ bit. (inv.stays.least_stays bit).0) (λ bit has. has) (slice_start layout.room slice) searches is_left slice (64 * (word + 1)) sure c.search_columns.new.sure unsure
          c.search_columns.new.unsure
          (did.searched searches is_left sure unsure plans (c.split-mask.ensures.mask is_left (inv.left is_left left)) was);
      left = λ is_left left. c.split-mask.ensures.later is_left (inv.left is_left left);
      reads = omega (arith, inv.reads, did.reads);
      stays = stays-later g.R.Rows.reach g.R.Rows.least g.R.Rows.seen g.R.Rows.told g.R.Rows.kept start before after inv.stays did.stays;
    }

pub returns-clause-searched : goal.returns-clause-searched
returns-clause-searched g c searches is_left plans left =
    let rows = c.loop-word.rows in
    let layout = c.args.asked.now.layout.now in
    let slice : ℕ = c.args.asked.now.slice in
    let end : 64 * c.loop-word.word ≡ columns_of_slice layout.config = omega (arith, words-of_slice layout.config, c.columns-word-end.ensures.value, c.loop-word-test.false, c.loop-word.auto.word-end) in
    subst
    (λ n. HasSearched (g.R.Rows.told c.args.rows.now) (g.R.Rows.least c.args.rows.now) (g.R.Rows.seen rows) (slice_start layout.room slice) searches is_left slice n c.args.sure.now c.loop-word.sure
    c.args.unsure.now c.loop-word.unsure) end (c.loop-word.invariant.searched searches is_left plans left)
