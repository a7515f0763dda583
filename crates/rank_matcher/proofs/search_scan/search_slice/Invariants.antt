use Rattle.std.proofs.Common.{ℕ, ◌+◌, ◌*◌, ◌≤◌, Bool, length}
use Rattle.funnel_model.specs.Searches.{Searches}
use Rattle.rank_matcher.specs.Left.{AreLeftFrom}
use Rattle.rank_matcher.specs.SearchScans.{HasSearched}
use Rattle.row_layout.specs.AtomReads.{AtomPlan}
use Rattle.row_layout.specs.DocumentBits.{slice_start}
use Rattle.row_layout.specs.SearchPlans.{ArePlansOfSearches}
use Rattle.row_read.specs.Readable.{StaysReadable}
use Rattle.rank_matcher.proofs.search_scan.search_slice.Given as goal

-- the columns of the words before this one are searched, and those of this and later words are left as they were
abbrev pub invariant-loop-word : goal.invariant-loop-word
invariant-loop-word g l = record {
  searched : (searches : Searches AtomPlan) (is_left : ℕ → Bool) → ArePlansOfSearches searches l.asked.plan.now.nodes.items l.asked.plan.now.rows.items → AreLeftFrom is_left 0 l.fn.left →
      HasSearched (g.R.Rows.told l.fn.rows) (g.R.Rows.least l.fn.rows) (g.R.Rows.seen l.rows) (slice_start l.asked.layout.now.room l.asked.slice) searches is_left l.asked.slice
      (64 * l.word) l.fn.sure l.sure l.fn.unsure l.unsure;
  left : (is_left : ℕ → Bool) → AreLeftFrom is_left 0 l.fn.left → AreLeftFrom is_left l.word l.later;
  reads : g.R.Rows.reads l.rows ≤ g.R.Rows.reads l.fn.rows + l.word * length l.asked.plan.now.rows.items;
  stays : StaysReadable g.R.Rows.reach g.R.Rows.least g.R.Rows.seen g.R.Rows.told g.R.Rows.kept l.fn.rows l.rows;
}
