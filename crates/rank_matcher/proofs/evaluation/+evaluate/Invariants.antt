use Rattle.std.proofs.Common.{◌+◌, ◌*◌, ◌≤◌, length}
use Rattle.funnel_model.specs.Searches.{Searches}
use Rattle.row_layout.specs.AtomReads.{AtomPlan}
use Rattle.row_layout.specs.SearchPlans.{ArePlansOfSearches}
use Rattle.rank_matcher.specs.Evaluation.{CanRead, ForEachBit, HasReadAll, HasReadSome, IsWithin}
use Rattle.rank_matcher.proofs.Entries.{IsSplit}
use Rattle.rank_matcher.proofs.evaluation.+evaluate.Given as goal
use Rattle.row_read.specs.Readable.{StaysReadable}

-- the searches so far were evaluated, and the nodes and rows are those of the others
abbrev pub invariant-evaluate_all-loop-left : goal.invariant-evaluate_all-loop-left
invariant-evaluate_all-loop-left g l = record {
  told :
      (searches : Searches AtomPlan) → ArePlansOfSearches searches l.fn.part.nodes.now l.fn.part.rows.now
      → IsSplit searches l.left.nodes.now l.left.rows.now (λ done. ForEachBit (λ column. HasReadAll (g.R.Rows.told l.fn.rows) (g.R.Rows.least l.fn.rows) (g.R.Rows.seen l.rows) l.place.first column done)
      l.place.word l.mask l.all.may l.all.sure);
  plan : (searches : Searches AtomPlan) × ArePlansOfSearches searches l.left.nodes.now l.left.rows.now;
  can_read : CanRead (g.R.Rows.reach l.rows) l.place.first l.place.word l.left.rows.now;
  shorter : length l.left.nodes.now ≤ length l.fn.part.nodes.now;
  within : IsWithin l.all.may l.mask;
  sure : IsWithin l.all.sure l.all.may;
  reads : g.R.Rows.reads l.rows + length l.left.rows.now ≤ g.R.Rows.reads l.fn.rows + length l.fn.part.rows.now;
  stays : StaysReadable g.R.Rows.reach g.R.Rows.least g.R.Rows.seen g.R.Rows.told g.R.Rows.kept l.fn.rows l.rows;
}

abbrev pub invariant-evaluate_some-loop-left : goal.invariant-evaluate_some-loop-left
invariant-evaluate_some-loop-left g l = record {
  told :
      (searches : Searches AtomPlan) → ArePlansOfSearches searches l.fn.part.nodes.now l.fn.part.rows.now
      → IsSplit searches l.left.nodes.now l.left.rows.now (λ done. ForEachBit (λ column. HasReadSome (g.R.Rows.told l.fn.rows) (g.R.Rows.least l.fn.rows) (g.R.Rows.seen l.rows) l.place.first column done)
      l.place.word l.mask l.some.may l.some.sure);
  plan : (searches : Searches AtomPlan) × ArePlansOfSearches searches l.left.nodes.now l.left.rows.now;
  can_read : CanRead (g.R.Rows.reach l.rows) l.place.first l.place.word l.left.rows.now;
  shorter : length l.left.nodes.now ≤ length l.fn.part.nodes.now;
  within : IsWithin l.some.may l.mask;
  sure : IsWithin l.some.sure l.some.may;
  reads : g.R.Rows.reads l.rows + length l.left.rows.now ≤ g.R.Rows.reads l.fn.rows + length l.fn.part.rows.now;
  stays : StaysReadable g.R.Rows.reach g.R.Rows.least g.R.Rows.seen g.R.Rows.told g.R.Rows.kept l.fn.rows l.rows;
}

abbrev pub decreases-evaluate_all-loop-left : goal.decreases-evaluate_all-loop-left
decreases-evaluate_all-loop-left g l = length l.left.nodes.now

abbrev pub decreases-evaluate_some-loop-left : goal.decreases-evaluate_some-loop-left
decreases-evaluate_some-loop-left g l = length l.left.nodes.now

abbrev pub decreases-evaluate : goal.decreases-evaluate
decreases-evaluate g l = 2 * length l.part.nodes.now

abbrev pub decreases-evaluate_all : goal.decreases-evaluate_all
decreases-evaluate_all g l = 2 * length l.part.nodes.now + 1

abbrev pub decreases-evaluate_some : goal.decreases-evaluate_some
decreases-evaluate_some g l = 2 * length l.part.nodes.now + 1
