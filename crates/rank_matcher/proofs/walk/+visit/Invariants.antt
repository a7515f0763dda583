use Rattle.std.proofs.Common.{◌*◌, ◌^◌}
use Rattle.rank_matcher.specs.Walk.{HasFound, HasRead}
use Rattle.row_layout.specs.Orders.{rows_below_rank, rows_from_rank}
use Rattle.row_read.specs.Readable.{StaysReadable}
use Rattle.rank_matcher.proofs.walk.+visit.Given as goal

abbrev pub decreases-visit : goal.decreases-visit
decreases-visit g l = l.ranks

-- the columns before this word of the rank are found
abbrev pub invariant-loop-word : goal.invariant-loop-word
invariant-loop-word g l = record {
  found : HasFound (g.R.Rows.told l.fn.rows) (g.R.Rows.least l.fn.rows) (g.R.Rows.seen l.rows) l.search.first l.search.plan.now l.search.slice (64 * l.from) (64 * (2 ^ l.rank * l.word)) l.fn.out l.out;
  reads :
      HasRead (g.R.Rows.told l.fn.rows) l.search.first (rows_from_rank l.ranks l.search.plan.now) (rows_below_rank l.ranks l.search.plan.now) l.from (2 ^ l.rank * l.word)
      (g.R.Rows.reads l.fn.rows) (g.R.Rows.reads l.rows);
  stays : StaysReadable g.R.Rows.reach g.R.Rows.least g.R.Rows.seen g.R.Rows.told g.R.Rows.kept l.fn.rows l.rows;
}
