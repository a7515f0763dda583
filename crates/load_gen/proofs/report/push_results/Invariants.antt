-- the lines so far and those that are left are the lines of all queries
use Rattle.std.proofs.Common.{◌≡◌, ◌++◌, flat_map}
use Rattle.std.specs.List.{zip}
use Rattle.load_gen.specs.Queries.{queries}
use Rattle.load_gen.specs.Summary.{query_line}
use Rattle.load_gen.proofs.Lines.{lines_left}
use Rattle.load_gen.proofs.report.push_results.Given as goal

abbrev pub invariant-loop-query : goal.invariant-loop-query
invariant-loop-query l =
    l.out.items ++ lines_left l.query-iterator.a.rest.now l.query-iterator.b.rest.now ≡ l.fn.out.items ++ flat_map query_line (zip queries l.results)
