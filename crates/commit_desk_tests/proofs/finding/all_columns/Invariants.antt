use Rattle.std.proofs.Common.{◌≡◌}
use Rattle.commit_desk_tests.specs.Tested.{columns_up_to}
use Rattle.commit_desk_tests.proofs.finding.all_columns.Given as goal

abbrev pub invariant-loop-column : goal.invariant-loop-column
invariant-loop-column l = record { made : l.columns ≡ columns_up_to l.slice l.column }
