-- the parser has read the text up to here
use Rattle.std.proofs.Common.{length, ◌-◌, ◌≤◌}
use Rattle.bool_query.specs.Progress.{HasRead}
use Rattle.bool_query.proofs.parse.parse_query.Given as goal

abbrev pub invariant-loop-at : goal.invariant-loop-at
invariant-loop-at l = (l.at ≤ length l.text) × HasRead l.text l.at l.parser

abbrev pub decreases-loop-at : goal.decreases-loop-at
decreases-loop-at l = length l.text - l.at
