use Rattle.std.proofs.Common.{◌≡◌, ◌≤◌, ◌+◌, ◌++◌, length, take, vec_capacity}
use Rattle.commit_desk.proofs.journal.with_more.Given as goal

-- those so far are behind the commits; there is room for all
abbrev pub invariant-loop-commit : goal.invariant-loop-commit
invariant-loop-commit l = record {
  items : l.commits.items ≡ l.fn.commits.items ++ take l.commit-index l.fn.more;
  capacity : vec_capacity l.commits ≡ vec_capacity l.fn.commits;
  room : length l.fn.commits.items + length l.fn.more ≤ vec_capacity l.fn.commits;
}
