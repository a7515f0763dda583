use Rattle.std.proofs.Common.{◌≡◌, ◌+◌, ◌≤◌}
use Rattle.slice_rule.specs.Numbers.{last_number}
use Rattle.slice_recycler.proofs.ZeroWords.{HasZeroed}
use Rattle.slice_recycler.proofs.clearing.clear_slice.Given as goal

-- the words before this one are zero, and nothing else changed
abbrev pub invariant-loop-word : goal.invariant-loop-word
invariant-loop-word l = record {
  same : l.seat ≡ record l.initial.seat { own = l.seat.own };
  from : l.first ≤ l.word;
  to : l.word ≤ l.first + l.room;
  zeros : HasZeroed l.first l.word (last_number l.initial.seat.number l.initial.seat.front) l.initial.seat.own l.seat.own;
}
