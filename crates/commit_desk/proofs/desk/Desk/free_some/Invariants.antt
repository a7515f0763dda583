use Rattle.std.proofs.Common.{◌≡◌, ◌≤◌, length, All}
use Rattle.commit_desk.specs.Leaving.{MayGo}
use Rattle.commit_desk.proofs.desk.Desk.free_some.Given as goal

-- so many at most went so far, and each of them might; the desk is as it was
abbrev pub invariant-loop : goal.invariant-loop
invariant-loop l = record {
  few : length l.gone ≤ l.counter;
  may_go : All (MayGo l.fn.self.history) l.gone;
  same : l.self ≡ l.fn.self;
}
