use Rattle.std.proofs.Common.{◌≡◌, ◌-◌, ◌≤◌}
use Rattle.slice_stages.proofs.stages.Stages.look.Given as goal

abbrev pub invariant-loop : goal.invariant-loop
invariant-loop l = (l.self ≡ record l.initial.self { mark = l.self.mark }) × (l.self.mark ≤ l.mark)

abbrev pub decreases-loop : goal.decreases-loop
decreases-loop l = l.mark - l.self.mark
