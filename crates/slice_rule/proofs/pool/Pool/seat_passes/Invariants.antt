use Rattle.std.proofs.Common.{◌≡◌, [], map}
use Rattle.std.specs.List.{range_with_len}
use Rattle.slice_rule.specs.declared.view.Role.TheVariants as role
use Rattle.slice_rule.specs.Seats.{new_pass_state}
use Rattle.slice_rule.specs.Views.{view_at_start}
use Rattle.slice_rule.proofs.pool.Pool.seat_passes.Given as goal

-- so many passes have their seats, and the home knows nothing else
abbrev pub invariant-loop-number : goal.invariant-loop-number
invariant-loop-number l = record {
  table : l.home.table_id ≡ l.self.table;
  home : l.home.me ≡ (view_at_start l.self.limits l.self.config (role.Home l.number l.number), []);
  passes : l.passes.items ≡ map (new_pass_state l.self) (range_with_len 0 l.number);
}
