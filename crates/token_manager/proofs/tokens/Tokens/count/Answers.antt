use Rattle.std.proofs.Common.{◌≤◌, Bool, true, false, arith}
use mir.Val.{bool_byte}
use Rattle.token_manager.proofs.tokens.Tokens.count.Goals as goal

at_most_one : (b : Bool) → bool_byte b ≤ 1
at_most_one true = omega arith
at_most_one false = omega arith

pub overflow_add-count : goal.overflow_add-count
overflow_add-count c =
    let few = c.self.invariant.0 in
    let sum = c.loop-token.invariant.1 in
    let one = at_most_one c.is_some.result in
    omega (arith, one)
