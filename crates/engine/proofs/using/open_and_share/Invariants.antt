use Rattle.std.proofs.Common.{◌≡◌, ◌+◌, length}
use Rattle.engine.proofs.using.open_and_share.Given as goal

-- each pass is left, or has what its thread came to
abbrev pub invariant-loop-pass : goal.invariant-loop-pass
invariant-loop-pass g l = length l.outputs.items + length l.pass-iterator.rest.items ≡ length l.initial.pass-iterator.rest.items
