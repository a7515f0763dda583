use Rattle.std.proofs.Common.{◌≡◌, ◌≤◌, is_some, take}
use Rattle.std.specs.List.{count_by}
use Rattle.token_manager.proofs.tokens.Tokens.count.Given as goal

abbrev pub invariant-loop-token : goal.invariant-loop-token
invariant-loop-token l = (l.count ≡ count_by is_some (take l.token-index l.token-items)) × (l.count ≤ l.token-index)
