use Rattle.token_manager.proofs.Oldest.{IsOldestOf}
use Rattle.token_manager.proofs.tokens.Tokens.oldest.Given as goal

abbrev pub invariant-loop-token : goal.invariant-loop-token
invariant-loop-token l = IsOldestOf l.token-items l.token-index l.oldest
