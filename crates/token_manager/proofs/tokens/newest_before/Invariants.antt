use Rattle.token_manager.proofs.Newest.{IsNewestOf}
use Rattle.token_manager.proofs.tokens.newest_before.Given as goal

-- the newest of the passes so far
abbrev pub invariant-loop-pass : goal.invariant-loop-pass
invariant-loop-pass l = IsNewestOf l.tokens l.pass l.until l.newest
