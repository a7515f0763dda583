use Rattle.funnel.proofs.serving.serve_open.Given as goal

-- the pool of the engine that is opened
abbrev pub ghosts-serve_gates : goal.ghosts-serve_gates
ghosts-serve_gates g a = record { pool = a.blank }
