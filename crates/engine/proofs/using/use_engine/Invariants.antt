use Rattle.engine.proofs.using.use_engine.Given as goal

-- the pool of the engine that is opened
abbrev pub ghosts-open_and_use : goal.ghosts-open_and_use
ghosts-open_and_use g a = record { pool = a.blank }
