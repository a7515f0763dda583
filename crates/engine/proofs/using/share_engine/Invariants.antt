use Rattle.engine.proofs.using.share_engine.Given as goal

-- the pool of the engine that is opened
abbrev pub ghosts-open_and_share : goal.ghosts-open_and_share
ghosts-open_and_share g a = record { pool = a.blank }
