use Rattle.engine_tests.proofs.retuning.tune_beside.Given as goal

-- the pool of the engine that is opened
abbrev pub ghosts-open_and_tune : goal.ghosts-open_and_tune
ghosts-open_and_tune g a = record { pool = a.blank }
