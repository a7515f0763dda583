use Rattle.engine_tests.proofs.setting.holds.Given as goal

-- the pool of the engine that is opened
abbrev pub ghosts-open_and_call : goal.ghosts-open_and_call
ghosts-open_and_call g a = record { pool = a.blank }
