use Rattle.engine_tests.proofs.guards.open_and_hand_over.Given as goal

-- the pool of the engine that is opened
abbrev pub ghosts-hand_over : goal.ghosts-hand_over
ghosts-hand_over g a = record { pool = a.blank }
