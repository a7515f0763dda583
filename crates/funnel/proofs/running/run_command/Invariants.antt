use Rattle.funnel.proofs.running.run_command.Given as goal

-- the pool of the engine that is opened
abbrev pub ghosts-run : goal.ghosts-run
ghosts-run g a = record { pool = a.blank }
