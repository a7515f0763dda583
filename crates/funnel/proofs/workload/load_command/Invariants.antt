use Rattle.funnel.proofs.workload.load_command.Given as goal

-- the pool of the engine that is opened
abbrev pub ghosts-make_load : goal.ghosts-make_load
ghosts-make_load g a = record { pool = a.blank }
