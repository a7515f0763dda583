use Rattle.commit_desk_tests.proofs.setting.run_sized.Given as goal

-- the pool of the desk that is made
abbrev pub ghosts-run_named : goal.ghosts-run_named
ghosts-run_named g a = record { pool = a.pool }
