use Rattle.slice_rule.proofs.pool.Pool.ask.Given as goal

-- the event that the entry names
abbrev pub ghosts-ask_named : goal.ghosts-ask_named
ghosts-ask_named g a = record { named = g.E.Entry.event a.entry.now }
