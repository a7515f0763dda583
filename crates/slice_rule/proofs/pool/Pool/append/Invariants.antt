use Rattle.slice_rule.proofs.pool.Pool.append.Given as goal

-- the event that the entry names
abbrev pub ghosts-append_named : goal.ghosts-append_named
ghosts-append_named g a = record { named = g.E.Entry.event a.entry.now }
