use Rattle.std.specs.Prelude.{List, ◌++◌, drop, length, min, take}

-- room in which stand as many of these as it has room for, and behind them what stood there
abbrev pub copied : {A : Type 0} → List A → List A → List A
copied rest room = let many = min (length rest) (length room) in take many rest ++ drop many room
