-- Counts of faults.
use Rattle.std.specs.Prelude.{ℕ, ◌+◌, ◌-◌, ◌^◌, ◌≤◌, min, max, Bool, if◌then◌else◌}

-- the count after one more fault, up to the last value of its counter; it never falls
abbrev pub raised : ℕ → ℕ
raised count = max count (min (count + 1) (2 ^ 64 - 1))

-- the count after a call that failed or didn't
abbrev pub counted : Bool → ℕ → ℕ
counted failed count = if failed then raised count else count

-- the count rose, or stands at the last value of its counter
abbrev pub Rose : ℕ → ℕ → Type 0
Rose before now = raised before ≤ now
