-- The sizes of the pools of the tests.
use Rattle.std.specs.Prelude.{ℕ, ◌^◌}
use Rattle.funnel_model.specs.Legal.{Limits}

-- two passes, and so many slices of 64 columns and of so many words
abbrev pub sizes_of : ℕ → ℕ → Limits
sizes_of slices slice_words = record { passes = 2; slices = slices; columns = 64; slice_words = slice_words; commits = 1024; events = 2 ^ 62 }
