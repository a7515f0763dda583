-- The generator: its states, and the word that each draw gives.
use Rattle.std.specs.Prelude.{ℕ, zero, suc, ◌+◌, ◌*◌, ◌/◌, ◌%◌, ◌^◌, List, ◌++◌, map, codes, decimal}
use Rattle.std.specs.List.{range_with_len}

-- a draw takes the state to this one, in 64 bits
abbrev pub next_state : ℕ → ℕ
next_state state = (state * 6364136223846793005 + 1442695040888963407) % 2 ^ 64

-- the state after so many draws
abbrev pub state_after : ℕ → ℕ → ℕ
state_after state zero = state
state_after state (suc draws) = next_state (state_after state draws)

-- the number of a word: the low 12 bits of what a draw gives, shifted down by what stands above them, modulo 12
abbrev pub number_in : ℕ → ℕ
number_in value = (value % 4096) / 2 ^ ((value / 4096) % 12)

-- the word of the draw that leads to this state. A draw gives the state without its low 33 bits
abbrev pub word_at : ℕ → List ℕ
word_at state = codes "w" ++ decimal (number_in (state / 2 ^ 33))

-- the words of the next so many draws
abbrev pub next_words : ℕ → ℕ → List (List ℕ)
next_words state draws = map (λ draw. word_at (state_after state draw)) (range_with_len 1 draws)
