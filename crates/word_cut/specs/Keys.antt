-- The number by which words are told from each other.
use Rattle.std.specs.Prelude.{ℕ, zero, suc, ◌+◌, ◌*◌, ◌^◌, List, [], ◌∷◌}

-- the first so many bytes as the digits of one number, the first byte highest; those that are missing are 0
unfoldable pub first_bytes : ℕ → List ℕ → ℕ
first_bytes zero bytes = 0
first_bytes (suc n) [] = 0
first_bytes (suc n) (byte ∷ bytes) = byte * 256 ^ n + first_bytes n bytes
