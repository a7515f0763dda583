-- How long the numbers of an engine are.
use Rattle.std.proofs.Common.{ℕ, ◌^◌, ◌<◌, ◌≤◌, length, decimal, arith, length-append}
use Rattle.std.proofs.lemmas.Fmt.{length-decimal-le}
use Rattle.line_proto.specs.Texts.{kept_numbers, room_numbers}

-- a number that a reply tells has at most 20 digits
digits : (n : ℕ) → n < 2 ^ 64 → length (decimal n) ≤ 20
digits n small = length-decimal-le 20 n (omega arith) (omega (arith, small)) (omega (arith, small))

pub kept_short : (documents place base : ℕ) → documents < 2 ^ 64 → place < 2 ^ 64 → base < 2 ^ 64 → length (kept_numbers documents place base) ≤ 96
kept_short documents place base d p b = omega (arith, digits documents d, digits place p, digits base b, length-append {A = ℕ})

pub room_short : (columns free retired finds : ℕ) → columns < 2 ^ 64 → free < 2 ^ 64 → retired < 2 ^ 64 → finds < 2 ^ 64 →
    length (room_numbers columns free retired finds) ≤ 128
room_short columns free retired finds c f r n =
    omega (arith, digits columns c, digits free f, digits retired r, digits finds n, length-append {A = ℕ})
