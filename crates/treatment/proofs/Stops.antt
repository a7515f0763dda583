-- Where the loops that find a class and a row count stop.
use Rattle.std.proofs.Common.{◌≡◌, ℕ, ◌+◌, ◌-◌, ◌*◌, ◌^◌, ◌<◌, ◌≤◌, ⊎_elim, ap, arith}
use Rattle.std.proofs.Math.Nat.{mul-le-mul_left, pow-le-pow_right}
use Rattle.std.proofs.lemmas.Bool.{cases_lt}
use Rattle.std.proofs.lemmas.Grind.{pow_more}
use Rattle.funnel_model.specs.Treatment.{IsClass, IsRowCount, IsEnough}

-- f * 2^(c + 1) in the form that the loop has
pub doubled_more : (f c : ℕ) → f * 2 ^ (c + 1) ≡ f * 2 ^ c * 2
doubled_more f c = let e : 2 ^ (c + 1) ≡ 2 ^ c * 2 = pow_more 2 c in omega (arith, ap (λ p. f * p) e)

-- a class that can't be raised is the greatest
pub IsClass-from_stop : (f n c : ℕ) → c ≤ 15 → f * 2 ^ c ≤ n → (c < 15 → n < f * 2 ^ c * 2) → IsClass f n c
IsClass-from_stop f n c small fits stops = record {
  in_range = small;
  fits = fits;
  greatest = λ other in_range other_fits.
      ⊎_elim
      (λ (above : c < other).
      let two : 0 < 2 = omega arith in
      let a : 2 ^ (c + 1) ≤ 2 ^ other = pow-le-pow_right two (let s : c + 1 ≤ other = omega arith in s) in
      let b : f * 2 ^ (c + 1) ≤ f * 2 ^ other = mul-le-mul_left f a in
      let d : n < f * 2 ^ c * 2 = stops (omega arith) in
      absurd (omega (arith, doubled_more f c)))
      (λ (le : other ≤ c). le)
      (cases_lt c other);
}

-- the first count that is enough is the least
pub IsRowCount-from_stop : (m snr c k : ℕ) → 0 < m → 1 ≤ k → IsEnough m snr c k → (1 < k → m ^ (k - 1) < snr * (2 ^ (c + 1) - 1)) → IsRowCount m snr c k
IsRowCount-from_stop m snr c k pos positive enough stops = record {
  positive = positive;
  enough = enough;
  least = λ other other_positive other_enough.
      ⊎_elim
      (λ (below : other < k).
      let a : m ^ other ≤ m ^ (k - 1) = pow-le-pow_right pos (let s : other ≤ k - 1 = omega arith in s) in
      let d : m ^ (k - 1) < snr * (2 ^ (c + 1) - 1) = stops (omega arith) in
      absurd (omega arith))
      (λ (le : k ≤ other). le)
      (cases_lt other k);
}
