-- A remainder by a reciprocal: the quotient by it is not too high, and too low by one at most.
use Rattle.std.proofs.Common.{◌≡◌, ℕ, ◌+◌, ◌-◌, ◌*◌, ◌/◌, ◌%◌, ◌<◌, ◌≤◌, ap, sym, ◌∙◌, arith, ⊎_elim}
use Rattle.std.proofs.lemmas.Bool.{cases_lt}
use Rattle.std.proofs.lemmas.Nat.{div-add-mod', mod-mul-add, mod_below, mul-le}

-- a hash h below w, and a number d with the reciprocal m
module _ (w d h m q : ℕ) (some : 1 ≤ d) (small : h < w) (low : m * d < w) (high : w ≤ m * d + d) (below : q * w ≤ h * m) (above : h * m < q * w + w) where
  not_high : q * d ≤ h
  not_high =
      ⊎_elim
      (λ (more : h < q * d).
      let a : q * w * d ≤ h * m * d = mul-le (q * w) d (h * m) d below (omega arith) in
      let b : h * (m * d) ≤ h * w = mul-le h (m * d) h w (omega arith) (omega arith) in
      let c : (h + 1) * w ≤ q * d * w = mul-le (h + 1) w (q * d) w (omega arith) (omega arith) in
      absurd (omega arith))
      (λ (less : q * d ≤ h). less)
      (cases_lt h (q * d))

  not_low : h < q * d + d + d
  not_low =
      ⊎_elim
      (λ (less : h < q * d + d + d). less)
      (λ (more : q * d + d + d ≤ h).
      let a : h * w ≤ h * (m * d + d) = mul-le h w h (m * d + d) (omega arith) high in
      let b : (h * m + 1) * d ≤ (q * w + w) * d = mul-le (h * m + 1) d (q * w + w) d (omega arith) (omega arith) in
      let c : (h + 1) * d ≤ w * d = mul-le (h + 1) d w d (omega arith) (omega arith) in
      let e : (q * d + d + d) * w ≤ h * w = mul-le (q * d + d + d) w h w more (omega arith) in
      absurd (omega arith))
      (cases_lt h (q * d + d + d))

-- the quotient by the reciprocal
abbrev pub by_reciprocal : ℕ → ℕ → ℕ
by_reciprocal h m = h * m / 18446744073709551616

-- what a reciprocal gives of the quotient and of what is left
pub record IsNear (d h q : ℕ) : Type 0 where
  pub not_high : q * d ≤ h
  pub not_low : h < q * d + d + d

pub near : (d h m : ℕ) → 1 ≤ d → h < 18446744073709551616 → m ≡ 18446744073709551615 / d → IsNear d h (by_reciprocal h m)
near d h m some small is =
    let w : ℕ = 18446744073709551616 in
    let whole : m * d + 18446744073709551615 % d ≡ 18446744073709551615 = ap (λ (k : ℕ). k * d + 18446744073709551615 % d) is ∙ div-add-mod' 18446744073709551615 d in
    let rest : 18446744073709551615 % d < d = mod_below 18446744073709551615 d (omega arith) in
    let parts : h * m / w * w + h * m % w ≡ h * m = div-add-mod' (h * m) w in
    let left : h * m % w < w = mod_below (h * m) w (omega arith) in
    record {
      not_high = not_high w d h m (h * m / w) some small (omega arith) (omega arith) (omega arith) (omega arith);
      not_low = not_low w d h m (h * m / w) some small (omega arith) (omega arith) (omega arith) (omega arith);
    }

-- what is left below the number is the remainder
pub left_is : (d h q : ℕ) → q * d ≤ h → h - q * d < d → h - q * d ≡ h % d
left_is d h q low below = sym (ap (λ (k : ℕ). k % d) (let e : h ≡ q * d + (h - q * d) = omega arith in e) ∙ mod-mul-add q d (h - q * d) below)

-- and else it is once too much
pub left_is_less : (d h q : ℕ) → IsNear d h q → d ≤ h - q * d → h - q * d - d ≡ h % d
left_is_less d h q near more =
    let e : h ≡ (q + 1) * d + (h - q * d - d) = omega (arith, near.not_high) in
    sym (ap (λ (k : ℕ). k % d) e ∙ mod-mul-add (q + 1) d (h - q * d - d) (omega (arith, near.not_low, near.not_high)))
