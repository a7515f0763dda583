-- The least number of slices that have room, by a division that rounds up.
use Rattle.std.proofs.Common.{◌≡◌, ◌+◌, ◌-◌, ◌*◌, ◌/◌, ◌%◌, ◌^◌, ◌<◌, ◌≤◌, ◌⊎◌, ℕ, zero, suc, min, sym, subst, arith, inl, inr, mul_assoc, pow_pos}
use Rattle.std.proofs.lemmas.Grind.{div_ceil_times}
use Rattle.std.proofs.lemmas.Nat.{mul-le}
use Rattle.fit.specs.Listings.{IsTail}
use Rattle.fit.specs.Shapes.{IsLeastRoom, Serves, columns_at}

-- a division that rounds up
abbrev pub rounded_up : ℕ → ℕ → ℕ
rounded_up a b = a / b + min 1 (a % b)

-- it is the least number of parts that are enough
pub least-rounded : (a b other : ℕ) → 0 < b → a ≤ other * b → rounded_up a b ≤ other
least-rounded a b other some enough = by_cases (cases-le (rounded_up a b) other)
  where
    cases-le : (x y : ℕ) → (x ≤ y) ⊎ (y + 1 ≤ x)
    cases-le zero y = inl (omega arith)
    cases-le (suc x) zero = inr (omega arith)
    cases-le (suc x) (suc y) = elim (cases-le x y) [
      | inl e ↦ inl (omega (arith, e))
      | inr e ↦ inr (omega (arith, e))
    ]

    by_cases : (rounded_up a b ≤ other) ⊎ (other + 1 ≤ rounded_up a b) → rounded_up a b ≤ other
    by_cases (inl less) = less
    by_cases (inr more) =
        let times : (other + 1) * b ≤ rounded_up a b * b = mul-le (other + 1) b (rounded_up a b) b more (omega arith) in
        let one : (other + 1) * b ≡ other * b + b = omega arith in
        absurd (omega (arith, times, one, enough, (div_ceil_times a b some).1))

pub enough-rounded : (a b : ℕ) → 0 < b → a ≤ rounded_up a b * b
enough-rounded a b some = (div_ceil_times a b some).0

some-rounded : (a b : ℕ) → 0 < b → 0 < a → 1 ≤ rounded_up a b
some-rounded a b some positive = from (rounded_up a b) (enough-rounded a b some)
  where
    from : (q : ℕ) → a ≤ q * b → 1 ≤ q
    from zero none = absurd (omega (arith, positive, none))
    from (suc q) enough = omega arith

-- the columns of a slice but one
columns-some : (rank : ℕ) → 63 ≤ columns_at rank - 1
columns-some rank = let positive : 0 < 2 ^ rank = pow_pos rank in omega arith

pub least_room : (n rank slices : ℕ) → 1 ≤ n → slices ≡ 1 + rounded_up (17 * n) ((columns_at rank - 1) * 16) → IsLeastRoom n rank slices
least_room n rank slices some is =
    let columns = columns_at rank - 1 in
    let positive : 0 < columns * 16 = omega (arith, columns-some rank) in
    let parts : ℕ = rounded_up (17 * n) (columns * 16) in
    let regroup : (k : ℕ) → k * (columns * 16) ≡ k * columns * 16 = λ k. sym (mul_assoc k columns 16) in
    let one : slices - 1 ≡ parts = omega arith in
    record {
      two = omega (arith, some-rounded (17 * n) (columns * 16) positive (omega arith));
      room = subst (λ (k : ℕ). 17 * n ≤ k * columns * 16) (sym one) (subst (λ (m : ℕ). 17 * n ≤ m) (regroup parts) (enough-rounded (17 * n) (columns * 16) positive));
      least = λ other two room.
          let few : parts ≤ other - 1 = least-rounded (17 * n) (columns * 16) (other - 1) positive (subst (λ (m : ℕ). 17 * n ≤ m) (sym (regroup (other - 1))) room) in
          omega arith;
    }

-- the number is one alone
pub one_least : (n rank first second : ℕ) → IsLeastRoom n rank first → IsLeastRoom n rank second → first ≡ second
one_least n rank first second a b = omega (arith, a.least second b.two b.room, b.least first a.two a.room)

-- a rank above 0 serves just where its number of slices is at least 16
pub serves-from : (n rank slices : ℕ) → IsLeastRoom n rank slices → Serves n rank → (rank ≡ 0 → ⊥) → 16 ≤ slices
serves-from n rank slices least (inl none) some = absurd (some none)
serves-from n rank slices least (inr many) some = omega (arith, one_least n rank slices many.0 least many.1, many.2)

-- the tail
pub is_tail : (others documents tail : ℕ) → 1 ≤ documents → tail ≡ rounded_up others documents ⊎ ((tail ≡ 1) × (rounded_up others documents ≤ 1)) → 1 ≤ tail → IsTail others documents tail
is_tail others documents tail some (inl is) one = record {
  one = one;
  enough = subst (λ (k : ℕ). others ≤ k * documents) (sym is) (enough-rounded others documents some);
  least = λ other positive enough. omega (arith, is, least-rounded others documents other some enough);
}
is_tail others documents tail some (inr few) one = record {
  one = one;
  enough =
      let times : rounded_up others documents * documents ≤ 1 * documents = mul-le (rounded_up others documents) documents 1 documents few.1 (omega arith) in
      subst (λ (k : ℕ). others ≤ k * documents) (sym few.0) (omega (arith, enough-rounded others documents some, times));
  least = λ other positive enough. omega (arith, few.0);
}
