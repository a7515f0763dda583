-- The laws of the treatment.
use Rattle.std.proofs.Common.{◌≡◌, ℕ, ◌+◌, ◌-◌, ◌*◌, ◌^◌, ◌<◌, ◌≤◌, Bool, true, false, cond, leb, ⊎_elim, arith}
use Rattle.std.proofs.Math.Nat.{mul-le-mul_left, pow-le-pow_left, pow-le-pow_right}
use Rattle.std.proofs.lemmas.Nat.{mul-le}
use Rattle.std.proofs.lemmas.Bool.{cases_lt}
use Rattle.std.proofs.lemmas.Bool.Decides.{nat_tests}
use Rattle.funnel_model.specs.Treatment.{IsClass, IsRowCount, IsEnough, class_of_count, row_count_of_class}
use Rattle.funnel_model.specs.Sizes.{rows_of_class}
use Rattle.funnel_model.specs.Configuration.{IsInRange}
use Rattle.funnel_model.specs.TreatmentLaws.{ClassesAreGreatest, RowCountsAreLeast, RowCountsAreSmall, RarerWordsHaveMoreRows, UnlistedWordsHaveMostRows}
use Rattle.funnel_model.proofs.Searches.{greatest-in_range, greatest-passes, greatest-above, first-passes, first-in_range}

leb_from : (a b : ℕ) → a ≤ b → leb a b ≡ true
leb_from a b h = grind (arith, nat_tests)

leb_says : (a b : ℕ) → leb a b ≡ true → a ≤ b
leb_says a b h = grind (arith, nat_tests)

-- a count times 2^0 is the count
unscaled : (f n : ℕ) → f ≤ n → f * 2 ^ 0 ≤ n
unscaled f n h = omega arith

pub class-is_greatest : ClassesAreGreatest
unfolding class_of_count
class-is_greatest f n h =
    let p : ℕ → Bool = λ c. leb (f * 2 ^ c) n in
    record {
      in_range = greatest-in_range p 15;
      fits = leb_says _ _ (greatest-passes p 15 (leb_from _ _ (unscaled f n h)));
      greatest = λ other small fits. greatest-above p 16 other (omega arith) (leb_from _ _ fits);
    }

-- 26 rows are always enough
pub enough-26 : (m snr c : ℕ) → 2 ≤ m → snr ≤ 1000 → c ≤ 15 → IsEnough m snr c 26
enough-26 m snr c low few small =
    let two : 0 < 2 = omega arith in
    let a : 2 ^ (c + 1) ≤ 2 ^ 16 = pow-le-pow_right two (let s : c + 1 ≤ 16 = omega arith in s) in
    let b : 2 ^ (c + 1) - 1 ≤ 65535 = omega arith in
    let d : snr * (2 ^ (c + 1) - 1) ≤ 1000 * 65535 = mul-le snr (2 ^ (c + 1) - 1) 1000 65535 few b in
    let e : 2 ^ 26 ≤ m ^ 26 = pow-le-pow_left low 26 in
    omega arith

pub row_count-is_least : RowCountsAreLeast
unfolding row_count_of_class
row_count-is_least m snr c low few small =
    let p : ℕ → Bool = λ k. leb (snr * (2 ^ (c + 1) - 1)) (m ^ k) in
    let last = first-passes p 1 26 26 26 (omega arith) (omega arith) (leb_from _ _ (enough-26 m snr c low few small)) in
    record {
      positive = last.0;
      enough = leb_says _ _ last.2;
      least = λ other positive enough.
          ⊎_elim
          (λ (below : other < 27). (first-passes p 1 26 26 other positive below (leb_from _ _ enough)).1)
          (λ (above : 27 ≤ other). let h = last.1 in omega arith)
          (cases_lt other 27);
    }

pub row_count-is_small : RowCountsAreSmall
unfolding row_count_of_class
row_count-is_small m snr c = first-in_range (λ k. leb (snr * (2 ^ (c + 1) - 1)) (m ^ k)) 1 26 26 (omega arith)

-- a number has one class
pub IsClass-unique : (f n c d : ℕ) → IsClass f n c → IsClass f n d → c ≡ d
IsClass-unique f n c d h k =
    let a : c ≤ d = k.greatest c h.in_range h.fits in
    let b : d ≤ c = h.greatest d k.in_range k.fits in
    omega arith

-- a class has one row count
pub IsRowCount-unique : (m snr c j k : ℕ) → IsRowCount m snr c j → IsRowCount m snr c k → j ≡ k
IsRowCount-unique m snr c j k h i =
    let a : j ≤ k = h.least k i.positive i.enough in
    let b : k ≤ j = i.least j h.positive h.enough in
    omega arith

-- a larger count has at most the class of a smaller one
pub class-falls : (f g n : ℕ) → f ≤ g → g ≤ n → class_of_count g n ≤ class_of_count f n
class-falls f g n le fits =
    let few = class-is_greatest f n (let h : f ≤ n = omega arith in h) in
    let many = class-is_greatest g n fits in
    let p : ℕ = 2 ^ class_of_count g n in
    let a : f * 2 ^ class_of_count g n ≤ g * 2 ^ class_of_count g n = mul-le f (2 ^ class_of_count g n) g (2 ^ class_of_count g n) le (omega arith) in
    few.greatest (class_of_count g n) many.in_range (let h : f * 2 ^ class_of_count g n ≤ n = omega (arith, many.fits) in h)

-- a higher class has at least the row count of a lower one
pub row_count-rises : (m snr c d : ℕ) → 2 ≤ m → snr ≤ 1000 → c ≤ d → d ≤ 15 → row_count_of_class m snr c ≤ row_count_of_class m snr d
row_count-rises m snr c d low few le small =
    let lower = row_count-is_least m snr c low few (let h : c ≤ 15 = omega arith in h) in
    let higher = row_count-is_least m snr d low few small in
    let two : 0 < 2 = omega arith in
    let a : 2 ^ (c + 1) ≤ 2 ^ (d + 1) = pow-le-pow_right two (let s : c + 1 ≤ d + 1 = omega arith in s) in
    let b : 2 ^ (c + 1) - 1 ≤ 2 ^ (d + 1) - 1 = omega arith in
    let e : snr * (2 ^ (c + 1) - 1) ≤ snr * (2 ^ (d + 1) - 1) = mul-le-mul_left snr b in
    lower.least _ higher.positive (let h : snr * (2 ^ (c + 1) - 1) ≤ m ^ row_count_of_class m snr d = omega (arith, higher.enough) in h)

-- two rows that do not fall, of which the first is 1 where the second is private
choice_rises : (a b : Bool) (x y : ℕ) → x ≤ y → 1 ≤ y → (b ≡ true → a ≡ true) → cond a 1 x ≤ cond b 1 y
choice_rises true true x y le pos h = omega arith
choice_rises true false x y le pos h = omega arith
choice_rises false true x y le pos h = grind arith
choice_rises false false x y le pos h = le

pub rows_of_class-rises : (config : _) → IsInRange config → (c d : ℕ) → c ≤ d → d ≤ 15 → rows_of_class config c ≤ rows_of_class config d
unfolding rows_of_class
rows_of_class-rises config range c d le small =
    choice_rises (leb c config.private) (leb d config.private) _ _
    (row_count-rises config.one_in config.snr c d range.one_in.0 range.snr.1 le small)
    (row_count-is_least config.one_in config.snr d range.one_in.0 range.snr.1 small).positive
    (λ low. grind (arith, nat_tests))

pub rarer-more_rows : RarerWordsHaveMoreRows
rarer-more_rows config range f g le fits =
    rows_of_class-rises config range _ _ (class-falls f g config.documents le fits)
    (class-is_greatest f config.documents (let h : f ≤ config.documents = omega arith in h)).in_range

pub unlisted-most_rows : UnlistedWordsHaveMostRows
unfolding rows_of_class
unlisted-most_rows config range c small =
    below (leb c config.private) _ _
    (row_count-rises config.one_in config.snr c 15 range.one_in.0 range.snr.1 small (omega arith))
    (row_count-is_least config.one_in config.snr 15 range.one_in.0 range.snr.1 (omega arith)).positive where
      below : (b : Bool) (x y : ℕ) → x ≤ y → 1 ≤ y → cond b 1 x ≤ y
      below true x y le pos = pos
      below false x y le pos = le
